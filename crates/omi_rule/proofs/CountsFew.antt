-- The counts of unfinished tasks are small: no more than all task records and what all threads owe.
use Rattle.std.proofs.Common.{◌≡◌, ◌≤◌, ◌+◌, ◌*◌, ℕ, zero, suc, ◌&&◌, Bool, true, false, List, Option, Some, None, arith}
use Rattle.std.specs.Option.{option_and_then}
use Rattle.omi_model.specs.declared.id.Rid.{Rid}
use Rattle.omi_model.specs.declared.id.Tid.{Tid}
use Rattle.omi_model.specs.declared.task.Task.{Task}
use Rattle.omi_model.specs.State.{State}
use Rattle.omi_model.specs.declared.group.Group.{Group}
use Rattle.omi_layout.specs.Field.{tasks}
use Rattle.omi_layout.specs.Table.{per_thread, thread_count}
use Rattle.omi_layout.specs.Valid.{IsValid}
use Rattle.omi_layout.proofs.Arenas.{tasks_of_valid, threads_of_valid}
use Rattle.omi_rule_words.specs.Counts.{children_owed, is_explicit, live_children, own_reference, references_owed, generating_of, is_at_some, is_region, is_some_region, is_some_task, is_unfinished, of_live, one, pending_owed, sum_below, sum_of_owed, sum_of_slots, unfinished_children, unfinished_in}
use Rattle.omi_rule_words.specs.Owes.{Owed}
use Rattle.omi_rule_words.specs.Groups.{count_owed, group_of, group_of_new, is_some_group, unfinished_members}

one_few : (b : Bool) → one b ≤ 1
one_few true = omega arith
one_few false = omega arith

-- of threads and slots, each of which counts for at most three, and of threads that count for all of their records
threes_few : (n : ℕ) (f : ℕ → ℕ) → ((i : ℕ) → f i ≤ 3) → sum_below n f ≤ 3 * n
threes_few zero f all = omega arith
threes_few (suc n) f all = let rest = threes_few n f all in let last = all n in omega (arith, rest, last)

ones_few : (n : ℕ) (f : ℕ → ℕ) → ((i : ℕ) → f i ≤ 1) → sum_below n f ≤ n
ones_few zero f all = omega arith
ones_few (suc n) f all = let rest = ones_few n f all in let last = all n in omega (arith, rest, last)

records_few : (n : ℕ) (f : ℕ → ℕ) → ((i : ℕ) → f i ≤ 4096) → sum_below n f ≤ 4096 * n
records_few zero f all = omega arith
records_few (suc n) f all = let rest = records_few n f all in let last = all n in omega (arith, rest, last)

live_few : (f : Task → Bool) (o : Option Task) → of_live (λ t. one (f t)) o ≤ 1
live_few f None = omega arith
live_few f (Some t) = one_few (f t)

module _ (w : List ℕ) (s : State) (valid : IsValid w) (same : s.count ≡ thread_count w) where
  slots_few : (f : Task → Bool) → sum_of_slots w s (λ c k t. one (f t)) ≤ 4096 * 64
  slots_few f =
      let all = records_few s.count (λ c. sum_below (per_thread w tasks) (λ k. of_live (λ t. one (f t)) (s.tasks c k).live))
      (λ c. let inner = ones_few (per_thread w tasks) (λ k. of_live (λ t. one (f t)) (s.tasks c k).live) (λ k. live_few f (s.tasks c k).live) in let few = tasks_of_valid w valid in omega (arith, inner, few)) in
      let few = threads_of_valid w valid in
      omega (arith, all, few, same)

  owed_few : (owes : ℕ → Owed) (f : Owed → ℕ) → ((o : Owed) → f o ≤ 3) → sum_of_owed s owes f ≤ 3 * 64
  owed_few owes f all =
      let sum = threes_few s.count (λ i. f (owes i)) (λ i. all (owes i)) in
      let few = threads_of_valid w valid in
      omega (arith, sum, few, same)

  pub children_few : (owes : ℕ → Owed) (k : Tid)
      → unfinished_children w s k + sum_of_owed s owes (children_owed s k) ≤ 4096 * 64 + 3 * 64
  children_few owes k =
      let live = slots_few (λ t. is_unfinished t && is_some_task k t.generating) in
      let owed =
      owed_few owes (children_owed s k)
      (λ o. let first = one_few (is_some_task k o.raised) in let second = one_few (is_some_task k (option_and_then (generating_of s) o.lowered)) in omega (arith, first, second)) in
      omega (arith, live, owed)

  pub references_few : (owes : ℕ → Owed) (k : Tid) (t : Task)
      → own_reference t + (live_children w s k + sum_of_owed s owes (references_owed k)) ≤ 1 + (4096 * 64 + 3 * 64)
  references_few owes k t =
      let own = one_few (is_unfinished t) in
      let live = slots_few (λ t. is_explicit t && is_some_task k t.generating) in
      let owed =
      owed_few owes (references_owed k)
      (λ o. let first = one_few (is_some_task k o.referred) in let second = one_few (is_some_task k o.own) in let third = one_few (is_at_some k o.returned) in omega (arith, first, second, third)) in
      omega (arith, own, live, owed)

  pub pending_few : (owes : ℕ → Owed) (n : Rid)
      → unfinished_in w s n + sum_of_owed s owes (pending_owed n) ≤ 4096 * 64 + 3 * 64
  pending_few owes n =
      let live = slots_few (λ t. is_unfinished t && is_region n t.region) in
      let owed =
      owed_few owes (pending_owed n)
      (λ o. let first = one_few (is_some_region n o.pending) in omega (arith, first)) in
      omega (arith, live, owed)

  pub members_few : (owes : ℕ → Owed) (g : Group)
      → unfinished_members w s g + sum_of_owed s owes (count_owed s g) ≤ 4096 * 64 + 3 * 64
  members_few owes g =
      let live = slots_few (λ t. is_unfinished t && is_some_group g t.group) in
      let owed =
      owed_few owes (count_owed s g)
      (λ o. let first = one_few (is_some_group g (option_and_then (group_of_new s) o.counted)) in let second = one_few (is_some_group g (option_and_then (group_of s) o.uncounted)) in omega (arith, first, second)) in
      omega (arith, live, owed)
