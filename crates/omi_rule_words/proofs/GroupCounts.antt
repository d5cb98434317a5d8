-- The counts of task groups are kept: by what threads owe, by the words, and by the tasks that are counted.
use Rattle.std.proofs.Common.{◌≡◌, ◌+◌, ◌<◌, ℕ, List, Option, Some, None, refl, sym, ap₂, ◌∙◌, subst, arith}
use Rattle.std.specs.Option.{option_and_then}
use Rattle.omi_numbers.specs.declared.limits.TheConstants.{OPEN_GROUPS}
use Rattle.omi_model.specs.declared.group.Group.{Group}
use Rattle.omi_model.specs.declared.id.Tid.{Tid}
use Rattle.omi_model.specs.declared.task.Task.{Task}
use Rattle.omi_model.specs.State.{State, task_of}
use Rattle.omi_layout.specs.declared.field.Field.TheVariants.{TaskSlots}
use Rattle.omi_layout.specs.declared.limits.TheConstants.{COUNT_PLACE}
use Rattle.omi_layout.specs.Memory.{Rec, Memory, replace_at}
use Rattle.omi_layout.specs.Named.{number}
use Rattle.omi_layout.specs.Field.{tasks}
use Rattle.omi_layout.proofs.Puts.{each_put}
use Rattle.omi_rule_words.specs.Owes.{Owed}
use Rattle.omi_rule_words.specs.Counts.{one, sum_of_owed}
use Rattle.omi_rule_words.specs.Groups.{KeepsGroups, count_owed, group_at, group_of, group_of_new, is_some_group, unfinished_members}
use Rattle.omi_rule_words.proofs.Sums.{sum_same}
use Rattle.omi_rule_words.specs.Words.{KeepsWords}

-- two threads owe the same on groups, and what they owe besides where they do
pub record OnGroupsAlike (p o : Owed) : Type 0 where
  pub counted : p.counted ≡ o.counted
  pub uncounted : p.uncounted ≡ o.uncounted
  pub raised : (k : Tid) → p.counted ≡ Some k → o.raised ≡ Some k → p.raised ≡ Some k
  pub own : (k : Tid) → p.uncounted ≡ Some k → o.own ≡ Some k → p.own ≡ Some k

pub on_groups_alike : (o : Owed) → OnGroupsAlike o o
on_groups_alike o = record { counted = refl; uncounted = refl; raised = λ k _ is. is; own = λ k _ is. is }

-- as much is owed on a group
pub count_alike : (s : State) (g : Group) (p o : Owed) → p.counted ≡ o.counted → p.uncounted ≡ o.uncounted
    → count_owed s g p ≡ count_owed s g o
count_alike s g p o counted uncounted =
    ap₂
    (λ a b. one (is_some_group g (option_and_then (group_of_new s) a)) + one (is_some_group g (option_and_then (group_of s) b)))
    counted uncounted

-- and in a state in which the groups of tasks, and of those that they generate, are the same
pub count_same : (s u : State) (g : Group) (o : Owed) → ((k : Tid) → group_of_new u k ≡ group_of_new s k)
    → ((k : Tid) → group_of u k ≡ group_of s k) → count_owed u g o ≡ count_owed s g o
count_same s u g o news groups = ap₂ (λ a b. one (is_some_group g a) + one (is_some_group g b)) (new o.counted) (own o.uncounted)
  where
    new : (x : Option Tid) → option_and_then (group_of_new u) x ≡ option_and_then (group_of_new s) x
    new None = refl
    new (Some k) = news k

    own : (x : Option Tid) → option_and_then (group_of u) x ≡ option_and_then (group_of s) x
    own None = refl
    own (Some k) = groups k

-- ---- what threads owe

pub groups_owed : (w : List ℕ) (r : ℕ → ℕ → Rec) (s : State) (owes other : ℕ → Owed)
    → ((j : ℕ) → OnGroupsAlike (other j) (owes j)) → KeepsGroups w r s owes → KeepsGroups w r s other
groups_owed w r s owes other alike o = record {
  counts = λ k t index live few.
      let was = o.counts k t index live few in
      let owed = sum_same s.count (λ j. count_owed s (group_at k index) (other j)) (λ j. count_owed s (group_at k index) (owes j))
      (λ j. count_alike s (group_at k index) (other j) (owes j) (alike j).counted (alike j).uncounted) in
      omega (arith, was, owed);
  counted = λ i k known is. (alike i).raised k is (o.counted i k known (sym (alike i).counted ∙ is));
  uncounted = λ i k known is. (alike i).own k is (o.uncounted i k known (sym (alike i).uncounted ∙ is));
}

-- ---- words

pub groups_read : (w : List ℕ) (r q : ℕ → ℕ → Rec) (s : State) (owes : ℕ → Owed)
    → ((k : Tid) (t : Task) (index : ℕ) → task_of s k ≡ Some t → index < OPEN_GROUPS
    → q k.0.creator k.0.slot (number TaskSlots) (COUNT_PLACE + index) ≡ r k.0.creator k.0.slot (number TaskSlots) (COUNT_PLACE + index))
    → KeepsGroups w r s owes → KeepsGroups w q s owes
groups_read w r q s owes same o = record {
  counts = λ k t index live few. same k t index live few ∙ o.counts k t index live few;
  counted = o.counted;
  uncounted = o.uncounted;
}

-- one thread owes otherwise, and no word of a last field is another
pub groups_put : (w : List ℕ) (m n : Memory) (s : State) (owes : ℕ → Owed) (i : ℕ) (p : Owed) → KeepsWords w m s owes
    → OnGroupsAlike p (owes i)
    → ((c j at : ℕ) → n c tasks j (number TaskSlots) at ≡ m c tasks j (number TaskSlots) at)
    → KeepsGroups w (λ c. n c tasks) s (replace_at owes i p)
groups_put w m n s owes i p keeps alike same =
    groups_read w (λ c. m c tasks) (λ c. n c tasks) s (replace_at owes i p)
    (λ k t index live few. same k.0.creator k.0.slot (COUNT_PLACE + index))
    (groups_owed w (λ c. m c tasks) s owes (replace_at owes i p)
    (λ j. each_put (λ c (o : Owed). OnGroupsAlike o (owes c)) owes i p alike j (λ _. on_groups_alike (owes j))) keeps.groups)

-- ---- tasks

-- another state, in which no other task lives and each group has as many unfinished tasks, with what threads owe
pub groups_counted : (w : List ℕ) (r : ℕ → ℕ → Rec) (s u : State) (owes other : ℕ → Owed) → u.count ≡ s.count
    → ((k : Tid) (t : Task) → task_of u k ≡ Some t → (x : Task) × (task_of s k ≡ Some x))
    → ((g : Group) → unfinished_members w u g + sum_of_owed u other (count_owed u g) ≡ unfinished_members w s g + sum_of_owed s owes (count_owed s g))
    → ((i : ℕ) (k : Tid) → i < s.count → (other i).counted ≡ Some k → (other i).raised ≡ Some k)
    → ((i : ℕ) (k : Tid) → i < s.count → (other i).uncounted ≡ Some k → (other i).own ≡ Some k)
    → KeepsGroups w r s owes → KeepsGroups w r u other
groups_counted w r s u owes other count before sums raised own o = record {
  counts = λ k t index live few.
      let (x, there) = before k t live in
      let was = o.counts k x index there few in
      let change = sums (group_at k index) in
      omega (arith, was, change);
  counted = λ i k known is. raised i k (subst (λ n. i < n) count known) is;
  uncounted = λ i k known is. own i k (subst (λ n. i < n) count known) is;
}
