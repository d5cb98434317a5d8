-- A thread begins the implicit task that waits for it.
use Rattle.std.proofs.Common.{◌≡◌, ◌≢◌, ◌==◌, ◌&&◌, ◌+◌, ◌<◌, ℕ, Bool, true, false, inl, inr, List, [], ◌∷◌, Some, refl, sym, ap, subst, ◌∙◌, arith, eqb-true, eq-eqb}
use Rattle.std.specs.Prelude.{◌⊎◌, All}
use Rattle.std.proofs.lemmas.Bool.Decides.{nat_tests}
use Rattle.std.proofs.lemmas.List.Elements.{All-cons, All-head, All-nil, All-tail}
use Rattle.omi_model.specs.declared.id.Id.{Id}
use Rattle.omi_model.specs.declared.id.Rid.{Rid}
use Rattle.omi_model.specs.declared.id.Tid.{Tid}
use Rattle.omi_model.specs.declared.progress.Progress.TheVariants as progress
use Rattle.omi_model.specs.declared.region.Region.{Region}
use Rattle.omi_model.specs.declared.task.Task.{Task}
use Rattle.omi_model.specs.Changes.{on_task}
use Rattle.omi_model.specs.Put.{named, on}
use Rattle.omi_model.specs.State.{State, task_of}
use Rattle.omi_model.specs.Teams.{task_begun}
use Rattle.omi_model.proofs.Slots.{on_other, on_same, map_some, same_or_not, some_same}
use Rattle.omi_layout.specs.declared.field.Field.TheVariants.{RegionLeft, ThreadAssign, ThreadCurrent}
use Rattle.omi_layout.specs.Field.{regions, threads}
use Rattle.omi_layout.specs.Memory.{Memory, replace_at, with_word}
use Rattle.omi_layout.specs.Named.{number}
use Rattle.omi_layout.proofs.Puts.{each_put, put_other}
use Rattle.omi_rep.specs.Records.{task_address}
use Rattle.omi_rule_words.specs.Owes.{Owed, nothing}
use Rattle.omi_rule_words.specs.Counts.{assign_owed, assigns_in, ended_members, is_some_region, is_task, left_owed, one, sum_of_owed}
use Rattle.omi_rule_words.specs.Threads.{KeepsAssign, WaitsFor}
use Rattle.omi_rule_words.specs.Words.{KeepsWords, region_in}
use Rattle.omi_rule_words.specs.TeamKinds.{BeginsKeep}
use Rattle.omi_rule_words.proofs.Changed.{current_stored, on_becomes}
use Rattle.omi_rule_words.proofs.Renewed.{OwesSame, TaskRenews, owes_same, region_becomes, renewed, task_stays}
use Rattle.omi_rule_words.proofs.Sums.{part_below, sum_same}

module _ (w : List ℕ) (m : Memory) (s : State) (owes : ℕ → Owed) (i : ℕ) (k : Tid)
    (keeps : KeepsWords w m s owes) (known : i < s.count) (owed : owes i ≡ record nothing { met = true })
    (waits : WaitsFor s i k) (alone : (t : Tid) → WaitsFor s i t → t ≡ k)
    (implicit : (t : Task) → task_of s k ≡ Some t → t.implicit ≡ true) where
  abbrev goes_on : Task → Task
  goes_on t = record t { progress = progress.Begun }

  abbrev after : State
  after = on_task s k goes_on

  abbrev other : ℕ → Owed
  other = replace_at owes i nothing

  alike : (j : ℕ) → OwesSame (other j) (owes j)
  alike j =
      each_put (λ c (x : Owed). OwesSame x (owes c)) owes i nothing
      (subst (λ (o : Owed). OwesSame nothing o) (sym owed) own) j (λ _. owes_same (owes j))
    where
      own : OwesSame nothing (record nothing { met = true })
      own = record { region = refl; tasks = refl; pending = refl; raised = refl; lowered = refl; referred = refl; own = refl; returned = refl; gives = refl; hand = refl; counted = refl; uncounted = refl }

  begins : (t : Task) → task_of s k ≡ Some t → TaskRenews t (goes_on t)
  begins t live =
      let same : waits.task ≡ t = some_same waits.live live in
      let waiting : t.progress ≡ progress.NotBegun =
      subst (λ (x : Task). x.progress ≡ progress.NotBegun) same waits.progress in
      record { progress = progress.Begun; list = t.list; is = refl; goes = inr (record { implicit = implicit t live; was = λ deferred. absurd (cc); now = λ deferred. absurd (cc) }) }

  -- the other tasks wait as before
  waits_before : (j : ℕ) (q : Tid) → WaitsFor after j q → WaitsFor s j q × (q.0 ≡ k.0 → ⊥)
  waits_before j q x = go (same_or_not q.0 k.0)
    where
      go : (q.0 ≡ k.0) ⊎ (q.0 ≡ k.0 → ⊥) → WaitsFor s j q × (q.0 ≡ k.0 → ⊥)
      go (inl same) =
          let (t, was, is) =
          map_some goes_on (named s.tasks k.0) x.task
          (sym (on_same s.tasks k.0 goes_on) ∙ (ap (named (on s.tasks k.0 goes_on)) (sym same) ∙ x.live)) in
          let begun : x.task.progress ≡ progress.Begun = ap (λ (y : Task). y.progress) is in
          let waiting = x.progress in
          absurd (cc)
      go (inr ne) =
          (record { task = x.task; live = sym (on_other s.tasks k.0 goes_on q.0 ne) ∙ x.live; progress = x.progress; thread = x.thread }, ne)

  waits_after : (j : ℕ) (q : Tid) → WaitsFor s j q → (q.0 ≡ k.0 → ⊥) → WaitsFor after j q
  waits_after j q x ne = record { task = x.task; live = on_other s.tasks k.0 goes_on q.0 ne ∙ x.live; progress = x.progress; thread = x.thread }

  -- it waited for this thread alone
  of_thread : (j : ℕ) (q : Tid) → WaitsFor s j q → q.0 ≡ k.0 → j ≡ i
  of_thread j q x same =
      let one_task : x.task ≡ waits.task = some_same (ap (named s.tasks) (sym same) ∙ x.live) waits.live in
      sym x.thread ∙ (ap (λ (y : Task). y.thread) one_task ∙ waits.thread)

  -- it stood in no assign word, and no thread owed the store
  met : one (owes i).met ≡ 1
  met = ap (λ (o : Owed). one o.met) owed

  unowed : sum_of_owed s owes (assign_owed i k) ≡ 0
  unowed = let once = ((keeps.made i known).assign.waiting k waits).once in omega (arith, once, met)

  word_is : m i threads 0 (number ThreadAssign) 0 ≡ 0
  word_is = go ((keeps.made i known).assign.waiting k waits).word_is
    where
      go : (m i threads 0 (number ThreadAssign) 0 ≡ 0) ⊎ (m i threads 0 (number ThreadAssign) 0 ≡ task_address w k)
          → m i threads 0 (number ThreadAssign) 0 ≡ 0
      go (inl none) = none
      go (inr stored) =
          let once = ((keeps.made i known).assign.waiting k waits).once in
          let there : one (m i threads 0 (number ThreadAssign) 0 == task_address w k) ≡ 1 =
          ap one (eq-eqb _ _ stored) in
          absurd (omega (arith, once, met, there))

  still_waiting : (ms : List (Tid × ℕ)) → assigns_in i k ms ≡ 0 → All (λ q. WaitsFor s q.1 q.0) ms
      → All (λ q. WaitsFor after q.1 q.0) ms
  still_waiting [] none all = All-nil (λ q. WaitsFor after q.1 q.0)
  still_waiting (x ∷ xs) none all =
      All-cons (λ q. WaitsFor after q.1 q.0) x xs (waits_after x.1 x.0 head ne)
      (still_waiting xs (omega (arith, none)) (All-tail (λ q. WaitsFor s q.1 q.0) x xs all))
    where
      head : WaitsFor s x.1 x.0
      head = All-head (λ q. WaitsFor s q.1 q.0) x xs all

      ne : x.0.0 ≡ k.0 → ⊥
      ne same =
          let thread : x.1 ≡ i = of_thread x.1 x.0 head same in
          let a : x.1 == i ≡ true = eq-eqb _ _ thread in
          let b : is_task k x.0 ≡ true =
          subst (λ (n : Id). is_task k (record { 0 = n }) ≡ true) (sym same) (grind (arith, nat_tests)) in
          let both : one (x.1 == i && is_task k x.0) ≡ 1 = ap (λ c. one (c && is_task k x.0)) a ∙ ap one b in
          omega (arith, both, none)

  assigns : (j : ℕ) → j < s.count → All (λ q. WaitsFor after q.1 q.0) (other j).assigns
  assigns j within =
      each_put (λ c (x : Owed). c < s.count → All (λ q. WaitsFor after q.1 q.0) x.assigns) owes i nothing
      (λ _. All-nil (λ q. WaitsFor after q.1 q.0)) j
      (λ _ there.
      let bound = part_below s.count j (λ c. assign_owed i k (owes c)) there in
      still_waiting (owes j).assigns (let zero_is = unowed in omega (arith, bound, zero_is)) (keeps.made j there).objects.assigns) within

  assigned : (j : ℕ) → j < s.count → KeepsAssign w after other j (m j threads 0)
  assigned j within = go (j == i) refl
    where
      go : (b : Bool) → j == i ≡ b → KeepsAssign w after other j (m j threads 0)
      go true e =
          let is : i ≡ j = sym (eqb-true j i e) in
          subst (λ c. KeepsAssign w after other c (m c threads 0)) is (record {
            waiting = λ q there. let (was, ne) = waits_before i q there in absurd (ne (ap (λ (x : Tid). x.0) (alone q was)));
            none = λ _. word_is;
          })
      go false e =
          let ne : j ≢ i = λ is. grind (arith, nat_tests) in
          record {
            waiting = λ q there.
                let (before, apart) = waits_before j q there in
                let was = (keeps.made j within).assign.waiting q before in
                let once = was.once in
                let sum : sum_of_owed s other (assign_owed j q) ≡ sum_of_owed s owes (assign_owed j q)
                = sum_same s.count (λ c. assign_owed j q (other c)) (λ c. assign_owed j q (owes c))
                (λ c. each_put (λ d (x : Owed). assign_owed j q x ≡ assign_owed j q (owes d)) owes i nothing (sym (ap (assign_owed j q) owed)) c (λ _. refl)) in
                let met_same : one (other j).met ≡ one (owes j).met =
                ap (λ (x : Owed). one x.met) (put_other owes i j nothing ne) in
                record { word_is = was.word_is; once = omega (arith, once, sum, met_same) };
            none = λ nobody. (keeps.made j within).assign.none (λ q there. nobody q (waits_after j q there (λ same. ne (of_thread j q there same))));
          }

  left_owes : (j : ℕ) → (other j).left ≡ (owes j).left
  left_owes j =
      each_put (λ c (x : Owed). x.left ≡ (owes c).left) owes i nothing
      (sym (ap (λ (o : Owed). o.left) owed)) j (λ _. refl)

  left_same : (c j : ℕ) (x y : Region) → x ≡ y
      → m c regions j (number RegionLeft) 0 + sum_of_owed s other (left_owed (region_in c j (s.regions c j))) + ended_members x
      ≡ m c regions j (number RegionLeft) 0 + sum_of_owed s owes (left_owed (region_in c j (s.regions c j))) + ended_members y
  left_same c j x y same =
      let name : Rid = region_in c j (s.regions c j) in
      let owes_left : sum_of_owed s other (left_owed name) ≡ sum_of_owed s owes (left_owed name)
      = sum_same s.count (λ d. left_owed name (other d)) (λ d. left_owed name (owes d))
      (λ d. ap (λ q. one (is_some_region name q)) (left_owes d)) in
      let members : ended_members x ≡ ended_members y = ap ended_members same in
      omega (arith, owes_left, members)

  task_begins : KeepsWords w (with_word m i threads 0 (number ThreadCurrent) 0 (task_address w k)) (task_begun s i k) other
  task_begins =
      current_stored w m after other i (Some k)
      (renewed w m m s s.regions (on s.tasks k.0 goes_on) owes other keeps (λ c j. region_becomes (s.regions c j)) (on_becomes TaskRenews task_stays s.tasks k.0 goes_on begins) alike
      refl (λ c. refl) (λ c j. refl) (λ c j f at _. refl)
      (λ c j x y was now. left_same c j x y (some_same was now))
      (λ j within r is. (keeps.made j within).objects.left r (sym (left_owes j) ∙ is))
      assigns assigned)
      known

pub begins_keep : BeginsKeep
begins_keep =
    λ w m s owes i k keeps known owed waits alone implicit. task_begins w m s owes i k keeps known owed waits alone implicit
