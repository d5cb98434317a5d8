-- A state in which regions and implicit tasks begin, whose records stand filled: new implicit tasks count nothing, and are not deferred.
use Rattle.std.proofs.Common.{◌≡◌, ◌==◌, ◌+◌, ◌&&◌, ◌<◌, ℕ, true, false, inl, inr, List, Some, not, sym, ap, ap₂, ◌∙◌, arith, ne_eqb, if◌then◌else◌}
use Rattle.std.specs.Prelude.{◌⊎◌, All}
use Rattle.std.specs.Option.{option_and_then}
use Rattle.omi_rep.specs.Records.{slot_word}
use Rattle.omi_model.specs.declared.id.Rid.{Rid}
use Rattle.omi_model.specs.declared.id.Tid.{Tid}
use Rattle.omi_model.specs.declared.progress.Progress.TheVariants as progress
use Rattle.omi_model.specs.declared.region.Region.{Region}
use Rattle.omi_model.specs.declared.task.Task.{Task}
use Rattle.omi_model.specs.LawNames.{AreNamesLive}
use Rattle.omi_model.specs.Put.{Slots}
use Rattle.omi_model.specs.State.{State, task_of}
use Rattle.omi_model.specs.declared.group.Group.{Group}
use Rattle.omi_numbers.specs.declared.limits.TheConstants.{OWN_SLOTS}
use Rattle.omi_layout.specs.declared.field.Field.TheVariants.{TaskSlots}
use Rattle.omi_layout.specs.Field.{threads, regions, tasks}
use Rattle.omi_layout.specs.Memory.{Memory}
use Rattle.omi_layout.specs.Named.{number}
use Rattle.omi_rule_words.specs.Owes.{Owed}
use Rattle.omi_rule_words.specs.Counts.{children_owed, generating_of, has_region_slot, has_slot, is_finished, is_region, is_some_region, is_some_task, is_unfinished, one, pending_owed, start_owed, sum_below, sum_of_owed, unfinished_children, unfinished_in, is_explicit, live_children, references_owed}
use Rattle.omi_rule_words.specs.Threads.{KeepsAssign, WaitsFor}
use Rattle.omi_rule_words.specs.Objects.{KeepsDeferred, slots_with}
use Rattle.omi_rule_words.specs.Words.{KeepsMaking, KeepsWords}
use Rattle.omi_rule_words.proofs.Begun.{Grows, IsNew, NewRegion, NewTask}
use Rattle.omi_rule_words.proofs.Grown.{OwesLess, grown, owes_less, task_after, task_before, tasks_counted}
use Rattle.omi_rule_words.proofs.OtherOwes.{OwesAlike}
use Rattle.omi_rule_words.proofs.OwedTasks.{references_alike}
use Rattle.omi_rule_words.proofs.Sums.{sum_none_within, sum_same}
use Rattle.omi_rule_words.specs.Groups.{AreOwnersLive, count_owed, is_some_group, unfinished_members}
use Rattle.omi_rule_words.proofs.GroupCounts.{count_alike}

-- an implicit task that is not deferred
pub record IsMember (t : Task) : Type 0 where
  pub implicit : t.implicit ≡ true
  pub undeferred : t.progress ≡ progress.Deferred → ⊥

implicit_none : (t : Task) → t.implicit ≡ true → is_unfinished t ≡ false
implicit_none t implicit = ap (λ b. not b && not (is_finished t.progress)) implicit

-- it refers to nothing, as it is not explicit
pub refers : (t : Task) → IsMember t → is_unfinished t ≡ is_explicit t
refers t o = implicit_none t o.implicit ∙ sym (ap not o.implicit)

module _ (w : List ℕ) (m : Memory) (s : State) (rs : Slots Region) (ts : Slots Task) (owes other : ℕ → Owed)
    (keeps : KeepsWords w m s owes) (names : AreNamesLive s) (owners : AreOwnersLive s)
    (alike : (j : ℕ) → OwesAlike (other j) (owes j))
    (region_slots : (c k : ℕ) → Grows (has_region_slot k (other c).region ≡ has_region_slot k (owes c).region)
    (NewRegion w (m c regions k) (has_region_slot k (owes c).region)) (s.regions c k) (rs c k))
    (task_slots : (c k : ℕ) → Grows (has_slot k (other c).tasks ≡ has_slot k (owes c).tasks) (NewTask w (m c tasks k) (has_slot k (owes c).tasks) IsMember) (s.tasks c k) (ts c k)) where
  abbrev after : State
  after = record s { regions = rs; tasks = ts }

  abbrev NewAt : ℕ → ℕ → Task → Type 0
  NewAt c k = NewTask w (m c tasks k) (has_slot k (owes c).tasks) IsMember

  less : (j : ℕ) → OwesLess (other j) (owes j)
  less j = owes_less (other j) (owes j) (alike j)

  owed_same : (f : Owed → ℕ) → ((j : ℕ) → f (other j) ≡ f (owes j))
      → sum_of_owed s other f ≡ sum_of_owed s owes f
  owed_same f each = sum_same s.count (λ j. f (other j)) (λ j. f (owes j)) each

  pending_counted : (n : Rid)
      → unfinished_in w after n + sum_of_owed s other (pending_owed n) ≡ unfinished_in w s n + sum_of_owed s owes (pending_owed n)
  pending_counted n =
      let same : unfinished_in w after n ≡ unfinished_in w s n
      = tasks_counted w m s rs ts owes other IsMember refers keeps names owners less region_slots task_slots
      (λ c k t. one (is_unfinished t && is_region n t.region))
      (λ c k t new. ap (λ b. one (b && is_region n t.region)) (implicit_none t new.kind.implicit)) in
      let owed = owed_same (pending_owed n) (λ j. ap (λ q. one (is_some_region n q)) (alike j).pending) in
      omega (arith, same, owed)

  children_counted : (k : Tid)
      → unfinished_children w after k + sum_of_owed s other (children_owed s k) ≡ unfinished_children w s k + sum_of_owed s owes (children_owed s k)
  children_counted k =
      let same : unfinished_children w after k ≡ unfinished_children w s k
      = tasks_counted w m s rs ts owes other IsMember refers keeps names owners less region_slots task_slots
      (λ c j t. one (is_unfinished t && is_some_task k t.generating))
      (λ c j t new. ap (λ b. one (b && is_some_task k t.generating)) (implicit_none t new.kind.implicit)) in
      let owed =
      owed_same (children_owed s k)
      (λ j. ap₂ (λ a b. one (is_some_task k a) + one (is_some_task k (option_and_then (generating_of s) b))) (alike j).raised (alike j).lowered) in
      omega (arith, same, owed)

  references_counted : (k : Tid)
      → live_children w after k + sum_of_owed s other (references_owed k) ≡ live_children w s k + sum_of_owed s owes (references_owed k)
  references_counted k =
      let same : live_children w after k ≡ live_children w s k
      = tasks_counted w m s rs ts owes other IsMember refers keeps names owners less region_slots task_slots
      (λ c j t. one (is_explicit t && is_some_task k t.generating))
      (λ c j t new. ap (λ b. one (not b && is_some_task k t.generating)) new.kind.implicit) in
      let owed =
      owed_same (references_owed k)
      (λ j. references_alike k (other j) (owes j) (alike j).referred (alike j).own (alike j).returned) in
      omega (arith, same, owed)

  members_counted : (g : Group)
      → unfinished_members w after g + sum_of_owed s other (count_owed s g) ≡ unfinished_members w s g + sum_of_owed s owes (count_owed s g)
  members_counted g =
      let same : unfinished_members w after g ≡ unfinished_members w s g
      = tasks_counted w m s rs ts owes other IsMember refers keeps names owners less region_slots task_slots
      (λ c j t. one (is_unfinished t && is_some_group g t.group))
      (λ c j t new. ap (λ b. one (b && is_some_group g t.group)) (implicit_none t new.kind.implicit)) in
      let owed =
      owed_same (count_owed s g) (λ j. count_alike s g (other j) (owes j) (alike j).counted (alike j).uncounted) in
      omega (arith, same, owed)

  deferred_kept : KeepsDeferred w (λ c. m c tasks) after other
  deferred_kept = record {
    once = λ k t is deferred. go k t deferred (task_before w m s rs ts owes other IsMember refers keeps names owners less region_slots task_slots k t is);
    hands = λ i k known is.
        let (t, live, deferred) = keeps.deferred.hands i k known (sym (alike i).hand ∙ is) in
        (t, task_after w m s rs ts owes other IsMember refers keeps names owners less region_slots task_slots k t live, deferred);
  }
    where
      slots_same : (k : Tid)
          → slots_with w (λ c. m c tasks) after (slot_word w k) ≡ slots_with w (λ c. m c tasks) s (slot_word w k)
      slots_same k =
          tasks_counted w m s rs ts owes other IsMember refers keeps names owners less region_slots task_slots
          (λ c j x. if x.implicit then sum_below OWN_SLOTS (λ place. one (m c tasks j (number TaskSlots) place == slot_word w k)) else 0)
          (λ c j t new.
          ap
          (λ b. if b then sum_below OWN_SLOTS (λ place. one (m c tasks j (number TaskSlots) place == slot_word w k)) else 0) new.kind.implicit
          ∙ sum_none_within OWN_SLOTS
          (λ place. one (m c tasks j (number TaskSlots) place == slot_word w k))
          (λ place within. ap one (ne_eqb _ _ (λ same. let none = new.slots new.kind.implicit place within in absurd (omega (arith, same, none))))))

      go : (k : Tid) (t : Task) → t.progress ≡ progress.Deferred
          → (task_of s k ≡ Some t) ⊎ IsNew (NewAt k.0.creator k.0.slot) k.0.generation (s.tasks k.0.creator k.0.slot) t
          → slots_with w (λ c. m c tasks) after (slot_word w k) + sum_of_owed after other (start_owed k) ≡ 1
      go k t deferred (inl live) =
          let was = keeps.deferred.once k t live deferred in
          let same = slots_same k in
          let owed = owed_same (start_owed k) (λ j. ap (λ q. one (is_some_task k q)) (alike j).hand) in
          omega (arith, was, same, owed)
      go k t deferred (inr new) = absurd (new.new.kind.undeferred deferred)

  pub members_grown : ((j : ℕ) → j < s.count → KeepsMaking after j (other j))
      → ((j : ℕ) → j < s.count → All (λ q. WaitsFor after q.1 q.0) (other j).assigns)
      → ((j : ℕ) → j < s.count → KeepsAssign w after other j (m j threads 0)) → KeepsWords w m after other
  members_grown making assigns assigned =
      grown w m s rs ts owes other IsMember refers keeps names owners less region_slots task_slots references_counted pending_counted children_counted members_counted making assigns assigned deferred_kept
