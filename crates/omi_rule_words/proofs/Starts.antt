-- A deferred task in the hand starts.
use Rattle.std.proofs.Common.{◌≡◌, ◌≢◌, ◌&&◌, ◌+◌, ◌<◌, ◌≤◌, Bool, ℕ, not, false, true, List, Some, refl, sym, ap, ap₂, subst, ◌∙◌, arith}
use Rattle.std.proofs.lemmas.Bool.Decides.{nat_tests}
use Rattle.omi_numbers.specs.Addresses.{exit_below}
use Rattle.omi_model.specs.declared.id.Id.{Id}
use Rattle.omi_model.specs.declared.id.Tid.{Tid}
use Rattle.omi_model.specs.declared.item.Item.{Item}
use Rattle.omi_model.specs.declared.progress.Progress.{Progress}
use Rattle.omi_model.specs.declared.task.Task.{Task}
use Rattle.omi_model.specs.Changes.{encounter, on_task, with_current}
use Rattle.omi_model.specs.Rows.{working}
use Rattle.omi_model.specs.State.{State, task_of}
use Rattle.omi_model.specs.Tasking.{scheduled}
use Rattle.omi_model.proofs.Slots.{id_same}
use Rattle.omi_numbers.specs.declared.limits.TheConstants.{OWN_SLOTS}
use Rattle.omi_layout.specs.declared.field.Field.TheVariants.{TaskSlots, ThreadCurrent}
use Rattle.omi_layout.specs.Field.{tasks, threads}
use Rattle.omi_layout.specs.Memory.{Memory, replace_at, with_word}
use Rattle.omi_layout.specs.Named.{number}
use Rattle.omi_layout.specs.Table.{per_thread}
use Rattle.omi_rep.specs.Records.{task_address, slot_word}
use Rattle.omi_rule_words.specs.Owes.{Owed, nothing}
use Rattle.omi_rule_words.specs.Counts.{children_owed, is_finished, is_region, is_some_task, is_unfinished, one, pending_owed, start_owed, sum_of_owed, unfinished_children, unfinished_in, references_owed, gives_owed}
use Rattle.omi_rule_words.specs.Objects.{IsDeferredIn, KeepsEnvironment, slots_with}
use Rattle.omi_rule_words.specs.Words.{KeepsTask, KeepsWords}
use Rattle.omi_rule_words.specs.ExplicitKinds.{IsReady, StartsAloneKeep, StartsKeep}
use Rattle.omi_rule_words.proofs.Changed.{current_stored}
use Rattle.omi_rule_words.proofs.OtherCounts.{is_own_id, owed_put_same}
use Rattle.omi_rule_words.proofs.OwedTasks.{nothing_on_live}
use Rattle.omi_rule_words.proofs.StoredCodes.{environment_placed}
use Rattle.omi_rule_words.proofs.SlotSums.{slot_counted}
use Rattle.omi_rule_words.proofs.Sums.{part_below, parts_below}
use Rattle.omi_rule_words.proofs.TaskMoves.{GoesTo, TeamsAlike, task_moved, tasks_counted}
use Rattle.omi_rule_words.specs.Groups.{count_owed, is_some_group, unfinished_members}

-- a name that is another's is not compared as the same
pub other_name : (q k : Tid) → (q.0 ≡ k.0 → ⊥) → is_some_task q (Some k) ≡ false
other_name q k ne = go (is_some_task q (Some k)) refl
  where
    go : (b : Bool) → is_some_task q (Some k) ≡ b → is_some_task q (Some k) ≡ false
    go false e = e
    go true e =
        let creator : q.0.creator ≡ k.0.creator = grind (arith, nat_tests) in
        let slot : q.0.slot ≡ k.0.slot = grind (arith, nat_tests) in
        let generation : q.0.generation ≡ k.0.generation = grind (arith, nat_tests) in
        absurd (ne (id_same q.0 k.0 creator slot generation))

module _ (w : List ℕ) (m : Memory) (s : State) (owes : ℕ → Owed) (i : ℕ) (task : Tid) (new : Task) (k : Tid)
    (t : Task) (list : Task → List Item)
    (keeps : KeepsWords w m s owes) (known : i < s.count) (ready : IsReady w m s owes i task new k t) where
  abbrev g : Task → Task
  g = λ u. record (scheduled i k t u) { list = list u }

  abbrev after : State
  after = on_task s task g

  owed : owes i ≡ record nothing { hand = Some task }
  owed = ready.0

  live : task_of s task ≡ Some new
  live = ready.1.live

  goes : GoesTo new (g new)
  goes = record {
    explicit = ready.1.explicit;
    implicit = refl;
    region = refl;
    generating = refl;
    group = refl;
    open_groups = refl;
    unmet = λ is. let was = ready.1.progress in absurd (cc);
    unfinished = λ is. let was = ready.1.progress in absurd (cc);
    started = λ is. absurd (cc);
    begun = λ is. absurd (cc);
  }

  -- it is in this hand alone, and in no slot
  once : slots_with w (λ c. m c tasks) s (slot_word w task) + sum_of_owed s owes (start_owed task) ≡ 1
  once = keeps.deferred.once task new live ready.1.progress

  in_hand : start_owed task (owes i) ≡ 1
  in_hand = ap (start_owed task) owed ∙ ap one (is_own_id task.0)

  unslotted : (c j : ℕ) → c < s.count → j < per_thread w tasks → (row : Task) → (s.tasks c j).live ≡ Some row
      → row.implicit ≡ true → (place : ℕ) → place < OWN_SLOTS
      → IsDeferredIn s row place task → m c tasks j (number TaskSlots) place ≡ slot_word w task → ⊥
  unslotted c j maker within row is implicit place below _ word =
      let name : Tid = record { 0 = record { creator = c; slot = j; generation = 0 } } in
      let some : 1 ≤ slots_with w (λ d. m d tasks) s (slot_word w task) =
      subst (λ code. 1 ≤ slots_with w (λ d. m d tasks) s code) word
      (slot_counted w s name row place is implicit maker within below m) in
      let part : start_owed task (owes i) ≤ sum_of_owed s owes (start_owed task) =
      part_below s.count i (λ c. start_owed task (owes c)) known in
      omega (arith, some, part, once, in_hand)

  unheld : (j : ℕ) (q : Tid) → j < s.count → j ≢ i → (owes j).hand ≡ Some q → q.0 ≡ task.0 → ⊥
  unheld j q below ne is same =
      let name : q ≡ task = ap (λ (n : Id). record { 0 = n }) same in
      let here : start_owed task (owes j) ≡ 1 =
      ap (λ o. one (is_some_task task o)) (is ∙ ap Some name) ∙ ap one (is_own_id task.0) in
      let parts : start_owed task (owes i) + start_owed task (owes j) ≤ sum_of_owed s owes (start_owed task) =
      parts_below s.count i j (λ c. start_owed task (owes c)) known below ne in
      omega (arith, parts, once, in_hand, here)

  -- it is unfinished as before
  unfinished_same : is_unfinished (g new) ≡ is_unfinished new
  unfinished_same = sym (ap (λ (p : Progress). not new.implicit && not (is_finished p)) ready.1.progress)

  environment : KeepsTask w s owes task (m task.0.creator tasks task.0.slot) new
      → KeepsEnvironment w (m task.0.creator tasks task.0.slot) (g new)
  environment o =
      environment_placed w (m task.0.creator tasks task.0.slot) new i t.number (Some k)
      (exit_below t.exit) 0 o.environment

  pub task_starts : KeepsWords w (with_word m i threads 0 (number ThreadCurrent) 0 (task_address w task)) (with_current (on_task s task g) i (Some task)) (replace_at owes i nothing)
  task_starts =
      current_stored w m after (replace_at owes i nothing) i (Some task)
      (task_moved w s task new g live goes m owes i nothing keeps
      (subst (λ (o : Owed). TeamsAlike nothing o) (sym owed) (record { region = refl; tasks = refl; left = refl; assigns = refl; met = refl }))
      (λ n.
      let same : unfinished_in w after n ≡ unfinished_in w s n =
      tasks_counted w s task new g live goes (λ _ _ x. one (is_unfinished x && is_region n x.region))
      (ap (λ b. one (b && is_region n new.region)) unfinished_same) in
      let owed_same = owed_put_same s owes i nothing (pending_owed n) (sym (ap (pending_owed n) owed)) in
      omega (arith, same, owed_same))
      (λ q _. sym (ap (references_owed q) owed))
      (ap₂ (λ a b. one a + b) unfinished_same (sym (ap (references_owed task) owed)))
      (λ q. sym (ap (gives_owed q) owed)) known
      (λ q.
      let same : unfinished_children w after q ≡ unfinished_children w s q =
      tasks_counted w s task new g live goes (λ _ _ x. one (is_unfinished x && is_some_task q x.generating))
      (ap (λ b. one (b && is_some_task q new.generating)) unfinished_same) in
      let owed_same =
      owed_put_same s owes i nothing (children_owed s q) (sym (ap (children_owed s q) owed)) in
      omega (arith, same, owed_same))
      unslotted
      (λ x.
      let same : unfinished_members w after x ≡ unfinished_members w s x =
      tasks_counted w s task new g live goes (λ _ _ y. one (is_unfinished y && is_some_group x y.group))
      (ap (λ b. one (b && is_some_group x new.group)) unfinished_same) in
      let owed_same =
      owed_put_same s owes i nothing (count_owed s x) (sym (ap (count_owed s x) owed)) in
      omega (arith, same, owed_same))
      (λ q none. absurd (cc))
      (λ q none. absurd (cc)) environment
      (λ _. ready.2)
      (nothing_on_live after)
      refl
      (λ q ne. sym (ap (start_owed q) owed ∙ ap one (other_name q task ne)))
      unheld)
      known

pub starts_keep : StartsKeep
starts_keep =
    λ w m s owes i task new k t keeps known ready. task_starts w m s owes i task new k t (λ u. working (encounter s i) u.list) keeps known ready

pub starts_alone_keep : StartsAloneKeep
starts_alone_keep =
    λ w m s owes i task new k t keeps known ready. task_starts w m s owes i task new k t (λ u. u.list) keeps known ready
