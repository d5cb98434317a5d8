-- A thread raises the counts for a new task: in its region, and in the task that makes it, as an unfinished one and as one that refers to it.
use Rattle.std.proofs.Common.{◌≡◌, ◌≢◌, ◌<◌, inl, ℕ, List, [], ◌∷◌, Option, Some, None, refl, sym, ap, ◌∙◌, subst, arith, Bool, true, false, ◌==◌, eqb-true, eq-eqb, if◌then◌else◌}
use Rattle.std.specs.List.{All}
use Rattle.std.specs.Prelude.{IsSome}
use Rattle.std.proofs.lemmas.List.Elements.{All-head}
use Rattle.omi_model.specs.declared.limits.TheConstants.{MOST_EVENTS}
use Rattle.omi_word.specs.declared.op.Op.TheVariants as op
use Rattle.omi_script.specs.declared.program.Program.{Program}
use Rattle.omi_model.specs.declared.event.Event.{Event}
use Rattle.omi_model.specs.declared.id.Rid.{Rid}
use Rattle.omi_model.specs.declared.id.Tid.{Tid}
use Rattle.omi_model.specs.State.{State}
use Rattle.omi_model.proofs.Slots.{found_live, none_some, some_same}
use Rattle.omi_model.specs.declared.task.Task.{Task}
use Rattle.omi_model.specs.Groups.{group_within}
use Rattle.omi_layout.specs.declared.field.Field.{Field}
use Rattle.omi_layout.specs.declared.field.Field.TheVariants.{RegionPending, TaskChildren, TaskReferences, TaskSlots}
use Rattle.omi_layout.specs.Field.{regions, tasks}
use Rattle.omi_layout.specs.Memory.{Memory, replace_at}
use Rattle.omi_layout.specs.Named.{number}
use Rattle.omi_layout.proofs.Puts.{record_stays, word_stays}
use Rattle.omi_pc.specs.declared.actor.Actor.{Actor}
use Rattle.omi_pc.specs.declared.counter.Counter.TheVariants as counter
use Rattle.omi_pc.specs.Fits.{FitsTask, IsTaskGot}
use Rattle.omi_pc.specs.declared.limits.TheConstants.{TASK_WORDS}
use Rattle.omi_pc.specs.declared.task_counter.TaskCounter.{TaskCounter}
use Rattle.omi_pc.specs.declared.task_counter.TaskCounter.TheVariants as task
use Rattle.omi_rep.specs.declared.outcome.Outcome.TheVariants as outcome
use Rattle.omi_rep.specs.Records.{group_word}
use Rattle.omi_rule_words.specs.BarrierKinds.{one_more, with_region_word, word_of_region}
use Rattle.omi_rule_words.specs.CountKinds.{with_task_word, word_of_task}
use Rattle.omi_rule_words.specs.Owes.{Owed, all_owed, in_the_making, owed, with_raises, with_reference, with_count}
use Rattle.omi_rule_words.specs.Words.{IsInTheMaking, KeepsWords}
use Rattle.omi_rule_words.proofs.PendingWords.{pending_adds_keep}
use Rattle.omi_rule_words.proofs.TaskCounts.{children_adds_keep, references_add_keep}
use Rattle.omi_step_words.specs.Moving.{to_task}
use Rattle.omi_step_words.specs.Placed.{IsPlacedTask}
use Rattle.omi_step_words.specs.Words.{of_region, of_task}
use Rattle.omi_task.specs.MakingSteps.{behind_raises, making_moved, making_next, making_outcome}
use Rattle.omi_task.specs.Groups.{new_group}
use Rattle.omi_rule.proofs.OthersStand.{begun_unfinished}
use Rattle.omi_rule.specs.Ahead as Ahead
use Rattle.omi_rule.specs.Ahead.{task_ahead}
use Rattle.omi_rule.specs.Chains.{encounter_of}
use Rattle.omi_rule.specs.Rows.{HasFilledTask, HasPlace, KeepsTaskRow}
use Rattle.omi_rule.specs.Steps.{KeepsRule, RecordWord, StepKeeps}
use Rattle.omi_rule.proofs.Assembly.{Before, quiet_keeps, spares_begun, spares_region}
use Rattle.omi_rule.proofs.CountsFew.{children_few, pending_few, references_few}
use Rattle.omi_rule.proofs.KeptObjects.{region_kept, task_kept}
use Rattle.omi_rule.proofs.Owing.{owed_after}
use Rattle.omi_rule.proofs.task.Within.{context, context_placed, fits, going, goes_on, own, owes, placed, row}
use Rattle.omi_rule.proofs.Groups.{new_group_is, ungrouped}
use Rattle.omi_rule.proofs.task.Counted.{no_count}
use Rattle.omi_rule.proofs.task.Filled.{filled_goes}

module _ (p : Program) (w : List ℕ) (m : Memory) (events : List (ℕ × Event)) (s : State) (actors : ℕ → Actor)
    (i : ℕ) (before : Before p w m events s actors i) (place : Option ℕ) (t : Tid) where
  -- the words of a record in the making
  making : (C : TaskCounter) → (actors i).counter ≡ counter.Task C → (owed (actors i)).tasks ≡ t ∷ []
      → IsInTheMaking i (s.tasks i) t.0
  making C at is =
      All-head (λ (k : Tid). IsInTheMaking i (s.tasks i) k.0) t []
      (subst (λ (ks : List Tid). All (λ k. IsInTheMaking i (s.tasks i) k.0) ks) is (before.rule.words.made i before.known).making.tasks)

  -- ---- in the region

  module _ (at : (actors i).counter ≡ counter.Task (task.AddPending place t)) where
    abbrev C : TaskCounter
    C = task.AddPending place t

    abbrev n : Rid
    n = (actors i).context.region

    abbrev X : RecordWord
    X = record { creator = (actors i).context.region.0.creator; slot = (actors i).context.region.0.slot; field = RegionPending; place = 0 }

    abbrev Then : Actor
    Then = going (task.AddChildren place t) (actors i).gathered (actors i)

    abbrev N : Memory
    N =
        with_region_word m (actors i).context.region RegionPending
        (one_more (word_of_region m (actors i).context.region RegionPending))

    words : KeepsWords w N s (all_owed (replace_at actors i Then))
    words =
        let o : owed (actors i) ≡ in_the_making t = owes p w m events s actors i before C at in
        let here = context p w m events s actors i before C at in
        let counted = (region_kept p w m events s actors before.rule n here.region here.found).pending in
        let most = pending_few w s before.valid before.rule.within.count (all_owed actors) n in
        let few : word_of_region m n RegionPending < MOST_EVENTS = omega (arith, counted, most) in
        owed_after w N s actors i Then (record (in_the_making t) { pending = Some n }) refl
        (subst (λ (x : Owed). KeepsWords w N s (replace_at (all_owed actors) i (record x { pending = Some n }))) o
        (pending_adds_keep w m s (all_owed actors) i n before.rule.words before.known (ap (λ (x : Owed). x.pending) o) (subst IsSome (sym here.found) refl) few))

    pub pending_keeps : StepKeeps p w m events s actors i (making_next p w (actors i) C) (λ old. (making_moved p w (actors i) C old, making_outcome w (actors i) C old))
    pending_keeps =
        let here = context p w m events s actors i before C at in (
          X,
          record { there = record { field = record { from = omega arith; to = omega arith }; record_slot = (context_placed p w m events s actors i before C at).region; within = omega arith }; address = refl },
          quiet_keeps p w m events s actors i before (op.Add (of_region w n RegionPending) 1) X
              (Then, outcome.Quiet) refl words
              (λ j other. spares_region m s n here.region RegionPending 0 (one_more (word_of_region m n RegionPending)) j (actors j) here.found (inl (λ same. absurd (omega (arith, same)))))
              (goes_on p w m events s actors i before C at N (task.AddChildren place t) (actors i).gathered (own p w m events s actors i before C at).fits.variables refl
              (fits p w m events s actors i before C at) (placed p w m events s actors i before C at)
              (filled_goes p w m N s (actors i) (task.AddChildren place t) place t TASK_WORDS slots_stay
              (record_stays m n.0.creator regions n.0.slot (number RegionPending) 0 (one_more (word_of_region m n RegionPending)) t.0.creator tasks t.0.slot (λ _ kind _. absurd (omega (arith, kind))))
              (row p w m events s actors i before C at))),
        )
      where
        slots_stay : (q : Option ℕ) → HasPlace p m (actors i) q → HasPlace p N (actors i) q
        slots_stay None o = tt
        slots_stay (Some j) (defers, within, empty) =
            (defers, within, word_stays m n.0.creator regions n.0.slot (number RegionPending) 0 (one_more (word_of_region m n RegionPending)) (actors i).context.row.0.creator tasks (actors i).context.row.0.slot (number TaskSlots) j (λ _ kind _ _ _. absurd (omega (arith, kind))) ∙ empty)

  -- ---- in the task that makes it

  abbrev k : Tid
  k = (actors i).context.task

  abbrev word_on : Field → RecordWord
  word_on count = record { creator = (actors i).context.task.0.creator; slot = (actors i).context.task.0.slot; field = count; place = 0 }

  -- a word of that task for what is counted of its children
  module _ (count : Field) (no_slots : number TaskSlots ≢ number count) (D : TaskCounter)
      (at : (actors i).counter ≡ counter.Task D) (took : (owed (actors i)).tasks ≡ t ∷ [])
      (filled : HasFilledTask p w m s (actors i) place t TASK_WORDS) where
    abbrev After : Memory
    After =
        with_task_word m (actors i).context.task count
        (one_more (word_of_task m (actors i).context.task count))

    slots_stay : (q : Option ℕ) → HasPlace p m (actors i) q → HasPlace p After (actors i) q
    slots_stay None o = tt
    slots_stay (Some j) (defers, within, empty) =
        (defers, within, word_stays m k.0.creator tasks k.0.slot (number count) 0 (one_more (word_of_task m k count)) (actors i).context.row.0.creator tasks (actors i).context.row.0.slot (number TaskSlots) j (λ _ _ _ field _. no_slots field) ∙ empty)

    record_same : After t.0.creator tasks t.0.slot ≡ m t.0.creator tasks t.0.slot
    record_same =
        let here = context p w m events s actors i before D at in
        let free = making D at took in
        record_stays m k.0.creator tasks k.0.slot (number count) 0
        (one_more (word_of_task m k count)) t.0.creator tasks t.0.slot
        (λ c _ slot. none_some (subst (λ x. (s.tasks x k.0.slot).live ≡ None) (sym free.maker ∙ c) (subst (λ x. (s.tasks i x).live ≡ None) slot free.free)) (found_live k.0.generation (s.tasks k.0.creator k.0.slot) here.task here.live))

    pub still_filled : (d : TaskCounter)
        → HasFilledTask p w After s (going d (actors i).gathered (actors i)) place t TASK_WORDS
    still_filled d = filled_goes p w m After s (actors i) d place t TASK_WORDS slots_stay record_same filled

  -- ---- as an unfinished one

  module _ (at : (actors i).counter ≡ counter.Task (task.AddChildren place t)) where
    abbrev D : TaskCounter
    D = task.AddChildren place t

    owed_here : owed (actors i) ≡ record (in_the_making t) { pending = Some (actors i).context.region }
    owed_here = owes p w m events s actors i before D at

    raised : KeepsWords w (with_task_word m k TaskChildren (one_more (word_of_task m k TaskChildren))) s (all_owed (replace_at actors i (to_task (task.AddReferences place t) (actors i))))
    raised =
        let here = context p w m events s actors i before D at in
        let counts = (task_kept p w m events s actors before.rule k here.task here.live).counts.children in
        let most = children_few w s before.valid before.rule.within.count (all_owed actors) k in
        let few : word_of_task m k TaskChildren < MOST_EVENTS = omega (arith, counts, most) in
        owed_after w (with_task_word m k TaskChildren (one_more (word_of_task m k TaskChildren))) s actors i (to_task (task.AddReferences place t) (actors i)) (with_raises (actors i).context t) refl
        (subst (λ (x : Owed). KeepsWords w (with_task_word m k TaskChildren (one_more (word_of_task m k TaskChildren))) s (replace_at (all_owed actors) i (record x { raised = Some k }))) owed_here
        (children_adds_keep w m s (all_owed actors) i k before.rule.words before.known (ap (λ (x : Owed). x.raised) owed_here) (subst IsSome (sym here.live) refl) few))

    pub children_keeps : StepKeeps p w m events s actors i (making_next p w (actors i) D) (λ old. (making_moved p w (actors i) D old, making_outcome w (actors i) D old))
    children_keeps =
        let none : number TaskSlots ≢ number TaskChildren = λ is. omega (arith, is) in
        let took = ap (λ (x : Owed). x.tasks) owed_here in
        let filled = row p w m events s actors i before D at in (
          word_on TaskChildren,
          record { there = record { field = record { from = omega arith; to = omega arith }; record_slot = (context_placed p w m events s actors i before D at).task; within = omega arith }; address = refl },
          quiet_keeps p w m events s actors i before (op.Add (of_task w k TaskChildren) 1) (word_on TaskChildren)
              (to_task (task.AddReferences place t) (actors i), outcome.Quiet) refl raised
              (λ j other. let here = context p w m events s actors i before D at in
              spares_begun m s k here.task TaskChildren 0 (one_more (word_of_task m k TaskChildren)) i j (actors j) here.live here.begun here.thread other)
              (goes_on p w m events s actors i before D at (with_task_word m k TaskChildren (one_more (word_of_task m k TaskChildren)))
              (task.AddReferences place t) (actors i).gathered (own p w m events s actors i before D at).fits.variables refl
              (fits p w m events s actors i before D at) (placed p w m events s actors i before D at)
              (still_filled TaskChildren none D at took filled (task.AddReferences place t))),
        )

  -- ---- as one that refers to it

  module _ (at : (actors i).counter ≡ counter.Task (task.AddReferences place t)) where
    abbrev E : TaskCounter
    E = task.AddReferences place t

    owed_there : owed (actors i) ≡ with_raises (actors i).context t
    owed_there = owes p w m events s actors i before E at

    abbrev Referred : Memory
    Referred = with_task_word m k TaskReferences (one_more (word_of_task m k TaskReferences))

    referred : KeepsWords w Referred s (replace_at (all_owed actors) i (with_reference (actors i).context t))
    referred =
        let here = context p w m events s actors i before E at in
        let counts = (task_kept p w m events s actors before.rule k here.task here.live).counts.references in
        let most = references_few w s before.valid before.rule.within.count (all_owed actors) k here.task in
        let few : word_of_task m k TaskReferences < MOST_EVENTS = omega (arith, counts, most) in
        subst (λ (x : Owed). KeepsWords w Referred s (replace_at (all_owed actors) i (record x { referred = Some k }))) owed_there
        (references_add_keep w m s (all_owed actors) i k here.task before.rule.words before.known (ap (λ (x : Owed). x.referred) owed_there) here.live (begun_unfinished here.task here.begun)
        (ap (λ (x : Owed). x.pending) owed_there ∙ ap Some (sym here.region_is)) few)

    pub references_keep : StepKeeps p w m events s actors i (making_next p w (actors i) E) (λ old. (making_moved p w (actors i) E old, making_outcome w (actors i) E old))
    references_keep = (
      word_on TaskReferences,
      record { there = record { field = record { from = omega arith; to = omega arith }; record_slot = (context_placed p w m events s actors i before E at).task; within = omega arith }; address = refl },
      behind (new_group w (actors i) == 0) refl,
    )
      where
        none : number TaskSlots ≢ number TaskReferences
        none is = omega (arith, is)

        took : (owed (actors i)).tasks ≡ t ∷ []
        took = ap (λ (x : Owed). x.tasks) owed_there

        filled : HasFilledTask p w m s (actors i) place t TASK_WORDS
        filled = row p w m events s actors i before E at

        -- with the word of the new task's group
        group_is : new_group w (actors i) ≡ group_word w (group_within k (context p w m events s actors i before E at).task)
        group_is =
            let here = context p w m events s actors i before E at in
            let (v, live, knows) = filled.0.1 in
            new_group_is w (actors i) here.task here.groups
            (λ none. knows none ∙ ap (λ (x : Task). group_word w x.group) (some_same live here.live))

        -- where it has none, no count is to be raised
        uncounted : (b : Actor) → owed b ≡ with_count (actors i).context t → new_group w (actors i) ≡ 0
            → KeepsWords w Referred s (all_owed (replace_at actors i b))
        uncounted b is none =
            let here = context p w m events s actors i before E at in
            owed_after w Referred s actors i b (with_count (actors i).context t) is
            (no_count w Referred s (all_owed actors) i (with_reference (actors i).context t) k here.task before.known refl refl here.live
            (ungrouped w before.valid (group_within k here.task) (new_group w (actors i)) group_is none) referred)

        step : (d : TaskCounter) → KeepsWords w Referred s (all_owed (replace_at actors i (to_task d (actors i))))
            → task_ahead p (encounter_of s (actors i).context) (actors i).stack d ≡ task_ahead p (encounter_of s (actors i).context) (actors i).stack E
            → FitsTask p (going d (actors i).gathered (actors i)) d → IsPlacedTask w d → KeepsTaskRow p w Referred s i (going d (actors i).gathered (actors i)) d → KeepsRule p w m events s actors i (op.Add (of_task w k TaskReferences) 1) (word_on TaskReferences) (to_task d (actors i), outcome.Quiet)
        step d words_there ahead fits_there placed_there row_there =
            let here = context p w m events s actors i before E at in
            quiet_keeps p w m events s actors i before (op.Add (of_task w k TaskReferences) 1) (word_on TaskReferences)
            (to_task d (actors i), outcome.Quiet) refl words_there
            (λ j other. spares_begun m s k here.task TaskReferences 0 (one_more (word_of_task m k TaskReferences)) i j (actors j) here.live here.begun here.thread other)
            (goes_on p w m events s actors i before E at Referred d (actors i).gathered (own p w m events s actors i before E at).fits.variables ahead fits_there placed_there row_there)

        now : (d : TaskCounter)
            → HasFilledTask p w Referred s (going d (actors i).gathered (actors i)) place t TASK_WORDS
        now d = still_filled TaskReferences none E at took filled d

        go : new_group w (actors i) ≡ 0 → (q : Option ℕ) → place ≡ q
            → KeepsRule p w m events s actors i (op.Add (of_task w k TaskReferences) 1) (word_on TaskReferences) (to_task (behind_raises q t) (actors i), outcome.Quiet)
        go none None e =
            step (task.StartNow t) (uncounted (to_task (task.StartNow t) (actors i)) refl none)
            (ap (Ahead.making p (encounter_of s (actors i).context) (actors i).stack) (sym e))
            (subst (λ (q : Option ℕ). IsTaskGot p (actors i) q t) e (fits p w m events s actors i before E at))
            (placed p w m events s actors i before E at)
            (subst (λ (q : Option ℕ). HasFilledTask p w Referred s (going (task.StartNow t) (actors i).gathered (actors i)) q t TASK_WORDS) e (now (task.StartNow t)))
        go none (Some j) e =
            step (task.Defer j t) (uncounted (to_task (task.Defer j t) (actors i)) refl none)
            (ap (Ahead.making p (encounter_of s (actors i).context) (actors i).stack) (sym e))
            (subst (λ (q : Option ℕ). IsTaskGot p (actors i) q t) e (fits p w m events s actors i before E at))
            (placed p w m events s actors i before E at)
            (subst (λ (q : Option ℕ). HasFilledTask p w Referred s (going (task.Defer j t) (actors i).gathered (actors i)) q t TASK_WORDS) e (now (task.Defer j t)))

        behind : (b : Bool) → new_group w (actors i) == 0 ≡ b
            → KeepsRule p w m events s actors i (op.Add (of_task w k TaskReferences) 1) (word_on TaskReferences) (to_task (if b then behind_raises place t else task.AddCount place t) (actors i), outcome.Quiet)
        behind true e = go (eqb-true (new_group w (actors i)) 0 e) place refl
        behind false e =
            let next = to_task (task.AddCount place t) (actors i) in
            step (task.AddCount place t) (owed_after w Referred s actors i next (with_reference (actors i).context t) refl referred) refl
            (fits p w m events s actors i before E at) (placed p w m events s actors i before E at)
            (now (task.AddCount place t), λ same. cc (eq-eqb (new_group w (actors i)) 0 same, e))
