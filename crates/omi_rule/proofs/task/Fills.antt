-- The record of a new task is taken, and filled word by word.
use Rattle.std.proofs.Common.{◌≡◌, ◌+◌, ◌*◌, ◌<◌, nat_lt, ℕ, Bool, true, false, List, [], ◌∷◌, ◌++◌, Option, Some, None, refl, sym, ap, ◌∙◌, subst, arith, ltb-true, if◌then◌else◌}
use Rattle.std.proofs.lemmas.Bool.Decides.{nat_tests}
use Rattle.std.proofs.lemmas.List.Elements.{All-head}
use Rattle.omi_word.specs.declared.op.Op.TheVariants as op
use Rattle.omi_script.specs.declared.program.Program.{Program}
use Rattle.omi_model.specs.declared.event.Event.{Event}
use Rattle.omi_model.specs.declared.id.Tid.{Tid}
use Rattle.omi_model.specs.Fresh.{IsFresh}
use Rattle.omi_model.specs.State.{State}
use Rattle.omi_model.proofs.Slots.{found_live, none_some}
use Rattle.omi_layout.specs.declared.limits.TheConstants.{FIELDS}
use Rattle.omi_layout.specs.declared.field.Field.TheVariants.{TaskLife, TaskSlots}
use Rattle.omi_layout.specs.Field.{tasks}
use Rattle.omi_layout.specs.Memory.{Memory, replace_at, with_word, word_address}
use Rattle.omi_layout.specs.Named.{number}
use Rattle.omi_layout.specs.Place.{IsSlot}
use Rattle.omi_layout.proofs.Puts.{word_read, word_stays}
use Rattle.omi_pc.specs.declared.actor.Actor.{Actor}
use Rattle.omi_pc.specs.declared.counter.Counter.TheVariants as counter
use Rattle.omi_pc.specs.declared.limits.TheConstants.{TASK_WORDS}
use Rattle.omi_pc.specs.declared.task_counter.TaskCounter.{TaskCounter}
use Rattle.omi_pc.specs.declared.task_counter.TaskCounter.TheVariants as task
use Rattle.omi_rep.specs.declared.outcome.Outcome.TheVariants as outcome
use Rattle.omi_rule_words.specs.Counts.{has_slot}
use Rattle.omi_rule_words.specs.Owes.{Owed, all_owed, in_the_making, nothing, owed}
use Rattle.omi_rule_words.specs.Words.{IsInTheMaking, KeepsMaking, KeepsWords}
use Rattle.omi_rule_words.proofs.Fills.{task_fills_keep}
use Rattle.omi_rule_words.proofs.Moves.{moves_keep}
use Rattle.omi_rule_words.proofs.TaskTakes.{task_takes_keep}
use Rattle.omi_step_words.specs.declared.plan.Planned.{Planned}
use Rattle.omi_step_words.specs.Moving.{to_task}
use Rattle.omi_step_words.specs.Plan.{filling, task_plan}
use Rattle.omi_step_words.specs.Words.{of_task, used_word}
use Rattle.omi_step_words.proofs.Rising.{task_stores}
use Rattle.omi_task.specs.MakingSteps.{making_moved, making_next, making_outcome, new_task}
use Rattle.omi_rule.specs.Rows.{HasLoaded, HasPlace, IsFilled}
use Rattle.omi_rule.specs.Rule.{KeepsThread}
use Rattle.omi_rule.specs.Steps.{KeepsRule, RecordWord, StepKeeps, left_in}
use Rattle.omi_rule.proofs.Assembly.{Before, quiet_keeps, spares_own}
use Rattle.omi_rule.proofs.Owing.{owed_after}
use Rattle.omi_rule.proofs.RowsStay.{Spares}
use Rattle.omi_rule.proofs.task.Searches.{loaded_goes}
use Rattle.omi_rule.proofs.task.Within.{fits, going, goes_on, own, own_slots, owes, placed, row}
use Rattle.omi_rule.proofs.team.Plans.{IsPlannedWord, fill_next, planned_there, task_planned}

module _ (p : Program) (w : List ℕ) (m : Memory) (events : List (ℕ × Event)) (s : State) (actors : ℕ → Actor)
    (i : ℕ) (before : Before p w m events s actors i) (place : Option ℕ) (t : Tid) where
  -- ---- the record of a live task has no word stored, so a slot in it stays as it is

  module _ (C : TaskCounter) (at : (actors i).counter ≡ counter.Task C)
      (empty : (s.tasks i t.0.slot).live ≡ None) (f k v : ℕ) where
    place_stays : (q : Option ℕ) → HasPlace p m (actors i) q
        → HasPlace p (with_word m i tasks t.0.slot f k v) (actors i) q
    place_stays None o = tt
    place_stays (Some j) (defers, within, none) =
        let slots = own_slots p w m events s actors i before C at in (
          defers,
          within,
          word_stays m i tasks t.0.slot f k v (actors i).context.row.0.creator tasks
              (actors i).context.row.0.slot (number TaskSlots) j
              (λ c _ q _ _. none_some (subst (λ x. (s.tasks x (actors i).context.row.0.slot).live ≡ None) (sym c) (subst (λ x. (s.tasks i x).live ≡ None) (sym q) empty)) (found_live (actors i).context.row.0.generation (s.tasks (actors i).context.row.0.creator (actors i).context.row.0.slot) slots.task slots.live)) ∙ none,
        )

    loaded_stays : HasLoaded p w m s (actors i) place
        → HasLoaded p w (with_word m i tasks t.0.slot f k v) s (actors i) place
    loaded_stays ((o, variables), group) = ((place_stays place o, variables), group)

  -- ---- a record is taken

  module _ (at : (actors i).counter ≡ counter.Task (task.Take place t)) where
    abbrev C : TaskCounter
    C = task.Take place t

    abbrev X : RecordWord
    X = record { creator = i; slot = t.0.slot; field = TaskLife; place = 0 }

    abbrev Then : Actor
    Then = going (task.Fill place t 0) (actors i).gathered (actors i)

    abbrev N : Memory
    N = with_word m i tasks t.0.slot (number TaskLife) 0 (2 * t.0.generation + 1)

    fresh : IsFresh s.tasks i t.0
    fresh = (row p w m events s actors i before C at).1

    taken : KeepsWords w N s (all_owed (replace_at actors i Then))
    taken =
        let o : owed (actors i) ≡ nothing = owes p w m events s actors i before C at in
        owed_after w N s actors i Then (in_the_making t) refl
        (subst (λ (x : Owed). KeepsWords w N s (replace_at (all_owed actors) i (record x { tasks = x.tasks ++ t ∷ [] }))) o
        (task_takes_keep w m s (all_owed actors) i t before.rule.words (record { maker = fresh.creator; free = fresh.empty; next = fresh.next })
        (ap (λ (x : Owed). has_slot t.0.slot x.tasks) o)))

    pub take_keeps : StepKeeps p w m events s actors i (making_next p w (actors i) C) (λ old. (making_moved p w (actors i) C old, making_outcome w (actors i) C old))
    take_keeps =
        let there = placed p w m events s actors i before C at in (
          X,
          record {
            there = record { field = record { from = omega arith; to = omega arith }; record_slot = subst (λ j. IsSlot w tasks j t.0.slot) fresh.creator there; within = omega arith };
            address = ap (λ j. word_address w j t.0.slot (number TaskLife) 0) fresh.creator;
          },
          quiet_keeps p w m events s actors i before (op.Store (of_task w t TaskLife) (used_word t.0)) X
              (Then, outcome.Quiet) refl taken
              (λ j other. spares_own m s i tasks t.0.slot (number TaskLife) 0 (2 * t.0.generation + 1) j (actors j) other (λ _. fresh.empty))
              (goes_on p w m events s actors i before C at N (task.Fill place t 0) (actors i).gathered (own p w m events s actors i before C at).fits.variables refl
              (fits p w m events s actors i before C at, omega arith) there
              (loaded_goes p w N s (actors i) (task.Fill place t 0) place (loaded_stays C at fresh.empty (number TaskLife) 0 (2 * t.0.generation + 1) (row p w m events s actors i before C at).0), fresh.below, λ j below. absurd (omega (arith, below)))),
        )

  -- ---- a word is filled

  module _ (word : ℕ) (at : (actors i).counter ≡ counter.Task (task.Fill place t word)) where
    abbrev D : TaskCounter
    D = task.Fill place t word

    abbrev Word : Planned
    Word = task_plan w (new_task p w (actors i)) word

    abbrev Y : RecordWord
    Y = record { creator = i; slot = t.0.slot; field = (task_plan w (new_task p w (actors i)) word).field; place = (task_plan w (new_task p w (actors i)) word).at }

    abbrev After : Memory
    After =
        with_word m i tasks t.0.slot (number (task_plan w (new_task p w (actors i)) word).field)
        (task_plan w (new_task p w (actors i)) word).at (task_plan w (new_task p w (actors i)) word).value

    below : word < TASK_WORDS
    below = (fits p w m events s actors i before D at).1

    planned : IsPlannedWord w tasks (number TaskLife) (FIELDS + 1) Word
    planned = task_planned w (new_task p w (actors i)) word before.suits.groups below

    making : IsInTheMaking i (s.tasks i) t.0
    making =
        let made =
        subst (KeepsMaking s i) (owes p w m events s actors i before D at)
        (before.rule.words.made i before.known).making in
        All-head (λ (k : Tid). IsInTheMaking i (s.tasks i) k.0) t [] made.tasks

    left : left_in m (filling w t.0 Word) Y ≡ After
    left = ap (λ kind. with_word m i kind t.0.slot (number Word.field) Word.at Word.value) planned.kind_is

    words_filled : IsFilled (After t.0.creator tasks t.0.slot) (task_plan w (new_task p w (actors i))) (word + 1)
    words_filled =
        subst (λ c. IsFilled (After c tasks t.0.slot) (task_plan w (new_task p w (actors i))) (word + 1))
        (sym making.maker)
        (fill_next (m i tasks t.0.slot) (After i tasks t.0.slot) (task_plan w (new_task p w (actors i))) word TASK_WORDS
        (word_read m i tasks t.0.slot (number Word.field) Word.at Word.value)
        (λ f k apart. word_stays m i tasks t.0.slot (number Word.field) Word.at Word.value i tasks t.0.slot f k (λ _ _ _ field same. apart field same))
        (task_stores w (new_task p w (actors i))) below
        (subst (λ c. IsFilled (m c tasks t.0.slot) (task_plan w (new_task p w (actors i))) word) making.maker (row p w m events s actors i before D at).2))

    stored : (b : Actor) → owed b ≡ owed (actors i) → KeepsWords w After s (all_owed (replace_at actors i b))
    stored b same =
        moves_keep w After s actors i b
        (task_fills_keep w m s (all_owed actors) i t.0.slot Word.field Word.at Word.value before.rule.words making.free (let above = planned.above in λ life. absurd (omega (arith, above, life)))) same

    pub fill_keeps : StepKeeps p w m events s actors i (making_next p w (actors i) D) (λ old. (making_moved p w (actors i) D old, making_outcome w (actors i) D old))
    fill_keeps = (
      Y,
      record {
        there = planned_there w tasks (number TaskLife) (FIELDS + 1) i t.0.slot Word (omega arith) (subst (λ j. IsSlot w tasks j t.0.slot) making.maker (placed p w m events s actors i before D at)) planned;
        address = ap (λ j. word_address w j t.0.slot (number Word.field) Word.at) making.maker;
      },
      go (nat_lt (word + 1) TASK_WORDS) refl,
    )
      where
        step : (b : Actor) → owed b ≡ owed (actors i) → KeepsThread p w After events s i b
            → KeepsRule p w m events s actors i (filling w t.0 Word) Y (b, outcome.Quiet)
        step b same thread =
            quiet_keeps p w m events s actors i before (filling w t.0 Word) Y (b, outcome.Quiet) refl
            (subst (λ (n : Memory). KeepsWords w n s (all_owed (replace_at actors i b))) (sym left) (stored b same))
            (λ j other. subst (λ (n : Memory). Spares m n s j (actors j)) (sym left) (spares_own m s i tasks t.0.slot (number Word.field) Word.at Word.value j (actors j) other (λ _. making.free)))
            (subst (λ (n : Memory). KeepsThread p w n events s i b) (sym left) thread)

        stays_loaded : (d : TaskCounter) → HasLoaded p w After s (going d (actors i).gathered (actors i)) place
        stays_loaded d =
            loaded_goes p w After s (actors i) d place
            (loaded_stays D at making.free (number Word.field) Word.at Word.value (row p w m events s actors i before D at).0)

        go : (b : Bool) → nat_lt (word + 1) TASK_WORDS ≡ b
            → KeepsRule p w m events s actors i (filling w t.0 Word) Y (to_task (if b then task.Fill place t (word + 1) else task.AddPending place t) (actors i), outcome.Quiet)
        go true e =
            let d : TaskCounter = task.Fill place t (word + 1) in
            step (to_task d (actors i)) (sym (owes p w m events s actors i before D at))
            (goes_on p w m events s actors i before D at After d (actors i).gathered (own p w m events s actors i before D at).fits.variables refl
            ((fits p w m events s actors i before D at).0, ltb-true (word + 1) TASK_WORDS e)
            (placed p w m events s actors i before D at)
            (stays_loaded d, (row p w m events s actors i before D at).1, words_filled))
        go false e =
            let all : word + 1 ≡ TASK_WORDS = grind (arith, nat_tests, below) in
            let d : TaskCounter = task.AddPending place t in
            step (to_task d (actors i)) (sym (owes p w m events s actors i before D at))
            (goes_on p w m events s actors i before D at After d (actors i).gathered (own p w m events s actors i before D at).fits.variables refl
            (fits p w m events s actors i before D at).0 (placed p w m events s actors i before D at)
            (stays_loaded d, (row p w m events s actors i before D at).1, subst (IsFilled (After t.0.creator tasks t.0.slot) (task_plan w (new_task p w (actors i)))) all words_filled))
