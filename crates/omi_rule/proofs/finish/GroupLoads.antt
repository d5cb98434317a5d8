-- The thread of an explicit task that has finished loads the task's group. Where it has none, no count is to be lowered.
use Rattle.std.proofs.Common.{◌≡◌, ◌≢◌, ◌==◌, ◌<◌, ℕ, Bool, true, false, List, Option, Some, None, refl, sym, ap, ◌∙◌, arith, eqb-true, eq-eqb, lt-ltb, if◌then◌else◌}
use Rattle.std.specs.Option.{option_and_then}
use Rattle.omi_word.specs.declared.op.Op.TheVariants as op
use Rattle.omi_script.specs.declared.program.Program.{Program}
use Rattle.omi_model.specs.declared.event.Event.{Event}
use Rattle.omi_model.specs.declared.id.Tid.{Tid}
use Rattle.omi_model.specs.declared.task.Task.{Task}
use Rattle.omi_model.specs.State.{State}
use Rattle.omi_layout.specs.declared.field.Field.TheVariants.{TaskSlots}
use Rattle.omi_layout.specs.declared.limits.TheConstants.{GROUP_PLACE}
use Rattle.omi_layout.specs.Field.{tasks}
use Rattle.omi_layout.specs.Memory.{Memory}
use Rattle.omi_layout.specs.Named.{number}
use Rattle.omi_layout.specs.Table.{width}
use Rattle.omi_layout.proofs.Numbers.{numbered_field}
use Rattle.omi_layout.proofs.SlotWords.{group_word_within}
use Rattle.omi_pc.specs.declared.actor.Actor.{Actor}
use Rattle.omi_pc.specs.declared.counter.Counter.{Counter}
use Rattle.omi_pc.specs.declared.counter.Counter.TheVariants as counter
use Rattle.omi_pc.specs.declared.frame.Wait.{Wait}
use Rattle.omi_pc.specs.declared.place.Place.{Place}
use Rattle.omi_pc.specs.declared.task_counter.FinishCounter.TheVariants as finish
use Rattle.omi_pc.specs.Fits.{HasFinished}
use Rattle.omi_rep.specs.Codes.{group_code, task_told}
use Rattle.omi_rep.specs.Records.{group_word}
use Rattle.omi_rep.specs.declared.outcome.Outcome.TheVariants as outcome
use Rattle.omi_rule_words.specs.Groups.{group_of}
use Rattle.omi_rule_words.specs.Owes.{Owed, all_owed, nothing, owed}
use Rattle.omi_rule_words.proofs.CountWords.{uncounted_keeps}
use Rattle.omi_step_words.specs.Placed.{HasTask, HasTaskPlace}
use Rattle.omi_step_words.specs.Words.{of_groups}
use Rattle.omi_task.specs.FinishSteps.{finish_moved, finish_next, finish_outcome}
use Rattle.omi_rule.specs.Rows.{HasEndedUnder, place_of}
use Rattle.omi_rule.specs.Steps.{KeepsRule, RecordWord, StepKeeps}
use Rattle.omi_rule.proofs.Assembly.{Before, load_settles}
use Rattle.omi_rule.proofs.KeptObjects.{task_kept}
use Rattle.omi_rule.proofs.Owing.{owed_after}
use Rattle.omi_rule.proofs.barrier.AtCounter.{ahead_is, at_counter, fits_counter, front_is, load_quiet, owes_now, placed_counter, row_is, thread_with}
use Rattle.omi_rule.proofs.finish.GivenTasks.{same_end}
use Rattle.omi_rule.proofs.Groups.{some_group, ungrouped}

module _ (p : Program) (w : List ℕ) (m : Memory) (events : List (ℕ × Event)) (s : State) (actors : ℕ → Actor)
    (i : ℕ) (before : Before p w m events s actors i) (v : Option Wait) (t : Tid) (place : Place)
    (at : (actors i).counter ≡ counter.Finish (finish.LoadGroup v t place)) where
  abbrev a : Actor
  a = actors i

  abbrev standing : Counter
  standing = counter.Finish (finish.LoadGroup v t place)

  abbrev on_group : RecordWord
  on_group = record { creator = t.0.creator; slot = t.0.slot; field = TaskSlots; place = GROUP_PLACE }

  abbrev word : ℕ
  word = m t.0.creator tasks t.0.slot (number TaskSlots) GROUP_PLACE

  ended : HasEndedUnder s a t (λ g. place_of g.0 ≡ place)
  ended = row_is p w m events s actors i before standing at tt

  fits : HasFinished p a v t place
  fits = fits_counter p w m events s actors i before standing at tt

  placed : HasTask w t × HasTaskPlace w place
  placed = placed_counter p w m events s actors i before standing at tt

  inside : GROUP_PLACE < width w (number TaskSlots)
  inside = group_word_within w GROUP_PLACE before.suits.groups (omega arith)

  word_is : word ≡ group_word w ended.task.group
  word_is =
      (task_kept p w m events s actors before.rule t ended.task ended.live).environment TaskSlots GROUP_PLACE (group_word w ended.task.group) refl
      (ap (λ (b : Bool). if b then group_code w (task_told ended.task) GROUP_PLACE else None) (lt-ltb GROUP_PLACE (width w (number TaskSlots)) inside))

  owes : owed a ≡ record nothing { pending = Some a.context.region; uncounted = Some t; own = Some t }
  owes = owes_now p w m events s actors i before standing at tt

  abbrev Goes : Counter → Type 0
  Goes to = KeepsRule p w m events s actors i (op.Load (of_groups w t GROUP_PLACE)) on_group (at_counter to a, outcome.Quiet)

  -- it has no group
  none_keeps : word ≡ 0 → Goes (counter.Finish (finish.SubtractReferences v t place))
  none_keeps none =
      let to : Counter = counter.Finish (finish.SubtractReferences v t place) in
      let ungroups : group_of s t ≡ None =
      ap (option_and_then (λ (x : Task). x.group)) ended.live ∙ ungrouped w before.valid ended.task.group word word_is none in
      load_settles p w m events s actors i before (of_groups w t GROUP_PLACE) on_group (at_counter to a)
      (owed_after w m s actors i (at_counter to a) (record (owed a) { uncounted = None })
      (ap (λ (o : Owed). record o { uncounted = None }) (sym owes))
      (uncounted_keeps w m s (all_owed actors) i t before.rule.words before.known (ap (λ (o : Owed). o.uncounted) owes) ungroups))
      (thread_with p w m events s actors i before standing at tt m to (record {
        fits = fits;
        placed = placed;
        ahead = ahead_is p w m events s actors i before standing at tt;
        front = front_is p w m events s actors i before standing at tt;
        row = same_end s a to t (λ g. place_of g.0 ≡ place) ended;
        ended = tt;
      }))

  some_keeps : word ≢ 0 → Goes (counter.Finish (finish.SubtractCount v t place word))
  some_keeps some =
      let to : Counter = counter.Finish (finish.SubtractCount v t place word) in
      let (g, is) = some_group w ended.task.group word word_is some in
      load_quiet p w m events s actors i before standing at tt (of_groups w t GROUP_PLACE) on_group to (record {
        fits = fits;
        placed = placed;
        ahead = ahead_is p w m events s actors i before standing at tt;
        front = front_is p w m events s actors i before standing at tt;
        owes = refl;
        row = (
          same_end s a to t (λ h. place_of h.0 ≡ place) ended,
          (g, ap (option_and_then (λ (x : Task). x.group)) ended.live ∙ is, sym (word_is ∙ ap (group_word w) is)),
        );
        ended = tt;
      })

  pub load_group_keeps : StepKeeps p w m events s actors i (finish_next w (actors i) (finish.LoadGroup v t place)) (λ old. (finish_moved p w (actors i) (finish.LoadGroup v t place) old, finish_outcome (actors i) (finish.LoadGroup v t place)))
  load_group_keeps = (
    on_group,
    record { there = record { field = numbered_field TaskSlots; record_slot = placed.0; within = inside }; address = refl },
    go (word == 0) refl,
  )
    where
      go : (b : Bool) → word == 0 ≡ b
          → Goes (counter.Finish (if b then finish.SubtractReferences v t place else finish.SubtractCount v t place word))
      go true e = none_keeps (eqb-true word 0 e)
      go false e = some_keeps (λ same. cc (eq-eqb word 0 same, e))
