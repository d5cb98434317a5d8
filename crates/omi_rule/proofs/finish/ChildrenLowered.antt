-- The word for unfinished children is lowered in the task that made an explicit task, which has finished.
use Rattle.std.proofs.Common.{◌≡◌, ◌<◌, ◌^◌, inl, ℕ, List, Option, Some, None, refl, sym, ap, ◌∙◌, subst, arith}
use Rattle.std.specs.Option.{option_and_then}
use Rattle.omi_word.specs.declared.op.Op.TheVariants as op
use Rattle.omi_script.specs.declared.program.Program.{Program}
use Rattle.omi_model.specs.declared.event.Event.{Event}
use Rattle.omi_model.specs.declared.id.Tid.{Tid}
use Rattle.omi_model.specs.declared.task.Task.{Task}
use Rattle.omi_model.specs.State.{State, task_of}
use Rattle.omi_model.proofs.NamesLive.{names_live}
use Rattle.omi_layout.specs.declared.field.Field.TheVariants.{TaskChildren}
use Rattle.omi_layout.specs.Memory.{Memory, replace_at}
use Rattle.omi_layout.specs.Named.{number}
use Rattle.omi_layout.proofs.Numbers.{numbered_field}
use Rattle.omi_pc.specs.declared.actor.Actor.{Actor}
use Rattle.omi_pc.specs.declared.counter.Counter.{Counter}
use Rattle.omi_pc.specs.declared.counter.Counter.TheVariants as counter
use Rattle.omi_pc.specs.declared.frame.Wait.{Wait}
use Rattle.omi_pc.specs.declared.place.Place.{Place}
use Rattle.omi_pc.specs.declared.task_counter.FinishCounter.TheVariants as finish
use Rattle.omi_pc.specs.Fits.{HasFinished}
use Rattle.omi_rep.specs.declared.outcome.Outcome.TheVariants as outcome
use Rattle.omi_rule_words.proofs.StoredCodes.{place_apart}
use Rattle.omi_rule_words.specs.CountKinds.{one_less, with_task_word, word_of_task}
use Rattle.omi_rule_words.specs.Owes.{Owed, all_owed, nothing, owed}
use Rattle.omi_rule_words.specs.Words.{KeepsWords}
use Rattle.omi_rule_words.proofs.TaskCounts.{children_subtracts_keep}
use Rattle.omi_step_words.specs.Placed.{HasTask, HasTaskPlace}
use Rattle.omi_step_words.specs.Words.{of_place}
use Rattle.omi_task.specs.FinishSteps.{finish_moved, finish_next, finish_outcome}
use Rattle.omi_rule.specs.Rows.{HasEndedUnder, place_of}
use Rattle.omi_rule.specs.Steps.{KeepsRule, RecordWord, StepKeeps}
use Rattle.omi_rule.proofs.Assembly.{Before, quiet_keeps, spares_task}
use Rattle.omi_rule.proofs.CountsFew.{children_few}
use Rattle.omi_rule.proofs.KeptObjects.{task_kept}
use Rattle.omi_rule.proofs.Owing.{owed_after}
use Rattle.omi_rule.proofs.barrier.AtCounter.{StandsAt, ahead_is, at_counter, fits_counter, owes_now, placed_counter, row_is, thread_with, wide, front_is}
use Rattle.omi_rule.proofs.finish.GivenTasks.{same_end}

module _ (p : Program) (w : List ℕ) (m : Memory) (events : List (ℕ × Event)) (s : State) (actors : ℕ → Actor)
    (i : ℕ) (before : Before p w m events s actors i) (v : Option Wait) (t : Tid) (place : Place)
    (at : (actors i).counter ≡ counter.Finish (finish.SubtractChildren v t place)) where
  abbrev a : Actor
  a = actors i

  abbrev standing : Counter
  standing = counter.Finish (finish.SubtractChildren v t place)

  abbrev to : Counter
  to = counter.Finish (finish.LoadGroup v t place)

  abbrev on_children : Place → RecordWord
  on_children q = record { creator = q.creator; slot = q.slot; field = TaskChildren; place = 0 }

  ended : HasEndedUnder s a t (λ g. place_of g.0 ≡ place)
  ended = row_is p w m events s actors i before standing at tt

  fits : HasFinished p a v t place
  fits = fits_counter p w m events s actors i before standing at tt

  placed : HasTask w t × HasTaskPlace w place
  placed = placed_counter p w m events s actors i before standing at tt

  abbrev g : Tid
  g = ended.generating

  abbrev n : Memory
  n = with_task_word m g TaskChildren (one_less (word_of_task m g TaskChildren))

  maker : (u : Task) × (task_of s g ≡ Some u)
  maker =
      let (u, live, started) = ((names_live p events s before.rule.reached).tasks t ended.task ended.live).generating ended.generating ended.made_by in (u, live)

  few : word_of_task m g TaskChildren < 2 ^ 64
  few =
      let count = (task_kept p w m events s actors before.rule g maker.0 maker.1).counts.children in
      let most = children_few w s before.valid before.rule.within.count (all_owed actors) g in
      omega (arith, count, most)

  owes : owed a ≡ record nothing { pending = Some a.context.region; lowered = Some t; uncounted = Some t; own = Some t }
  owes = owes_now p w m events s actors i before standing at tt

  words : KeepsWords w n s (all_owed (replace_at actors i (at_counter to a)))
  words =
      owed_after w n s actors i (at_counter to a) (record (owed a) { lowered = None })
      (ap (λ (o : Owed). record o { lowered = None }) (sym owes))
      (children_subtracts_keep w m s (all_owed actors) i t g before.rule.words before.known (ap (λ (o : Owed). o.lowered) owes) (ap (λ o. option_and_then (λ x. x.generating) o) ended.live ∙ ended.made_by) few)

  stands_at : StandsAt p w m events s actors i before standing at tt n to
  stands_at = record { fits = fits; placed = placed; ahead = ahead_is p w m events s actors i before standing at tt; front = front_is p w m events s actors i before standing at tt; row = same_end s a to t (λ g. place_of g.0 ≡ place) ended; ended = tt }

  lowered : KeepsRule p w m events s actors i (op.Sub (of_place w (place_of g.0) TaskChildren) 1) (on_children (place_of g.0)) (at_counter to a, outcome.Quiet)
  lowered =
      quiet_keeps p w m events s actors i before (op.Sub (of_place w (place_of g.0) TaskChildren) 1)
      (on_children (place_of g.0)) (at_counter to a, outcome.Quiet) refl words
      (λ j other. spares_task m s g maker.0 TaskChildren 0 (one_less (word_of_task m g TaskChildren)) j (actors j) maker.1 (inl (λ same. omega (arith, same))) (λ f of field deferred known is. place_apart f TaskChildren of refl field))
      (thread_with p w m events s actors i before standing at tt n to stands_at)

  pub subtract_children_keeps : StepKeeps p w m events s actors i (finish_next w (actors i) (finish.SubtractChildren v t place)) (λ old. (finish_moved p w (actors i) (finish.SubtractChildren v t place) old, finish_outcome (actors i) (finish.SubtractChildren v t place)))
  subtract_children_keeps = (
    on_children place,
    record { there = record { field = numbered_field TaskChildren; record_slot = placed.1; within = wide p w m events s actors i before standing at tt (number TaskChildren) }; address = refl },
    subst (λ (q : Place). KeepsRule p w m events s actors i (op.Sub (of_place w q TaskChildren) 1) (on_children q) (at_counter to a, outcome.Quiet)) ended.knows lowered,
  )
