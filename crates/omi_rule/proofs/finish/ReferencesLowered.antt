-- An explicit task that has finished refers to its own record no more; where that was the last reference, its thread is to give it back.
use Rattle.std.proofs.Common.{◌≡◌, ◌<◌, ◌^◌, ◌==◌, ℕ, Bool, true, false, inl, List, Option, Some, refl, sym, ap, subst, arith, if◌then◌else◌, ◌≢◌}
use Rattle.omi_script.specs.declared.program.Program.{Program}
use Rattle.omi_model.specs.declared.event.Event.{Event}
use Rattle.omi_model.specs.declared.id.Tid.{Tid}
use Rattle.omi_model.specs.State.{State}
use Rattle.omi_model.specs.declared.freeable.Freeable.TheVariants as freeable
use Rattle.omi_layout.specs.Memory.{Memory, replace_at, IsRecordWord}
use Rattle.omi_layout.specs.Named.{number}
use Rattle.omi_layout.proofs.Numbers.{numbered_field}
use Rattle.omi_layout.specs.declared.field.Field.TheVariants.{TaskReferences}
use Rattle.omi_pc.specs.declared.actor.Actor.{Actor}
use Rattle.omi_pc.specs.declared.counter.Counter.TheVariants as counter
use Rattle.omi_pc.specs.declared.place.Place.{Place}
use Rattle.omi_pc.specs.declared.frame.Wait.{Wait}
use Rattle.omi_pc.specs.declared.task_counter.FinishCounter.TheVariants as finish
use Rattle.omi_pc.specs.declared.counter.Counter.{Counter}
use Rattle.omi_pc.specs.Fits.{HasFinished}
use Rattle.omi_task.specs.FinishSteps.{finish_moved, finish_next, finish_outcome}
use Rattle.omi_rule.specs.Steps.{StepKeeps, KeepsRule, RecordWord}
use Rattle.omi_rule.proofs.Assembly.{Before, quiet_keeps, spares_task}
use Rattle.omi_rule.specs.Rows.{HasEndedUnder, place_of}
use Rattle.omi_rule.proofs.KeptObjects.{task_kept}
use Rattle.omi_rule.proofs.Owing.{owed_after}
use Rattle.omi_rule.proofs.barrier.AtCounter.{StandsAt, ahead_is, at_counter, fits_counter, owes_now, placed_counter, row_is, thread_with, wide, front_is, here}
use Rattle.omi_rule.proofs.finish.GivenTasks.{given_explicit, same_end}
use Rattle.omi_rule.proofs.CountsFew.{references_few}
use Rattle.omi_rule.specs.Chains.{IsPassable}
use Rattle.omi_rule.proofs.RowsStay.{Spares}
use Rattle.omi_word.specs.declared.op.Op.TheVariants as op
use Rattle.omi_rep.specs.declared.outcome.Outcome.TheVariants as outcome
use Rattle.omi_rule_words.proofs.StoredCodes.{place_apart}
use Rattle.omi_rule_words.specs.CountKinds.{one_less, with_task_word, word_of_task}
use Rattle.omi_rule_words.specs.Owes.{Owed, all_owed, nothing, owed}
use Rattle.omi_rule_words.specs.Words.{KeepsWords}
use Rattle.omi_rule_words.specs.FreeKinds.{given_at}
use Rattle.omi_rule_words.proofs.ReferenceCounts.{own_subtracts_keep}
use Rattle.omi_step_words.specs.Placed.{HasTask, HasTaskPlace}
use Rattle.omi_step_words.specs.Words.{of_task}

module _ (p : Program) (w : List ℕ) (m : Memory) (events : List (ℕ × Event)) (s : State) (actors : ℕ → Actor)
    (i : ℕ) (before : Before p w m events s actors i) (v : Option Wait) (t : Tid) (place : Place)
    (at : (actors i).counter ≡ counter.Finish (finish.SubtractReferences v t place)) where
  abbrev a : Actor
  a = actors i

  abbrev standing : Counter
  standing = counter.Finish (finish.SubtractReferences v t place)

  abbrev on_references : RecordWord
  on_references = record { creator = t.0.creator; slot = t.0.slot; field = TaskReferences; place = 0 }

  abbrev word : ℕ
  word = word_of_task m t TaskReferences

  abbrev n : Memory
  n = with_task_word m t TaskReferences (one_less word)

  ended : HasEndedUnder s a t (λ g. place_of g.0 ≡ place)
  ended = row_is p w m events s actors i before standing at tt

  fits : HasFinished p a v t place
  fits = fits_counter p w m events s actors i before standing at tt

  placed : HasTask w t × HasTaskPlace w place
  placed = placed_counter p w m events s actors i before standing at tt

  front : (here p w m events s actors i before standing at tt).task.frees ≡ Some (freeable.Finished t)
  front = front_is p w m events s actors i before standing at tt

  -- the word counts references, which are few
  few : word < 2 ^ 64
  few =
      let count = (task_kept p w m events s actors before.rule t ended.task ended.live).counts.references in
      let most = references_few w s before.valid before.rule.within.count (all_owed actors) t ended.task in
      omega (arith, count, most)

  -- what the thread owes then
  abbrev owing : Option Tid → Owed
  owing given = record nothing { pending = Some a.context.region; gives = given }

  words : KeepsWords w n s (replace_at (all_owed actors) i (owing (given_at t ended.task word)))
  words =
      own_subtracts_keep w m s (all_owed actors) i a.context.region t ended.task before.rule.words before.known
      (owes_now p w m events s actors i before standing at tt) ended.live few

  abbrev Goes : Counter → Type 0
  Goes to =
      KeepsRule p w m events s actors i (op.Sub (of_task w t TaskReferences) 1) on_references (at_counter to a, outcome.Quiet)

  -- the other threads name no word that is stored
  spared : (j : ℕ) → j ≢ i → Spares m n s j (actors j)
  spared j other =
      spares_task m s t ended.task TaskReferences 0 (one_less word) j (actors j) ended.live (inl (λ same. omega (arith, same)))
      (λ f of field deferred known is. place_apart f TaskReferences of refl field)

  -- the step leads to a counter
  leads : (to : Counter) → owed (at_counter to a) ≡ owing (given_at t ended.task word)
      → StandsAt p w m events s actors i before standing at tt n to → Goes to
  leads to owes stands_at =
      quiet_keeps p w m events s actors i before (op.Sub (of_task w t TaskReferences) 1) on_references (at_counter to a, outcome.Quiet) refl
      (owed_after w n s actors i (at_counter to a) (owing (given_at t ended.task word)) owes words)
      spared (thread_with p w m events s actors i before standing at tt n to stands_at)

  -- where this was not the last reference, the record stays
  by_last : (b : Bool) → word == 1 ≡ b → Goes (counter.Finish (if b then finish.Free v t place else finish.SubtractPending v))
  by_last true e =
      leads (counter.Finish (finish.Free v t place)) (ap owing (sym (given_explicit t ended.task word true ended.explicit e)))
      (record {
        fits = fits;
        placed = placed;
        ahead = ahead_is p w m events s actors i before standing at tt;
        front = front;
        row = same_end s a (counter.Finish (finish.Free v t place)) t (λ g. place_of g.0 ≡ place) ended;
        ended = tt;
      })
  by_last false e =
      leads (counter.Finish (finish.SubtractPending v)) (ap owing (sym (given_explicit t ended.task word false ended.explicit e)))
      (record {
        fits = fits.0;
        placed = tt;
        ahead = ahead_is p w m events s actors i before standing at tt;
        front = subst IsPassable (sym front) tt;
        row = tt;
        ended = tt;
      })

  references_there : IsRecordWord w t.0.creator t.0.slot (number TaskReferences) 0
  references_there = record {
    field = numbered_field TaskReferences;
    record_slot = placed.0;
    within = wide p w m events s actors i before standing at tt (number TaskReferences);
  }

  pub subtract_references_keeps : StepKeeps p w m events s actors i (finish_next w (actors i) (finish.SubtractReferences v t place))
      (λ old. (finish_moved p w (actors i) (finish.SubtractReferences v t place) old, finish_outcome (actors i) (finish.SubtractReferences v t place)))
  subtract_references_keeps = (
    on_references,
    record { there = references_there; address = refl },
    by_last (word == 1) refl,
  )
