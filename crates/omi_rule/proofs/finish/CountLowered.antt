-- The count of the group of an explicit task, which has finished, is lowered.
use Rattle.std.proofs.Common.{◌≡◌, ◌+◌, ◌<◌, ◌^◌, inl, ℕ, List, Option, Some, None, refl, sym, ap, ap₂, ◌∙◌, arith, subst}
use Rattle.std.specs.Option.{option_and_then}
use Rattle.std.specs.Prelude.{IsSome}
use Rattle.omi_word.specs.declared.op.Op.TheVariants as op
use Rattle.omi_script.specs.declared.program.Program.{Program}
use Rattle.omi_model.specs.declared.event.Event.{Event}
use Rattle.omi_model.specs.declared.group.Group.{Group}
use Rattle.omi_model.specs.declared.id.Tid.{Tid}
use Rattle.omi_model.specs.declared.task.Task.{Task}
use Rattle.omi_model.specs.LawGroups.{IsMemberOf}
use Rattle.omi_model.specs.State.{State}
use Rattle.omi_model.proofs.groups.GroupLaws.{groups_right}
use Rattle.omi_layout.specs.declared.field.Field.TheVariants.{TaskSlots}
use Rattle.omi_layout.specs.declared.limits.TheConstants.{COUNT_PLACE}
use Rattle.omi_layout.specs.Memory.{Memory, replace_at, word_address}
use Rattle.omi_layout.specs.Named.{number}
use Rattle.omi_layout.proofs.Numbers.{numbered_field}
use Rattle.omi_layout.proofs.SlotWords.{group_word_within}
use Rattle.omi_pc.specs.declared.actor.Actor.{Actor}
use Rattle.omi_pc.specs.declared.counter.Counter.{Counter}
use Rattle.omi_pc.specs.declared.counter.Counter.TheVariants as counter
use Rattle.omi_pc.specs.declared.frame.Wait.{Wait}
use Rattle.omi_pc.specs.declared.place.Place.{Place}
use Rattle.omi_pc.specs.declared.task_counter.FinishCounter.TheVariants as finish
use Rattle.omi_pc.specs.Fits.{HasFinished}
use Rattle.omi_rep.specs.Records.{group_word}
use Rattle.omi_rep.specs.declared.outcome.Outcome.TheVariants as outcome
use Rattle.omi_rule_words.specs.CountKinds.{count_of, one_less, with_count_of}
use Rattle.omi_rule_words.specs.Groups.{group_of}
use Rattle.omi_rule_words.specs.Owes.{Owed, all_owed, nothing, owed}
use Rattle.omi_rule_words.specs.Words.{KeepsWords}
use Rattle.omi_rule_words.proofs.CountWords.{count_subtracts_keep}
use Rattle.omi_rule_words.proofs.StoredCodes.{place_apart}
use Rattle.omi_step_words.specs.Placed.{HasTask, HasTaskPlace}
use Rattle.omi_step_words.specs.Words.{of_group_count}
use Rattle.omi_task.specs.FinishSteps.{finish_moved, finish_next, finish_outcome}
use Rattle.omi_rule.specs.Rows.{HasEndedUnder, place_of}
use Rattle.omi_rule.specs.Steps.{RecordWord, StepKeeps}
use Rattle.omi_rule.proofs.Assembly.{Before, quiet_keeps, spares_task}
use Rattle.omi_rule.proofs.CountsFew.{members_few}
use Rattle.omi_rule.proofs.Groups.{index_read, owner_read}
use Rattle.omi_rule.proofs.KeptObjects.{task_there}
use Rattle.omi_rule.proofs.Owing.{owed_after}
use Rattle.omi_rule.proofs.barrier.AtCounter.{ahead_is, at_counter, fits_counter, front_is, owes_now, placed_counter, row_is, thread_with}
use Rattle.omi_rule.proofs.finish.GivenTasks.{same_end}

module _ (p : Program) (w : List ℕ) (m : Memory) (events : List (ℕ × Event)) (s : State) (actors : ℕ → Actor)
    (i : ℕ) (before : Before p w m events s actors i) (v : Option Wait) (t : Tid) (place : Place) (word : ℕ)
    (at : (actors i).counter ≡ counter.Finish (finish.SubtractCount v t place word)) where
  abbrev a : Actor
  a = actors i

  abbrev standing : Counter
  standing = counter.Finish (finish.SubtractCount v t place word)

  abbrev to : Counter
  to = counter.Finish (finish.SubtractReferences v t place)

  row : HasEndedUnder s a t (λ g. place_of g.0 ≡ place) × ((x : Group) × (group_of s t ≡ Some x) × (group_word w (Some x) ≡ word))
  row = row_is p w m events s actors i before standing at tt

  abbrev ended : HasEndedUnder s a t (λ g. place_of g.0 ≡ place)
  ended = row.0

  abbrev g : Group
  g = row.1.0

  fits : HasFinished p a v t place
  fits = fits_counter p w m events s actors i before standing at tt

  placed : HasTask w t × HasTaskPlace w place
  placed = placed_counter p w m events s actors i before standing at tt

  -- the group's owner lives
  member : IsMemberOf s ended.task g
  member =
      (groups_right p events s before.rule.reached t ended.task ended.live).member g
      (sym (ap (option_and_then (λ (x : Task). x.group)) ended.live) ∙ row.1.1)

  there : HasTask w g.owner
  there = task_there p w m events s actors before.rule g.owner member.owner member.live

  abbrev on_count : RecordWord
  on_count = record { creator = g.owner.0.creator; slot = g.owner.0.slot; field = TaskSlots; place = COUNT_PLACE + g.index }

  abbrev n : Memory
  n = with_count_of m g (one_less (count_of m g))

  address : of_group_count w word ≡ word_address w g.owner.0.creator g.owner.0.slot (number TaskSlots) (COUNT_PLACE + g.index)
  address =
      ap (of_group_count w) (sym row.1.2)
      ∙ ap₂ (λ (o : Place) k. word_address w o.creator o.slot (number TaskSlots) (COUNT_PLACE + k))
      (owner_read w before.valid g there member.index) (index_read w before.valid g there member.index)

  few : count_of m g < 2 ^ 64
  few =
      let counts = before.rule.words.groups.counts g.owner member.owner g.index member.live member.index in
      let most = members_few w s before.valid before.rule.within.count (all_owed actors) g in
      omega (arith, counts, most)

  owes : owed a ≡ record nothing { pending = Some a.context.region; uncounted = Some t; own = Some t }
  owes = owes_now p w m events s actors i before standing at tt

  words : KeepsWords w n s (all_owed (replace_at actors i (at_counter to a)))
  words =
      owed_after w n s actors i (at_counter to a) (record (owed a) { uncounted = None })
      (ap (λ (o : Owed). record o { uncounted = None }) (sym owes))
      (count_subtracts_keep w m s (all_owed actors) i t g before.rule.words before.known (ap (λ (o : Owed). o.uncounted) owes) row.1.1 (subst IsSome (sym member.live) refl) member.index few)

  pub subtract_count_keeps : StepKeeps p w m events s actors i (finish_next w (actors i) (finish.SubtractCount v t place word)) (λ old. (finish_moved p w (actors i) (finish.SubtractCount v t place word) old, finish_outcome (actors i) (finish.SubtractCount v t place word)))
  subtract_count_keeps = (
    on_count,
    record { there = record { field = numbered_field TaskSlots; record_slot = there; within = group_word_within w (COUNT_PLACE + g.index) before.suits.groups (let low = member.index in omega (arith, low)) }; address = address },
    quiet_keeps p w m events s actors i before (op.Sub (of_group_count w word) 1) on_count (at_counter to a, outcome.Quiet) refl words
        (λ j other. spares_task m s g.owner member.owner TaskSlots (COUNT_PLACE + g.index) (one_less (count_of m g)) j (actors j) member.live (inl (λ _. omega arith)) (λ f of same deferred known is. place_apart f TaskSlots of refl same))
        (thread_with p w m events s actors i before standing at tt n to (record {
          fits = fits;
          placed = placed;
          ahead = ahead_is p w m events s actors i before standing at tt;
          front = front_is p w m events s actors i before standing at tt;
          row = same_end s a to t (λ h. place_of h.0 ≡ place) ended;
          ended = tt;
        })),
  )
