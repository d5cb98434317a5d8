-- Member 0 releases a barrier.
use Rattle.std.proofs.Common.{◌≡◌, ◌<◌, ◌+◌, ℕ, inl, List, length, Option, Some, refl, sym, ap, ◌∙◌, subst, arith}
use Rattle.std.specs.Option.{option_map}
use Rattle.std.proofs.lemmas.Option.{slice_get_within}
use Rattle.omi_word.specs.declared.op.Op.TheVariants as op
use Rattle.omi_script.specs.declared.program.Program.{Program}
use Rattle.omi_model.specs.declared.encounter.Encounter.{Encounter}
use Rattle.omi_model.specs.declared.event.Event.{Event}
use Rattle.omi_model.specs.declared.event.Event.TheVariants as event
use Rattle.omi_model.specs.declared.id.Rid.{Rid}
use Rattle.omi_model.specs.declared.item.Item.{Item}
use Rattle.omi_model.specs.declared.item.Item.TheVariants as item
use Rattle.omi_model.specs.declared.region.Region.{Region}
use Rattle.omi_model.specs.Barriers.{HasNoExplicit, HaveArrived, released}
use Rattle.omi_model.specs.Changes.{IsCurrent, on_region}
use Rattle.omi_model.specs.Lists.{take_item}
use Rattle.omi_model.specs.Reached.{Step}
use Rattle.omi_model.specs.State.{State, region_of}
use Rattle.omi_model.proofs.SlotEffects.{changed}
use Rattle.omi_model.proofs.MembersKnown.{members_known}
use Rattle.omi_model.proofs.Slots.{on_same, some_same}
use Rattle.omi_model.proofs.Steps.{at_current, current_moved, relisted}
use Rattle.omi_layout.specs.declared.field.Field.TheVariants.{RegionReleased}
use Rattle.omi_layout.specs.Memory.{Memory}
use Rattle.omi_pc.specs.declared.actor.Actor.{Actor}
use Rattle.omi_pc.specs.declared.counter.Counter.TheVariants as counter
use Rattle.omi_pc.specs.declared.frame.Barrier.{Barrier}
use Rattle.omi_pc.specs.declared.team_counter.BarrierCounter.{BarrierCounter}
use Rattle.omi_pc.specs.declared.team_counter.BarrierCounter.TheVariants as barrier
use Rattle.omi_rep.specs.declared.outcome.Outcome.TheVariants as outcome
use Rattle.omi_rule_words.specs.BarrierKinds.{with_region_word}
use Rattle.omi_rule_words.specs.Owes.{all_owed}
use Rattle.omi_rule_words.specs.Words.{KeepsWords}
use Rattle.omi_rule_words.proofs.RegionStores.{releases_keep}
use Rattle.omi_step_words.specs.Words.{of_region}
use Rattle.omi_fork.specs.BarrierSteps.{barrier_moved, barrier_next, barrier_outcome, of_current}
use Rattle.omi_rule.specs.Ahead.{passing}
use Rattle.omi_rule.specs.Chains.{KeepsContext}
use Rattle.omi_rule.specs.Rows.{HasReleased}
use Rattle.omi_rule.specs.Steps.{RecordWord, StepKeeps}
use Rattle.omi_rule.proofs.Assembly.{Before, spares_region}
use Rattle.omi_rule.proofs.Own.{ChangesTask}
use Rattle.omi_rule.proofs.OwnTask.{is_current}
use Rattle.omi_rule.proofs.barrier.AtBarrier.{fits_barrier, list_is, row}
use Rattle.omi_rule.proofs.barrier.AtCounter.{at_counter, here, region_there, region_word, sees, sees_number, stands, word_of}
use Rattle.omi_rule.proofs.barrier.Events.{event_leads_to, relisted_changes, relisted_state, relisted_words, steps}
use Rattle.omi_rule.proofs.barrier.Loads.{first_arrives, first_released}

module _ (p : Program) (w : List ℕ) (m : Memory) (events : List (ℕ × Event)) (s : State) (actors : ℕ → Actor)
    (i : ℕ) (before : Before p w m events s actors i) (b : Barrier)
    (at : (actors i).counter ≡ counter.Barrier (barrier.Release b)) where
  abbrev a : Actor
  a = actors i

  abbrev c : BarrierCounter
  c = barrier.Release b

  abbrev At : Encounter
  At = sees p w m events s actors i before (counter.Barrier c) at tt

  abbrev own : KeepsContext s i (actors i).context
  own = here p w m events s actors i before (counter.Barrier c) at tt

  abbrev behind : List Item
  behind = passing p At a.stack b

  abbrev listed : State
  listed = relisted_state p w m events s actors i before (counter.Barrier c) at tt behind

  abbrev once_more : Region → Region
  once_more r = record r { released = r.released + 1 }

  abbrev next : State
  next = on_region listed own.task.region once_more

  first : a.context.number ≡ 0
  first = (fits_barrier p w m events s actors i before c at).1

  sees_first : At.number ≡ 0
  sees_first = sees_number p w m events s actors i before (counter.Barrier c) at tt ∙ first

  there : region_of s own.task.region ≡ Some own.region
  there = region_there p w m events s actors i before (counter.Barrier c) at tt

  all_arrived : HaveArrived own.region
  all_arrived =
      let ((r, found, all), alone) = row p w m events s actors i before c at in subst HaveArrived (some_same found own.found) all

  none_left : HasNoExplicit s own.task.region
  none_left =
      let (arrived, alone) = row p w m events s actors i before c at in subst (HasNoExplicit s) (sym own.region_is) alone

  -- the barrier at which member 0 waits is the next that is released
  arrivals_are : a.context.arrivals ≡ own.region.released + 1
  arrivals_are =
      let sizes =
      (members_known p events s before.rule.reached).regions a.context.region own.region own.found in
      let within : a.context.number < length own.region.team =
      slice_get_within own.region.team a.context.number (a.context.row, i) own.row in
      sym own.arrivals ∙ all_arrived a.context.number 0 (omega (arith, within, sizes.arrivals))

  takes_release : take_item p At event.Release own.task.list ≡ Some (item.Release, behind)
  takes_release =
      ap (λ xs. take_item p At event.Release xs)
      (list_is p w m events s actors i before c at ∙ first_arrives p At a.stack b sees_first)

  current : IsCurrent s i a.context.task own.task
  current = is_current p s i a (stands p w m events s actors i before (counter.Barrier c) at tt)

  step : Step p s i event.Release next
  step =
      steps p w m events s actors i before
      (counter.Barrier c) at tt event.Release item.Release behind next takes_release
      (a.context.task, own.task, own.region, current, there, record { first = own.number ∙ first; arrived = all_arrived; alone = none_left }) refl
      (at_current listed i a.context.task (relisted behind own.task) (λ k t. released listed t) (current_moved s i a.context.task current.name behind a.context.task own.task current))

  words : KeepsWords w (with_region_word m a.context.region RegionReleased a.context.arrivals) next (all_owed actors)
  words =
      subst
      (λ (n : Rid). KeepsWords w (with_region_word m n RegionReleased a.context.arrivals) next (all_owed actors)) own.region_is
      (subst (λ k. KeepsWords w (with_region_word m own.task.region RegionReleased k) next (all_owed actors)) (sym arrivals_are)
      (releases_keep w m listed (all_owed actors) (relisted behind own.task) own.region (relisted_words p w m events s actors i before (counter.Barrier c) at tt behind) there))

  regions_go_on : (n : Rid) (r : Region) → region_of s n ≡ Some r
      → (q : Region) × (region_of next n ≡ Some q) × (q.team ≡ r.team) × (q.levels ≡ r.levels) × (q.arrivals ≡ r.arrivals)
  regions_go_on n r live =
      let (q, found, same) =
      changed s.regions own.task.region once_more
      (λ x y. (y.team ≡ x.team) × (y.levels ≡ x.levels) × (y.arrivals ≡ x.arrivals)) n r live
      (λ _. (refl, refl, refl)) (λ _. (refl, refl, refl)) in
      (q, found, same.0, same.1, same.2)

  changes : ChangesTask s next i a.context.task
  changes =
      let base = relisted_changes p w m events s actors i before (counter.Barrier c) at tt behind in
      record { environment = base.environment; current = base.current; own = base.own; others = base.others; regions = regions_go_on }

  is_released : HasReleased next (at_counter (counter.Barrier (barrier.LoadReleased b)) a) a.context.number
  is_released =
      subst (HasReleased next (at_counter (counter.Barrier (barrier.LoadReleased b)) a)) (sym first)
      (once_more own.region, subst (λ (n : Rid). region_of next n ≡ Some (once_more own.region)) own.region_is (on_same s.regions own.task.region.0 once_more ∙ ap (λ (o : Option Region). option_map once_more o) there), sym arrivals_are)

  abbrev on_released : RecordWord
  on_released = word_of p w m events s actors i before (counter.Barrier c) at tt RegionReleased

  pub release_keeps : StepKeeps p w m events s actors i (barrier_next w (actors i) (barrier.Release b)) (λ old. (barrier_moved p (actors i) (barrier.Release b) old, barrier_outcome w (actors i) (barrier.Release b) old))
  release_keeps = (
    on_released,
    record { there = region_word p w m events s actors i before (counter.Barrier c) at tt RegionReleased refl; address = refl },
    event_leads_to p w m events s actors i before (counter.Barrier c) at tt refl
        (op.Store (of_current w a RegionReleased) a.context.arrivals) on_released
        (counter.Barrier (barrier.LoadReleased b)) (outcome.Event event.Release) event.Release
        item.Release behind next refl (λ no_object. no_object) (λ f e. absurd (cc e)) takes_release step
        (a.context.task, own.task, current, (a.context.arrivals, ap (λ n. op.Store (of_region w n RegionReleased) a.context.arrivals) (sym own.region_is)))
        words
        (λ j other. spares_region m s a.context.region own.region RegionReleased 0 a.context.arrivals j (actors j) own.found (inl (λ same. omega (arith, same))))
        changes refl
        (record { fits = (fits_barrier p w m events s actors i before c at).0; placed = tt; ahead = sym (first_released p At a.stack b sees_first); front = tt; owes = refl; row = is_released; ended = tt }),
  )
