-- A member arrives at a barrier, and looks at the slots from then on.
use Rattle.std.proofs.Common.{◌≡◌, ◌<◌, ◌≤◌, ◌+◌, ℕ, true, List, [], ◌∷◌, ◌++◌, length, sum, Some, refl, sym, ap, ◌∙◌, subst, arith, inl}
use Rattle.std.proofs.lemmas.Option.{slice_get_within}
use Rattle.omi_model.specs.declared.limits.TheConstants.{MOST_EVENTS}
use Rattle.omi_word.specs.declared.op.Op.TheVariants as op
use Rattle.omi_script.specs.declared.program.Program.{Program}
use Rattle.omi_model.specs.declared.encounter.Encounter.{Encounter}
use Rattle.omi_model.specs.declared.event.Event.{Event}
use Rattle.omi_model.specs.declared.event.Event.TheVariants as event
use Rattle.omi_model.specs.declared.id.Rid.{Rid}
use Rattle.omi_model.specs.declared.item.Item.{Item}
use Rattle.omi_model.specs.declared.item.Item.TheVariants as item
use Rattle.omi_model.specs.declared.region.Region.{Region}
use Rattle.omi_model.specs.Barriers.{arrived}
use Rattle.omi_model.specs.Changes.{IsCurrent, on_region}
use Rattle.omi_model.specs.Lists.{take_item}
use Rattle.omi_model.specs.Reached.{Step}
use Rattle.omi_model.specs.State.{State, region_of}
use Rattle.omi_model.proofs.MembersKnown.{members_known}
use Rattle.omi_model.proofs.Steps.{at_current, current_moved, relisted}
use Rattle.omi_layout.specs.declared.field.Field.TheVariants.{RegionArrived}
use Rattle.omi_layout.specs.Memory.{Memory}
use Rattle.omi_pc.specs.declared.actor.Actor.{Actor}
use Rattle.omi_pc.specs.declared.counter.Counter.TheVariants as counter
use Rattle.omi_pc.specs.declared.frame.Barrier.{Barrier}
use Rattle.omi_pc.specs.declared.team_counter.BarrierCounter.{BarrierCounter}
use Rattle.omi_pc.specs.declared.team_counter.BarrierCounter.TheVariants as barrier
use Rattle.omi_pc.specs.Fits.{Fits}
use Rattle.omi_pc.proofs.Arrived.{arrived_open}
use Rattle.omi_rep.specs.declared.outcome.Outcome.TheVariants as outcome
use Rattle.omi_rule_words.specs.BarrierKinds.{one_more, with_region_word, word_of_region}
use Rattle.omi_rule_words.specs.Owes.{all_owed}
use Rattle.omi_rule_words.specs.Words.{KeepsWords}
use Rattle.omi_rule_words.proofs.Moves.{moves_keep}
use Rattle.omi_rule_words.proofs.RegionStores.{arrives_keep}
use Rattle.omi_step_words.specs.Placed.{IsPlaced}
use Rattle.omi_step_words.specs.Words.{of_region}
use Rattle.omi_fork.specs.BarrierSteps.{barrier_moved, barrier_next, barrier_outcome, looking, of_current}
use Rattle.omi_fork.specs.BarrierSteps as steps_of
use Rattle.omi_rule.specs.Ahead as Ahead
use Rattle.omi_rule.specs.Chains.{KeepsBodies, KeepsContext, Stands, StandsWith, encounter_of, IsPassable}
use Rattle.omi_rule.specs.Rule.{KeepsThread}
use Rattle.omi_rule.specs.Steps.{RecordWord, StepKeeps}
use Rattle.omi_rule.proofs.Assembly.{Before, plain_event_keeps, spares_region}
use Rattle.omi_rule.proofs.Own.{ChangesTask, bodies_kept, context_kept, encounter_kept}
use Rattle.omi_rule.proofs.OwnTask.{is_current, own_below, relisted_ahead, relisted_front}
use Rattle.omi_rule.proofs.barrier.ArrivedBodies.{arrived_once, bodies_arrive, contexts_arrive, encounter_stays}
use Rattle.omi_rule.proofs.barrier.Arrivals.{arrivals_few, part_sum}
use Rattle.omi_rule.proofs.barrier.AtBarrier.{fits_barrier, list_is}
use Rattle.omi_rule.proofs.barrier.AtCounter.{body, here, is_context, own, owes_now, region_there, region_word, sees, stands, word_of}
use Rattle.omi_rule.proofs.barrier.Events.{none_new, relisted_changes, relisted_state, relisted_words, steps}
use Rattle.omi_model.proofs.StaysKept.{stays_step}
use Rattle.omi_rule.proofs.Runs.{stack_runs}
use Rattle.omi_rule.proofs.barrier.ArrivedBodies.{functions_arrive}

module _ (p : Program) (w : List ℕ) (m : Memory) (events : List (ℕ × Event)) (s : State) (actors : ℕ → Actor)
    (i : ℕ) (before : Before p w m events s actors i) (b : Barrier)
    (at : (actors i).counter ≡ counter.Barrier (barrier.Arrive b)) where
  abbrev a : Actor
  a = actors i

  abbrev c : BarrierCounter
  c = barrier.Arrive b

  abbrev At : Encounter
  At = sees p w m events s actors i before (counter.Barrier c) at tt

  abbrev mine : KeepsContext s i (actors i).context
  mine = here p w m events s actors i before (counter.Barrier c) at tt

  abbrev behind : List Item
  behind = Ahead.arrived p At a.stack b

  abbrev listed : State
  listed = relisted_state p w m events s actors i before (counter.Barrier c) at tt behind

  abbrev next : State
  next = on_region listed mine.task.region (arrived_once mine.task.number)

  abbrev after : Actor
  after = looking b (steps_of.past_arrive a)

  is_implicit : a.context.implicit ≡ true
  is_implicit = (fits_barrier p w m events s actors i before c at).1

  there : region_of s mine.task.region ≡ Some mine.region
  there = region_there p w m events s actors i before (counter.Barrier c) at tt

  current : IsCurrent s i a.context.task mine.task
  current = is_current p s i a (stands p w m events s actors i before (counter.Barrier c) at tt)

  taken : take_item p At event.Arrive mine.task.list ≡ Some (item.Arrive, behind)
  taken = ap (λ xs. take_item p At event.Arrive xs) (list_is p w m events s actors i before c at)

  step : Step p s i event.Arrive next
  step =
      steps p w m events s actors i before
      (counter.Barrier c) at tt event.Arrive item.Arrive behind next taken
      (a.context.task, mine.task, mine.region, current, there, mine.implicit ∙ is_implicit) refl
      (at_current listed i a.context.task (relisted behind mine.task) (λ k t. arrived listed t) (current_moved s i a.context.task current.name behind a.context.task mine.task current))

  -- ---- numbers

  few : sum mine.region.arrivals ≤ length events
  few = arrivals_few p events s before.rule.reached a.context.region mine.region mine.found

  few_own : a.context.arrivals + 1 < MOST_EVENTS
  few_own =
      let part = part_sum mine.region.arrivals a.context.number in
      let mine_are = mine.arrivals in
      let all = few in
      let most = before.few in omega (arith, part, mine_are, all, most)

  sizes : (r : Region) → region_of s a.context.region ≡ Some r → length r.arrivals ≡ length r.team
  sizes r found = ((members_known p events s before.rule.reached).regions a.context.region r found).arrivals

  -- ---- words

  abbrev on_arrived : RecordWord
  on_arrived = word_of p w m events s actors i before (counter.Barrier c) at tt RegionArrived

  words : KeepsWords w (with_region_word m a.context.region RegionArrived (one_more (word_of_region m a.context.region RegionArrived))) next (all_owed actors)
  words =
      let within : a.context.number < length mine.region.team =
      slice_get_within mine.region.team a.context.number (a.context.row, i) mine.row in
      let size = sizes mine.region mine.found in
      let place = mine.number in
      let all = few in
      let most = before.few in
      subst
      (λ (n : Rid). KeepsWords w (with_region_word m n RegionArrived (one_more (word_of_region m n RegionArrived))) next (all_owed actors)) mine.region_is
      (arrives_keep w m listed (all_owed actors) (relisted behind mine.task) mine.region (relisted_words p w m events s actors i before (counter.Barrier c) at tt behind) there (omega (arith, within, size, place)) (omega (arith, all, most)))

  -- ---- the thread

  changes : ChangesTask s listed i a.context.task
  changes = relisted_changes p w m events s actors i before (counter.Barrier c) at tt behind

  bodies_listed : KeepsBodies p listed i a.context a.stack
  bodies_listed =
      let o = stands p w m events s actors i before (counter.Barrier c) at tt in
      bodies_kept p s listed i a.context.task changes a.context a.stack
      (own_below p s i a o events before.rule.reached) o.bodies

  bodies_after : KeepsBodies p next i after.context a.stack
  bodies_after =
      bodies_arrive p listed i mine.task.region mine.task.number a.context (sym mine.region_is)
      (sym mine.number)
      (λ r found. sizes r (subst (λ (n : Rid). region_of s n ≡ Some r) mine.region_is found)) events s before.rule.reached is_implicit a.stack
      (own p w m events s actors i before (counter.Barrier c) at tt).fits.bodies
      (stands p w m events s actors i before (counter.Barrier c) at tt).bodies bodies_listed

  sees_after : encounter_of next after.context ≡ At
  sees_after =
      encounter_stays p listed i mine.task.region mine.task.number a.context
      (context_kept p s listed i a.context.task changes a.context mine)
      ∙ encounter_kept p s listed i a.context.task changes a.context mine

  stands_after : Stands p next i after
  stands_after =
      let (f, fs, is, o) = body p w m events s actors i before (counter.Barrier c) at tt in
      subst (StandsWith p next i after) (sym is)
      (record {
        current = (stands p w m events s actors i before (counter.Barrier c) at tt).current;
        bodies = bodies_after;
        ahead = λ t live.
            relisted_ahead p s i a
            (stands p w m events s actors i before (counter.Barrier c) at tt) behind next refl
            (λ xs. xs ≡ Ahead.arrived p (encounter_of next after.context) a.stack b)
            (ap (λ (x : Encounter). Ahead.arrived p x a.stack b) (sym sees_after)) t live;
        front = λ t live. subst IsPassable (sym (relisted_front p s i a (stands p w m events s actors i before (counter.Barrier c) at tt) behind next refl t live)) tt;
      })

  abbrev later : List (ℕ × Event)
  later = events ++ (i, event.Arrive) ∷ []

  fits_after : Fits p after
  fits_after =
      let o = (own p w m events s actors i before (counter.Barrier c) at tt).fits in
      let some = (is_context p w m events s actors i before (counter.Barrier c) at tt).size.0 in
      record {
        thread = o.thread;
        variables = o.variables;
        bodies = arrived_open p a.context (a.context.arrivals + 1) is_implicit few_own a.stack o.bodies;
        counter = ((fits_barrier p w m events s actors i before c at, omega (arith, some)), refl);
      }

  placed_after : IsPlaced w after
  placed_after = record { bodies = contexts_arrive w (a.context.arrivals + 1) a.stack a.context (own p w m events s actors i before (counter.Barrier c) at tt).placed.bodies; counter = tt }

  thread_after : (n : Memory) → KeepsThread p w n later next i after
  thread_after n = record {
    thread = (own p w m events s actors i before (counter.Barrier c) at tt).thread;
    fits = fits_after;
    placed = placed_after;
    stands = stands_after;
    runs =
        let o = own p w m events s actors i before (counter.Barrier c) at tt in
        functions_arrive next (a.context.arrivals + 1) a.stack a.context (stack_runs p s next i (stays_step p s i event.Arrive next step) a o.stands o.runs);
    row = tt;
    ended = tt;
  }

  -- ---- the step

  pub arrive_keeps : StepKeeps p w m events s actors i (barrier_next w (actors i) (barrier.Arrive b)) (λ old. (barrier_moved p (actors i) (barrier.Arrive b) old, barrier_outcome w (actors i) (barrier.Arrive b) old))
  arrive_keeps = (
    on_arrived,
    record { there = region_word p w m events s actors i before (counter.Barrier c) at tt RegionArrived refl; address = refl },
    plain_event_keeps p w m events s actors i before (op.Add (of_current w a RegionArrived) 1) on_arrived
        (after, outcome.Event event.Arrive) event.Arrive next (λ no_object. no_object) refl step
        (a.context.task, mine.task, current, ap (λ n. op.Add (of_region w n RegionArrived) 1) (sym mine.region_is))
        (none_new p w m events s actors i before (counter.Barrier c) at tt event.Arrive item.Arrive behind next taken step (λ f e. absurd (cc e)))
        (moves_keep w (with_region_word m a.context.region RegionArrived (one_more (word_of_region m a.context.region RegionArrived))) next actors i after words (sym (owes_now p w m events s actors i before (counter.Barrier c) at tt)))
        (λ j other. spares_region m s a.context.region mine.region RegionArrived 0 (one_more (word_of_region m a.context.region RegionArrived)) j (actors j) mine.found (inl (λ same. omega (arith, same))))
        (thread_after (with_region_word m a.context.region RegionArrived (one_more (word_of_region m a.context.region RegionArrived)))),
  )
