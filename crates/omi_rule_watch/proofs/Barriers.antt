-- The steps of a barrier.
use Rattle.std.proofs.Common.{◌≡◌, ◌≢◌, ◌<◌, ◌==◌, ltb-true, ℕ, zero, suc, Bool, true, false, List, [], ◌∷◌, refl, ap, ◌∙◌, arith, if◌then◌else◌}
use Rattle.omi_word.specs.declared.op.Op.TheVariants as op
use Rattle.omi_script.specs.declared.program.Program.{Program}
use Rattle.omi_model.specs.declared.event.Event.{Event}
use Rattle.omi_model.specs.declared.event.Event.TheVariants as event
use Rattle.omi_model.specs.declared.region.Region.{Region}
use Rattle.omi_model.specs.State.{State}
use Rattle.omi_model.proofs.Slots.{some_same}
use Rattle.omi_layout.specs.declared.field.Field.TheVariants.{RegionArrived, RegionPending, RegionReleased}
use Rattle.omi_layout.specs.Field.{regions}
use Rattle.omi_layout.specs.Memory.{Memory}
use Rattle.omi_layout.specs.Named.{number}
use Rattle.omi_pc.specs.declared.actor.Actor.{Actor}
use Rattle.omi_pc.specs.declared.counter.Counter.{Counter}
use Rattle.omi_pc.specs.declared.counter.Counter.TheVariants as counter
use Rattle.omi_pc.specs.declared.counter.PlainCounter.TheVariants as plain
use Rattle.omi_pc.specs.declared.frame.Barrier.{Barrier}
use Rattle.omi_pc.specs.declared.frame.Barrier.TheVariants.{Explicit, Implicit}
use Rattle.omi_pc.specs.declared.frame.Frame.{Frame}
use Rattle.omi_pc.specs.declared.frame.Opened.{Opened}
use Rattle.omi_pc.specs.declared.frame.Opened.TheVariants as opened
use Rattle.omi_pc.specs.declared.team_counter.BarrierCounter.{BarrierCounter}
use Rattle.omi_pc.specs.declared.team_counter.BarrierCounter.TheVariants as barrier
use Rattle.omi_pc.specs.declared.team_counter.JoinCounter.TheVariants as join
use Rattle.omi_pc.specs.declared.team_counter.WorkerCounter.TheVariants as worker
use Rattle.omi_pc.specs.Fits.{slots_of}
use Rattle.omi_pc.specs.OpenBodies.{IsAtBarrier, IsAtEnd, IsMember}
use Rattle.omi_rep.specs.declared.outcome.Outcome.TheVariants as outcome
use Rattle.omi_step_words.specs.Moving.{to_barrier}
use Rattle.omi_fork.specs.BarrierSteps.{past_arrive, barrier_moved, barrier_next, barrier_outcome, behind_member_end, ended_in, is_closed, looking, of_current, passed, some_missing}
use Rattle.omi_rule.specs.Rows.{HasReleased}
use Rattle.omi_rule.specs.Steps.{IsOn, RecordWord, found_in}
use Rattle.omi_rule.proofs.Assembly.{Before}
use Rattle.omi_rule.proofs.barrier.AtBarrier.{fits_barrier, row}
use Rattle.omi_rule.proofs.barrier.AtCounter.{context_placed, here, keeps_region}
use Rattle.omi_rule_watch.specs.Given.{HasAll, IsLookGiven, IsSearchGiven}
use Rattle.omi_rule_watch.specs.Watch.{SlotLook, Watch}
use Rattle.omi_rule_watch.proofs.Parts.{IsCalm, KeepsParts, PartsKeep, calm_at, event_parts, event_rests, look_stays, quiet_parts, quiet_rests, waits_parts}
use Rattle.omi_rule_watch.proofs.Resting.{Rests, rests_join, rests_plain, rests_worker, rests_working, seeks_none}
use Rattle.omi_rule_watch.proofs.Standing.{record_word, some_word, word_of}
use Rattle.omi_rule_watch.proofs.Waits.{all_slots, some_body}

rests_barrier : (c : BarrierCounter) → ((a : Actor) (h : SlotLook) → IsLookGiven a (counter.Barrier c) h)
    → Rests (counter.Barrier c)
rests_barrier c given = record { fresh = seeks_none refl refl (λ a. refl); look = given }

module _ (p : Program) (w : List ℕ) (m : Memory) (events : List (ℕ × Event)) (s : State) (actors : ℕ → Actor)
    (i : ℕ) (before : Before p w m events s actors i) (h : Watch) where
  abbrev a : Actor
  a = actors i

  -- the step at this counter keeps its parts
  abbrev Keeps : BarrierCounter → Type 0
  Keeps c = PartsKeep w m s i (barrier_next w a c) (λ old. (barrier_moved p a c old, barrier_outcome w a c old)) h

  -- ---- barriers

  module _ (c : BarrierCounter) (at : (actors i).counter ≡ counter.Barrier c)
      (given : IsSearchGiven (actors i) (counter.Barrier c) h.search) where
    calm : IsCalm h.search
    calm = calm_at a (counter.Barrier c) h.search refl refl refl given

    any : (x : RecordWord) × IsOn w (barrier_next w (actors i) c) x
    any = some_word p w m events s actors i before (counter.Barrier c) at

  module _ (b : Barrier) (at : (actors i).counter ≡ counter.Barrier (barrier.LoadArrived b))
      (given : IsSearchGiven (actors i) (counter.Barrier (barrier.LoadArrived b)) h.search)
      (has : HasAll (actors i) h.look) where
    abbrev on_arrived : RecordWord
    on_arrived = word_of a.context.region.0.creator a.context.region.0.slot RegionArrived

    by_missing : (d : Bool) → KeepsParts w m s i (op.Load (of_current w a RegionArrived)) on_arrived (
      if d then looking b a else to_barrier (barrier.LoadPending b) a,
      if d then outcome.NotReady (of_current w a RegionArrived) (found_in m on_arrived) else outcome.Quiet,
    ) h
    by_missing true =
        waits_parts w m s i _ on_arrived (looking b a) h
        (calm (barrier.LoadArrived b) at given) _ _ refl refl (seeks_none refl refl (λ a. refl))
        (λ waits. all_slots p w m events s actors i before (counter.Barrier (barrier.LoadArrived b)) at tt h.look has)
        (record { looked = refl; seen = refl })
    by_missing false =
        quiet_parts w m s i (op.Load (of_current w a RegionArrived)) on_arrived
        (to_barrier (barrier.LoadPending b) a) h (calm (barrier.LoadArrived b) at given) refl refl (seeks_none refl refl (λ a. refl))
        (look_stays w s i on_arrived (op.Load (of_current w a RegionArrived)) (found_in m on_arrived) (slots_of a) h.look has (λ k. refl))

    load_arrived : Keeps (barrier.LoadArrived b)
    load_arrived = (
      on_arrived,
      record {
        there = record_word p w m events s actors i before regions a.context.region.0.creator a.context.region.0.slot RegionArrived refl
            (context_placed p w m events s actors i before (counter.Barrier (barrier.LoadArrived b)) at tt).region;
        address = refl;
      },
      by_missing (some_missing a (found_in m on_arrived)),
    )

  module _ (b : Barrier) (at : (actors i).counter ≡ counter.Barrier (barrier.LoadPending b))
      (given : IsSearchGiven (actors i) (counter.Barrier (barrier.LoadPending b)) h.search)
      (has : HasAll (actors i) h.look) where
    abbrev on_pending : RecordWord
    on_pending = word_of a.context.region.0.creator a.context.region.0.slot RegionPending

    by_pending : (d : Bool) → KeepsParts w m s i (op.Load (of_current w a RegionPending)) on_pending (
      if d then to_barrier (barrier.Release b) a else looking b a,
      if d then outcome.Quiet else outcome.NotReady (of_current w a RegionPending) (found_in m on_pending),
    ) h
    by_pending true =
        quiet_rests w m s i _ on_pending (to_barrier (barrier.Release b) a) h
        (calm (barrier.LoadPending b) at given) refl refl (rests_barrier (barrier.Release b) (λ a h. tt))
    by_pending false =
        waits_parts w m s i _ on_pending (looking b a) h
        (calm (barrier.LoadPending b) at given) _ _ refl refl (seeks_none refl refl (λ a. refl))
        (λ waits. all_slots p w m events s actors i before (counter.Barrier (barrier.LoadPending b)) at tt h.look has)
        (record { looked = refl; seen = refl })

    load_pending : Keeps (barrier.LoadPending b)
    load_pending = (
      on_pending,
      record {
        there = record_word p w m events s actors i before regions a.context.region.0.creator a.context.region.0.slot RegionPending refl
            (context_placed p w m events s actors i before (counter.Barrier (barrier.LoadPending b)) at tt).region;
        address = refl;
      },
      by_pending (found_in m on_pending == 0),
    )

  module _ (b : Barrier) (at : (actors i).counter ≡ counter.Barrier (barrier.LoadReleased b))
      (given : IsSearchGiven (actors i) (counter.Barrier (barrier.LoadReleased b)) h.search)
      (has : (actors i).context.number ≢ 0 → HasAll (actors i) h.look) where
    abbrev on_released : RecordWord
    on_released = word_of a.context.region.0.creator a.context.region.0.slot RegionReleased

    abbrev word : ℕ
    word = m a.context.region.0.creator regions a.context.region.0.slot (number RegionReleased) 0

    -- member 0 has released the barrier
    no_wait : (n : ℕ) → n ≡ 0 → HasReleased s a n → word < a.context.arrivals → ⊥
    no_wait zero first (r, there, is) less =
        let o = here p w m events s actors i before (counter.Barrier (barrier.LoadReleased b)) at tt in
        let one : o.region ≡ r = some_same o.found there in
        let stands =
        (keeps_region p w m events s actors i before (counter.Barrier (barrier.LoadReleased b)) at tt).codes RegionReleased 0 _ refl in
        let all : o.region.released ≡ a.context.arrivals = ap (λ (x : Region). x.released) one ∙ is in
        omega (arith, stands, all, less)
    no_wait (suc n) first released less = omega (arith, first)

    -- behind the barrier
    rests_end : (o : Opened) → IsMember o → (c : Counter) → Rests (behind_member_end o c)
    rests_end opened.Main is c = rests_plain plain.Done
    rests_end opened.Worker is c = rests_worker worker.ImplicitEnd
    rests_end (opened.Master saved) is c = rests_join join.LoadLeft
    rests_end o is c = absurd is

    rests_passed : (x : Barrier) → IsAtBarrier p a.stack x → Rests (passed p x a).counter
    rests_passed Explicit waits =
        rests_working p a
        (some_body p w m events s actors i before (counter.Barrier (barrier.LoadReleased b)) at tt)
    rests_passed Implicit waits = go a.stack waits
      where
        go : (fs : List Frame) → IsAtEnd p IsMember fs → Rests (ended_in fs a).counter
        go [] none = absurd none
        go (f ∷ fs) is = rests_end f.opened is.1 a.counter

    by_closed : (d : Bool) → is_closed a word ≡ d
        → KeepsParts w m s i (op.Load (of_current w a RegionReleased)) on_released
        (if d then looking b a else passed p b a, if d then outcome.NotReady (of_current w a RegionReleased) word else outcome.Event event.Pass) h
    by_closed true closed =
        let other : a.context.number ≢ 0 =
        λ first. no_wait a.context.number first (row p w m events s actors i before (barrier.LoadReleased b) at) (ltb-true word a.context.arrivals closed) in
        waits_parts w m s i _ on_released (looking b a) h
        (calm (barrier.LoadReleased b) at given) _ _ refl refl (seeks_none refl refl (λ a. refl))
        (λ waits. all_slots p w m events s actors i before (counter.Barrier (barrier.LoadReleased b)) at tt h.look (has other))
        (record { looked = refl; seen = refl })
    by_closed false past =
        event_rests w m s i _ on_released (passed p b a) h (calm (barrier.LoadReleased b) at given) _
        (rests_passed b (fits_barrier p w m events s actors i before (barrier.LoadReleased b) at).0)

    load_released : Keeps (barrier.LoadReleased b)
    load_released = (
      on_released,
      record {
        there = record_word p w m events s actors i before regions a.context.region.0.creator a.context.region.0.slot RegionReleased refl
            (context_placed p w m events s actors i before (counter.Barrier (barrier.LoadReleased b)) at tt).region;
        address = refl;
      },
      by_closed (is_closed a word) refl,
    )

  pub barrier_parts : (c : BarrierCounter) (at : (actors i).counter ≡ counter.Barrier c)
      → IsSearchGiven (actors i) (counter.Barrier c) h.search
      → IsLookGiven (actors i) (counter.Barrier c) h.look
      → PartsKeep w m s i (barrier_next w (actors i) c)
      (λ old. (barrier_moved p (actors i) c old, barrier_outcome w (actors i) c old)) h
  barrier_parts (barrier.State b) at given has =
      let (x, on) = any (barrier.State b) at given in
      (x, on, event_rests w m s i _ x _ h (calm (barrier.State b) at given) _ (rests_barrier (barrier.Arrive b) (λ a h. tt)))
  barrier_parts (barrier.Arrive b) at given has =
      let (x, on) = any (barrier.Arrive b) at given in (
        x,
        on,
        event_parts w m s i _ x (looking b (past_arrive a)) h (calm (barrier.Arrive b) at given) _ (seeks_none refl refl (λ a. refl))
            (record { looked = refl; seen = refl }),
      )
  barrier_parts (barrier.LoadArrived b) at given has = load_arrived b at given has
  barrier_parts (barrier.LoadPending b) at given has = load_pending b at given has
  barrier_parts (barrier.Release b) at given has =
      let (x, on) = any (barrier.Release b) at given in (
        x,
        on,
        event_parts w m s i _ x (to_barrier (barrier.LoadReleased b) a) h (calm (barrier.Release b) at given) _
            (seeks_none refl refl (λ a. refl)) (λ other. absurd (other (fits_barrier p w m events s actors i before (barrier.Release b) at).1)),
      )
  barrier_parts (barrier.LoadReleased b) at given has = load_released b at given has
