-- The steps of workers: no search stands there, and no look.
use Rattle.std.proofs.Common.{◌≡◌, ◌==◌, ℕ, Bool, true, false, List, refl, sym, ap, ◌∙◌, subst, ◌&&◌, if◌then◌else◌}
use Rattle.omi_word.specs.declared.op.Op.TheVariants as op
use Rattle.omi_script.specs.declared.program.Program.{Program}
use Rattle.omi_model.specs.declared.event.Event.{Event}
use Rattle.omi_model.specs.State.{State}
use Rattle.omi_layout.specs.declared.field.Field.TheVariants.{RegionLife, RegionSize, TaskFunction, TaskLife, TaskNumber, TaskRegion, ThreadAssign}
use Rattle.omi_layout.specs.Field.{regions, tasks}
use Rattle.omi_layout.specs.Memory.{Memory}
use Rattle.omi_layout.specs.Named.{number}
use Rattle.omi_pc.specs.declared.actor.Actor.{Actor}
use Rattle.omi_pc.specs.declared.counter.Counter.TheVariants as counter
use Rattle.omi_pc.specs.declared.place.Place.{Place}
use Rattle.omi_pc.specs.declared.team_counter.WorkerCounter.{WorkerCounter}
use Rattle.omi_pc.specs.declared.team_counter.WorkerCounter.TheVariants as worker
use Rattle.omi_pc.specs.Moves.{begun_worker}
use Rattle.omi_rep.specs.declared.outcome.Outcome.TheVariants as outcome
use Rattle.omi_step_words.specs.Moving.{to_worker}
use Rattle.omi_step_words.specs.Placed.{IsPlacedCounter, IsPlacedWorker}
use Rattle.omi_step_words.specs.Words.{is_free, of_thread, task_place}
use Rattle.omi_fork.specs.WorkerSteps.{idle_counter, member_context, worker_moved, worker_next, worker_outcome}
use Rattle.omi_rule.specs.Steps.{IsOn, RecordWord, found_in}
use Rattle.omi_rule.proofs.Assembly.{Before}
use Rattle.omi_rule.proofs.KeptObjects.{region_life}
use Rattle.omi_rule.proofs.worker.WorkerEvents.{row_is}
use Rattle.omi_model.proofs.NamesLive.{names_live}
use Rattle.omi_rule_watch.specs.Given.{IsSearchGiven}
use Rattle.omi_rule_watch.specs.Watch.{Watch, is_own}
use Rattle.omi_rule_watch.proofs.Parts.{IsCalm, KeepsParts, PartsKeep, calm_at, event_rests, quiet_rests, waits_rests}
use Rattle.omi_rule_watch.proofs.Resting.{Rests, rests_worker, rests_working}
use Rattle.omi_rule_watch.proofs.Standing.{life_taken, own, record_word, some_word, thread_word, used_taken, word_of}

-- a word that is not free is not found
pub not_found : (mine free : Bool) → free ≡ false → mine && free ≡ false
not_found true free is = is
not_found false free is = refl

module _ (p : Program) (w : List ℕ) (m : Memory) (events : List (ℕ × Event)) (s : State) (actors : ℕ → Actor)
    (i : ℕ) (before : Before p w m events s actors i) (h : Watch) where
  abbrev a : Actor
  a = actors i

  -- ---- workers

  module _ (c : WorkerCounter) (at : (actors i).counter ≡ counter.Worker c)
      (given : IsSearchGiven (actors i) (counter.Worker c) h.search) where
    calm : IsCalm h.search
    calm = calm_at (actors i) (counter.Worker c) h.search refl refl refl given

    placed : IsPlacedWorker w c
    placed = subst (IsPlacedCounter w (actors i)) at (own p w m events s actors i before).placed.counter

    here : Rests (actors i).counter
    here = subst Rests (sym at) (rests_worker c)

    any : (x : RecordWord) × IsOn w (worker_next w (actors i) c) x
    any = some_word p w m events s actors i before (counter.Worker c) at

    -- an event
    event_to : (b : Actor) (e : Event) → Rests b.counter
        → (x : RecordWord) × IsOn w (worker_next w (actors i) c) x × KeepsParts w m s i (worker_next w (actors i) c) x (b, outcome.Event e) h
    event_to b e rests =
        (any.0, any.1, event_rests w m s i (worker_next w (actors i) c) any.0 b h calm e rests)

  -- the assign word
  module _ (at : (actors i).counter ≡ counter.Worker worker.LoadAssign)
      (given : IsSearchGiven (actors i) (counter.Worker worker.LoadAssign) h.search) where
    abbrev assign : RecordWord
    assign = word_of (actors i).thread 0 ThreadAssign

    by_assign : (b : Bool) → KeepsParts w m s i (op.Load (of_thread w a.thread ThreadAssign)) assign
        (if b then a else to_worker (worker.ClearAssign (task_place w (found_in m assign))) a, if b then outcome.NotReady (of_thread w a.thread ThreadAssign) (found_in m assign) else outcome.Quiet) h
    by_assign true =
        waits_rests w m s i _ assign a h (calm worker.LoadAssign at given) _ _ refl refl refl
        (here worker.LoadAssign at given)
    by_assign false =
        quiet_rests w m s i _ assign _ h (calm worker.LoadAssign at given) refl refl
        (rests_worker (worker.ClearAssign (task_place w (found_in m assign))))

    loads_assign : PartsKeep w m s i (worker_next w (actors i) worker.LoadAssign) (λ old. (worker_moved p w (actors i) worker.LoadAssign old, worker_outcome w (actors i) worker.LoadAssign old)) h
    loads_assign =
        (assign, record { there = thread_word p w m events s actors i before ThreadAssign refl; address = refl }, by_assign (found_in m assign == 0))

  pub worker_parts : (c : WorkerCounter) (at : (actors i).counter ≡ counter.Worker c)
      → IsSearchGiven (actors i) (counter.Worker c) h.search
      → PartsKeep w m s i (worker_next w (actors i) c) (λ old. (worker_moved p w (actors i) c old, worker_outcome w (actors i) c old)) h
  worker_parts worker.Begin at given = event_to worker.Begin at given _ _ (rests_worker worker.Offer)
  worker_parts worker.Offer at given = event_to worker.Offer at given _ _ (rests_worker worker.LoadAssign)
  worker_parts worker.LoadAssign at given = loads_assign at given
  worker_parts (worker.ClearAssign t) at given =
      let (x, on) = any (worker.ClearAssign t) at given in
      (x, on, quiet_rests w m s i _ x _ h (calm (worker.ClearAssign t) at given) refl refl (rests_worker (worker.LoadLife t)))
  worker_parts (worker.LoadLife t) at given = (
    word_of t.creator t.slot TaskLife,
    record { there = record_word p w m events s actors i before tasks t.creator t.slot TaskLife refl (placed (worker.LoadLife t) at given); address = refl },
    quiet_rests w m s i _ (word_of t.creator t.slot TaskLife) _ h (calm (worker.LoadLife t) at given) refl (not_found (is_own TaskLife i (word_of t.creator t.slot TaskLife)) (is_free (found_in m (word_of t.creator t.slot TaskLife))) taken) (rests_worker _),
  )
    where
      taken : is_free (m t.creator tasks t.slot (number TaskLife) 0) ≡ false
      taken =
          let (k, o, is) = row_is p w m events s actors i before (worker.LoadLife t) at in
          life_taken p w m events s actors i before k o.task t o.live is
  worker_parts (worker.LoadFunction t) at given = (
    word_of t.0.creator t.0.slot TaskFunction,
    record { there = record_word p w m events s actors i before tasks t.0.creator t.0.slot TaskFunction refl (placed (worker.LoadFunction t) at given); address = refl },
    quiet_rests w m s i _ (word_of t.0.creator t.0.slot TaskFunction) _ h (calm (worker.LoadFunction t) at given) refl refl (rests_worker _),
  )
  worker_parts (worker.LoadRegion t f) at given = (
    word_of t.0.creator t.0.slot TaskRegion,
    record { there = record_word p w m events s actors i before tasks t.0.creator t.0.slot TaskRegion refl (placed (worker.LoadRegion t f) at given); address = refl },
    quiet_rests w m s i _ (word_of t.0.creator t.0.slot TaskRegion) _ h (calm (worker.LoadRegion t f) at given) refl refl (rests_worker _),
  )
  worker_parts (worker.LoadRegionLife t f r) at given = (
    word_of r.creator r.slot RegionLife,
    record { there = record_word p w m events s actors i before regions r.creator r.slot RegionLife refl (placed (worker.LoadRegionLife t f r) at given).1; address = refl },
    quiet_rests w m s i _ (word_of r.creator r.slot RegionLife) _ h (calm (worker.LoadRegionLife t f r) at given) (not_found (is_own RegionLife i (word_of r.creator r.slot RegionLife)) (is_free (found_in m (word_of r.creator r.slot RegionLife))) taken) refl (rests_worker _),
  )
    where
      taken : is_free (m r.creator regions r.slot (number RegionLife) 0) ≡ false
      taken =
          let (o, known) = row_is p w m events s actors i before (worker.LoadRegionLife t f r) at in
          let (u, live) = ((names_live p events s before.rule.reached).tasks t o.task o.live).region in
          ap is_free
          (ap (λ (q : Place). m q.creator regions q.slot (number RegionLife) 0) (sym known.1) ∙ region_life p w m events s actors before.rule o.task.region u live)
          ∙ used_taken o.task.region.0
  worker_parts (worker.LoadSize t f r) at given = (
    word_of r.0.creator r.0.slot RegionSize,
    record { there = record_word p w m events s actors i before regions r.0.creator r.0.slot RegionSize refl (placed (worker.LoadSize t f r) at given).1; address = refl },
    quiet_rests w m s i _ (word_of r.0.creator r.0.slot RegionSize) _ h (calm (worker.LoadSize t f r) at given) refl refl (rests_worker _),
  )
  worker_parts (worker.LoadNumber t f r size) at given = (
    word_of t.0.creator t.0.slot TaskNumber,
    record { there = record_word p w m events s actors i before tasks t.0.creator t.0.slot TaskNumber refl (placed (worker.LoadNumber t f r size) at given).0; address = refl },
    quiet_rests w m s i _ (word_of t.0.creator t.0.slot TaskNumber) _ h (calm (worker.LoadNumber t f r size) at given) refl refl (rests_worker _),
  )
  worker_parts (worker.ImplicitBegin t f r size number) at given =
      event_to (worker.ImplicitBegin t f r size number) at given _ _
      (rests_working p (begun_worker f (member_context t r size number) (actors i)) (λ none. here (worker.ImplicitBegin t f r size number) at given))
  worker_parts worker.ImplicitEnd at given = event_to worker.ImplicitEnd at given _ _ (rests_worker _)
  worker_parts (worker.AddLeft r) at given =
      let (x, on) = any (worker.AddLeft r) at given in
      (x, on, quiet_rests w m s i _ x _ h (calm (worker.AddLeft r) at given) refl refl (rests_worker (idle_counter p)))
  worker_parts worker.IdleState at given = event_to worker.IdleState at given _ _ (rests_worker worker.Offer)
