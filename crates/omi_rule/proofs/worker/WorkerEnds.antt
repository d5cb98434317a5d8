-- A member but member 0 ends its implicit task and leaves the region, and is a worker again.
use Rattle.std.proofs.Common.{◌≡◌, ◌≢◌, ◌<◌, ◌≤◌, ◌+◌, ◌++◌, ◌^◌, ◌%◌, ℕ, Bool, true, false, List, [], ◌∷◌, length, slice_get, Option, Some, None, refl, sym, ap, ◌∙◌, subst, arith, if◌then◌else◌, inr}
use Rattle.std.proofs.Math.Nat.{mod-eq_of_lt}
use Rattle.omi_word.specs.declared.op.Op.TheVariants as op
use Rattle.omi_script.specs.declared.env.Env.{Env}
use Rattle.omi_script.specs.declared.program.Program.{Program}
use Rattle.omi_script.proofs.RuleLemmas.{Rules-from_accepted}
use Rattle.omi_model.specs.declared.event.Event.{Event}
use Rattle.omi_model.specs.declared.event.Event.TheVariants as event
use Rattle.omi_model.specs.declared.id.Rid.{Rid}
use Rattle.omi_model.specs.declared.id.Tid.{Tid}
use Rattle.omi_model.specs.declared.item.Item.{Item}
use Rattle.omi_model.specs.declared.item.Item.TheVariants as item
use Rattle.omi_model.specs.declared.region.Region.{Region}
use Rattle.omi_model.specs.declared.task.Task.{Task}
use Rattle.omi_model.specs.declared.thread.Thread.{Thread}
use Rattle.omi_model.specs.Changes.{IsCurrent, encounter, on_task, ahead_of}
use Rattle.omi_model.specs.Lists.{take_item}
use Rattle.omi_numbers.specs.declared.states.TheConstants.{IDLE}
use Rattle.omi_model.specs.Reached.{Step}
use Rattle.std.specs.Prelude.{IsSome}
use Rattle.std.specs.Option.{option_map}
use Rattle.omi_model.specs.Rules.{effect}
use Rattle.omi_model.specs.State.{State, region_of, task_of}
use Rattle.omi_model.specs.Teams.{task_ended}
use Rattle.omi_model.proofs.MembersKnown.{members_known}
use Rattle.omi_model.proofs.Slots.{on_same, put_same, some_same}
use Rattle.omi_model.proofs.Steps.{at_current, relisted}
use Rattle.omi_model.specs.Opening.{opening}
use Rattle.omi_model.proofs.ReachedStates.{leads_on}
use Rattle.omi_model.proofs.claims.ClaimLaws.{claims_kept}
use Rattle.omi_model.proofs.TaskThreads.{are_manned}
use Rattle.omi_model.proofs.members.MembersInStep.{members_in_step}
use Rattle.omi_layout.specs.declared.field.Field.TheVariants.{RegionLeft, ThreadCurrent}
use Rattle.omi_layout.specs.Field.{regions, threads}
use Rattle.omi_layout.specs.Memory.{Memory, replace_at, with_word}
use Rattle.omi_layout.specs.Named.{number}
use Rattle.omi_pc.specs.declared.actor.Actor.{Actor}
use Rattle.omi_pc.specs.declared.counter.Counter.TheVariants as counter
use Rattle.omi_pc.specs.declared.frame.Frame.{Frame}
use Rattle.omi_pc.specs.declared.frame.Opened.{Opened}
use Rattle.omi_pc.specs.declared.frame.Opened.TheVariants as opened
use Rattle.omi_pc.specs.declared.gathered.Gathered.{Gathered}
use Rattle.omi_pc.specs.declared.team_counter.WorkerCounter.{WorkerCounter}
use Rattle.omi_pc.specs.declared.team_counter.WorkerCounter.TheVariants as worker
use Rattle.omi_pc.specs.Fits.{IsAlone}
use Rattle.omi_pc.specs.Moves.{closed, closed_in}
use Rattle.omi_pc.specs.OpenBodies.{AreOpen, IsAtEnd, IsFirstTask, IsWorker, StandsOn}
use Rattle.omi_rep.specs.declared.outcome.Outcome.TheVariants as outcome
use Rattle.omi_rule_words.specs.Counts.{left_owed, one, sum_of_owed}
use Rattle.omi_rule_words.specs.Owes.{Owed, all_owed, by_worker, nothing, owed}
use Rattle.omi_rule_words.specs.Words.{KeepsWords}
use Rattle.omi_rule_words.proofs.Departs.{leaves_keep}
use Rattle.omi_rule_words.proofs.ListMoves.{list_moves_keep}
use Rattle.omi_rule_words.proofs.Sums.{part_below}
use Rattle.omi_rule_words.proofs.TaskEnds.{ends_keep, is_region_same}
use Rattle.omi_step_words.specs.Moving.{to_worker}
use Rattle.omi_step_words.specs.Placed.{AreContextsPlaced}
use Rattle.omi_step_words.specs.Words.{of_region, of_thread}
use Rattle.omi_fork.specs.WorkerSteps.{idle_counter, worker_moved, worker_next, worker_outcome}
use Rattle.omi_pc.specs.declared.counter.Counter.{Counter}
use Rattle.omi_rule.specs.Ahead.{IsAhead}
use Rattle.omi_rule.specs.Chains.{KeepsContext, StandsInTask, StandsWith, encounter_of, idling, offering, worker_ahead, IsFront}
use Rattle.omi_rule.specs.Rule.{KeepsThread}
use Rattle.omi_rule.specs.Steps.{KeepsRule, StepKeeps, left_in}
use Rattle.omi_rule.proofs.OwnWords.{own_thread, store_on, thread_word}
use Rattle.omi_rule.proofs.Assembly.{Before, plain_event_keeps, quiet_keeps, spares_region, spares_threads}
use Rattle.omi_rule.proofs.KeptObjects.{region_kept, region_there}
use Rattle.omi_rule.proofs.NewMembers.{waiting_step}
use Rattle.omi_rule.proofs.Owing.{owed_after, step_of}
use Rattle.omi_rule.proofs.OwnTask.{is_current, list_moved, own_ahead, own_taken, top, own_front}
use Rattle.omi_rule.proofs.WorkerLists.{worker_lists}
use Rattle.omi_rule.proofs.plain.OwnEvents.{environment_stays}
use Rattle.omi_rule.proofs.join.Departures.{ended_few}
use Rattle.omi_rule.proofs.worker.WorkerEvents.{alone_after, fits_worker, owes_now, stands_alone, worker_list}
use Rattle.omi_rule.proofs.worker.WorkerLoads.{region_maker_of, task_word}
use Rattle.omi_rule.specs.Chains.{RunsFunctions}

-- behind the stored state, or without one
idle_ahead : (p : Program) (s : State) → s.environment ≡ p.env → idling s ≡ worker_ahead s (idle_counter p)
idle_ahead p s same =
    ap (λ (e : Env). if e.debug then item.State IDLE 0 ∷ offering else offering) same ∙ go p.env.debug
  where
    go : (d : Bool)
        → (if d then item.State IDLE 0 ∷ offering else offering) ≡ worker_ahead s (if d then worker.IdleState else worker.Offer)
    go true = refl
    go false = refl

-- ---- the addition to the members that have left

module _ (p : Program) (w : List ℕ) (m : Memory) (events : List (ℕ × Event)) (s : State) (actors : ℕ → Actor)
    (i : ℕ) (before : Before p w m events s actors i) where
  pub leaves : (q : Rid) → (actors i).counter ≡ counter.Worker (worker.AddLeft q)
      → StepKeeps p w m events s actors i (worker_next w (actors i) (worker.AddLeft q))
      (λ old. (worker_moved p w (actors i) (worker.AddLeft q) old, worker_outcome w (actors i) (worker.AddLeft q) old))
  leaves q at = go ((before.rule.words.made i before.known).objects.left q (ap (λ (o : Owed). o.left) owes))
    where
      owes : all_owed actors i ≡ record nothing { left = Some q }
      owes = owes_now p w m events s actors i before (worker.AddLeft q) at

      fit : IsAlone (actors i) × (q.0.creator < p.threads)
      fit = fits_worker p w m events s actors i before (worker.AddLeft q) at

      go : (r : Region) × (region_of s q ≡ Some r) × (r.joined ≡ false)
          → StepKeeps p w m events s actors i (op.Add (of_region w q RegionLeft) 1) (λ old. (to_worker (idle_counter p) (actors i), outcome.Quiet))
      go (r, found, not_joined) = (
        task_word q.0 RegionLeft,
        record { there = record { field = record { from = omega arith; to = omega arith }; record_slot = region_there p w m events s actors before.rule q r found; within = omega arith }; address = refl },
        quiet_keeps p w m events s actors i before (op.Add (of_region w q RegionLeft) 1)
            (task_word q.0 RegionLeft) (to_worker (idle_counter p) (actors i), outcome.Quiet) refl words
            (λ j other. spares_region m s q r RegionLeft 0 ((m q.0.creator regions q.0.slot (number RegionLeft) 0 + 1) % 2 ^ 64) j (actors j) found (inr (let more : m q.0.creator regions q.0.slot (number RegionLeft) 0 ≤ (m q.0.creator regions q.0.slot (number RegionLeft) 0 + 1) % 2 ^ 64 = omega (arith, few) in more)))
            (by_debug p.env.debug refl),
      )
        where
          few : m q.0.creator regions q.0.slot (number RegionLeft) 0 + 1 < 2 ^ 64
          few =
              let left = (region_kept p w m events s actors before.rule q r found).left in
              let part : left_owed q (all_owed actors i) ≤ sum_of_owed s (all_owed actors) (left_owed q) =
              part_below s.count i (λ j. left_owed q (all_owed actors j)) before.known in
              let mine : left_owed q (all_owed actors i) ≡ 1 =
              ap (left_owed q) owes ∙ ap one (is_region_same q) in
              let most = ended_few r.ended in
              let ends = ((members_known p events s before.rule.reached).regions q r found).ended in
              let team = (are_manned p events s before.rule.reached).regions q r found in
              let threads = (Rules-from_accepted p).threads.1 in
              omega
              (arith, left, part, mine, most, ends, team, before.rule.within.count, before.suits.threads, threads)

          words : KeepsWords w (left_in m (op.Add (of_region w q RegionLeft) 1) (task_word q.0 RegionLeft)) s (all_owed (replace_at actors i (to_worker (idle_counter p) (actors i))))
          words =
              subst
              (λ v. KeepsWords w (with_word m q.0.creator regions q.0.slot (number RegionLeft) 0 v) s (all_owed (replace_at actors i (to_worker (idle_counter p) (actors i)))))
              (sym (mod-eq_of_lt few))
              (owed_after w (with_word m q.0.creator regions q.0.slot (number RegionLeft) 0 (m q.0.creator regions q.0.slot (number RegionLeft) 0 + 1)) s actors i (to_worker (idle_counter p) (actors i)) (record (all_owed actors i) { left = None }) (idle_owes p.env.debug ∙ ap (λ (o : Owed). record o { left = None }) (sym owes))
              (leaves_keep w m s (all_owed actors) i q before.rule.words before.known (ap (λ (o : Owed). o.left) owes)))
            where
              idle_owes : (d : Bool) → by_worker (if d then worker.IdleState else worker.Offer) ≡ nothing
              idle_owes true = refl
              idle_owes false = refl

          by_debug : (d : Bool) → p.env.debug ≡ d
              → KeepsThread p w (left_in m (op.Add (of_region w q RegionLeft) 1) (task_word q.0 RegionLeft)) events s i (to_worker (idle_counter p) (actors i))
          by_debug d e =
              subst
              (λ (c : WorkerCounter). KeepsThread p w (left_in m (op.Add (of_region w q RegionLeft) 1) (task_word q.0 RegionLeft)) events s i (to_worker c (actors i)))
              (ap (λ (b : Bool). if b then worker.IdleState else worker.Offer) (sym e)) (here d e)
            where
              list : (d : Bool) → p.env.debug ≡ d
                  → (s.threads i).list ≡ worker_ahead s (if d then worker.IdleState else worker.Offer)
              list d e =
                  worker_list p w m events s actors i before (worker.AddLeft q) at fit.0
                  ∙ idle_ahead p s (environment_stays p events s before.rule.reached)
                  ∙ ap (λ (b : Bool). worker_ahead s (if b then worker.IdleState else worker.Offer)) e

              here : (d : Bool) → p.env.debug ≡ d
                  → KeepsThread p w (left_in m (op.Add (of_region w q RegionLeft) 1) (task_word q.0 RegionLeft)) events s i (to_worker (if d then worker.IdleState else worker.Offer) (actors i))
              here true e =
                  alone_after p w m events s actors i before (worker.AddLeft q) at fit.0
                  (left_in m (op.Add (of_region w q RegionLeft) 1) (task_word q.0 RegionLeft)) events s worker.IdleState fit.0 tt
                  (stands_alone p w m events s actors i before (worker.AddLeft q) at fit.0).current
                  (list true e) tt
              here false e =
                  alone_after p w m events s actors i before (worker.AddLeft q) at fit.0
                  (left_in m (op.Add (of_region w q RegionLeft) 1) (task_word q.0 RegionLeft)) events s worker.Offer fit.0 tt
                  (stands_alone p w m events s actors i before (worker.AddLeft q) at fit.0).current
                  (list false e) tt

-- ---- the end of the task

module _ (p : Program) (w : List ℕ) (m : Memory) (events : List (ℕ × Event)) (s : State) (actors : ℕ → Actor)
    (i : ℕ) (before : Before p w m events s actors i)
    (at : (actors i).counter ≡ counter.Worker worker.ImplicitEnd)
    (f : Frame) (fs : List Frame) (stack : (actors i).stack ≡ f ∷ fs) where
  abbrev a : Actor
  a = actors i

  abbrev k : Tid
  k = (actors i).context.task

  stands : StandsInTask p s i (actors i)
  stands = subst (StandsWith p s i (actors i)) stack (before.rule.threads i before.known).stands

  abbrev t : Task
  t = (top p s i (actors i) stands).task

  abbrev ctx : KeepsContext s i (actors i).context
  ctx = top p s i (actors i) stands

  current : IsCurrent s i k t
  current = is_current p s i (actors i) stands

  -- the body of a worker is the last one
  bodies : AreOpen p (actors i).context (f ∷ fs)
  bodies = subst (AreOpen p (actors i).context) stack (before.rule.threads i before.known).fits.bodies

  is_worker : IsWorker f.opened
  is_worker =
      (subst (IsAtEnd p IsWorker) stack (fits_worker p w m events s actors i before worker.ImplicitEnd at)).1

  last : (fs ≡ []) × IsFirstTask (actors i).context × ((actors i).context.number ≢ 0) × (f.opened ≡ opened.Worker)
  last = go f.opened is_worker bodies.0.stands refl
    where
      go : (o : Opened) → IsWorker o → StandsOn p (actors i).context f.function fs o → f.opened ≡ o
          → (fs ≡ []) × IsFirstTask (actors i).context × ((actors i).context.number ≢ 0) × (f.opened ≡ opened.Worker)
      go opened.Worker is (none, first, other) e = (none, first, other, e)
      go opened.Main is on e = absurd is
      go (opened.Master saved) is on e = absurd is
      go (opened.Task x saved) is on e = absurd is
      go opened.Call is on e = absurd is
      go (opened.Repeat left) is on e = absurd is
      go (opened.Critical lock) is on e = absurd is
      go opened.Taskgroup is on e = absurd is

  implicit : t.implicit ≡ true
  implicit = ctx.implicit ∙ last.1.implicit

  other : t.number ≢ 0
  other = λ zero. last.2 (sym ctx.number ∙ zero)

  abbrev r : Region
  r = ctx.region

  found : region_of s t.region ≡ Some r
  found = subst (λ (x : Rid). region_of s x ≡ Some r) (sym ctx.region_is) ctx.found

  -- ---- the next state

  abbrev z : State
  z = on_task s k (relisted [])

  abbrev u : State
  u = task_ended z i k (relisted [] t)

  live : task_of z k ≡ Some (relisted [] t)
  live =
      on_same s.tasks k.0 (relisted [])
      ∙ ap (λ (x : Option Task). option_map {T = Task} (relisted []) x) ctx.live

  list : t.list ≡ item.ImplicitEnd ∷ []
  list =
      subst (λ c. IsAhead p (encounter_of s (actors i).context) (actors i).stack c t.list) at
      (own_ahead p s i (actors i) stands)

  abbrev ends_last : Item × List Item
  ends_last = (item.ImplicitEnd, [])

  taken : take_item p (encounter s i) (event.ImplicitEnd k) (ahead_of s i) ≡ Some ends_last
  taken =
      own_taken p s i (actors i) stands events before.rule.reached
      (subst (λ (c : Counter). IsFront c t.frees) at (own_front p s i (actors i) stands)) (encounter s i) (event.ImplicitEnd k) item.ImplicitEnd []
      (ap (take_item p (encounter s i) (event.ImplicitEnd k)) list)

  step : Step p s i (event.ImplicitEnd k) u
  step =
      step_of p s i (event.ImplicitEnd k) u item.ImplicitEnd [] before.known taken
      (k, t, r, current, found, record { current = refl; implicit = implicit; other = other })
      (ap (λ (x : State). effect p x i (event.ImplicitEnd k) item.ImplicitEnd) (list_moved p s i (actors i) stands [])
      ∙ at_current z i k (relisted [] t) (task_ended z i) (record { name = current.name; live = live }))

  -- ---- words

  owes : all_owed actors i ≡ nothing
  owes = owes_now p w m events s actors i before worker.ImplicitEnd at

  abbrev stored : Memory
  stored = with_word m i threads 0 (number ThreadCurrent) 0 0

  going : (slice_get r.ended t.number ≡ Some false) × (r.joined ≡ false)
  going =
      ((members_in_step p events s before.rule.reached).members k t r ctx.live implicit found).going
      (λ over. cc (sym ctx.begun, over))

  words : KeepsWords w stored u (replace_at (all_owed actors) i (record nothing { left = Some t.region }))
  words =
      ends_keep w m z (all_owed actors) i k (relisted [] t) r
      (subst (λ (x : State). KeepsWords w m x (all_owed actors)) (list_moved p s i (actors i) stands []) (list_moves_keep w m s (all_owed actors) i [] before.rule.words before.known))
      before.known owes
      (record { live = live; implicit = implicit; progress = ctx.begun; region = found }) other going.0 going.1

  -- ---- the thread

  abbrev b : Actor
  b = to_worker (worker.AddLeft (actors i).context.region) (closed (actors i))

  stack_is : (closed (actors i)).stack ≡ []
  stack_is = ap (λ (x : List Frame). (closed_in (actors i) x).stack) stack ∙ last.0

  owes_left : owed b ≡ record nothing { left = Some t.region }
  owes_left = ap (λ (x : Rid). record nothing { left = Some x }) (sym ctx.region_is)

  closed_same : (closed (actors i)).thread ≡ (actors i).thread
  closed_same = ap (λ (x : List Frame). (closed_in (actors i) x).thread) stack

  closed_gathered : (closed (actors i)).gathered ≡ (actors i).gathered
  closed_gathered = ap (λ (x : List Frame). (closed_in (actors i) x).gathered) stack

  none_now : (u.threads i).current ≡ None
  none_now = ap (λ (h : Thread). h.current) (put_same z.threads i (record (z.threads i) { current = None }))

  -- thread 0 always has a task
  first : i ≢ 0
  first same =
      let always =
      ((claims_kept p (events ++ (i, event.ImplicitEnd k) ∷ []) u (leads_on p (opening p) events s (i, event.ImplicitEnd k) u before.rule.reached step) i).first same).1 in
      let never : IsSome {T = Tid} None = subst (λ (x : Option Tid). IsSome x) none_now always in
      absurd (cc never)

  own : KeepsThread p w stored (events ++ (i, event.ImplicitEnd k) ∷ []) u i b
  own =
      let o = before.rule.threads i before.known in
      record {
        thread = closed_same ∙ o.thread;
        fits = record {
          thread = subst (λ n. n < p.threads) (sym closed_same) o.fits.thread;
          variables = ap (λ (g : Gathered). length g.variables) closed_gathered ∙ o.fits.variables;
          bodies = subst (AreOpen p (closed (actors i)).context) (sym stack_is) tt;
          counter = (stack_is, region_maker_of p w m events s actors i before (actors i).context.region r ctx.found);
        };
        placed = record { bodies = subst (AreContextsPlaced w (closed (actors i)).context) (sym stack_is) tt; counter = region_there p w m events s actors before.rule (actors i).context.region r ctx.found };
        stands = subst (StandsWith p u i b) (sym stack_is) (record {
          current = none_now;
          ahead =
              ap (λ (h : Thread). h.list) (put_same z.threads i (record (z.threads i) { current = None }))
              ∙ worker_lists p events s before.rule.reached i k current.name first
              ∙ ap (λ (e : Env). if e.debug then item.State IDLE 0 ∷ offering else offering) (sym (environment_stays p events s before.rule.reached));
        });
        runs = subst (RunsFunctions u (closed (actors i)).context) (sym stack_is) tt;
        row = tt;
        ended = tt;
      }

  pub ends_rule : KeepsRule p w m events s actors i (op.Store (of_thread w (actors i).thread ThreadCurrent) 0) (thread_word i ThreadCurrent) (b, outcome.Event (event.ImplicitEnd k))
  ends_rule =
      plain_event_keeps p w m events s actors i before
      (op.Store (of_thread w (actors i).thread ThreadCurrent) 0) (thread_word i ThreadCurrent)
      (b, outcome.Event (event.ImplicitEnd k)) (event.ImplicitEnd k) u (λ x. x) refl step
      (ap (λ x. op.Store x 0) (own_thread p w m events s actors i before ThreadCurrent))
      (waiting_step p s i (event.ImplicitEnd k) u step
      (λ y there h fork. let same : item.ImplicitEnd ≡ y.0 = ap (λ (x : Item × List Item). x.0) (some_same taken there) in absurd (cc (same, fork))) before.rule.waiting)
      (owed_after w stored u actors i b (record nothing { left = Some t.region }) owes_left words)
      (λ j apart. spares_threads m s i ThreadCurrent 0 j (actors j) (λ same. absurd (omega (arith, same))))
      own

pub ends_implicit : (p : Program) (w : List ℕ) (m : Memory) (events : List (ℕ × Event)) (s : State) (actors : ℕ → Actor) (i : ℕ)
    → Before p w m events s actors i → (actors i).counter ≡ counter.Worker worker.ImplicitEnd
    → StepKeeps p w m events s actors i (worker_next w (actors i) worker.ImplicitEnd)
    (λ old. (worker_moved p w (actors i) worker.ImplicitEnd old, worker_outcome w (actors i) worker.ImplicitEnd old))
ends_implicit p w m events s actors i before at =
    go (actors i).stack refl (fits_worker p w m events s actors i before worker.ImplicitEnd at)
  where
    go : (xs : List Frame) → (actors i).stack ≡ xs → IsAtEnd p IsWorker xs
        → StepKeeps p w m events s actors i (worker_next w (actors i) worker.ImplicitEnd)
        (λ old. (worker_moved p w (actors i) worker.ImplicitEnd old, worker_outcome w (actors i) worker.ImplicitEnd old))
    go [] is none = absurd none
    go (f ∷ fs) is end = (
      thread_word i ThreadCurrent,
      store_on p w m events s actors i before ThreadCurrent 0 refl,
      ends_rule p w m events s actors i before at f fs is,
    )
