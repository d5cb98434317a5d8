-- A worker begins the implicit task that it has met.
use Rattle.std.proofs.Common.{◌≡◌, ◌≢◌, ◌<◌, ◌++◌, ◌==◌, inl, ℕ, Bool, true, false, List, [], ◌∷◌, length, slice_get, slice_index, Option, Some, None, refl, sym, ap, ◌∙◌, subst, arith, if◌then◌else◌}
use Rattle.std.proofs.Common.{eqb-true}
use Rattle.std.specs.Option.{option_map, option_map_or}
use Rattle.omi_word.specs.declared.op.Op.TheVariants as op
use Rattle.omi_script.specs.declared.env.Env.{Env}
use Rattle.omi_script.specs.declared.program.Program.{Program}
use Rattle.omi_model.specs.declared.encounter.Encounter.{Encounter}
use Rattle.omi_model.specs.declared.event.Event.{Event}
use Rattle.omi_model.specs.declared.event.Event.TheVariants as event
use Rattle.omi_model.specs.declared.id.Rid.{Rid}
use Rattle.omi_model.specs.declared.id.Tid.{Tid}
use Rattle.omi_model.specs.declared.item.Item.{Item}
use Rattle.omi_model.specs.declared.item.Item.TheVariants as item
use Rattle.omi_model.specs.declared.progress.Progress.TheVariants as progress
use Rattle.omi_model.specs.declared.region.Region.{Region}
use Rattle.omi_model.specs.declared.task.Task.{Task}
use Rattle.omi_model.specs.declared.thread.Thread.{Thread}
use Rattle.omi_model.specs.Changes.{encounter, encounter_by, level_of, on_thread}
use Rattle.omi_model.specs.Lists.{stays, take_item}
use Rattle.omi_model.specs.Reached.{Step}
use Rattle.omi_numbers.specs.Addresses.{exit_frame}
use Rattle.omi_model.specs.Rows.{end_of_member, function_items, member_items, working}
use Rattle.omi_model.specs.State.{State, region_of, task_of}
use Rattle.omi_model.specs.Teams.{task_begun}
use Rattle.omi_model.proofs.groups.GroupLaws.{groups_right}
use Rattle.omi_model.proofs.MembersKnown.{members_known}
use Rattle.omi_model.proofs.Slots.{on_same, put_same, some_same}
use Rattle.omi_model.proofs.members.ClosingItems.{lists_right}
use Rattle.omi_model.proofs.members.MembersInStep.{members_in_step}
use Rattle.omi_layout.specs.declared.field.Field.TheVariants.{ThreadCurrent}
use Rattle.omi_layout.specs.Field.{threads}
use Rattle.omi_layout.specs.Memory.{Memory, replace_at, with_word}
use Rattle.omi_layout.specs.Named.{number}
use Rattle.omi_pc.specs.declared.actor.Actor.{Actor}
use Rattle.omi_pc.specs.declared.context.Context.{Context}
use Rattle.omi_pc.specs.declared.counter.Counter.TheVariants as counter
use Rattle.omi_pc.specs.declared.frame.Frame.{Frame}
use Rattle.omi_pc.specs.declared.frame.Opened.TheVariants as opened
use Rattle.omi_pc.specs.declared.team_counter.WorkerCounter.{WorkerCounter}
use Rattle.omi_pc.specs.declared.team_counter.WorkerCounter.TheVariants as worker
use Rattle.omi_pc.specs.Fits.{FitsWorker, HasTask}
use Rattle.omi_pc.specs.Frames.{at_start}
use Rattle.omi_pc.specs.Moves as Moves
use Rattle.omi_pc.specs.Moves.{begun_worker}
use Rattle.omi_pc.specs.OpenBodies.{AreOpen, IsAtStart, IsContext, StartsWorking}
use Rattle.omi_pc.proofs.Moved.{body_opens}
use Rattle.omi_rep.specs.declared.outcome.Outcome.TheVariants as outcome
use Rattle.omi_rep.specs.Records.{task_address}
use Rattle.omi_rule_words.specs.Owes.{all_owed, nothing}
use Rattle.omi_rule_words.specs.Threads.{WaitsFor}
use Rattle.omi_rule_words.specs.Words.{KeepsWords}
use Rattle.omi_rule_words.proofs.ListMoves.{list_moves_keep}
use Rattle.omi_rule_words.proofs.TaskBegins.{begins_keep}
use Rattle.omi_step_words.specs.Placed.{AreContextsPlaced}
use Rattle.omi_step_words.specs.Words.{of_thread}
use Rattle.omi_fork.specs.WorkerSteps.{member_context, worker_moved, worker_next, worker_outcome}
use Rattle.omi_rule.specs.Ahead as Ahead
use Rattle.omi_rule.specs.Chains.{KeepsBodies, KeepsContext, encounter_of, IsPassable}
use Rattle.omi_rule.specs.Rows.{HasSize}
use Rattle.omi_rule.specs.Rule.{IsNewMember, KeepsThread}
use Rattle.omi_rule.specs.Steps.{KeepsRule, StepKeeps}
use Rattle.omi_rule.proofs.OwnWords.{own_thread, store_on, thread_word}
use Rattle.omi_rule.proofs.Assembly.{Before, plain_event_keeps, spares_threads}
use Rattle.omi_rule.proofs.Begun.{works, works_owing_nothing}
use Rattle.omi_rule.proofs.KeptObjects.{region_there, task_there}
use Rattle.omi_rule.proofs.MemberFunctions.{member_function}
use Rattle.omi_rule.proofs.NewMembers.{waiting_step}
use Rattle.omi_rule.proofs.Owing.{idle_moved, owed_after, step_of}
use Rattle.omi_rule.proofs.plain.OwnEvents.{environment_stays}
use Rattle.omi_rule.proofs.worker.WorkerEvents.{fits_worker, owes_now, row_is, stands_alone, taken_list}
use Rattle.omi_rule.proofs.worker.WorkerLoads.{implicit_is, one_waits}
use Rattle.omi_rule.specs.Chains.{RunsFunctions}
use Rattle.omi_rule.proofs.WaitingFronts.{waiting_passes}

module _ (p : Program) (w : List ℕ) (m : Memory) (events : List (ℕ × Event)) (s : State) (actors : ℕ → Actor)
    (i : ℕ) (before : Before p w m events s actors i)
    (k : Tid) (f : ℕ) (q : Rid) (size n : ℕ)
    (at : (actors i).counter ≡ counter.Worker (worker.ImplicitBegin k f q size n)) (o : WaitsFor s i k)
    (f_is : o.task.function ≡ f) (q_is : o.task.region ≡ q) (n_is : o.task.number ≡ n)
    (r : Region) (found : region_of s q ≡ Some r) (sized : length r.team ≡ size) where
  abbrev c : WorkerCounter
  c = worker.ImplicitBegin k f q size n

  fit : FitsWorker p (actors i) c
  fit = fits_worker p w m events s actors i before c at

  alone : (actors i).stack ≡ []
  alone = fit.0.0.0.0.0

  none : (s.threads i).current ≡ None
  none = (stands_alone p w m events s actors i before c at alone).current

  -- what stands in the worker's list afterwards
  abbrev rest : List Item
  rest = stays (encounter s i) (event.ImplicitBegin k) item.Serve []

  abbrev z : State
  z = on_thread s i (λ h. record h { list = rest })

  abbrev u : State
  u = task_begun z i k

  step : Step p s i (event.ImplicitBegin k) u
  step =
      step_of p s i (event.ImplicitBegin k) u item.Serve [] before.known
      (ap (take_item p (encounter s i) (event.ImplicitBegin k)) (taken_list p w m events s actors i before c at alone))
      (record { idle = none; member = o.task; live = o.live; waiting = o.progress; mine = o.thread })
      (ap (λ (x : State). Some (task_begun x i k)) (idle_moved s i rest none))

  -- ---- words

  waits_still : (t : Tid) → WaitsFor z i t → WaitsFor s i t
  waits_still t x = record { task = x.task; live = x.live; progress = x.progress; thread = x.thread }

  abbrev stored : Memory
  stored = with_word m i threads 0 (number ThreadCurrent) 0 (task_address w k)

  words : KeepsWords w stored u (replace_at (all_owed actors) i nothing)
  words =
      begins_keep w m z (all_owed actors) i k
      (subst (λ (x : State). KeepsWords w m x (all_owed actors)) (idle_moved s i rest none) (list_moves_keep w m s (all_owed actors) i rest before.rule.words before.known))
      before.known (owes_now p w m events s actors i before c at)
      (record { task = o.task; live = o.live; progress = o.progress; thread = o.thread })
      (λ t x. one_waits p w m events s actors i before k o t (waits_still t x))
      (λ t live. ap (λ (x : Task). x.implicit) (sym (some_same o.live live)) ∙ implicit_is p w m events s actors i before k o)

  -- ---- the task afterwards

  passes : IsPassable o.task.frees
  passes =
      waiting_passes p events s before.rule.reached k o.task o.live (λ is. cc (sym o.progress, is))

  abbrev begun : Task
  begun = record o.task { progress = progress.Begun }

  live : task_of u k ≡ Some begun
  live =
      on_same z.tasks k.0 (λ t. record t { progress = progress.Begun })
      ∙ ap (λ (x : Option Task). option_map {T = Task} (λ t. record t { progress = progress.Begun }) x) o.live

  abbrev context : Context
  context = member_context k q size n

  -- the member, as its region says
  known : (x : Region) × (region_of s o.task.region ≡ Some x) × (slice_get x.team o.task.number ≡ Some (k, o.task.thread))
  known =
      (members_known p events s before.rule.reached).tasks k o.task o.live
      (implicit_is p w m events s actors i before k o)

  same_region : known.0 ≡ r
  same_region = some_same known.1 (subst (λ (x : Rid). region_of s x ≡ Some r) (sym q_is) found)

  row : slice_get r.team n ≡ Some (k, i)
  row =
      subst (λ h. slice_get r.team h ≡ Some (k, i)) n_is
      (ap (λ (x : Region). slice_get x.team o.task.number) (sym same_region) ∙ known.2 ∙ ap (λ h. Some (k, h)) o.thread)

  other : n ≢ 0
  other = fit.2

  arrivals : slice_index r.arrivals n ≡ 0
  arrivals =
      let waits =
      ((members_in_step p events s before.rule.reached).members k o.task r o.live (implicit_is p w m events s actors i before k o) (subst (λ (x : Rid). region_of s x ≡ Some r) (sym q_is) found)).waiting o.progress in
      ap (λ h. slice_index r.arrivals h) (sym n_is) ∙ waits.1

  new : IsNewMember p o.task
  new = before.rule.waiting k o.task o.live o.progress

  kept : KeepsContext u i context
  kept = record {
    task = begun;
    live = live;
    begun = refl;
    thread = o.thread;
    implicit = implicit_is p w m events s actors i before k o;
    region_is = q_is;
    number = n_is;
    final = new.final;
    exit = new.exit ∙ ap (λ h. exit_frame h 1) o.thread;
    region = r;
    found = found;
    size = sized;
    row = row;
    arrivals = arrivals;
    groups = (groups_right p events s before.rule.reached k o.task o.live).closed (λ begun. cc (sym o.progress, begun));
  }

  -- what the rows of its statements see
  level : level_of u begun.region ≡ r.levels
  level =
      ap (λ (x : Rid). level_of s x) q_is
      ∙ ap (λ (x : Option Region). option_map_or (λ y. y.levels) x 0) found

  debug : s.environment ≡ p.env
  debug = environment_stays p events s before.rule.reached

  seen : encounter_of u context ≡ record { debug = p.env.debug; number = o.task.number; level = r.levels; is_final = false }
  seen =
      ap (encounter_by u) live
      ∙ ap
      (λ (b : Bool). record { debug = b; number = o.task.number; level = level_of u begun.region; is_final = o.task.is_final })
      (ap (λ (e : Env). e.debug) debug)
      ∙ ap
      (λ l. record { debug = p.env.debug; number = o.task.number; level = l; is_final = o.task.is_final }) level
      ∙ ap
      (λ (b : Bool). record { debug = p.env.debug; number = o.task.number; level = r.levels; is_final = b }) new.final

  -- ---- the thread afterwards

  abbrev b : Actor
  b = begun_worker f context (actors i)

  stack : b.stack ≡ at_start f opened.Worker ∷ []
  stack = ap (λ (x : List Frame). at_start f opened.Worker ∷ x) alone

  function_is : r.function ≡ f
  function_is =
      member_function p events s before.rule.reached k o.task r o.live
      (implicit_is p w m events s actors i before k o)
      (subst (λ (y : Rid). region_of s y ≡ Some r) (sym q_is) found)
      ∙ f_is

  list : o.task.list ≡ working (encounter_of u context) (Ahead.worked p (encounter_of u context) b.stack)
  list =
      (lists_right p events s before.rule.reached k o.task o.live).waiting o.progress r
      (subst (λ (y : Rid). region_of s y ≡ Some r) (sym q_is) found)
      ∙ ap
      (λ g. member_items p (record { debug = p.env.debug; number = o.task.number; level = r.levels; is_final = false }) g) function_is
      ∙ last
      ∙ ap (λ (e : Encounter). working e (Ahead.worked p e (at_start f opened.Worker ∷ []))) (sym seen)
      ∙ ap (λ (x : List Frame). working (encounter_of u context) (Ahead.worked p (encounter_of u context) x))
      (sym stack)
    where
      last : member_items p (record { debug = p.env.debug; number = o.task.number; level = r.levels; is_final = false }) f
          ≡ working
          (record { debug = p.env.debug; number = o.task.number; level = r.levels; is_final = false })
          (Ahead.worked p (record { debug = p.env.debug; number = o.task.number; level = r.levels; is_final = false }) (at_start f opened.Worker ∷ []))
      last = go (o.task.number == 0) refl
        where
          go : (x : Bool) → o.task.number == 0 ≡ x
              → member_items p (record { debug = p.env.debug; number = o.task.number; level = r.levels; is_final = false }) f
              ≡ working
              (record { debug = p.env.debug; number = o.task.number; level = r.levels; is_final = false })
              (Ahead.worked p (record { debug = p.env.debug; number = o.task.number; level = r.levels; is_final = false }) (at_start f opened.Worker ∷ []))
          go true e = absurd (other (sym n_is ∙ eqb-true o.task.number 0 e))
          go false e =
              ap (λ (x : Bool). working (record { debug = p.env.debug; number = o.task.number; level = r.levels; is_final = false })
              (function_items p f (end_of_member (record { debug = p.env.debug; number = o.task.number; level = r.levels; is_final = false }) ((if x then item.Join else item.ImplicitEnd) ∷ [])))) e

  in_range : IsContext p context
  in_range = record {
    size = (omega (arith, fit.1), fit.0.1);
    number = fit.1;
    arrivals = omega arith;
    groups = omega arith;
    task = fit.0.0.0.0.1;
    region = fit.0.0.1;
    row = fit.0.0.0.0.1;
    implicit = λ e. refl;
  }

  bodies : AreOpen p context (at_start f opened.Worker ∷ [])
  bodies =
      body_opens p context f opened.Worker [] fit.0.0.0.1 in_range
      (refl, record { implicit = refl; depth = refl }, other) tt

  has : HasTask p b
  has = record {
    thread = (before.rule.threads i before.known).fits.thread;
    variables = (before.rule.threads i before.known).fits.variables;
    bodies = subst (AreOpen p context) (sym stack) bodies;
    some = subst (λ (x : List Frame). 0 < length x) (sym stack) (omega arith);
  }

  own : KeepsThread p w stored (events ++ (i, event.ImplicitBegin k) ∷ []) u i (Moves.back_to_work p b)
  own =
      works p w stored (events ++ (i, event.ImplicitBegin k) ∷ []) u i b (at_start f opened.Worker) [] stack
      (before.rule.threads i before.known).thread has
      (inl (subst (IsAtStart StartsWorking) (sym stack) (refl, tt)))
      (subst (AreContextsPlaced w context) (sym stack) (record { task = task_there p w m events s actors before.rule k o.task o.live; region = region_there p w m events s actors before.rule q r found; row = task_there p w m events s actors before.rule k o.task o.live }, tt))
      (ap (λ (e : Encounter). e.debug) seen)
      (ap (λ (h : Thread). h.current) (put_same z.threads i (record (z.threads i) { current = Some k })))
      (subst (KeepsBodies p u i context) (sym stack) (kept, tt, kept))
      (subst (RunsFunctions u context) (sym stack) (λ opens t now. ap (λ (x : Task). x.function) (some_same now live) ∙ f_is, tt))
      (λ t now. ap (λ (x : Task). x.list) (some_same now live) ∙ list)
      (λ t now. subst (λ (x : Task). IsPassable x.frees) (some_same live now) passes)

  pub begins_task : KeepsRule p w m events s actors i (op.Store (of_thread w (actors i).thread ThreadCurrent) (task_address w k)) (thread_word i ThreadCurrent) (Moves.back_to_work p b, outcome.Event (event.ImplicitBegin k))
  begins_task =
      plain_event_keeps p w m events s actors i before
      (op.Store (of_thread w (actors i).thread ThreadCurrent) (task_address w k))
      (thread_word i ThreadCurrent) (Moves.back_to_work p b, outcome.Event (event.ImplicitBegin k))
      (event.ImplicitBegin k) u (λ x. x) refl step
      (task_address w k, ap (λ x. op.Store x (task_address w k)) (own_thread p w m events s actors i before ThreadCurrent))
      (waiting_step p s i (event.ImplicitBegin k) u step
      (λ y there h fork. let same : item.Serve ≡ y.0 = ap (λ (x : Item × List Item). x.0) (some_same (ap (take_item p (encounter s i) (event.ImplicitBegin k)) (taken_list p w m events s actors i before c at alone)) there) in absurd (cc (same, fork))) before.rule.waiting)
      (owed_after w stored u actors i (Moves.back_to_work p b) nothing (works_owing_nothing p b (at_start f opened.Worker) [] stack) words)
      (λ j apart. spares_threads m s i ThreadCurrent (task_address w k) j (actors j) (λ same. absurd (omega (arith, same))))
      own

-- at the counter
pub begins_implicit : (p : Program) (w : List ℕ) (m : Memory) (events : List (ℕ × Event)) (s : State) (actors : ℕ → Actor) (i : ℕ)
    → Before p w m events s actors i → (k : Tid) (f : ℕ) (q : Rid) (size n : ℕ)
    → (actors i).counter ≡ counter.Worker (worker.ImplicitBegin k f q size n)
    → StepKeeps p w m events s actors i (worker_next w (actors i) (worker.ImplicitBegin k f q size n))
    (λ old. (worker_moved p w (actors i) (worker.ImplicitBegin k f q size n) old, worker_outcome w (actors i) (worker.ImplicitBegin k f q size n) old))
begins_implicit p w m events s actors i before k f q size n at =
    go (row_is p w m events s actors i before (worker.ImplicitBegin k f q size n) at)
  where
    go : ((o : WaitsFor s i k) × ((o.task.function ≡ f) × (o.task.region ≡ q) × (o.task.number ≡ n))) × HasSize s q size
        → StepKeeps p w m events s actors i
        (op.Store (of_thread w (actors i).thread ThreadCurrent) (task_address w k))
        (λ old. (Moves.back_to_work p (begun_worker f (member_context k q size n) (actors i)), outcome.Event (event.ImplicitBegin k)))
    go ((o, (is_f, is_q, is_n)), (r, found, sized)) = (
      thread_word i ThreadCurrent,
      store_on p w m events s actors i before ThreadCurrent (task_address w k) refl,
      begins_task p w m events s actors i before k f q size n at o is_f is_q is_n r found sized,
    )
