-- The steps of a worker: it begins, offers itself, meets the task that a master assigned to it, and ends it.
use Rattle.std.specs.Prelude.{◌==◌, ℕ, true, false, List, if◌then◌else◌}
use Rattle.omi_numbers.specs.declared.holders.TheConstants.{FREE_CLAIM}
use Rattle.omi_word.specs.declared.op.Op.{Op}
use Rattle.omi_word.specs.declared.op.Op.TheVariants as op
use Rattle.omi_script.specs.declared.program.Program.{Program}
use Rattle.omi_model.specs.declared.event.Event.TheVariants as event
use Rattle.omi_model.specs.declared.id.Rid.{Rid}
use Rattle.omi_model.specs.declared.id.Tid.{Tid}
use Rattle.omi_numbers.specs.declared.states.TheConstants.{IDLE}
use Rattle.omi_numbers.specs.Words.{state_word}
use Rattle.omi_numbers.specs.Addresses.{function_at}
use Rattle.omi_layout.specs.declared.field.Field.TheVariants.{ThreadLife, ThreadCurrent, ThreadState, ThreadClaim, ThreadAssign, RegionLife, RegionSize, RegionLeft, TaskLife, TaskRegion, TaskNumber, TaskFunction}
use Rattle.omi_rep.specs.declared.outcome.Outcome.{Outcome}
use Rattle.omi_rep.specs.declared.outcome.Outcome.TheVariants as outcome
use Rattle.omi_rep.specs.Records.{task_address}
use Rattle.omi_pc.specs.declared.actor.Actor.{Actor}
use Rattle.omi_pc.specs.declared.context.Context.{Context}
use Rattle.omi_pc.specs.declared.team_counter.WorkerCounter.{WorkerCounter}
use Rattle.omi_pc.specs.declared.team_counter.WorkerCounter.TheVariants as worker
use Rattle.omi_pc.specs.Moves.{begun_worker, closed, back_to_work}
use Rattle.omi_step_words.specs.Moving.{to_worker}
use Rattle.omi_step_words.specs.Words.{of_thread, of_place, of_region, of_task, object_in, task_place, region_place}

-- ---- operations

abbrev pub worker_next : List ℕ → Actor → WorkerCounter → Op
worker_next w a worker.Begin = op.Store (of_thread w a.thread ThreadLife) 1
worker_next w a worker.Offer = op.Store (of_thread w a.thread ThreadClaim) FREE_CLAIM
worker_next w a worker.LoadAssign = op.Load (of_thread w a.thread ThreadAssign)
worker_next w a (worker.ClearAssign t) = op.Store (of_thread w a.thread ThreadAssign) 0
worker_next w a (worker.LoadLife t) = op.Load (of_place w t TaskLife)
worker_next w a (worker.LoadFunction t) = op.Load (of_task w t TaskFunction)
worker_next w a (worker.LoadRegion t f) = op.Load (of_task w t TaskRegion)
worker_next w a (worker.LoadRegionLife t f r) = op.Load (of_place w r RegionLife)
worker_next w a (worker.LoadSize t f r) = op.Load (of_region w r RegionSize)
worker_next w a (worker.LoadNumber t f r size) = op.Load (of_task w t TaskNumber)
worker_next w a (worker.ImplicitBegin t f r size number) =
    op.Store (of_thread w a.thread ThreadCurrent) (task_address w t)
worker_next w a worker.ImplicitEnd = op.Store (of_thread w a.thread ThreadCurrent) 0
worker_next w a (worker.AddLeft r) = op.Add (of_region w r RegionLeft) 1
worker_next w a worker.IdleState = op.Store (of_thread w a.thread ThreadState) (state_word IDLE 0)

-- ---- moves

-- what a member but member 0 knows of its implicit task as it begins
abbrev pub member_context : Tid → Rid → ℕ → ℕ → Context
member_context t r size number =
    record {
      task = t;
      region = r;
      row = t;
      number = number;
      size = size;
      arrivals = 0;
      open_groups = 0;
      implicit = true;
      is_final = false;
      depth = 1;
    }

-- the assign word was loaded: 0 where no task waits for this thread
abbrev pub assigned : List ℕ → Actor → ℕ → Actor
assigned w a old = if old == 0 then a else to_worker (worker.ClearAssign (task_place w old)) a

-- a worker that has ended its task offers itself again. Its state is stored first where states are kept
abbrev pub idle_counter : Program → WorkerCounter
idle_counter p = if p.env.debug then worker.IdleState else worker.Offer

-- where the step found the word `old`
abbrev pub worker_moved : Program → List ℕ → Actor → WorkerCounter → ℕ → Actor
worker_moved p w a worker.Begin old = to_worker worker.Offer a
worker_moved p w a worker.Offer old = to_worker worker.LoadAssign a
worker_moved p w a worker.LoadAssign old = assigned w a old
worker_moved p w a (worker.ClearAssign t) old = to_worker (worker.LoadLife t) a
worker_moved p w a (worker.LoadLife t) old =
    to_worker (worker.LoadFunction (record { 0 = object_in t old })) a
worker_moved p w a (worker.LoadFunction t) old = to_worker (worker.LoadRegion t (function_at old)) a
worker_moved p w a (worker.LoadRegion t f) old =
    to_worker (worker.LoadRegionLife t f (region_place w old)) a
worker_moved p w a (worker.LoadRegionLife t f r) old =
    to_worker (worker.LoadSize t f (record { 0 = object_in r old })) a
worker_moved p w a (worker.LoadSize t f r) old = to_worker (worker.LoadNumber t f r old) a
worker_moved p w a (worker.LoadNumber t f r size) old =
    to_worker (worker.ImplicitBegin t f r size old) a
worker_moved p w a (worker.ImplicitBegin t f r size number) old =
    back_to_work p (begun_worker f (member_context t r size number) a)
worker_moved p w a worker.ImplicitEnd old = to_worker (worker.AddLeft a.context.region) (closed a)
worker_moved p w a (worker.AddLeft r) old = to_worker (idle_counter p) a
worker_moved p w a worker.IdleState old = to_worker worker.Offer a

-- ---- outcomes

abbrev pub assign_outcome : List ℕ → Actor → ℕ → Outcome
assign_outcome w a old =
    if old == 0 then outcome.NotReady (of_thread w a.thread ThreadAssign) old else outcome.Quiet

abbrev pub worker_outcome : List ℕ → Actor → WorkerCounter → ℕ → Outcome
worker_outcome w a worker.Begin old = outcome.Event event.Begin
worker_outcome w a worker.Offer old = outcome.Event event.Offer
worker_outcome w a worker.LoadAssign old = assign_outcome w a old
worker_outcome w a (worker.ClearAssign t) old = outcome.Quiet
worker_outcome w a (worker.LoadLife t) old = outcome.Quiet
worker_outcome w a (worker.LoadFunction t) old = outcome.Quiet
worker_outcome w a (worker.LoadRegion t f) old = outcome.Quiet
worker_outcome w a (worker.LoadRegionLife t f r) old = outcome.Quiet
worker_outcome w a (worker.LoadSize t f r) old = outcome.Quiet
worker_outcome w a (worker.LoadNumber t f r size) old = outcome.Quiet
worker_outcome w a (worker.ImplicitBegin t f r size number) old =
    outcome.Event (event.ImplicitBegin t)
worker_outcome w a worker.ImplicitEnd old = outcome.Event (event.ImplicitEnd a.context.task)
worker_outcome w a (worker.AddLeft r) old = outcome.Quiet
worker_outcome w a worker.IdleState old = outcome.Event (event.State IDLE 0)
