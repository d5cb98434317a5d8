-- The steps of work, calls, internal control variables, the tool word, critical regions, the begin of a taskgroup region and the end of the
-- program, and those by which a task enters and leaves the runtime.
use Rattle.std.specs.Prelude.{ℕ, ◌+◌, ◌==◌, ◌&&◌, ◌||◌, Bool, List, Option, Some, None, if◌then◌else◌}
use Rattle.omi_numbers.specs.Holders.{holder_word, lock_wait}
use Rattle.omi_word.specs.declared.op.Op.{Op}
use Rattle.omi_word.specs.declared.op.Op.TheVariants as op
use Rattle.omi_script.specs.declared.program.Program.{Program}
use Rattle.omi_script.specs.declared.statement.Stmt.{Stmt}
use Rattle.omi_script.specs.declared.statement.Stmt.TheVariants as stmt
use Rattle.omi_model.specs.declared.event.Event.TheVariants as event
use Rattle.omi_model.specs.declared.id.Rid.{Rid}
use Rattle.omi_numbers.specs.declared.states.TheConstants.{WORK_SERIAL, WORK_PARALLEL, WAIT_CRITICAL}
use Rattle.omi_numbers.specs.Addresses.{exit_frame, enter_frame}
use Rattle.omi_numbers.specs.Words.{state_word}
use Rattle.omi_layout.specs.declared.field.Field.TheVariants.{RuntimeLocks, ThreadNative, ThreadState, TaskEnter, TaskTool}
use Rattle.omi_layout.specs.declared.limits.TheConstants.{OPEN_PLACE}
use Rattle.omi_layout.specs.Memory.{word_address}
use Rattle.omi_layout.specs.Named.{number}
use Rattle.omi_rep.specs.declared.outcome.Outcome.{Outcome}
use Rattle.omi_rep.specs.declared.outcome.Outcome.TheVariants as outcome
use Rattle.omi_pc.specs.declared.actor.Actor.{Actor}
use Rattle.omi_pc.specs.declared.counter.Counter.{Counter}
use Rattle.omi_pc.specs.declared.counter.Counter.TheVariants as counter
use Rattle.omi_pc.specs.declared.counter.PlainCounter.{PlainCounter}
use Rattle.omi_pc.specs.declared.counter.PlainCounter.TheVariants as plain
use Rattle.omi_pc.specs.declared.frame.Barrier.TheVariants.{Explicit}
use Rattle.omi_pc.specs.declared.frame.Opened.TheVariants as opened
use Rattle.omi_pc.specs.declared.frame.Wait.{Wait}
use Rattle.omi_pc.specs.declared.frame.Wait.TheVariants as wait
use Rattle.omi_pc.specs.declared.task_counter.LookCounter.TheVariants as look
use Rattle.omi_pc.specs.declared.task_counter.TaskCounter.TheVariants as task
use Rattle.omi_pc.specs.declared.team_counter.BarrierCounter.TheVariants as barrier
use Rattle.omi_pc.specs.declared.team_counter.TeamCounter.TheVariants as team
use Rattle.omi_pc.specs.FitLaws.{grouped}
use Rattle.omi_pc.specs.Moves.{returned, worked, back_to_work}
use Rattle.omi_pc.specs.Settle.{calling, goes_to, settled}
use Rattle.omi_pc.specs.Stacks.{function_of}
use Rattle.omi_plain.specs.Statements.{in_work, lock_in, set_address, set_number, set_word, tool_in}
use Rattle.omi_step_words.specs.Words.{of_groups, of_task, of_thread}

-- ---- operations

-- the native id of a thread, which never changes: the load stands for a step that needs no word
abbrev pub loading_native : List ℕ → Actor → Op
loading_native w a = op.Load (of_thread w a.thread ThreadNative)

-- the address of the word of a lock
abbrev pub of_lock : List ℕ → ℕ → ℕ
of_lock w k = word_address w 0 0 (number RuntimeLocks) k

-- the enter frame of the current task, which lies below its exit frame
abbrev pub enter_word : Actor → ℕ
enter_word a = enter_frame (exit_frame a.thread a.context.depth)

-- the initial region is the first object of thread 0
abbrev pub is_initial : Rid → Bool
is_initial n = n.0.creator == 0 && (n.0.slot == 0 && n.0.generation == 0)

-- the state of a thread that works: serially in the initial region, and in parallel in any other
abbrev pub actor_work_state : Actor → ℕ
actor_work_state a = if is_initial a.context.region then WORK_SERIAL else WORK_PARALLEL

abbrev pub plain_next : Program → List ℕ → Actor → PlainCounter → Op
plain_next p w a plain.Work = loading_native w a
plain_next p w a plain.Call = loading_native w a
plain_next p w a plain.Skip = loading_native w a
plain_next p w a plain.Return = loading_native w a
plain_next p w a plain.Set = op.Store (set_address w a (in_work p a)) (set_word (in_work p a))
plain_next p w a plain.Tool = op.Store (of_task w a.context.task TaskTool) (tool_in (in_work p a))
plain_next p w a plain.Enter = op.Store (of_task w a.context.task TaskEnter) (enter_word a)
plain_next p w a plain.Leave = op.Store (of_task w a.context.task TaskEnter) 0
plain_next p w a plain.WorkState =
    op.Store (of_thread w a.thread ThreadState) (state_word (actor_work_state a) 0)
plain_next p w a plain.LockState =
    op.Store (of_thread w a.thread ThreadState)
    (state_word WAIT_CRITICAL (lock_wait (lock_in (in_work p a))))
plain_next p w a plain.Lock = op.Cas (of_lock w (lock_in (in_work p a))) 0 (holder_word a.thread)
plain_next p w a plain.Unlock = op.Store (of_lock w (lock_in (in_work p a))) 0
plain_next p w a plain.GroupBegin =
    op.Store (of_groups w a.context.task OPEN_PLACE) (a.context.open_groups + 1)
plain_next p w a plain.Done = loading_native w a
plain_next p w a plain.Ended = loading_native w a

-- ---- moves

-- a task starts at once where its clause says so or the current task is final. Else an own slot is looked for
abbrev pub task_counter : Bool → Counter
task_counter at_once = counter.Task (if at_once then task.LoadVariable None 0 else task.LoadSlot 0)

-- a wait in which the slots are looked at
abbrev pub waiting_counter : Bool → Wait → Counter
waiting_counter debug v = counter.Look (if debug then look.State v else look.LoadRow v 0)

-- behind the store of the enter frame the statement in work goes on, in a task that is final or not. The thread's state is stored
-- first where states are kept
abbrev pub behind_enter : Bool → Bool → Option Stmt → Counter
behind_enter debug final (Some (stmt.Parallel f num)) =
    counter.Team (if debug then team.OverheadState else team.LoadLevels)
behind_enter debug final (Some (stmt.Task f undeferred given)) = task_counter (undeferred || final)
behind_enter debug final (Some stmt.Taskwait) = waiting_counter debug wait.Taskwait
behind_enter debug final (Some stmt.Taskyield) = counter.Look (look.LoadRow wait.Taskyield 0)
behind_enter debug final (Some stmt.Barrier) =
    counter.Barrier (if debug then barrier.State Explicit else barrier.Arrive Explicit)
behind_enter debug final (Some (stmt.Critical k f)) =
    counter.Plain (if debug then plain.LockState else plain.Lock)
behind_enter debug final (Some (stmt.Taskgroup f)) = waiting_counter debug wait.Taskgroup
behind_enter debug final _ = counter.Plain plain.Enter

abbrev pub past_enter : Program → Actor → Actor
past_enter p a = record a { counter = behind_enter p.env.debug a.context.is_final (in_work p a) }

-- the current task has left the runtime: the body of a critical region begins, and any other statement is over
abbrev pub left_behind : Program → Option Stmt → Actor → Actor
left_behind p (Some (stmt.Critical k f)) a = calling f (opened.Critical k) a
left_behind p _ a = settled p a

abbrev pub past_leave : Program → Actor → Actor
past_leave p a = left_behind p (in_work p a) a

-- the current task has begun a group, in which the function of its construct is called
abbrev pub group_begun : Option Stmt → Actor → Actor
group_begun (Some (stmt.Taskgroup f)) a =
    calling f opened.Taskgroup
    (record a { context = grouped (a.context.open_groups + 1) a.context })
group_begun _ a = a

abbrev pub past_group_begin : Program → Actor → Actor
past_group_begin p a = group_begun (in_work p a) a

-- the word of a lock was compared: the thread holds the lock now where no thread held it
abbrev pub locked : Program → ℕ → Actor → Actor
locked p old a = if old == 0 then back_to_work p a else a

-- where the step found the word `old`
abbrev pub plain_moved : Program → Actor → PlainCounter → ℕ → Actor
plain_moved p a plain.Work old = settled p a
plain_moved p a plain.Call old = settled p a
plain_moved p a plain.Skip old = settled p a
plain_moved p a plain.Return old = returned p a
plain_moved p a plain.Set old = settled p a
plain_moved p a plain.Tool old = settled p a
plain_moved p a plain.Enter old = past_enter p a
plain_moved p a plain.Leave old = past_leave p a
plain_moved p a plain.WorkState old = worked p a
plain_moved p a plain.LockState old = goes_to plain.Lock a
plain_moved p a plain.Lock old = locked p old a
plain_moved p a plain.Unlock old = settled p a
plain_moved p a plain.GroupBegin old = past_group_begin p a
plain_moved p a plain.Done old = goes_to plain.Ended a
plain_moved p a plain.Ended old = a

-- ---- outcomes

abbrev pub set_outcome : Option Stmt → Outcome
set_outcome s = outcome.Event (event.Set (set_number s) (set_word s))

abbrev pub lock_outcome : List ℕ → ℕ → ℕ → Outcome
lock_outcome w k old =
    if old == 0 then outcome.Event (event.Lock k) else outcome.NotReady (of_lock w k) old

abbrev pub plain_outcome : Program → List ℕ → Actor → PlainCounter → ℕ → Outcome
plain_outcome p w a plain.Work old = outcome.Event event.Work
plain_outcome p w a plain.Call old = outcome.Event (event.Call (function_of a.stack))
plain_outcome p w a plain.Skip old = outcome.Event event.Skip
plain_outcome p w a plain.Return old = outcome.Event event.Ret
plain_outcome p w a plain.Set old = set_outcome (in_work p a)
plain_outcome p w a plain.Tool old = outcome.Event (event.SetTool (tool_in (in_work p a)))
plain_outcome p w a plain.Enter old = outcome.Event event.Enter
plain_outcome p w a plain.Leave old = outcome.Event event.Leave
plain_outcome p w a plain.WorkState old = outcome.Event (event.State (actor_work_state a) 0)
plain_outcome p w a plain.LockState old =
    outcome.Event (event.State WAIT_CRITICAL (lock_wait (lock_in (in_work p a))))
plain_outcome p w a plain.Lock old = lock_outcome w (lock_in (in_work p a)) old
plain_outcome p w a plain.Unlock old = outcome.Event (event.Unlock (lock_in (in_work p a)))
plain_outcome p w a plain.GroupBegin old = outcome.Event event.GroupBegin
plain_outcome p w a plain.Done old = outcome.Event event.Done
plain_outcome p w a plain.Ended old = outcome.Ended
