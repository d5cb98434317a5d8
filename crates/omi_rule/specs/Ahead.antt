-- What is ahead of a task, by where its thread stands: the rest of the statement in work, and the bodies that are open. It is the
-- task's to-do list.
use Rattle.std.specs.Prelude.{◌≡◌, ◌⊎◌, ℕ, zero, suc, ◌==◌, ◌||◌, List, [], ◌∷◌, drop, Option, Some, None, unwrap_or, if◌then◌else◌}
use Rattle.omi_numbers.specs.Holders.{lock_wait}
use Rattle.omi_script.specs.declared.program.Program.{Program}
use Rattle.omi_script.specs.declared.statement.Stmt.{Stmt}
use Rattle.omi_script.specs.declared.statement.Stmt.TheVariants as stmt
use Rattle.omi_model.specs.declared.encounter.Encounter.{Encounter}
use Rattle.omi_model.specs.declared.item.Item.{Item}
use Rattle.omi_model.specs.declared.item.Item.TheVariants as item
use Rattle.omi_numbers.specs.declared.states.TheConstants.{OVERHEAD, WAIT_BARRIER_EXPLICIT, WAIT_BARRIER_IMPLICIT_PARALLEL, WAIT_CRITICAL, WAIT_TASKGROUP, WAIT_TASKWAIT}
use Rattle.omi_model.specs.Rows.{body_items, call_items, end_of_group, end_of_member, shown, work_state, working}
use Rattle.omi_pc.specs.declared.counter.Counter.{Counter}
use Rattle.omi_pc.specs.declared.counter.Counter.TheVariants as counter
use Rattle.omi_pc.specs.declared.counter.PlainCounter.{PlainCounter}
use Rattle.omi_pc.specs.declared.counter.PlainCounter.TheVariants as plain
use Rattle.omi_pc.specs.declared.frame.Barrier.{Barrier}
use Rattle.omi_pc.specs.declared.frame.Barrier.TheVariants.{Explicit, Implicit}
use Rattle.omi_pc.specs.declared.frame.Frame.{Frame}
use Rattle.omi_pc.specs.declared.frame.Opened.{Opened}
use Rattle.omi_pc.specs.declared.frame.Opened.TheVariants as opened
use Rattle.omi_pc.specs.declared.frame.Wait.{Wait}
use Rattle.omi_pc.specs.declared.frame.Wait.TheVariants as wait
use Rattle.omi_pc.specs.declared.task_counter.FinishCounter.{FinishCounter}
use Rattle.omi_pc.specs.declared.task_counter.FinishCounter.TheVariants as finish
use Rattle.omi_pc.specs.declared.task_counter.LookCounter.{LookCounter}
use Rattle.omi_pc.specs.declared.task_counter.LookCounter.TheVariants as look
use Rattle.omi_pc.specs.declared.task_counter.TaskCounter.{TaskCounter}
use Rattle.omi_pc.specs.declared.task_counter.TaskCounter.TheVariants as task
use Rattle.omi_pc.specs.declared.team_counter.BarrierCounter.{BarrierCounter}
use Rattle.omi_pc.specs.declared.team_counter.BarrierCounter.TheVariants as barrier
use Rattle.omi_pc.specs.declared.team_counter.JoinCounter.{JoinCounter}
use Rattle.omi_pc.specs.declared.team_counter.JoinCounter.TheVariants as join
use Rattle.omi_pc.specs.declared.team_counter.TeamCounter.{TeamCounter}
use Rattle.omi_pc.specs.declared.team_counter.TeamCounter.TheVariants as team
use Rattle.omi_pc.specs.Frames.{body_in, statement_of}

-- ---- open bodies

-- behind the statements of a body over function f, by how it was opened, where this is ahead in the body below
abbrev pub behind_body : Encounter → Opened → ℕ → List Item → List Item
behind_body at opened.Main f rest = end_of_member at (item.Done ∷ [])
behind_body at opened.Worker f rest = end_of_member at (item.ImplicitEnd ∷ [])
behind_body at (opened.Master saved) f rest = end_of_member at (item.Join ∷ [])
behind_body at (opened.Task w saved) f rest = item.Finish ∷ []
behind_body at opened.Call f rest = item.Ret ∷ rest
behind_body at (opened.Repeat zero) f rest = item.Ret ∷ rest
behind_body at (opened.Repeat (suc left)) f rest = item.Ret ∷ item.Do (stmt.Repeat left f) ∷ rest
behind_body at (opened.Critical k) f rest = item.Ret ∷ item.Unlock k ∷ rest
behind_body at opened.Taskgroup f rest = item.Ret ∷ end_of_group at rest

-- ahead in the bodies of a task, the innermost one first
abbrev pub ahead : Program → Encounter → List Frame → List Item
ahead p at [] = []
ahead p at (f ∷ fs) =
    body_items (drop f.next (body_in p f)) (behind_body at f.opened f.function (ahead p at fs))

-- ---- statements in work

-- by the statement in work
abbrev pub by_statement : Option Stmt → (Stmt → List Item) → List Item
by_statement None row = []
by_statement (Some s) row = row s

abbrev pub in_work : Program → List Frame → (Stmt → List Item) → List Item
in_work p fs row = by_statement (statement_of p fs) row

-- a statement that is still to begin
abbrev pub beginning : Program → Encounter → List Frame → List Item
beginning p at fs = in_work p fs (λ s. item.Do s ∷ ahead p at fs)

-- from the `leave` of a statement on. A critical construct calls its function behind it
abbrev pub behind_leave : Program → Stmt → List Item → List Item
behind_leave p (stmt.Critical k f) rest = item.Call f ∷ call_items p f (item.Unlock k ∷ rest)
behind_leave p s rest = rest

abbrev pub leaving : Program → Encounter → List Frame → List Item
leaving p at fs = in_work p fs (λ s. item.Leave ∷ behind_leave p s (ahead p at fs))

-- where a thread works again: a body that has not begun, or the end of the statement in work
abbrev pub working_at : Program → Encounter → ℕ → List Frame → List Item
working_at p at zero fs = ahead p at fs
working_at p at (suc n) fs = leaving p at fs

abbrev pub worked : Program → Encounter → List Frame → List Item
worked p at [] = []
worked p at (f ∷ fs) = working_at p at f.next (f ∷ fs)

-- a function that is called: by its statement, by the next round of `repeat`, or in a critical construct or a taskgroup region
abbrev pub called_by : Program → Encounter → Opened → Frame → List Frame → List Item
called_by p at (opened.Repeat left) f fs = item.Do (stmt.Repeat left f.function) ∷ ahead p at fs
called_by p at (opened.Critical k) f fs = item.Call f.function ∷ ahead p at (f ∷ fs)
called_by p at opened.Taskgroup f fs = item.Call f.function ∷ ahead p at (f ∷ fs)
called_by p at o f fs = beginning p at fs

abbrev pub called : Program → Encounter → List Frame → List Item
called p at [] = []
called p at (f ∷ fs) = called_by p at f.opened f fs

-- a statement that is passed over: `repeat` once no round is left, or `only` of another member
abbrev pub passed_over : Stmt → Stmt
passed_over (stmt.Repeat n f) = stmt.Repeat 0 f
passed_over s = s

abbrev pub passing_over : Program → Encounter → List Frame → List Item
passing_over p at fs = in_work p fs (λ s. item.Do (passed_over s) ∷ ahead p at fs)

-- a critical construct from its lock on, and before it with its state
abbrev pub locking_in : Program → Encounter → List Frame → Stmt → List Item
locking_in p at fs (stmt.Critical k f) = item.Lock k ∷ working at (leaving p at fs)
locking_in p at fs s = []

-- a statement whose construct is entered: at its begin, but at the end of its region where it is a `taskgroup`
abbrev pub entering_in : Program → Encounter → List Frame → Stmt → List Item
entering_in p at fs (stmt.Taskgroup f) = end_of_group at (ahead p at fs)
entering_in p at fs s = item.Do s ∷ ahead p at fs

abbrev pub lock_of : Stmt → ℕ
lock_of (stmt.Critical k f) = k
lock_of s = 0

abbrev pub plain_ahead : Program → Encounter → List Frame → PlainCounter → List Item
plain_ahead p at fs plain.Work = beginning p at fs
plain_ahead p at fs plain.Call = called p at fs
plain_ahead p at fs plain.Skip = passing_over p at fs
plain_ahead p at fs plain.Return = ahead p at fs
plain_ahead p at fs plain.Set = beginning p at fs
plain_ahead p at fs plain.Tool = beginning p at fs
plain_ahead p at fs plain.Enter = in_work p fs (entering_in p at fs)
plain_ahead p at fs plain.Leave = leaving p at fs
plain_ahead p at fs plain.WorkState = item.State (work_state at.level) 0 ∷ worked p at fs
plain_ahead p at fs plain.LockState =
    in_work p fs (λ s. item.State WAIT_CRITICAL (lock_wait (lock_of s)) ∷ locking_in p at fs s)
plain_ahead p at fs plain.Lock = in_work p fs (locking_in p at fs)
plain_ahead p at fs plain.Unlock = in_work p fs (λ s. item.Unlock (lock_of s) ∷ ahead p at fs)
plain_ahead p at fs plain.GroupBegin = beginning p at fs
plain_ahead p at fs plain.Done = item.Done ∷ []
plain_ahead p at fs plain.Ended = []

-- ---- teams

-- a parallel construct from its fork on, with the asks before it, and with what it wants before them
abbrev pub forking_in : Program → Encounter → List Frame → Stmt → List Item
forking_in p at fs (stmt.Parallel f num) =
    item.Asks ∷ item.Fork f ∷ working at (leaving p at fs)
forking_in p at fs s = []

abbrev pub wanting_in : Program → Encounter → List Frame → Stmt → List Item
wanting_in p at fs (stmt.Parallel f num) =
    item.Want num ∷ forking_in p at fs (stmt.Parallel f num)
wanting_in p at fs s = []

abbrev pub forking : Program → Encounter → List Frame → List Item
forking p at fs = in_work p fs (forking_in p at fs)

abbrev pub wanting : Program → Encounter → List Frame → List Item
wanting p at fs = in_work p fs (wanting_in p at fs)

abbrev pub team_ahead : Program → Encounter → List Frame → TeamCounter → List Item
team_ahead p at fs team.OverheadState = item.State OVERHEAD 0 ∷ wanting p at fs
team_ahead p at fs team.LoadLevels = wanting p at fs
team_ahead p at fs team.LoadActive = wanting p at fs
team_ahead p at fs (team.LoadVariable word) = wanting p at fs
team_ahead p at fs team.Want = wanting p at fs
team_ahead p at fs team.Ask = forking p at fs
team_ahead p at fs (team.LoadRegionLife slot) = forking p at fs
team_ahead p at fs (team.TakeRegion r) = forking p at fs
team_ahead p at fs (team.FillRegion r word) = forking p at fs
team_ahead p at fs (team.LoadTaskLife r member slot) = forking p at fs
team_ahead p at fs (team.TakeTask r member t) = forking p at fs
team_ahead p at fs (team.FillTask r member t word) = forking p at fs
team_ahead p at fs (team.StoreMember r member t) = forking p at fs
team_ahead p at fs (team.Fork r) = forking p at fs
team_ahead p at fs (team.Assign member) = working at (worked p at fs)

-- ---- barriers and waits

-- the last event of a member, by how its body was opened
abbrev pub last_by : Opened → List Item
last_by opened.Main = item.Done ∷ []
last_by opened.Worker = item.ImplicitEnd ∷ []
last_by (opened.Master saved) = item.Join ∷ []
last_by o = []

abbrev pub last_of : List Frame → List Item
last_of [] = []
last_of (f ∷ fs) = last_by f.opened

-- behind a barrier: its construct ends, or the member does
abbrev pub behind_barrier : Program → Encounter → List Frame → Barrier → List Item
behind_barrier p at fs Explicit = working at (leaving p at fs)
behind_barrier p at fs Implicit = last_of fs

-- the state of a thread that waits there
abbrev pub barrier_state : Barrier → ℕ
barrier_state Explicit = WAIT_BARRIER_EXPLICIT
barrier_state Implicit = WAIT_BARRIER_IMPLICIT_PARALLEL

-- behind the tasks that may start in a barrier: member 0 releases it, and each member passes
abbrev pub passing : Program → Encounter → List Frame → Barrier → List Item
passing p at fs b = item.Pass ∷ behind_barrier p at fs b

abbrev pub behind_tasks : Program → Encounter → List Frame → Barrier → List Item
behind_tasks p at fs b =
    if at.number == 0 then item.Release ∷ passing p at fs b else passing p at fs b

-- a member that has arrived
abbrev pub arrived : Program → Encounter → List Frame → Barrier → List Item
arrived p at fs b = item.Tasks (barrier_state b) ∷ behind_tasks p at fs b

-- member 0 has released the barrier, and another member waits for this
abbrev pub released : Program → Encounter → List Frame → Barrier → List Item
released p at fs b = if at.number == 0 then passing p at fs b else arrived p at fs b

abbrev pub barrier_ahead : Program → Encounter → List Frame → BarrierCounter → List Item
barrier_ahead p at fs (barrier.State b) =
    item.State (barrier_state b) 0 ∷ item.Arrive ∷ arrived p at fs b
barrier_ahead p at fs (barrier.Arrive b) = item.Arrive ∷ arrived p at fs b
barrier_ahead p at fs (barrier.LoadArrived b) = arrived p at fs b
barrier_ahead p at fs (barrier.LoadPending b) = arrived p at fs b
barrier_ahead p at fs (barrier.Release b) = arrived p at fs b
barrier_ahead p at fs (barrier.LoadReleased b) = released p at fs b

-- a join, and behind it the construct of the task that encountered the region
abbrev pub join_ahead : Program → Encounter → List Frame → JoinCounter → List Item
join_ahead p at fs join.LoadLeft = item.Join ∷ []
join_ahead p at fs join.Join = item.Join ∷ []
join_ahead p at fs (join.LoadMember r size member) = working at (leaving p at fs)
join_ahead p at fs (join.LoadLife r size member t) = working at (leaving p at fs)
join_ahead p at fs (join.FreeTask r size member t) = working at (leaving p at fs)
join_ahead p at fs (join.FreeRegion r size) = working at (leaving p at fs)

-- where a task waits and others may start, and in front of it the state of the wait
abbrev pub waiting : Program → Encounter → List Frame → Wait → List Item
waiting p at fs (wait.Barrier b) = arrived p at fs b
waiting p at fs wait.Taskwait =
    item.Tasks WAIT_TASKWAIT ∷ item.WaitDone ∷ working at (leaving p at fs)
waiting p at fs wait.Taskyield = item.OneTask ∷ item.Yield ∷ leaving p at fs
waiting p at fs wait.Taskgroup =
    item.Tasks WAIT_TASKGROUP ∷ item.GroupEnd ∷ working at (leaving p at fs)

abbrev pub entering_wait : Program → Encounter → List Frame → Wait → List Item
entering_wait p at fs (wait.Barrier b) = shown at (barrier_state b) 0 (arrived p at fs b)
entering_wait p at fs wait.Taskwait = shown at WAIT_TASKWAIT 0 (waiting p at fs wait.Taskwait)
entering_wait p at fs wait.Taskyield = item.Yield ∷ leaving p at fs
entering_wait p at fs wait.Taskgroup = shown at WAIT_TASKGROUP 0 (waiting p at fs wait.Taskgroup)

-- the store of this state comes next. At `taskyield` there is none
abbrev pub showing_wait : Program → Encounter → List Frame → Wait → List Item
showing_wait p at fs (wait.Barrier b) = item.State (barrier_state b) 0 ∷ arrived p at fs b
showing_wait p at fs wait.Taskwait = item.State WAIT_TASKWAIT 0 ∷ waiting p at fs wait.Taskwait
showing_wait p at fs wait.Taskyield = waiting p at fs wait.Taskyield
showing_wait p at fs wait.Taskgroup = item.State WAIT_TASKGROUP 0 ∷ waiting p at fs wait.Taskgroup

-- ---- explicit tasks

-- the making of a task that is deferred into a place, or that starts at once
abbrev pub task_item : Encounter → Option ℕ → Stmt → List Item → List Item
task_item at place (stmt.Task f undeferred final) rest =
    (if undeferred || at.is_final then item.StartNow f (final || at.is_final)
    else item.Defer (unwrap_or place 4) f (final || at.is_final)) ∷ rest
task_item at place s rest = rest

abbrev pub making : Program → Encounter → List Frame → Option ℕ → List Item
making p at fs place = in_work p fs (λ s. task_item at place s (leaving p at fs))

abbrev pub task_ahead : Program → Encounter → List Frame → TaskCounter → List Item
task_ahead p at fs (task.LoadSlot place) = making p at fs (Some place)
task_ahead p at fs (task.LoadVariable place word) = making p at fs place
task_ahead p at fs (task.LoadGroup place) = making p at fs place
task_ahead p at fs (task.LoadLife place slot) = making p at fs place
task_ahead p at fs (task.Take place t) = making p at fs place
task_ahead p at fs (task.Fill place t word) = making p at fs place
task_ahead p at fs (task.AddPending place t) = making p at fs place
task_ahead p at fs (task.AddChildren place t) = making p at fs place
task_ahead p at fs (task.AddReferences place t) = making p at fs place
task_ahead p at fs (task.AddCount place t) = making p at fs place
task_ahead p at fs (task.Defer place t) = making p at fs (Some place)
task_ahead p at fs (task.StartNow t) = making p at fs None

-- a task from which another one was scheduled, once that has finished: its wait goes on, or its construct ends
abbrev pub resuming : Program → Encounter → List Frame → Option Wait → List Item
resuming p at fs None = leaving p at fs
resuming p at fs (Some w) = entering_wait p at fs w

abbrev pub finish_ahead : Program → Encounter → List Frame → FinishCounter → List Item
finish_ahead p at fs finish.Finish = ahead p at fs
finish_ahead p at fs (finish.LoadGenerating w t) = resuming p at fs w
finish_ahead p at fs (finish.SubtractChildren w t generating) = resuming p at fs w
finish_ahead p at fs (finish.LoadGroup w t generating) = resuming p at fs w
finish_ahead p at fs (finish.SubtractCount w t generating group) = resuming p at fs w
finish_ahead p at fs (finish.SubtractReferences w t generating) = resuming p at fs w
finish_ahead p at fs (finish.Free w t generating) = resuming p at fs w
finish_ahead p at fs (finish.LoadImplicit w generating) = resuming p at fs w
finish_ahead p at fs (finish.LoadNext w generating) = resuming p at fs w
finish_ahead p at fs (finish.LoadLife w generating next) = resuming p at fs w
finish_ahead p at fs (finish.SubtractGenerating w generating explicit) = resuming p at fs w
finish_ahead p at fs (finish.SubtractPending w) = resuming p at fs w

-- at `taskyield` the one task may have started
abbrev pub IsLookAhead : Program → Encounter → List Frame → LookCounter → List Item → Type 0
IsLookAhead p at fs (look.State w) list = list ≡ showing_wait p at fs w
IsLookAhead p at fs (look.LoadRow w n) list = list ≡ waiting p at fs w
IsLookAhead p at fs (look.LoadSlot w n row) list = list ≡ waiting p at fs w
IsLookAhead p at fs (look.LoadGenerating w n row code) list = list ≡ waiting p at fs w
IsLookAhead p at fs (look.LoadGroup n row code) list = list ≡ waiting p at fs wait.Taskgroup
IsLookAhead p at fs (look.Take w n row code) list = list ≡ waiting p at fs w
IsLookAhead p at fs (look.LoadFunction w n code t) list = list ≡ waiting p at fs w
IsLookAhead p at fs (look.LoadFinal w n code t f) list = list ≡ waiting p at fs w
IsLookAhead p at fs (look.Fill w n code t f final word) list = list ≡ waiting p at fs w
IsLookAhead p at fs (look.Start w n code t f final) list = list ≡ waiting p at fs w
IsLookAhead p at fs look.LoadChildren list = list ≡ waiting p at fs wait.Taskwait
IsLookAhead p at fs look.LoadCount list = list ≡ waiting p at fs wait.Taskgroup
IsLookAhead p at fs look.GroupEnd list = list ≡ waiting p at fs wait.Taskgroup
IsLookAhead p at fs (look.Yield n) list =
    (list ≡ waiting p at fs wait.Taskyield) ⊎ (list ≡ entering_wait p at fs wait.Taskyield)

-- ---- the whole

-- this is ahead of the current task of a thread with these bodies open, at a counter
abbrev pub IsAhead : Program → Encounter → List Frame → Counter → List Item → Type 0
IsAhead p at fs (counter.Worker c) list = list ≡ item.ImplicitEnd ∷ []
IsAhead p at fs (counter.Team c) list = list ≡ team_ahead p at fs c
IsAhead p at fs (counter.Barrier c) list = list ≡ barrier_ahead p at fs c
IsAhead p at fs (counter.Join c) list = list ≡ join_ahead p at fs c
IsAhead p at fs (counter.Task c) list = list ≡ task_ahead p at fs c
IsAhead p at fs (counter.Look c) list = IsLookAhead p at fs c list
IsAhead p at fs (counter.Finish c) list = list ≡ finish_ahead p at fs c
IsAhead p at fs (counter.Plain c) list = list ≡ plain_ahead p at fs c
