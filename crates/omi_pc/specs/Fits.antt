-- When a counter fits the innermost body, its statement in work and the registers.
use Rattle.std.specs.Prelude.{◌≡◌, ◌≢◌, ◌⊎◌, ℕ, ◌*◌, ◌%◌, ◌<◌, ◌≤◌, [], length, Option, Some, None}
use Rattle.omi_script.specs.declared.program.Program.{Program}
use Rattle.omi_script.specs.declared.statement.Stmt.{Stmt}
use Rattle.omi_script.specs.declared.statement.Stmt.TheVariants as stmt
use Rattle.omi_model.specs.declared.id.Rid.{Rid}
use Rattle.omi_model.specs.declared.id.Tid.{Tid}
use Rattle.omi_model.specs.declared.shape.Shape.{Shape}
use Rattle.omi_model.specs.declared.shape.Shape.TheVariants as shape
use Rattle.omi_model.specs.Shapes.{shape_of}
use Rattle.omi_pc.specs.declared.actor.Actor.{Actor}
use Rattle.omi_pc.specs.declared.counter.Counter.{Counter}
use Rattle.omi_pc.specs.declared.counter.Counter.TheVariants as counter
use Rattle.omi_pc.specs.declared.counter.PlainCounter.{PlainCounter}
use Rattle.omi_pc.specs.declared.counter.PlainCounter.TheVariants as plain
use Rattle.omi_pc.specs.declared.frame.Barrier.{Barrier}
use Rattle.omi_pc.specs.declared.frame.Wait.{Wait}
use Rattle.omi_pc.specs.declared.frame.Wait.TheVariants as wait
use Rattle.omi_numbers.specs.declared.limits.TheConstants.{OWN_SLOTS}
use Rattle.omi_pc.specs.declared.limits.TheConstants.{VARIABLE_WORDS, REGION_WORDS, TASK_WORDS, START_WORDS}
use Rattle.omi_pc.specs.declared.place.Place.{Place}
use Rattle.omi_pc.specs.declared.task_counter.FinishCounter.{FinishCounter}
use Rattle.omi_pc.specs.declared.task_counter.FinishCounter.TheVariants as finish
use Rattle.omi_pc.specs.declared.task_counter.LookCounter.{LookCounter}
use Rattle.omi_pc.specs.declared.task_counter.LookCounter.TheVariants as look
use Rattle.omi_pc.specs.declared.task_counter.TaskCounter.{TaskCounter}
use Rattle.omi_pc.specs.declared.task_counter.TaskCounter.TheVariants as task
use Rattle.omi_pc.specs.declared.team_counter.BarrierCounter.{BarrierCounter}
use Rattle.omi_pc.specs.declared.team_counter.BarrierCounter.TheVariants as barrier
use Rattle.omi_pc.specs.declared.team_counter.JoinCounter.{JoinCounter}
use Rattle.omi_pc.specs.declared.team_counter.JoinCounter.TheVariants as join
use Rattle.omi_pc.specs.declared.team_counter.TeamCounter.{TeamCounter}
use Rattle.omi_pc.specs.declared.team_counter.TeamCounter.TheVariants as team
use Rattle.omi_pc.specs.declared.team_counter.WorkerCounter.{WorkerCounter}
use Rattle.omi_pc.specs.declared.team_counter.WorkerCounter.TheVariants as worker
use Rattle.omi_pc.specs.OpenBodies.{AreOpen, IsAt, IsAtEnd, IsAtStart, IsCalled, IsExplicit, IsMain, IsMaster, IsWaiting, IsWorker, StartsWorking}
use Rattle.omi_pc.specs.Stacks.{task_function}

-- ---- statements, by their shapes

-- statements that enter the runtime and leave it again
abbrev pub ShapeEnters : Shape → Type 0
ShapeEnters (shape.Parallel f num) = Unit {0}
ShapeEnters (shape.Task f undeferred final) = Unit {0}
ShapeEnters shape.Taskwait = Unit {0}
ShapeEnters shape.Taskyield = Unit {0}
ShapeEnters shape.Barrier = Unit {0}
ShapeEnters (shape.Critical k f) = Unit {0}
ShapeEnters (shape.Taskgroup f) = Unit {0}
ShapeEnters (shape.Call f) = ⊥
ShapeEnters (shape.Only m f) = ⊥
ShapeEnters (shape.Repeat n f) = ⊥
ShapeEnters (shape.Sets variable word) = ⊥
ShapeEnters (shape.Tool x) = ⊥
ShapeEnters shape.Work = ⊥

abbrev pub Enters : Stmt → Type 0
Enters s = ShapeEnters (shape_of s)

-- those of them after which a working state is stored: all but `task` and `taskyield`
abbrev pub ShapeStoresState : Shape → Type 0
ShapeStoresState (shape.Task f undeferred final) = ⊥
ShapeStoresState shape.Taskyield = ⊥
ShapeStoresState x = ShapeEnters x

abbrev pub StoresState : Stmt → Type 0
StoresState s = ShapeStoresState (shape_of s)

-- statements that set an internal control variable
abbrev pub ShapeSets : Shape → Type 0
ShapeSets (shape.Sets variable word) = Unit {0}
ShapeSets _ = ⊥

abbrev pub Sets : Stmt → Type 0
Sets s = ShapeSets (shape_of s)

-- statements that the member with this number passes over: `repeat`, once no round is left, and `only` of another member
abbrev pub ShapeSkips : ℕ → Shape → Type 0
ShapeSkips number (shape.Parallel f num) = ⊥
ShapeSkips number (shape.Task f undeferred final) = ⊥
ShapeSkips number shape.Taskwait = ⊥
ShapeSkips number shape.Taskyield = ⊥
ShapeSkips number shape.Barrier = ⊥
ShapeSkips number (shape.Critical k f) = ⊥
ShapeSkips number (shape.Call f) = ⊥
ShapeSkips number (shape.Only m f) = number ≢ m
ShapeSkips number (shape.Repeat n f) = Unit {0}
ShapeSkips number (shape.Taskgroup f) = ⊥
ShapeSkips number (shape.Sets variable word) = ⊥
ShapeSkips number (shape.Tool x) = ⊥
ShapeSkips number shape.Work = ⊥

abbrev pub Skips : ℕ → Stmt → Type 0
Skips number s = ShapeSkips number (shape_of s)

-- a statement of a kind is in work
abbrev pub IsAtSome : Program → Actor → (Stmt → Type 0) → Type 0
IsAtSome p a P = (s : Stmt) × IsAt p a.stack s × P s

-- `parallel`, `task`, `critical` and `taskgroup`
abbrev pub IsParallel : Stmt → Type 0
IsParallel (stmt.Parallel f num) = Unit {0}
IsParallel _ = ⊥

abbrev pub IsTask : Stmt → Type 0
IsTask (stmt.Task f undeferred final) = Unit {0}
IsTask _ = ⊥

abbrev pub IsCritical : Stmt → Type 0
IsCritical (stmt.Critical k f) = Unit {0}
IsCritical _ = ⊥

abbrev pub IsTaskgroup : Stmt → Type 0
IsTaskgroup (stmt.Taskgroup f) = Unit {0}
IsTaskgroup _ = ⊥

-- ---- workers

-- a thread without a task
abbrev pub IsAlone : Actor → Type 0
IsAlone a = a.stack ≡ []

-- a worker that meets a task: the registers that it has loaded so far
abbrev pub MeetsTask : Program → Actor → Tid → Type 0
MeetsTask p a t = IsAlone a × (t.0.creator < p.threads)

abbrev pub MeetsFunction : Program → Actor → Tid → ℕ → Type 0
MeetsFunction p a t f = MeetsTask p a t × (f < length p.funcs)

abbrev pub MeetsRegion : Program → Actor → Tid → ℕ → Rid → Type 0
MeetsRegion p a t f r = MeetsFunction p a t f × (r.0.creator < p.threads)

abbrev pub MeetsSize : Program → Actor → Tid → ℕ → Rid → ℕ → Type 0
MeetsSize p a t f r size = MeetsRegion p a t f r × (size ≤ p.threads)

abbrev pub FitsWorker : Program → Actor → WorkerCounter → Type 0
FitsWorker p a worker.Begin = IsAlone a
FitsWorker p a worker.Offer = IsAlone a
FitsWorker p a worker.LoadAssign = IsAlone a
FitsWorker p a (worker.ClearAssign t) = IsAlone a × (t.creator < p.threads)
FitsWorker p a (worker.LoadLife t) = IsAlone a × (t.creator < p.threads)
FitsWorker p a (worker.LoadFunction t) = MeetsTask p a t
FitsWorker p a (worker.LoadRegion t f) = MeetsFunction p a t f
FitsWorker p a (worker.LoadRegionLife t f r) = MeetsFunction p a t f × (r.creator < p.threads)
FitsWorker p a (worker.LoadSize t f r) = MeetsRegion p a t f r
FitsWorker p a (worker.LoadNumber t f r size) = MeetsSize p a t f r size
FitsWorker p a (worker.ImplicitBegin t f r size number) =
    MeetsSize p a t f r size × (number < size) × (number ≢ 0)
FitsWorker p a worker.ImplicitEnd = IsAtEnd p IsWorker a.stack
FitsWorker p a (worker.AddLeft r) = IsAlone a × (r.0.creator < p.threads)
FitsWorker p a worker.IdleState = IsAlone a

-- ---- teams

-- a `parallel` construct is in work
abbrev pub IsAtParallel : Program → Actor → Type 0
IsAtParallel p a = IsAtSome p a IsParallel

-- a `parallel` construct whose team is got: it has this thread and at most one place for each thread
abbrev pub IsTeamGot : Program → Actor → Type 0
IsTeamGot p a =
    IsAtParallel p a
    × (1 ≤ length a.gathered.team)
    × (length a.gathered.team ≤ p.threads)

-- and the region's record is this thread's
abbrev pub IsRegionGot : Program → Actor → Rid → Type 0
IsRegionGot p a r = IsTeamGot p a × (r.0.creator ≡ a.thread)

-- and the record for the task of a member is this thread's
abbrev pub IsMemberGot : Program → Actor → Rid → ℕ → Tid → Type 0
IsMemberGot p a r member t =
    IsRegionGot p a r × (member < length a.gathered.team) × (t.0.creator ≡ a.thread)

abbrev pub FitsTeam : Program → Actor → TeamCounter → Type 0
FitsTeam p a team.OverheadState = IsAtParallel p a
FitsTeam p a team.LoadLevels = IsAtParallel p a
FitsTeam p a team.LoadActive = IsAtParallel p a
FitsTeam p a (team.LoadVariable word) = IsAtParallel p a × (word < VARIABLE_WORDS)
FitsTeam p a team.Want = IsAtParallel p a
FitsTeam p a team.Ask =
    IsTeamGot p a
    × (length a.gathered.team < a.gathered.wanted)
    × (a.gathered.asked < p.threads)
    × (a.gathered.asked ≢ a.thread)
    × (length a.gathered.team < p.threads)
FitsTeam p a (team.LoadRegionLife slot) = IsTeamGot p a
FitsTeam p a (team.TakeRegion r) = IsRegionGot p a r
FitsTeam p a (team.FillRegion r word) = IsRegionGot p a r × (word < REGION_WORDS)
FitsTeam p a (team.LoadTaskLife r member slot) =
    IsRegionGot p a r × (member < length a.gathered.team)
FitsTeam p a (team.TakeTask r member t) = IsMemberGot p a r member t
FitsTeam p a (team.FillTask r member t word) = IsMemberGot p a r member t × (word < TASK_WORDS)
FitsTeam p a (team.StoreMember r member t) = IsMemberGot p a r member t
FitsTeam p a (team.Fork r) = IsRegionGot p a r
FitsTeam p a (team.Assign member) =
    IsAtStart IsMaster a.stack
    × (1 ≤ member)
    × (member < length a.gathered.team)
    × (length a.gathered.team ≤ p.threads)

-- ---- barriers and joins

-- the current task waits
abbrev pub Waits : Program → Actor → Wait → Type 0
Waits p a w = IsWaiting p a.context a.stack w

-- a member at a barrier, and member 0
abbrev pub IsMemberAt : Program → Actor → Barrier → Type 0
IsMemberAt p a b = Waits p a (wait.Barrier b)

abbrev pub IsFirstMemberAt : Program → Actor → Barrier → Type 0
IsFirstMemberAt p a b = IsMemberAt p a b × (a.context.number ≡ 0)

abbrev pub FitsBarrier : Program → Actor → BarrierCounter → Type 0
FitsBarrier p a (barrier.State b) = IsMemberAt p a b
FitsBarrier p a (barrier.Arrive b) = IsMemberAt p a b
FitsBarrier p a (barrier.LoadArrived b) = IsFirstMemberAt p a b
FitsBarrier p a (barrier.LoadPending b) = IsFirstMemberAt p a b
FitsBarrier p a (barrier.Release b) = IsFirstMemberAt p a b
FitsBarrier p a (barrier.LoadReleased b) = IsMemberAt p a b

-- a `parallel` construct whose region was joined
abbrev pub IsJoined : Program → Actor → Rid → ℕ → Type 0
IsJoined p a r size = IsAtParallel p a × (r.0.creator ≡ a.thread) × (size ≤ p.threads)

abbrev pub FitsJoin : Program → Actor → JoinCounter → Type 0
FitsJoin p a join.LoadLeft = IsAtEnd p IsMaster a.stack
FitsJoin p a join.Join = IsAtEnd p IsMaster a.stack
FitsJoin p a (join.LoadMember r size member) = IsJoined p a r size × (member < size)
FitsJoin p a (join.LoadLife r size member t) =
    IsJoined p a r size × (member < size) × (t.creator ≡ a.thread)
FitsJoin p a (join.FreeTask r size member t) =
    IsJoined p a r size × (member < size) × (t.0.creator ≡ a.thread)
FitsJoin p a (join.FreeRegion r size) = IsJoined p a r size

-- ---- explicit tasks

-- an own slot, or none
abbrev pub IsOwnSlot : Option ℕ → Type 0
IsOwnSlot None = Unit {0}
IsOwnSlot (Some place) = place < OWN_SLOTS

-- a `task` construct is in work
abbrev pub IsAtTask : Program → Actor → Option ℕ → Type 0
IsAtTask p a place = IsAtSome p a IsTask × IsOwnSlot place

-- and the record for the task is this thread's
abbrev pub IsTaskGot : Program → Actor → Option ℕ → Tid → Type 0
IsTaskGot p a place t = IsAtTask p a place × (t.0.creator ≡ a.thread)

abbrev pub FitsTask : Program → Actor → TaskCounter → Type 0
FitsTask p a (task.LoadSlot place) = IsAtTask p a (Some place)
FitsTask p a (task.LoadVariable place word) =
    IsAtTask p a place × (word < VARIABLE_WORDS)
FitsTask p a (task.LoadGroup place) = IsAtTask p a place
FitsTask p a (task.LoadLife place slot) = IsAtTask p a place
FitsTask p a (task.Take place t) = IsTaskGot p a place t
FitsTask p a (task.Fill place t word) = IsTaskGot p a place t × (word < TASK_WORDS)
FitsTask p a (task.AddPending place t) = IsTaskGot p a place t
FitsTask p a (task.AddChildren place t) = IsTaskGot p a place t
FitsTask p a (task.AddReferences place t) = IsTaskGot p a place t
FitsTask p a (task.AddCount place t) = IsTaskGot p a place t
FitsTask p a (task.Defer place t) = IsTaskGot p a (Some place) t
FitsTask p a (task.StartNow t) = IsTaskGot p a None t

-- the slots of all members, four for each
abbrev pub slots_of : Actor → ℕ
slots_of a = OWN_SLOTS * a.context.size

-- the current task waits, and looks at one of the slots
abbrev pub Looks : Program → Actor → Wait → ℕ → Type 0
Looks p a w n = Waits p a w × (n < slots_of a)

-- and at the row of a member
abbrev pub LooksAt : Program → Actor → Wait → ℕ → Place → Type 0
LooksAt p a w n row = Looks p a w n × (row.creator < p.threads)

-- a task from a slot is in the hand
abbrev pub HasInHand : Program → Actor → Wait → ℕ → Tid → Type 0
HasInHand p a w n t = Looks p a w n × (t.0.creator < p.threads)

-- and its function is loaded, which is smaller than that of the current task
abbrev pub HasLoaded : Program → Actor → Wait → ℕ → Tid → ℕ → Type 0
HasLoaded p a w n t f = HasInHand p a w n t × (f < task_function a.stack)

-- a state is stored in every wait but that of `taskyield`
abbrev pub StoresWait : Wait → Type 0
StoresWait (wait.Barrier b) = Unit {0}
StoresWait wait.Taskwait = Unit {0}
StoresWait wait.Taskyield = ⊥
StoresWait wait.Taskgroup = Unit {0}

-- only children of the current task start in these waits
abbrev pub TestsChildren : Wait → Type 0
TestsChildren (wait.Barrier b) = ⊥
TestsChildren wait.Taskwait = Unit {0}
TestsChildren wait.Taskyield = Unit {0}
TestsChildren wait.Taskgroup = ⊥

abbrev pub FitsLook : Program → Actor → LookCounter → Type 0
FitsLook p a (look.State w) = Waits p a w × StoresWait w
FitsLook p a (look.LoadRow w n) = Looks p a w n × (n % OWN_SLOTS ≡ 0)
FitsLook p a (look.LoadSlot w n row) = LooksAt p a w n row
FitsLook p a (look.LoadGenerating w n row code) =
    LooksAt p a w n row × (code ≢ 0) × TestsChildren w
FitsLook p a (look.LoadGroup n row code) = LooksAt p a wait.Taskgroup n row × (code ≢ 0)
FitsLook p a (look.Take w n row code) = LooksAt p a w n row × (code ≢ 0)
FitsLook p a (look.LoadFunction w n code t) = HasInHand p a w n t
FitsLook p a (look.LoadFinal w n code t f) = HasLoaded p a w n t f
FitsLook p a (look.Fill w n code t f final word) = HasLoaded p a w n t f × (word < START_WORDS)
FitsLook p a (look.Start w n code t f final) = HasLoaded p a w n t f
FitsLook p a look.LoadChildren = Waits p a wait.Taskwait
FitsLook p a look.LoadCount = Waits p a wait.Taskgroup
FitsLook p a look.GroupEnd = Waits p a wait.Taskgroup
FitsLook p a (look.Yield n) = Waits p a wait.Taskyield × ((n ≡ 0) ⊎ (n ≡ slots_of a))

-- the current task is where an explicit task has finished: in a wait, or at the construct of a task that started at once
abbrev pub IsBack : Program → Actor → Option Wait → Type 0
IsBack p a None = IsAtSome p a IsTask
IsBack p a (Some w) = Waits p a w

-- a task that has finished, or one of its ancestors whose record may be given back
abbrev pub HasFinished : Program → Actor → Option Wait → Tid → Place → Type 0
HasFinished p a w t generating =
    IsBack p a w × (t.0.creator < p.threads) × (generating.creator < p.threads)

abbrev pub Lowers : Program → Actor → Option Wait → Place → Type 0
Lowers p a w generating = IsBack p a w × (generating.creator < p.threads)

abbrev pub FitsFinish : Program → Actor → FinishCounter → Type 0
FitsFinish p a finish.Finish = IsAtEnd p IsExplicit a.stack
FitsFinish p a (finish.LoadGenerating w t) = IsBack p a w × (t.0.creator < p.threads)
FitsFinish p a (finish.SubtractChildren w t generating) = HasFinished p a w t generating
FitsFinish p a (finish.LoadGroup w t generating) = HasFinished p a w t generating
FitsFinish p a (finish.SubtractCount w t generating group) = HasFinished p a w t generating
FitsFinish p a (finish.SubtractReferences w t generating) = HasFinished p a w t generating
FitsFinish p a (finish.Free w t generating) = HasFinished p a w t generating
FitsFinish p a (finish.LoadImplicit w generating) = Lowers p a w generating
FitsFinish p a (finish.LoadNext w generating) = Lowers p a w generating
FitsFinish p a (finish.LoadLife w generating next) = Lowers p a w generating
FitsFinish p a (finish.SubtractGenerating w generating explicit) = Lowers p a w generating
FitsFinish p a (finish.SubtractPending w) = IsBack p a w

-- ---- everything else

abbrev pub FitsPlain : Program → Actor → PlainCounter → Type 0
FitsPlain p a plain.Work = IsAt p a.stack stmt.Work
FitsPlain p a plain.Call = IsAtStart IsCalled a.stack
FitsPlain p a plain.Skip = IsAtSome p a (Skips a.context.number)
FitsPlain p a plain.Return = IsAtEnd p IsCalled a.stack
FitsPlain p a plain.Set = IsAtSome p a Sets
FitsPlain p a plain.Tool = (x : ℕ) × IsAt p a.stack (stmt.Tool x)
FitsPlain p a plain.Enter = IsAtSome p a Enters
FitsPlain p a plain.Leave = IsAtSome p a Enters
FitsPlain p a plain.WorkState = IsAtStart StartsWorking a.stack ⊎ IsAtSome p a StoresState
FitsPlain p a plain.LockState = IsAtSome p a IsCritical
FitsPlain p a plain.Lock = IsAtSome p a IsCritical
FitsPlain p a plain.Unlock = IsAtSome p a IsCritical
FitsPlain p a plain.GroupBegin = IsAtSome p a IsTaskgroup
FitsPlain p a plain.Done = IsAtEnd p IsMain a.stack
FitsPlain p a plain.Ended = IsAtEnd p IsMain a.stack

-- ---- the whole

abbrev pub FitsCounter : Program → Actor → Counter → Type 0
FitsCounter p a (counter.Worker c) = FitsWorker p a c
FitsCounter p a (counter.Team c) = FitsTeam p a c
FitsCounter p a (counter.Barrier c) = FitsBarrier p a c
FitsCounter p a (counter.Join c) = FitsJoin p a c
FitsCounter p a (counter.Task c) = FitsTask p a c
FitsCounter p a (counter.Look c) = FitsLook p a c
FitsCounter p a (counter.Finish c) = FitsFinish p a c
FitsCounter p a (counter.Plain c) = FitsPlain p a c

-- a data environment has all its words
abbrev pub HasVariables : Actor → Type 0
HasVariables a = length a.gathered.variables ≡ VARIABLE_WORDS

-- an actor fits a program: its thread, its bodies and its counter do
pub record Fits (p : Program) (a : Actor) : Type 0 where
  pub thread : a.thread < p.threads
  pub variables : HasVariables a
  pub bodies : AreOpen p a.context a.stack
  pub counter : FitsCounter p a a.counter

-- and it has a task, whatever its counter is
pub record HasTask (p : Program) (a : Actor) : Type 0 where
  pub thread : a.thread < p.threads
  pub variables : HasVariables a
  pub bodies : AreOpen p a.context a.stack
  pub some : 0 < length a.stack
