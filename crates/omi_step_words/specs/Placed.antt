-- When the registers of an actor name records of a layout. It speaks of no state.
use Rattle.std.specs.Prelude.{◌≡◌, ℕ, ◌<◌, List, [], ◌∷◌, length, Option, Some, None}
use Rattle.omi_model.specs.declared.id.Rid.{Rid}
use Rattle.omi_model.specs.declared.id.Tid.{Tid}
use Rattle.omi_layout.specs.declared.limits.TheConstants.{GROUP_VERSION}
use Rattle.omi_layout.specs.Field.{regions, tasks}
use Rattle.omi_layout.specs.Place.{IsSlot}
use Rattle.omi_layout.specs.Table.{thread_count, per_thread, version}
use Rattle.omi_pc.specs.declared.actor.Actor.{Actor}
use Rattle.omi_pc.specs.declared.context.Context.{Context}
use Rattle.omi_pc.specs.declared.counter.Counter.{Counter}
use Rattle.omi_pc.specs.declared.counter.Counter.TheVariants as counter
use Rattle.omi_pc.specs.declared.frame.Frame.{Frame}
use Rattle.omi_pc.specs.declared.place.Place.{Place}
use Rattle.omi_pc.specs.declared.task_counter.Ancestor.{Ancestor}
use Rattle.omi_pc.specs.declared.task_counter.FinishCounter.{FinishCounter}
use Rattle.omi_pc.specs.declared.task_counter.FinishCounter.TheVariants as finish
use Rattle.omi_pc.specs.declared.task_counter.LookCounter.{LookCounter}
use Rattle.omi_pc.specs.declared.task_counter.LookCounter.TheVariants as look
use Rattle.omi_pc.specs.declared.task_counter.TaskCounter.{TaskCounter}
use Rattle.omi_pc.specs.declared.task_counter.TaskCounter.TheVariants as task
use Rattle.omi_pc.specs.declared.team_counter.JoinCounter.{JoinCounter}
use Rattle.omi_pc.specs.declared.team_counter.JoinCounter.TheVariants as join
use Rattle.omi_pc.specs.declared.team_counter.TeamCounter.{TeamCounter}
use Rattle.omi_pc.specs.declared.team_counter.TeamCounter.TheVariants as team
use Rattle.omi_pc.specs.declared.team_counter.WorkerCounter.{WorkerCounter}
use Rattle.omi_pc.specs.declared.team_counter.WorkerCounter.TheVariants as worker
use Rattle.omi_pc.specs.Moves.{context_under}
use Rattle.omi_step_words.specs.Members.{member_of}

-- ---- names

-- the layout has the slot of a region, and of a task
abbrev pub HasRegion : List ℕ → Rid → Type 0
HasRegion w n = IsSlot w regions n.0.creator n.0.slot

abbrev pub HasTask : List ℕ → Tid → Type 0
HasTask w k = IsSlot w tasks k.0.creator k.0.slot

-- the record of a task has words for groups, behind its slots
abbrev pub HasGroupWords : List ℕ → Type 0
HasGroupWords w = version w ≡ GROUP_VERSION

-- a task or none
abbrev pub HasOptionalTask : List ℕ → Option Tid → Type 0
HasOptionalTask w None = Unit {0}
HasOptionalTask w (Some k) = HasTask w k

abbrev pub HasRegionPlace : List ℕ → Place → Type 0
HasRegionPlace w at = IsSlot w regions at.creator at.slot

abbrev pub HasTaskPlace : List ℕ → Place → Type 0
HasTaskPlace w at = IsSlot w tasks at.creator at.slot

-- ---- contexts

pub record IsContextPlaced (w : List ℕ) (c : Context) : Type 0 where
  pub task : HasTask w c.task
  pub region : HasRegion w c.region
  pub row : HasTask w c.row

-- the context of each task whose body is open, where the innermost one has this context
abbrev pub AreContextsPlaced : List ℕ → Context → List Frame → Type 0
AreContextsPlaced w c [] = Unit {0}
AreContextsPlaced w c (f ∷ fs) =
    IsContextPlaced w c × AreContextsPlaced w (context_under c f.opened) fs

-- ---- teams

-- the threads of a team are threads of the layout
abbrev pub AreThreads : List ℕ → List (Tid × ℕ) → Type 0
AreThreads w team = (j : ℕ) → j < length team → (member_of team j).1 < thread_count w

-- the tasks of the first members of a team have slots
abbrev pub HaveTasks : List ℕ → ℕ → List (Tid × ℕ) → Type 0
HaveTasks w n team = (j : ℕ) → j < n → HasTask w (member_of team j).0

-- ---- counters

abbrev pub IsPlacedWorker : List ℕ → WorkerCounter → Type 0
IsPlacedWorker w worker.Begin = Unit {0}
IsPlacedWorker w worker.Offer = Unit {0}
IsPlacedWorker w worker.LoadAssign = Unit {0}
IsPlacedWorker w (worker.ClearAssign t) = HasTaskPlace w t
IsPlacedWorker w (worker.LoadLife t) = HasTaskPlace w t
IsPlacedWorker w (worker.LoadFunction t) = HasTask w t
IsPlacedWorker w (worker.LoadRegion t f) = HasTask w t
IsPlacedWorker w (worker.LoadRegionLife t f r) = HasTask w t × HasRegionPlace w r
IsPlacedWorker w (worker.LoadSize t f r) = HasTask w t × HasRegion w r
IsPlacedWorker w (worker.LoadNumber t f r size) = HasTask w t × HasRegion w r
IsPlacedWorker w (worker.ImplicitBegin t f r size number) = HasTask w t × HasRegion w r
IsPlacedWorker w worker.ImplicitEnd = Unit {0}
IsPlacedWorker w (worker.AddLeft r) = HasRegion w r
IsPlacedWorker w worker.IdleState = Unit {0}

-- a search for a record stands at one of the slots of a thread
abbrev pub Searches : List ℕ → ℕ → ℕ → Type 0
Searches w kind slot = slot < per_thread w kind

abbrev pub IsPlacedTeam : List ℕ → Actor → TeamCounter → Type 0
IsPlacedTeam w a team.OverheadState = Unit {0}
IsPlacedTeam w a team.LoadLevels = Unit {0}
IsPlacedTeam w a team.LoadActive = Unit {0}
IsPlacedTeam w a (team.LoadVariable word) = Unit {0}
IsPlacedTeam w a team.Want = Unit {0}
IsPlacedTeam w a team.Ask = Unit {0}
IsPlacedTeam w a (team.LoadRegionLife slot) = Searches w regions slot
IsPlacedTeam w a (team.TakeRegion r) = HasRegion w r
IsPlacedTeam w a (team.FillRegion r word) = HasRegion w r
IsPlacedTeam w a (team.LoadTaskLife r member slot) = HasRegion w r × Searches w tasks slot
IsPlacedTeam w a (team.TakeTask r member t) = HasRegion w r × HasTask w t
IsPlacedTeam w a (team.FillTask r member t word) =
    HasRegion w r × HasTask w t × AreThreads w a.gathered.team
IsPlacedTeam w a (team.StoreMember r member t) = HasRegion w r × HasTask w t
IsPlacedTeam w a (team.Fork r) = HasRegion w r × HaveTasks w 1 a.gathered.team
IsPlacedTeam w a (team.Assign member) =
    AreThreads w a.gathered.team × HaveTasks w (length a.gathered.team) a.gathered.team

abbrev pub IsPlacedJoin : List ℕ → JoinCounter → Type 0
IsPlacedJoin w join.LoadLeft = Unit {0}
IsPlacedJoin w join.Join = Unit {0}
IsPlacedJoin w (join.LoadMember r size member) = HasRegion w r
IsPlacedJoin w (join.LoadLife r size member t) = HasRegion w r × HasTaskPlace w t
IsPlacedJoin w (join.FreeTask r size member t) = HasRegion w r × HasTask w t
IsPlacedJoin w (join.FreeRegion r size) = HasRegion w r

-- ---- explicit tasks

-- the record of a task in the making
abbrev pub IsPlacedTask : List ℕ → TaskCounter → Type 0
IsPlacedTask w (task.LoadSlot place) = Unit {0}
IsPlacedTask w (task.LoadVariable place word) = Unit {0}
IsPlacedTask w (task.LoadGroup place) = Unit {0}
IsPlacedTask w (task.LoadLife place slot) = Searches w tasks slot
IsPlacedTask w (task.Take place t) = HasTask w t
IsPlacedTask w (task.Fill place t word) = HasTask w t
IsPlacedTask w (task.AddPending place t) = HasTask w t
IsPlacedTask w (task.AddChildren place t) = HasTask w t
IsPlacedTask w (task.AddReferences place t) = HasTask w t
IsPlacedTask w (task.AddCount place t) = HasTask w t
IsPlacedTask w (task.Defer place t) = HasTask w t
IsPlacedTask w (task.StartNow t) = HasTask w t

-- the record whose slots are looked at, and that of a task in the hand
abbrev pub IsPlacedLook : List ℕ → LookCounter → Type 0
IsPlacedLook w (look.State v) = Unit {0}
IsPlacedLook w (look.LoadRow v n) = Unit {0}
IsPlacedLook w (look.LoadSlot v n row) = HasTaskPlace w row
IsPlacedLook w (look.LoadGenerating v n row code) = HasTaskPlace w row
IsPlacedLook w (look.LoadGroup n row code) = HasTaskPlace w row
IsPlacedLook w (look.Take v n row code) = HasTaskPlace w row
IsPlacedLook w (look.LoadFunction v n code t) = HasTask w t
IsPlacedLook w (look.LoadFinal v n code t f) = HasTask w t
IsPlacedLook w (look.Fill v n code t f final word) = HasTask w t
IsPlacedLook w (look.Start v n code t f final) = HasTask w t
IsPlacedLook w look.LoadChildren = Unit {0}
IsPlacedLook w look.LoadCount = Unit {0}
IsPlacedLook w look.GroupEnd = Unit {0}
IsPlacedLook w (look.Yield n) = Unit {0}

-- an explicit task above, or none
abbrev pub HasAncestor : List ℕ → Option Ancestor → Type 0
HasAncestor w None = Unit {0}
HasAncestor w (Some x) = HasTask w x.task

-- the record of a task that has finished, and that of its generating task
abbrev pub IsPlacedFinish : List ℕ → FinishCounter → Type 0
IsPlacedFinish w finish.Finish = Unit {0}
IsPlacedFinish w (finish.LoadGenerating v t) = HasTask w t
IsPlacedFinish w (finish.SubtractChildren v t generating) = HasTask w t × HasTaskPlace w generating
IsPlacedFinish w (finish.LoadGroup v t generating) = HasTask w t × HasTaskPlace w generating
IsPlacedFinish w (finish.SubtractCount v t generating group) =
    HasTask w t × HasTaskPlace w generating
IsPlacedFinish w (finish.SubtractReferences v t generating) =
    HasTask w t × HasTaskPlace w generating
IsPlacedFinish w (finish.Free v t generating) = HasTask w t × HasTaskPlace w generating
IsPlacedFinish w (finish.LoadImplicit v generating) = HasTaskPlace w generating
IsPlacedFinish w (finish.LoadNext v generating) = HasTaskPlace w generating
IsPlacedFinish w (finish.LoadLife v generating next) = HasTaskPlace w generating
IsPlacedFinish w (finish.SubtractGenerating v generating explicit) =
    HasTaskPlace w generating × HasAncestor w explicit
IsPlacedFinish w (finish.SubtractPending v) = Unit {0}

-- ---- the whole

-- the counters of each family
abbrev pub IsPlacedCounter : List ℕ → Actor → Counter → Type 0
IsPlacedCounter w a (counter.Worker c) = IsPlacedWorker w c
IsPlacedCounter w a (counter.Team c) = IsPlacedTeam w a c
IsPlacedCounter w a (counter.Barrier c) = Unit {0}
IsPlacedCounter w a (counter.Join c) = IsPlacedJoin w c
IsPlacedCounter w a (counter.Task c) = IsPlacedTask w c
IsPlacedCounter w a (counter.Look c) = IsPlacedLook w c
IsPlacedCounter w a (counter.Finish c) = IsPlacedFinish w c
IsPlacedCounter w a (counter.Plain c) = Unit {0}

-- what the registers and the contexts of an actor name are records of the layout
pub record IsPlaced (w : List ℕ) (a : Actor) : Type 0 where
  pub bodies : AreContextsPlaced w a.context a.stack
  pub counter : IsPlacedCounter w a a.counter
