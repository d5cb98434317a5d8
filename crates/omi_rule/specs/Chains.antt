-- Where a thread stands against the state: the contexts of its tasks, from the current one down by the tasks that these were scheduled
-- from, are what the state says of them, and their to-do lists are what is ahead in their bodies.
use Rattle.std.specs.Prelude.{◌≡◌, ℕ, true, List, [], ◌∷◌, length, slice_get, slice_index, Option, Some, None, if◌then◌else◌}
use Rattle.omi_script.specs.declared.program.Program.{Program}
use Rattle.omi_model.specs.declared.encounter.Encounter.{Encounter}
use Rattle.omi_model.specs.declared.freeable.Freeable.{Freeable}
use Rattle.omi_model.specs.declared.freeable.Freeable.TheVariants as freeable
use Rattle.omi_model.specs.declared.item.Item.{Item}
use Rattle.omi_model.specs.declared.item.Item.TheVariants as item
use Rattle.omi_model.specs.declared.progress.Progress.TheVariants as progress
use Rattle.omi_model.specs.declared.region.Region.{Region}
use Rattle.omi_model.specs.declared.task.Task.{Task}
use Rattle.omi_model.specs.Changes.{encounter_by}
use Rattle.omi_numbers.specs.declared.states.TheConstants.{IDLE}
use Rattle.omi_numbers.specs.Addresses.{exit_frame}
use Rattle.omi_model.specs.Opening.{initial_region, initial_task}
use Rattle.omi_model.specs.Rows.{worker_items, working}
use Rattle.omi_model.specs.State.{State, region_of, task_of}
use Rattle.omi_pc.specs.declared.actor.Actor.{Actor}
use Rattle.omi_pc.specs.declared.context.Context.{Context}
use Rattle.omi_pc.specs.declared.counter.Counter.{Counter}
use Rattle.omi_pc.specs.declared.counter.Counter.TheVariants as counter
use Rattle.omi_pc.specs.declared.frame.Frame.{Frame}
use Rattle.omi_pc.specs.declared.frame.Opened.{Opened}
use Rattle.omi_pc.specs.declared.frame.Opened.TheVariants as opened
use Rattle.omi_pc.specs.declared.task_counter.FinishCounter.{FinishCounter}
use Rattle.omi_pc.specs.declared.task_counter.FinishCounter.TheVariants as finish
use Rattle.omi_pc.specs.declared.team_counter.JoinCounter.{JoinCounter}
use Rattle.omi_pc.specs.declared.team_counter.JoinCounter.TheVariants as join
use Rattle.omi_pc.specs.declared.team_counter.WorkerCounter.{WorkerCounter}
use Rattle.omi_pc.specs.declared.team_counter.WorkerCounter.TheVariants as worker
use Rattle.omi_pc.specs.Moves.{context_under}
use Rattle.omi_pc.specs.Stacks.{opens_task}
use Rattle.omi_rule.specs.Ahead.{IsAhead, leaving, resuming}

-- ---- contexts

-- a context of thread i is what the state says of its task and of the task's region
pub record KeepsContext (s : State) (i : ℕ) (c : Context) : Type 0 where
  pub task : Task
  pub live : task_of s c.task ≡ Some task
  pub begun : task.progress ≡ progress.Begun
  pub thread : task.thread ≡ i
  pub implicit : task.implicit ≡ c.implicit
  pub region_is : task.region ≡ c.region
  pub number : task.number ≡ c.number
  pub final : task.is_final ≡ c.is_final
  pub exit : task.exit ≡ exit_frame i c.depth
  pub region : Region
  pub found : region_of s c.region ≡ Some region
  pub size : length region.team ≡ c.size
  pub row : slice_get region.team c.number ≡ Some (c.row, i)
  pub arrivals : slice_index region.arrivals c.number ≡ c.arrivals
  pub groups : task.open_groups ≡ c.open_groups

-- what the rows of statements see of the task with a context
abbrev pub encounter_of : State → Context → Encounter
encounter_of s c = encounter_by s (task_of s c.task)

-- ---- tasks from which others were scheduled

-- a task has this list, and made way for another one
pub record IsSuspended (s : State) (c : Context) (list : List Item) : Type 0 where
  pub task : Task
  pub live : task_of s c.task ≡ Some task
  pub list_is : task.list ≡ list

-- the current task was scheduled from the task with a context
pub record IsScheduledFrom (s : State) (saved c : Context) : Type 0 where
  pub task : Task
  pub live : task_of s c.task ≡ Some task
  pub scheduling : task.scheduling ≡ Some saved.task

-- the body of a task, by how it was opened, on the bodies of the tasks outside it
abbrev pub KeepsBody : Program → State → Context → Opened → List Frame → Type 0
KeepsBody p s c opened.Main fs = (c.task ≡ initial_task) × (c.region ≡ initial_region)
KeepsBody p s c (opened.Master saved) fs =
    IsScheduledFrom s saved c
    × IsSuspended s saved
    (working (encounter_of s saved) (leaving p (encounter_of s saved) fs))
KeepsBody p s c (opened.Task w saved) fs =
    IsScheduledFrom s saved c
    × IsSuspended s saved (resuming p (encounter_of s saved) fs w)
KeepsBody p s c o fs = Unit {0}

-- the bodies of a stack, where the innermost one is of the task with this context
abbrev pub KeepsBodies : Program → State → ℕ → Context → List Frame → Type 0
KeepsBodies p s i c [] = KeepsContext s i c
KeepsBodies p s i c (f ∷ fs) =
    KeepsContext s i c × KeepsBody p s c f.opened fs
    × KeepsBodies p s i (context_under c f.opened) fs

-- ---- functions

-- the body with which a task begins is that of the task's function
abbrev pub RunsBody : State → Context → Frame → Type 0
RunsBody s c f = opens_task f.opened ≡ true → (t : Task) → task_of s c.task ≡ Some t
    → t.function ≡ f.function

abbrev pub RunsFunctions : State → Context → List Frame → Type 0
RunsFunctions s c [] = Unit {0}
RunsFunctions s c (f ∷ fs) = RunsBody s c f × RunsFunctions s (context_under c f.opened) fs

-- ---- what may be given back

-- what stands in front of a list may be passed over: no region is to be given back first
abbrev pub IsPassable : Option Freeable → Type 0
IsPassable None = Unit {0}
IsPassable (Some (freeable.Finished t)) = Unit {0}
IsPassable (Some (freeable.Joined n number)) = ⊥

abbrev pub IsJoinFront : JoinCounter → Option Freeable → Type 0
IsJoinFront join.LoadLeft front = IsPassable front
IsJoinFront join.Join front = IsPassable front
IsJoinFront (join.LoadMember r size member) front = front ≡ Some (freeable.Joined r member)
IsJoinFront (join.LoadLife r size member t) front = front ≡ Some (freeable.Joined r member)
IsJoinFront (join.FreeTask r size member t) front = front ≡ Some (freeable.Joined r member)
IsJoinFront (join.FreeRegion r size) front = front ≡ Some (freeable.Joined r size)

abbrev pub IsFinishFront : FinishCounter → Option Freeable → Type 0
IsFinishFront finish.Finish front = IsPassable front
IsFinishFront (finish.LoadGenerating w t) front = front ≡ Some (freeable.Finished t)
IsFinishFront (finish.SubtractChildren w t generating) front = front ≡ Some (freeable.Finished t)
IsFinishFront (finish.LoadGroup w t generating) front = front ≡ Some (freeable.Finished t)
IsFinishFront (finish.SubtractCount w t generating group) front = front ≡ Some (freeable.Finished t)
IsFinishFront (finish.SubtractReferences w t generating) front = front ≡ Some (freeable.Finished t)
IsFinishFront (finish.Free w t generating) front = front ≡ Some (freeable.Finished t)
IsFinishFront (finish.LoadImplicit w generating) front = IsPassable front
IsFinishFront (finish.LoadNext w generating) front = IsPassable front
IsFinishFront (finish.LoadLife w generating next) front = IsPassable front
IsFinishFront (finish.SubtractGenerating w generating explicit) front = IsPassable front
IsFinishFront (finish.SubtractPending w) front = IsPassable front

-- what may be given back in front of the current task's list, by where its thread stands
abbrev pub IsFront : Counter → Option Freeable → Type 0
IsFront (counter.Worker c) front = IsPassable front
IsFront (counter.Team c) front = IsPassable front
IsFront (counter.Barrier c) front = IsPassable front
IsFront (counter.Join c) front = IsJoinFront c front
IsFront (counter.Task c) front = IsPassable front
IsFront (counter.Look c) front = IsPassable front
IsFront (counter.Finish c) front = IsFinishFront c front
IsFront (counter.Plain c) front = IsPassable front

-- ---- threads

-- a thread with a task
pub record StandsInTask (p : Program) (s : State) (i : ℕ) (a : Actor) : Type 0 where
  pub current : (s.threads i).current ≡ Some a.context.task
  pub bodies : KeepsBodies p s i a.context a.stack
  pub ahead : (t : Task) → task_of s a.context.task ≡ Some t
      → IsAhead p (encounter_of s a.context) a.stack a.counter t.list
  pub front : (t : Task) → task_of s a.context.task ≡ Some t → IsFront a.counter t.frees

-- what is ahead of a worker without a task
abbrev pub offering : List Item
offering = item.Offer ∷ item.Serve ∷ []

abbrev pub idling : State → List Item
idling s = if s.environment.debug then item.State IDLE 0 ∷ offering else offering

abbrev pub worker_ahead : State → WorkerCounter → List Item
worker_ahead s worker.Begin = worker_items
worker_ahead s worker.Offer = offering
worker_ahead s (worker.AddLeft r) = idling s
worker_ahead s worker.IdleState = item.State IDLE 0 ∷ offering
worker_ahead s c = item.Serve ∷ []

-- a thread without one is a worker
abbrev pub IsWorkerAhead : State → Counter → List Item → Type 0
IsWorkerAhead s (counter.Worker c) list = list ≡ worker_ahead s c
IsWorkerAhead s c list = ⊥

pub record StandsAlone (s : State) (i : ℕ) (a : Actor) : Type 0 where
  pub current : (s.threads i).current ≡ None
  pub ahead : IsWorkerAhead s a.counter (s.threads i).list

abbrev pub StandsWith : Program → State → ℕ → Actor → List Frame → Type 0
StandsWith p s i a [] = StandsAlone s i a
StandsWith p s i a (f ∷ fs) = StandsInTask p s i a

-- a thread stands where its actor is
abbrev pub Stands : Program → State → ℕ → Actor → Type 0
Stands p s i a = StandsWith p s i a a.stack
