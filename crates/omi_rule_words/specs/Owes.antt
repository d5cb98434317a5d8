-- Outstanding work: what a thread has half done, by where it stands. A later step of the same thread settles it.
use Rattle.std.specs.Prelude.{ℕ, ◌+◌, Bool, true, false, List, [], ◌∷◌, take, drop, Option, Some, None}
use Rattle.omi_model.specs.declared.id.Rid.{Rid}
use Rattle.omi_model.specs.declared.id.Tid.{Tid}
use Rattle.omi_model.specs.Columns.{tasks_of}
use Rattle.omi_pc.specs.declared.actor.Actor.{Actor}
use Rattle.omi_pc.specs.declared.context.Context.{Context}
use Rattle.omi_pc.specs.declared.counter.Counter.{Counter}
use Rattle.omi_pc.specs.declared.counter.Counter.TheVariants as counter
use Rattle.omi_pc.specs.declared.place.Place.{Place}
use Rattle.omi_pc.specs.declared.task_counter.FinishCounter.{FinishCounter}
use Rattle.omi_pc.specs.declared.task_counter.FinishCounter.TheVariants as finish
use Rattle.omi_pc.specs.declared.task_counter.LookCounter.{LookCounter}
use Rattle.omi_pc.specs.declared.task_counter.LookCounter.TheVariants as look
use Rattle.omi_pc.specs.declared.task_counter.TaskCounter.{TaskCounter}
use Rattle.omi_pc.specs.declared.task_counter.TaskCounter.TheVariants as task
use Rattle.omi_pc.specs.declared.team_counter.TeamCounter.{TeamCounter}
use Rattle.omi_pc.specs.declared.team_counter.TeamCounter.TheVariants as team
use Rattle.omi_pc.specs.declared.team_counter.WorkerCounter.{WorkerCounter}
use Rattle.omi_pc.specs.declared.team_counter.WorkerCounter.TheVariants as worker

pub record Owed : Type 0 where
  -- records in the making, which have an odd life word and no live object: of a region, and of tasks
  pub region : Option Rid
  pub tasks : List Tid
  -- the region whose word for unfinished explicit tasks is one more than these: it was raised for a task in the making, or is to
  -- be lowered for one that has finished
  pub pending : Option Rid
  -- the task whose word for unfinished explicit children was raised for one in the making, and the finished task whose
  -- generating task's is to be lowered
  pub raised : Option Tid
  pub lowered : Option Tid
  -- the task whose word for references was raised for one in the making
  pub referred : Option Tid
  -- the task for whose new task the count of a group was raised: that of its innermost open group, or else of its own. And the finished
  -- task whose group's count is to be lowered
  pub counted : Option Tid
  pub uncounted : Option Tid
  -- the finished task that still refers to its own record, the place of the task that generated one which was given back, and the
  -- task that is to be given back, as its last reference was lowered
  pub own : Option Tid
  pub returned : Option Place
  pub gives : Option Tid
  -- the region that a member has left, where the word for those that left is to be raised
  pub left : Option Rid
  -- the tasks that are to be stored into the assign words of these threads
  pub assigns : List (Tid × ℕ)
  -- the thread has read its assign word and cleared it, and has not begun the task
  pub met : Bool
  -- the deferred task that was taken from a slot and is to be started
  pub hand : Option Tid

abbrev pub nothing : Owed
nothing =
    record {
      region = None;
      tasks = [];
      pending = None;
      raised = None;
      lowered = None;
      referred = None;
      counted = None;
      uncounted = None;
      own = None;
      returned = None;
      gives = None;
      left = None;
      assigns = [];
      met = false;
      hand = None;
    }

-- ---- teams

abbrev pub by_worker : WorkerCounter → Owed
by_worker (worker.LoadLife t) = record nothing { met = true }
by_worker (worker.LoadFunction t) = record nothing { met = true }
by_worker (worker.LoadRegion t f) = record nothing { met = true }
by_worker (worker.LoadRegionLife t f r) = record nothing { met = true }
by_worker (worker.LoadSize t f r) = record nothing { met = true }
by_worker (worker.LoadNumber t f r size) = record nothing { met = true }
by_worker (worker.ImplicitBegin t f r size number) = record nothing { met = true }
by_worker (worker.AddLeft r) = record nothing { left = Some r }
by_worker _ = nothing

-- with the team that was gathered
abbrev pub by_team : List (Tid × ℕ) → TeamCounter → Owed
by_team members (team.FillRegion r word) = record nothing { region = Some r }
by_team members (team.LoadTaskLife r member slot) =
    record nothing { region = Some r; tasks = take member (tasks_of members) }
by_team members (team.TakeTask r member t) =
    record nothing { region = Some r; tasks = take member (tasks_of members) }
by_team members (team.FillTask r member t word) =
    record nothing { region = Some r; tasks = take (member + 1) (tasks_of members) }
by_team members (team.StoreMember r member t) =
    record nothing { region = Some r; tasks = take (member + 1) (tasks_of members) }
by_team members (team.Fork r) = record nothing { region = Some r; tasks = tasks_of members }
by_team members (team.Assign member) = record nothing { assigns = drop member members }
by_team members _ = nothing

-- ---- explicit tasks, in a task with this context

-- a task in the making, after the raises that come before it
abbrev pub in_the_making : Tid → Owed
in_the_making t = record nothing { tasks = t ∷ [] }

-- with the raises that count it as unfinished, and with all raises
abbrev pub with_raises : Context → Tid → Owed
with_raises c t = record nothing { tasks = t ∷ []; pending = Some c.region; raised = Some c.task }

abbrev pub with_reference : Context → Tid → Owed
with_reference c t = record (with_raises c t) { referred = Some c.task }

-- and the raise that counts it in its group, where it has one
abbrev pub with_count : Context → Tid → Owed
with_count c t = record (with_reference c t) { counted = Some c.task }

abbrev pub by_task : Context → TaskCounter → Owed
by_task c (task.Fill place t word) = in_the_making t
by_task c (task.AddPending place t) = in_the_making t
by_task c (task.AddChildren place t) = record (in_the_making t) { pending = Some c.region }
by_task c (task.AddReferences place t) = with_raises c t
by_task c (task.AddCount place t) = with_reference c t
by_task c (task.Defer place t) = with_count c t
by_task c (task.StartNow t) = with_count c t
by_task c _ = nothing

abbrev pub by_look : LookCounter → Owed
by_look (look.LoadFunction w n code t) = record nothing { hand = Some t }
by_look (look.LoadFinal w n code t f) = record nothing { hand = Some t }
by_look (look.Fill w n code t f final word) = record nothing { hand = Some t }
by_look (look.Start w n code t f final) = record nothing { hand = Some t }
by_look _ = nothing

-- after a task has finished: what is owed on its region, and besides
abbrev pub in_region : Context → Owed
in_region c = record nothing { pending = Some c.region }

abbrev pub with_lowerings : Context → Tid → Owed
with_lowerings c t = record (in_region c) { lowered = Some t; uncounted = Some t; own = Some t }

-- the count of its group comes behind that of its generating task's children
abbrev pub with_count_lowering : Context → Tid → Owed
with_count_lowering c t = record (in_region c) { uncounted = Some t; own = Some t }

-- a task was given back that the one at this place generated
abbrev pub with_returned : Context → Place → Owed
with_returned c generating = record (in_region c) { returned = Some generating }

abbrev pub by_finish : Context → FinishCounter → Owed
by_finish c finish.Finish = nothing
by_finish c (finish.LoadGenerating w t) = with_lowerings c t
by_finish c (finish.SubtractChildren w t generating) = with_lowerings c t
by_finish c (finish.LoadGroup w t generating) = with_count_lowering c t
by_finish c (finish.SubtractCount w t generating group) = with_count_lowering c t
by_finish c (finish.SubtractReferences w t generating) = record (in_region c) { own = Some t }
by_finish c (finish.Free w t generating) = record (in_region c) { gives = Some t }
by_finish c (finish.LoadImplicit w generating) = with_returned c generating
by_finish c (finish.LoadNext w generating) = with_returned c generating
by_finish c (finish.LoadLife w generating next) = with_returned c generating
by_finish c (finish.SubtractGenerating w generating explicit) = with_returned c generating
by_finish c (finish.SubtractPending w) = in_region c

-- ---- the whole

abbrev pub owed_at : Context → List (Tid × ℕ) → Counter → Owed
owed_at c members (counter.Worker at) = by_worker at
owed_at c members (counter.Team at) = by_team members at
owed_at c members (counter.Barrier at) = nothing
owed_at c members (counter.Join at) = nothing
owed_at c members (counter.Task at) = by_task c at
owed_at c members (counter.Look at) = by_look at
owed_at c members (counter.Finish at) = by_finish c at
owed_at c members (counter.Plain at) = nothing

abbrev pub owed : Actor → Owed
owed a = owed_at a.context a.gathered.team a.counter

-- of each thread
abbrev pub all_owed : (ℕ → Actor) → ℕ → Owed
all_owed actors = λ i. owed (actors i)
