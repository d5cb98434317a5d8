-- The watch of a thread as its counter and its registers give it.
use Rattle.std.specs.Prelude.{◌≡◌, ◌≢◌, ◌⊎◌, ℕ, ◌+◌, ◌*◌, ◌≤◌, Option, Some, None}
use Rattle.omi_layout.specs.declared.field.Field.TheVariants.{RegionLife, TaskLife}
use Rattle.omi_layout.specs.declared.field.Field.{Field}
use Rattle.omi_script.specs.declared.program.Program.{Program}
use Rattle.omi_model.specs.declared.id.Id.{Id}
use Rattle.omi_pc.specs.declared.actor.Actor.{Actor}
use Rattle.omi_pc.specs.declared.counter.Counter.{Counter}
use Rattle.omi_pc.specs.declared.counter.Counter.TheVariants as counter
use Rattle.omi_pc.specs.declared.limits.TheConstants.{TASK_WORDS}
use Rattle.omi_pc.specs.declared.task_counter.FinishCounter.{FinishCounter}
use Rattle.omi_pc.specs.declared.task_counter.FinishCounter.TheVariants as finish
use Rattle.omi_pc.specs.declared.task_counter.LookCounter.{LookCounter}
use Rattle.omi_pc.specs.declared.task_counter.LookCounter.TheVariants as look
use Rattle.omi_pc.specs.declared.task_counter.TaskCounter.{TaskCounter}
use Rattle.omi_pc.specs.declared.task_counter.TaskCounter.TheVariants as task
use Rattle.omi_pc.specs.declared.team_counter.BarrierCounter.{BarrierCounter}
use Rattle.omi_pc.specs.declared.team_counter.BarrierCounter.TheVariants as barrier
use Rattle.omi_pc.specs.declared.team_counter.JoinCounter.{JoinCounter}
use Rattle.omi_pc.specs.declared.team_counter.JoinCounter.TheVariants as join
use Rattle.omi_pc.specs.declared.team_counter.TeamCounter.{TeamCounter}
use Rattle.omi_pc.specs.declared.team_counter.TeamCounter.TheVariants as team
use Rattle.omi_pc.specs.declared.team_counter.WorkerCounter.{WorkerCounter}
use Rattle.omi_pc.specs.declared.team_counter.WorkerCounter.TheVariants as worker
use Rattle.omi_pc.specs.Fits.{slots_of}
use Rattle.omi_rule.specs.Steps.{RecordWord}
use Rattle.omi_rule_watch.specs.Watch.{Search, SlotLook, Watch}

-- ---- quiet steps: with so many threads, at most so many lie behind a thread at a counter

-- at the first counter of a statement: behind the stores into assign words, or behind the end of a task
abbrev pub carried : ℕ → ℕ
carried threads = threads + 6

-- a member's record is looked for, taken, filled and stored into the team
abbrev pub member_steps : ℕ
member_steps = TASK_WORDS + 3

-- one slot is looked at in four steps at most: its row, its code, the task's generating task or group, and the exchange
abbrev pub at_look : ℕ → ℕ → ℕ
at_look threads n = carried threads + 4 * n

-- behind the last slot of the largest team
abbrev pub behind_looks : ℕ → ℕ
behind_looks threads = carried threads + 16 * threads

abbrev pub worker_quiet : ℕ → WorkerCounter → ℕ
worker_quiet threads worker.LoadAssign = 0
worker_quiet threads (worker.ClearAssign t) = 1
worker_quiet threads (worker.LoadLife t) = 2
worker_quiet threads (worker.LoadFunction t) = 3
worker_quiet threads (worker.LoadRegion t f) = 4
worker_quiet threads (worker.LoadRegionLife t f r) = 5
worker_quiet threads (worker.LoadSize t f r) = 6
worker_quiet threads (worker.LoadNumber t f r size) = 7
worker_quiet threads (worker.ImplicitBegin t f r size number) = 8
worker_quiet threads (worker.AddLeft r) = 0
worker_quiet threads c = carried threads

abbrev pub team_quiet : ℕ → TeamCounter → ℕ
team_quiet threads team.OverheadState = carried threads
team_quiet threads team.LoadLevels = 0
team_quiet threads team.LoadActive = 1
team_quiet threads (team.LoadVariable word) = 2 + word
team_quiet threads team.Want = 10
team_quiet threads team.Ask = 0
team_quiet threads (team.LoadRegionLife slot) = 0
team_quiet threads (team.TakeRegion r) = 1
team_quiet threads (team.FillRegion r word) = 2 + word
team_quiet threads (team.LoadTaskLife r member slot) = 12 + member * member_steps
team_quiet threads (team.TakeTask r member t) = 13 + member * member_steps
team_quiet threads (team.FillTask r member t word) = 14 + member * member_steps + word
team_quiet threads (team.StoreMember r member t) = 14 + member * member_steps + TASK_WORDS
team_quiet threads (team.Fork r) = 12 + threads * member_steps
team_quiet threads (team.Assign member) = member

abbrev pub barrier_quiet : ℕ → BarrierCounter → ℕ
barrier_quiet threads (barrier.State b) = carried threads
barrier_quiet threads (barrier.Arrive b) = carried threads
barrier_quiet threads (barrier.LoadArrived b) = behind_looks threads
barrier_quiet threads (barrier.LoadPending b) = behind_looks threads + 1
barrier_quiet threads (barrier.Release b) = behind_looks threads + 2
barrier_quiet threads (barrier.LoadReleased b) = behind_looks threads

-- an event gives each record back, and behind it no quiet step is counted
abbrev pub join_quiet : JoinCounter → ℕ
join_quiet join.LoadLeft = 0
join_quiet join.Join = 1
join_quiet (join.LoadMember r size member) = 0
join_quiet (join.LoadLife r size member t) = 1
join_quiet (join.FreeTask r size member t) = 2
join_quiet (join.FreeRegion r size) = 0

abbrev pub making_quiet : TaskCounter → ℕ
making_quiet (task.LoadSlot place) = 0
making_quiet (task.LoadVariable place word) = 1 + word
making_quiet (task.LoadGroup place) = 9
making_quiet (task.LoadLife place slot) = 10
making_quiet (task.Take place t) = 11
making_quiet (task.Fill place t word) = 12 + word
making_quiet (task.AddPending place t) = 12 + TASK_WORDS
making_quiet (task.AddChildren place t) = 13 + TASK_WORDS
making_quiet (task.AddReferences place t) = 14 + TASK_WORDS
making_quiet (task.AddCount place t) = 15 + TASK_WORDS
making_quiet c = 16 + TASK_WORDS

abbrev pub look_quiet : ℕ → LookCounter → ℕ
look_quiet threads (look.State v) = carried threads
look_quiet threads (look.LoadRow v n) = at_look threads n
look_quiet threads (look.LoadSlot v n row) = at_look threads n + 1
look_quiet threads (look.LoadGenerating v n row code) = at_look threads n + 2
look_quiet threads (look.LoadGroup n row code) = at_look threads n + 2
look_quiet threads (look.Take v n row code) = at_look threads n + 3
look_quiet threads (look.LoadFunction v n code t) = at_look threads n + 4
look_quiet threads (look.LoadFinal v n code t f) = at_look threads n + 5
look_quiet threads (look.Fill v n code t f final word) = at_look threads n + 6 + word
look_quiet threads (look.Start v n code t f final) = at_look threads n + 11
look_quiet threads look.LoadChildren = behind_looks threads
look_quiet threads look.LoadCount = behind_looks threads
look_quiet threads look.GroupEnd = behind_looks threads + 1
look_quiet threads (look.Yield n) = behind_looks threads

-- five quiet steps at most lead from the end of a task to the event that gives its record back, and four from there to that of a task above
abbrev pub finish_quiet : ℕ → FinishCounter → ℕ
finish_quiet threads finish.Finish = carried threads
finish_quiet threads (finish.LoadGenerating v t) = 0
finish_quiet threads (finish.SubtractChildren v t generating) = 1
finish_quiet threads (finish.LoadGroup v t generating) = 2
finish_quiet threads (finish.SubtractCount v t generating group) = 3
finish_quiet threads (finish.SubtractReferences v t generating) = 4
finish_quiet threads (finish.LoadImplicit v generating) = 0
finish_quiet threads (finish.LoadNext v generating) = 1
finish_quiet threads (finish.LoadLife v generating next) = 2
finish_quiet threads (finish.SubtractGenerating v generating explicit) = 3
finish_quiet threads (finish.Free v t generating) = 5
finish_quiet threads (finish.SubtractPending v) = 5

abbrev pub most_quiet : ℕ → Counter → ℕ
most_quiet threads (counter.Worker c) = worker_quiet threads c
most_quiet threads (counter.Team c) = team_quiet threads c
most_quiet threads (counter.Barrier c) = barrier_quiet threads c
most_quiet threads (counter.Join c) = join_quiet c
most_quiet threads (counter.Task c) = making_quiet c
most_quiet threads (counter.Look c) = look_quiet threads c
most_quiet threads (counter.Finish c) = finish_quiet threads c
most_quiet threads (counter.Plain c) = carried threads

-- ---- the search

-- the life word of an own record
abbrev pub own_life : Actor → Field → ℕ → RecordWord
own_life a life slot = record { creator = a.thread; slot = slot; field = life; place = 0 }

-- the life word that a search loads next
abbrev pub sought : Actor → Counter → Option RecordWord
sought a (counter.Team (team.LoadRegionLife slot)) = Some (own_life a RegionLife slot)
sought a (counter.Team (team.LoadTaskLife r member slot)) = Some (own_life a TaskLife slot)
sought a (counter.Task (task.LoadLife place slot)) = Some (own_life a TaskLife slot)
sought a c = None

-- the object whose record was found free and is taken next
abbrev pub region_found : Counter → Option Id
region_found (counter.Team (team.TakeRegion r)) = Some r.0
region_found c = None

abbrev pub task_found : Counter → Option Id
task_found (counter.Team (team.TakeTask r member t)) = Some t.0
task_found (counter.Task (task.Take place t)) = Some t.0
task_found c = None

-- the life word at which a search begins is that of slot 0
abbrev pub IsFirst : Option RecordWord → Type 0
IsFirst None = Unit {0}
IsFirst (Some x) = x.slot ≡ 0

pub record IsSearchGiven (a : Actor) (c : Counter) (h : Search) : Type 0 where
  pub expected : ((h.expected ≡ None) × IsFirst (sought a c)) ⊎ (h.expected ≡ sought a c)
  pub region : h.region ≡ region_found c
  pub task : h.task ≡ task_found c

-- ---- the look. Outside of waits nothing is said: each look begins behind an event or a wait

-- so many slots were passed, and a code was seen in the next one, or none
pub record Has (h : SlotLook) (n : ℕ) (code : Option ℕ) : Type 0 where
  pub looked : h.looked ≡ n
  pub seen : h.seen ≡ code

-- all slots of the team were passed
abbrev pub HasAll : Actor → SlotLook → Type 0
HasAll a h = Has h (slots_of a) None

abbrev pub IsLookGivenBy : Actor → LookCounter → SlotLook → Type 0
IsLookGivenBy a (look.LoadRow v n) h = Has h n None
IsLookGivenBy a (look.LoadSlot v n row) h = Has h n None
IsLookGivenBy a (look.LoadGenerating v n row code) h = Has h n (Some code)
IsLookGivenBy a (look.LoadGroup n row code) h = Has h n (Some code)
IsLookGivenBy a (look.Take v n row code) h = Has h n (Some code)
IsLookGivenBy a look.LoadChildren h = HasAll a h
IsLookGivenBy a look.LoadCount h = HasAll a h
IsLookGivenBy a c h = Unit {0}

-- member 0 finds a barrier released that it has released itself
abbrev pub IsBarrierGivenBy : Actor → BarrierCounter → SlotLook → Type 0
IsBarrierGivenBy a (barrier.LoadArrived b) h = HasAll a h
IsBarrierGivenBy a (barrier.LoadPending b) h = HasAll a h
IsBarrierGivenBy a (barrier.LoadReleased b) h = a.context.number ≢ 0 → HasAll a h
IsBarrierGivenBy a c h = Unit {0}

abbrev pub IsFinishGivenBy : FinishCounter → SlotLook → Type 0
IsFinishGivenBy finish.Finish h = Unit {0}
IsFinishGivenBy c h = Has h 0 None

abbrev pub IsLookGiven : Actor → Counter → SlotLook → Type 0
IsLookGiven a (counter.Look c) h = IsLookGivenBy a c h
IsLookGiven a (counter.Barrier c) h = IsBarrierGivenBy a c h
IsLookGiven a (counter.Finish c) h = IsFinishGivenBy c h
IsLookGiven a c h = Unit {0}

-- ---- the whole

pub record IsGiven (p : Program) (a : Actor) (h : Watch) : Type 0 where
  pub quiet : h.quiet ≤ most_quiet p.threads a.counter
  pub search : IsSearchGiven a a.counter h.search
  pub look : IsLookGiven a a.counter h.look
