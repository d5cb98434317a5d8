-- What the registers of a thread say of the state and of the words of its records in the making, by its counter. A row names the
-- thread's own registers, its own words and the state, and never another thread.
use Rattle.std.specs.Prelude.{◌≡◌, ◌≢◌, ℕ, zero, suc, ◌-◌, ◌^◌, ◌<◌, ◌≤◌, true, false, List, ◌∷◌, length, map, slice_get, slice_index, take, Some, Bool, Option, None}
use Rattle.omi_script.specs.declared.program.Program.{Program}
use Rattle.omi_script.specs.declared.statement.Stmt.TheVariants as stmt
use Rattle.omi_model.specs.declared.freeable.Freeable.TheVariants as freeable
use Rattle.omi_model.specs.declared.group.Group.{Group}
use Rattle.omi_model.specs.declared.id.Id.{Id}
use Rattle.omi_model.specs.declared.id.Rid.{Rid}
use Rattle.omi_model.specs.declared.id.Tid.{Tid}
use Rattle.omi_model.specs.declared.progress.Progress.TheVariants as progress
use Rattle.omi_model.specs.declared.region.Region.{Region}
use Rattle.omi_model.specs.declared.task.Task.{Task}
use Rattle.omi_model.specs.declared.task.Variables.{Variables}
use Rattle.omi_model.specs.Barriers.{HasNoExplicit, HaveArrived}
use Rattle.omi_model.specs.Columns.{tasks_of}
use Rattle.omi_model.specs.Fresh.{IsFresh}
use Rattle.omi_model.specs.Groups.{AreMembersFinished, innermost_or}
use Rattle.omi_model.specs.LawClaims.{others_below}
use Rattle.omi_numbers.specs.Words.{flag}
use Rattle.omi_numbers.specs.declared.limits.TheConstants.{OWN_SLOTS}
use Rattle.omi_script.specs.Schedules.{schedule_word}
use Rattle.omi_model.specs.State.{State, region_of, task_of}
use Rattle.omi_model.specs.Teams.{AreAsksOver, got_threads}
use Rattle.omi_layout.specs.declared.field.Field.TheVariants.{RegionLeft, RegionTeam, ThreadAssign}
use Rattle.omi_layout.specs.Field.{regions, tasks, threads}
use Rattle.omi_layout.specs.Memory.{Memory, Rec}
use Rattle.omi_layout.specs.Named.{number}
use Rattle.omi_pc.specs.declared.actor.Actor.{Actor}
use Rattle.omi_pc.specs.declared.task_counter.Ancestor.{Ancestor}
use Rattle.omi_pc.specs.declared.counter.Counter.{Counter}
use Rattle.omi_pc.specs.declared.counter.Counter.TheVariants as counter
use Rattle.omi_pc.specs.declared.limits.TheConstants.{REGION_WORDS, TASK_WORDS, VARIABLE_WORDS, START_WORDS}
use Rattle.omi_pc.specs.declared.frame.Wait.{Wait}
use Rattle.omi_pc.specs.declared.frame.Wait.TheVariants as wait
use Rattle.omi_pc.specs.declared.place.Place.{Place}
use Rattle.omi_pc.specs.declared.task_counter.FinishCounter.{FinishCounter}
use Rattle.omi_pc.specs.declared.task_counter.FinishCounter.TheVariants as finish
use Rattle.omi_pc.specs.declared.task_counter.LookCounter.{LookCounter}
use Rattle.omi_pc.specs.declared.task_counter.LookCounter.TheVariants as look
use Rattle.omi_pc.specs.declared.task_counter.TaskCounter.{TaskCounter}
use Rattle.omi_pc.specs.declared.task_counter.TaskCounter.TheVariants as task
use Rattle.omi_pc.specs.declared.team_counter.BarrierCounter.{BarrierCounter}
use Rattle.omi_pc.specs.declared.team_counter.BarrierCounter.TheVariants as barrier
use Rattle.omi_pc.specs.declared.team_counter.JoinCounter.{JoinCounter}
use Rattle.omi_pc.specs.declared.team_counter.JoinCounter.TheVariants as join
use Rattle.omi_pc.specs.declared.team_counter.TeamCounter.{TeamCounter}
use Rattle.omi_pc.specs.declared.team_counter.TeamCounter.TheVariants as team
use Rattle.omi_pc.specs.declared.team_counter.WorkerCounter.{WorkerCounter}
use Rattle.omi_pc.specs.declared.team_counter.WorkerCounter.TheVariants as worker
use Rattle.omi_pc.specs.OpenBodies.{IsAt}
use Rattle.omi_rep.specs.Records.{group_word, task_address, task_word}
use Rattle.omi_rule_words.specs.Counts.{has_slot}
use Rattle.omi_rule_words.specs.Groups.{group_of}
use Rattle.omi_rule_words.specs.ExplicitKinds.{IsDeferred, slot_of}
use Rattle.omi_rule_words.specs.Threads.{WaitsFor}
use Rattle.omi_step_words.specs.declared.plan.Planned.{Planned}
use Rattle.omi_step_words.specs.Members.{member_of}
use Rattle.omi_step_words.specs.Placed.{HasTask}
use Rattle.omi_step_words.specs.Plan.{region_plan, task_plan}
use Rattle.omi_fork.specs.TeamParts.{new_member, planned_region}
use Rattle.omi_task.specs.Groups.{new_group}
use Rattle.omi_task.specs.LookSteps.{member_at}
use Rattle.omi_task.specs.MakingSteps.{new_task}
use Rattle.omi_task.specs.Slots.{coded_task}
use Rattle.omi_task.specs.Starts.{start_plan}

-- the slot of an object
abbrev pub place_of : Id → Place
place_of n = record { creator = n.creator; slot = n.slot }

-- ---- workers

-- a thread meets the task that waits for it, and has read so much of its record
abbrev pub Meets : State → ℕ → Tid → (Task → Type 0) → Type 0
Meets s i k known = (waits : WaitsFor s i k) × known waits.task

-- a live region has a team of this size
abbrev pub HasSize : State → Rid → ℕ → Type 0
HasSize s r size = (region : Region) × (region_of s r ≡ Some region) × (length region.team ≡ size)

abbrev pub KeepsWorkerRow : List ℕ → Memory → State → ℕ → WorkerCounter → Type 0
KeepsWorkerRow w m s i worker.Begin = (s.threads i).begun ≡ false
KeepsWorkerRow w m s i (worker.ClearAssign t) =
    (k : Tid) × WaitsFor s i k × (place_of k.0 ≡ t)
    × (m i threads 0 (number ThreadAssign) 0 ≡ task_address w k)
KeepsWorkerRow w m s i (worker.LoadLife t) = (k : Tid) × WaitsFor s i k × (place_of k.0 ≡ t)
KeepsWorkerRow w m s i (worker.LoadFunction k) = WaitsFor s i k
KeepsWorkerRow w m s i (worker.LoadRegion k f) = Meets s i k (λ t. t.function ≡ f)
KeepsWorkerRow w m s i (worker.LoadRegionLife k f r) =
    Meets s i k (λ t. (t.function ≡ f) × (place_of t.region.0 ≡ r))
KeepsWorkerRow w m s i (worker.LoadSize k f r) = Meets s i k (λ t. (t.function ≡ f) × (t.region ≡ r))
KeepsWorkerRow w m s i (worker.LoadNumber k f r size) =
    Meets s i k (λ t. (t.function ≡ f) × (t.region ≡ r)) × HasSize s r size
KeepsWorkerRow w m s i (worker.ImplicitBegin k f r size n) =
    Meets s i k (λ t. (t.function ≡ f) × (t.region ≡ r) × (t.number ≡ n)) × HasSize s r size
KeepsWorkerRow w m s i c = Unit {0}

-- ---- what a construct has gathered

-- a word of a data environment. Of the words of nthreads-var behind its elements nothing is said
abbrev pub IsVariable : Variables → ℕ → ℕ → Type 0
IsVariable v zero word = word ≡ flag v.dynamic
IsVariable v (suc zero) word = word ≡ length v.nthreads
IsVariable v (suc (suc zero)) word = word ≡ schedule_word v.schedule
IsVariable v (suc (suc (suc zero))) word = word ≡ v.device
IsVariable v (suc (suc (suc (suc j)))) word = (n : ℕ) → slice_get v.nthreads j ≡ Some n → word ≡ n

-- the levels of the current region, its active levels, and the first words of the current task's data environment
abbrev pub KnowsLevels : State → Actor → Type 0
KnowsLevels s a = (r : Region) × (region_of s a.context.region ≡ Some r) × (r.levels ≡ a.gathered.levels)

abbrev pub KnowsActive : State → Actor → Type 0
KnowsActive s a = (r : Region) × (region_of s a.context.region ≡ Some r) × (r.levels ≡ a.gathered.levels)
    × (r.active ≡ a.gathered.active)

abbrev pub KnowsVariables : State → Actor → ℕ → Type 0
KnowsVariables s a n = (t : Task) × (task_of s a.context.task ≡ Some t)
    × ((j : ℕ) → j < n → IsVariable t.variables j (slice_index a.gathered.variables j))

-- all that a fork copies
pub record Knows (s : State) (a : Actor) : Type 0 where
  pub region : KnowsActive s a
  pub task : KnowsVariables s a VARIABLE_WORDS

-- ---- asks

-- the team has this thread and those that joined, in the order of asking, and all threads below the next one were asked
pub record HasAsked (s : State) (i : ℕ) (a : Actor) : Type 0 where
  pub knows : Knows s a
  pub wanted : a.gathered.wanted ≡ (s.threads i).wanted
  pub joined : map (λ m. m.1) a.gathered.team ≡ i ∷ got_threads (s.threads i).asks
  pub asked : map (λ x. x.0) (s.threads i).asks ≡ others_below i a.gathered.asked
  pub few : a.gathered.asked ≤ s.count

-- and no more are asked
pub record HasTeam (s : State) (i : ℕ) (a : Actor) : Type 0 where
  pub asks : HasAsked s i a
  pub over : AreAsksOver s i

-- ---- records in the making

-- the first words of a plan stand in a record
abbrev pub IsFilled : Rec → (ℕ → Planned) → ℕ → Type 0
IsFilled r plan n = (j : ℕ) → j < n → r (number (plan j).field) (plan j).at ≡ (plan j).value

abbrev pub IsRegionFilled : Program → List ℕ → Memory → Actor → Rid → ℕ → Type 0
IsRegionFilled p w m a r n =
    IsFilled (m r.0.creator regions r.0.slot) (region_plan w (planned_region p a)) n

abbrev pub IsTaskFilled : Program → List ℕ → Memory → Actor → Rid → ℕ → Tid → ℕ → Type 0
IsTaskFilled p w m a r member t n =
    IsFilled (m t.0.creator tasks t.0.slot) (task_plan w (new_member p a r member)) n

-- a name that a new object may have
abbrev pub HasGeneration : Id → Type 0
HasGeneration n = n.generation < 2 ^ 32

-- the record of the region, and those of the first members with their words in its team
pub record HasFilled (p : Program) (w : List ℕ) (m : Memory) (a : Actor) (r : Rid) (n : ℕ) : Type 0 where
  pub below : HasGeneration r.0
  pub region : IsRegionFilled p w m a r REGION_WORDS
  pub tasks : (j : ℕ) → j < n → IsTaskFilled p w m a r j (member_of a.gathered.team j).0 TASK_WORDS
  pub tasks_below : (j : ℕ) → j < n → HasGeneration (member_of a.gathered.team j).0.0
  pub slots : (j : ℕ) → j < n → HasTask w (member_of a.gathered.team j).0
  pub team : (j : ℕ) → j < n → m r.0.creator regions r.0.slot (number RegionTeam) j
      ≡ task_address w (member_of a.gathered.team j).0

abbrev pub KeepsTeamRow : Program → List ℕ → Memory → State → ℕ → Actor → TeamCounter → Type 0
KeepsTeamRow p w m s i a team.OverheadState = Unit {0}
KeepsTeamRow p w m s i a team.LoadLevels = Unit {0}
KeepsTeamRow p w m s i a team.LoadActive = KnowsLevels s a
KeepsTeamRow p w m s i a (team.LoadVariable word) = KnowsActive s a × KnowsVariables s a word
KeepsTeamRow p w m s i a team.Want = Knows s a
KeepsTeamRow p w m s i a team.Ask = HasAsked s i a
KeepsTeamRow p w m s i a (team.LoadRegionLife slot) = HasTeam s i a
KeepsTeamRow p w m s i a (team.TakeRegion r) = HasTeam s i a × IsFresh s.regions i r.0
KeepsTeamRow p w m s i a (team.FillRegion r word) =
    HasTeam s i a × HasGeneration r.0 × IsRegionFilled p w m a r word
KeepsTeamRow p w m s i a (team.LoadTaskLife r member slot) =
    HasTeam s i a × HasFilled p w m a r member
KeepsTeamRow p w m s i a (team.TakeTask r member t) =
    HasTeam s i a × HasFilled p w m a r member
    × IsFresh s.tasks i t.0 × (has_slot t.0.slot (take member (tasks_of a.gathered.team)) ≡ false)
KeepsTeamRow p w m s i a (team.FillTask r member t word) =
    HasTeam s i a × HasFilled p w m a r member
    × ((member_of a.gathered.team member).0 ≡ t) × HasGeneration t.0
    × IsTaskFilled p w m a r member t word
KeepsTeamRow p w m s i a (team.StoreMember r member t) =
    HasTeam s i a × HasFilled p w m a r member
    × ((member_of a.gathered.team member).0 ≡ t) × HasGeneration t.0
    × IsTaskFilled p w m a r member t TASK_WORDS
KeepsTeamRow p w m s i a (team.Fork r) =
    HasTeam s i a × HasFilled p w m a r (length a.gathered.team)
KeepsTeamRow p w m s i a (team.Assign member) = Unit {0}

-- ---- barriers

-- a fact of the current region
abbrev pub OfRegion : State → Actor → (Region → Type 0) → Type 0
OfRegion s a P = (r : Region) × (region_of s a.context.region ≡ Some r) × P r

-- member 0 has released the barrier at which it waits
abbrev pub HasReleased : State → Actor → ℕ → Type 0
HasReleased s a zero = OfRegion s a (λ r. r.released ≡ a.context.arrivals)
HasReleased s a (suc n) = Unit {0}

abbrev pub KeepsBarrierRow : State → Actor → BarrierCounter → Type 0
KeepsBarrierRow s a (barrier.State b) = Unit {0}
KeepsBarrierRow s a (barrier.Arrive b) = Unit {0}
KeepsBarrierRow s a (barrier.LoadArrived b) = Unit {0}
KeepsBarrierRow s a (barrier.LoadPending b) = OfRegion s a HaveArrived
KeepsBarrierRow s a (barrier.Release b) =
    OfRegion s a HaveArrived × HasNoExplicit s a.context.region
KeepsBarrierRow s a (barrier.LoadReleased b) = HasReleased s a a.context.number

-- ---- joins

-- member 0 has found that the others have left. Their word is in a record that it made, and never falls
abbrev pub HaveLeft : Memory → ℕ → Actor → Type 0
HaveLeft m i a = (a.context.region.0.creator ≡ i)
    × (a.context.size - 1 ≤ m i regions a.context.region.0.slot (number RegionLeft) 0)

-- a joined region is given back, of whose team, which has this size, this is known
abbrev pub IsGivenBack : State → Rid → ℕ → (List (Tid × ℕ) → Type 0) → Type 0
IsGivenBack s r size known = (region : Region) × (region_of s r ≡ Some region)
    × (region.joined ≡ true) × (length region.team ≡ size) × known region.team

-- the task of this member has this name
abbrev pub IsMemberOf : ℕ → (Tid → Type 0) → List (Tid × ℕ) → Type 0
IsMemberOf member known team = (m : Tid × ℕ) × (slice_get team member ≡ Some m) × known m.0

abbrev pub KeepsJoinRow : Memory → State → ℕ → Actor → JoinCounter → Type 0
KeepsJoinRow m s i a join.LoadLeft = Unit {0}
KeepsJoinRow m s i a join.Join = HaveLeft m i a
KeepsJoinRow m s i a (join.LoadMember r size member) = IsGivenBack s r size (λ team. Unit {0})
KeepsJoinRow m s i a (join.LoadLife r size member t) =
    IsGivenBack s r size (IsMemberOf member (λ k. place_of k.0 ≡ t))
KeepsJoinRow m s i a (join.FreeTask r size member t) =
    IsGivenBack s r size (IsMemberOf member (λ k. k ≡ t))
KeepsJoinRow m s i a (join.FreeRegion r size) = IsGivenBack s r size (λ team. Unit {0})

-- ---- explicit tasks in the making

-- a `task` construct is in work whose task is deferred where a slot is empty
abbrev pub Defers : Program → Actor → Type 0
Defers p a = (f : ℕ) × (final : Bool) × IsAt p a.stack (stmt.Task f false final)
    × (a.context.is_final ≡ false)

-- the own slot into which the task goes is empty, where there is one
abbrev pub HasPlace : Program → Memory → Actor → Option ℕ → Type 0
HasPlace p m a None = Unit {0}
HasPlace p m a (Some place) = Defers p a × (place < OWN_SLOTS) × (slot_of m a.context.row place ≡ 0)

-- the group of the current task is loaded, where it has none open. It stands as its word
abbrev pub KnowsGroup : List ℕ → State → Actor → Type 0
KnowsGroup w s a = (t : Task) × (task_of s a.context.task ≡ Some t)
    × (a.context.open_groups ≡ 0 → a.gathered.group ≡ group_word w t.group)

-- the data environment of the current task is loaded
abbrev pub HasEnvironment : Program → Memory → State → Actor → Option ℕ → Type 0
HasEnvironment p m s a place = HasPlace p m a place × KnowsVariables s a VARIABLE_WORDS

-- and its group
abbrev pub HasLoaded : Program → List ℕ → Memory → State → Actor → Option ℕ → Type 0
HasLoaded p w m s a place = HasEnvironment p m s a place × KnowsGroup w s a

-- and the first words of the record stand
abbrev pub HasFilledTask : Program → List ℕ → Memory → State → Actor → Option ℕ → Tid → ℕ → Type 0
HasFilledTask p w m s a place t n = HasLoaded p w m s a place × HasGeneration t.0
    × IsFilled (m t.0.creator tasks t.0.slot) (task_plan w (new_task p w a)) n

abbrev pub KeepsTaskRow : Program → List ℕ → Memory → State → ℕ → Actor → TaskCounter → Type 0
KeepsTaskRow p w m s i a (task.LoadSlot place) = Defers p a
KeepsTaskRow p w m s i a (task.LoadVariable place word) = HasPlace p m a place × KnowsVariables s a word
KeepsTaskRow p w m s i a (task.LoadGroup place) = HasEnvironment p m s a place
KeepsTaskRow p w m s i a (task.LoadLife place slot) = HasLoaded p w m s a place
KeepsTaskRow p w m s i a (task.Take place t) = HasLoaded p w m s a place × IsFresh s.tasks i t.0
KeepsTaskRow p w m s i a (task.Fill place t word) = HasFilledTask p w m s a place t word
KeepsTaskRow p w m s i a (task.AddPending place t) = HasFilledTask p w m s a place t TASK_WORDS
KeepsTaskRow p w m s i a (task.AddChildren place t) = HasFilledTask p w m s a place t TASK_WORDS
KeepsTaskRow p w m s i a (task.AddReferences place t) = HasFilledTask p w m s a place t TASK_WORDS
KeepsTaskRow p w m s i a (task.AddCount place t) =
    HasFilledTask p w m s a place t TASK_WORDS × (new_group w a ≢ 0)
KeepsTaskRow p w m s i a (task.Defer place t) = HasFilledTask p w m s a (Some place) t TASK_WORDS
KeepsTaskRow p w m s i a (task.StartNow t) = HasFilledTask p w m s a None t TASK_WORDS

-- ---- looks at the slots

-- the record whose slots are looked at is that of the member's task, by the number of the slot
abbrev pub IsRowOf : Place → ℕ → Region → Type 0
IsRowOf row n r = (m : Tid × ℕ) × (slice_get r.team (member_at n) ≡ Some m) × (place_of m.0.0 ≡ row)

-- the task that a code names was made: its name never lives again
abbrev pub WasMade : List ℕ → State → ℕ → Type 0
WasMade w s code = (coded_task w code).0.generation
    < (s.tasks (coded_task w code).0.creator (coded_task w code).0.slot).generations

-- in this wait a task may start: at a barrier any one of the region, at the end of a taskgroup region one of its group, and elsewhere a child of the
-- current task alone
abbrev pub MayStartIn : Wait → Actor → Task → Type 0
MayStartIn (wait.Barrier b) a t = Unit {0}
MayStartIn wait.Taskwait a t = t.generating ≡ Some a.context.task
MayStartIn wait.Taskyield a t = t.generating ≡ Some a.context.task
MayStartIn wait.Taskgroup a t = t.group ≡ innermost_or None a.context.task a.context.open_groups

-- a task that was found and passed the test of its wait: where it is live, it may start
abbrev pub HasTested : List ℕ → State → Actor → Wait → ℕ → Type 0
HasTested w s a (wait.Barrier b) code = Unit {0}
HasTested w s a v code = WasMade w s code
    × ((t : Task) → task_of s (coded_task w code) ≡ Some t → MayStartIn v a t)

-- a deferred task of the region that was taken from a slot and may start
pub record IsInHand (s : State) (a : Actor) (v : Wait) (k : Tid) (known : Task → Type 0) : Type 0 where
  pub task : Task
  pub is : IsDeferred s k task
  pub region : task.region ≡ a.context.region
  pub may : MayStartIn v a task
  pub knows : known task

-- with its function and its final flag, and the first words of its place stand
abbrev pub HasPlaced : List ℕ → Memory → State → Actor → Wait → Tid → ℕ → Bool → ℕ → Type 0
HasPlaced w m s a v k f final n = IsInHand s a v k (λ t. (t.function ≡ f) × (t.is_final ≡ final))
    × IsFilled (m k.0.creator tasks k.0.slot) (start_plan w a) n

-- no task of the innermost open group is unfinished
abbrev pub HasNoMember : State → Actor → Type 0
HasNoMember s a = (g : Group) × (innermost_or None a.context.task a.context.open_groups ≡ Some g) × AreMembersFinished s g

abbrev pub KeepsLookRow : List ℕ → Memory → State → Actor → LookCounter → Type 0
KeepsLookRow w m s a (look.LoadSlot v n row) = OfRegion s a (IsRowOf row n)
KeepsLookRow w m s a (look.LoadGenerating v n row code) = OfRegion s a (IsRowOf row n) × WasMade w s code
KeepsLookRow w m s a (look.LoadGroup n row code) = OfRegion s a (IsRowOf row n) × WasMade w s code
KeepsLookRow w m s a (look.Take v n row code) = OfRegion s a (IsRowOf row n) × HasTested w s a v code
KeepsLookRow w m s a (look.LoadFunction v n code t) = IsInHand s a v t (λ u. Unit {0})
KeepsLookRow w m s a (look.LoadFinal v n code t f) = IsInHand s a v t (λ u. u.function ≡ f)
KeepsLookRow w m s a (look.Fill v n code t f final word) = HasPlaced w m s a v t f final word
KeepsLookRow w m s a (look.Start v n code t f final) = HasPlaced w m s a v t f final START_WORDS
KeepsLookRow w m s a look.GroupEnd = HasNoMember s a
KeepsLookRow w m s a c = Unit {0}

-- ---- explicit tasks that have finished

-- an explicit task of this thread has finished, made by the task of this name, from which or in whose wait it started
pub record HasEndedUnder (s : State) (a : Actor) (k : Tid) (known : Tid → Type 0) : Type 0 where
  pub task : Task
  pub live : task_of s k ≡ Some task
  pub explicit : task.implicit ≡ false
  pub progress : task.progress ≡ progress.Finished
  pub region : task.region ≡ a.context.region
  pub generating : Tid
  pub made_by : task.generating ≡ Some generating
  pub knows : known generating

-- the task that generated one which was given back may be given back next: it lives, is the one at this place, and this is known
pub record IsAbove (s : State) (a : Actor) (at : Place) (known : Tid → Task → Type 0) : Type 0 where
  pub name : Tid
  pub task : Task
  pub live : task_of s name ≡ Some task
  pub there : place_of name.0 ≡ at
  pub next : (t : Task) → task_of s a.context.task ≡ Some t
      → t.frees ≡ Some (freeable.Finished name)
  pub knows : known name task

-- what is known of it where it is explicit: its name, and the word that names its own generating task
abbrev pub IsAncestor : List ℕ → Option Ancestor → Tid → Task → Type 0
IsAncestor w None k g = g.implicit ≡ true
IsAncestor w (Some x) k g = (g.implicit ≡ false) × (x.task ≡ k) × (task_word w g.generating ≡ x.generating)

abbrev pub KeepsFinishRow : List ℕ → State → Actor → FinishCounter → Type 0
KeepsFinishRow w s a finish.Finish = Unit {0}
KeepsFinishRow w s a (finish.LoadGenerating v t) = HasEndedUnder s a t (λ g. Unit {0})
KeepsFinishRow w s a (finish.SubtractChildren v t at) = HasEndedUnder s a t (λ g. place_of g.0 ≡ at)
KeepsFinishRow w s a (finish.LoadGroup v t at) = HasEndedUnder s a t (λ g. place_of g.0 ≡ at)
KeepsFinishRow w s a (finish.SubtractCount v t at group) =
    HasEndedUnder s a t (λ g. place_of g.0 ≡ at)
    × ((x : Group) × (group_of s t ≡ Some x) × (group_word w (Some x) ≡ group))
KeepsFinishRow w s a (finish.SubtractReferences v t at) =
    HasEndedUnder s a t (λ g. place_of g.0 ≡ at)
KeepsFinishRow w s a (finish.Free v t at) = HasEndedUnder s a t (λ g. place_of g.0 ≡ at)
KeepsFinishRow w s a (finish.LoadImplicit v at) = IsAbove s a at (λ k g. Unit {0})
KeepsFinishRow w s a (finish.LoadNext v at) = IsAbove s a at (λ k g. g.implicit ≡ false)
KeepsFinishRow w s a (finish.LoadLife v at next) =
    IsAbove s a at (λ k g. (g.implicit ≡ false) × (task_word w g.generating ≡ next))
KeepsFinishRow w s a (finish.SubtractGenerating v at explicit) =
    IsAbove s a at (IsAncestor w explicit)
KeepsFinishRow w s a (finish.SubtractPending v) = Unit {0}

-- ---- the whole

abbrev pub KeepsRow : Program → List ℕ → Memory → State → ℕ → Actor → Counter → Type 0
KeepsRow p w m s i a (counter.Worker c) = KeepsWorkerRow w m s i c
KeepsRow p w m s i a (counter.Team c) = KeepsTeamRow p w m s i a c
KeepsRow p w m s i a (counter.Barrier c) = KeepsBarrierRow s a c
KeepsRow p w m s i a (counter.Join c) = KeepsJoinRow m s i a c
KeepsRow p w m s i a (counter.Task c) = KeepsTaskRow p w m s i a c
KeepsRow p w m s i a (counter.Look c) = KeepsLookRow w m s a c
KeepsRow p w m s i a (counter.Finish c) = KeepsFinishRow w s a c
KeepsRow p w m s i a (counter.Plain c) = Unit {0}
