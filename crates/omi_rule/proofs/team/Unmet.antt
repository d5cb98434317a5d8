-- A thread for which no task waits has met none.
use Rattle.std.proofs.Common.{◌≡◌, ℕ, false, List, refl}
use Rattle.omi_script.specs.declared.program.Program.{Program}
use Rattle.omi_model.specs.declared.id.Tid.{Tid}
use Rattle.omi_model.specs.State.{State}
use Rattle.omi_layout.specs.Memory.{Memory}
use Rattle.omi_pc.specs.declared.actor.Actor.{Actor}
use Rattle.omi_pc.specs.declared.context.Context.{Context}
use Rattle.omi_pc.specs.declared.counter.Counter.{Counter}
use Rattle.omi_pc.specs.declared.counter.Counter.TheVariants as counter
use Rattle.omi_pc.specs.declared.task_counter.FinishCounter.{FinishCounter}
use Rattle.omi_pc.specs.declared.task_counter.FinishCounter.TheVariants as finish
use Rattle.omi_pc.specs.declared.task_counter.LookCounter.{LookCounter}
use Rattle.omi_pc.specs.declared.task_counter.LookCounter.TheVariants as look
use Rattle.omi_pc.specs.declared.task_counter.TaskCounter.{TaskCounter}
use Rattle.omi_pc.specs.declared.task_counter.TaskCounter.TheVariants as task
use Rattle.omi_pc.specs.declared.team_counter.TeamCounter.{TeamCounter}
use Rattle.omi_pc.specs.declared.team_counter.TeamCounter.TheVariants as team
use Rattle.omi_pc.specs.declared.team_counter.WorkerCounter.{WorkerCounter}
use Rattle.omi_pc.specs.declared.team_counter.WorkerCounter.TheVariants as worker
use Rattle.omi_rule_words.specs.Owes.{by_finish, by_look, by_task, by_team, by_worker, owed, owed_at}
use Rattle.omi_rule_words.specs.Threads.{WaitsFor}
use Rattle.omi_rule.specs.Rows.{KeepsRow, KeepsWorkerRow}

team_unmet : (members : List (Tid × ℕ)) (c : TeamCounter) → (by_team members c).met ≡ false
team_unmet members team.OverheadState = refl
team_unmet members team.LoadLevels = refl
team_unmet members team.LoadActive = refl
team_unmet members (team.LoadVariable word) = refl
team_unmet members team.Want = refl
team_unmet members team.Ask = refl
team_unmet members (team.LoadRegionLife slot) = refl
team_unmet members (team.TakeRegion r) = refl
team_unmet members (team.FillRegion r word) = refl
team_unmet members (team.LoadTaskLife r member slot) = refl
team_unmet members (team.TakeTask r member t) = refl
team_unmet members (team.FillTask r member t word) = refl
team_unmet members (team.StoreMember r member t) = refl
team_unmet members (team.Fork r) = refl
team_unmet members (team.Assign member) = refl

task_unmet : (c : Context) (x : TaskCounter) → (by_task c x).met ≡ false
task_unmet c (task.LoadSlot place) = refl
task_unmet c (task.LoadVariable place word) = refl
task_unmet c (task.LoadGroup place) = refl
task_unmet c (task.LoadLife place slot) = refl
task_unmet c (task.Take place t) = refl
task_unmet c (task.Fill place t word) = refl
task_unmet c (task.AddPending place t) = refl
task_unmet c (task.AddChildren place t) = refl
task_unmet c (task.AddReferences place t) = refl
task_unmet c (task.AddCount place t) = refl
task_unmet c (task.Defer place t) = refl
task_unmet c (task.StartNow t) = refl

look_unmet : (x : LookCounter) → (by_look x).met ≡ false
look_unmet (look.State w) = refl
look_unmet (look.LoadRow w n) = refl
look_unmet (look.LoadSlot w n row) = refl
look_unmet (look.LoadGenerating w n row code) = refl
look_unmet (look.LoadGroup n row code) = refl
look_unmet (look.Take w n row code) = refl
look_unmet (look.LoadFunction w n code t) = refl
look_unmet (look.LoadFinal w n code t f) = refl
look_unmet (look.Fill w n code t f final word) = refl
look_unmet (look.Start w n code t f final) = refl
look_unmet look.LoadChildren = refl
look_unmet look.LoadCount = refl
look_unmet look.GroupEnd = refl
look_unmet (look.Yield n) = refl

finish_unmet : (c : Context) (x : FinishCounter) → (by_finish c x).met ≡ false
finish_unmet c finish.Finish = refl
finish_unmet c (finish.LoadGenerating w t) = refl
finish_unmet c (finish.SubtractChildren w t generating) = refl
finish_unmet c (finish.LoadGroup w t generating) = refl
finish_unmet c (finish.SubtractCount w t generating group) = refl
finish_unmet c (finish.SubtractReferences w t generating) = refl
finish_unmet c (finish.Free w t generating) = refl
finish_unmet c (finish.LoadImplicit w generating) = refl
finish_unmet c (finish.LoadNext w generating) = refl
finish_unmet c (finish.LoadLife w generating next) = refl
finish_unmet c (finish.SubtractGenerating w generating explicit) = refl
finish_unmet c (finish.SubtractPending w) = refl

worker_unmet : (w : List ℕ) (m : Memory) (s : State) (j : ℕ) (c : WorkerCounter) → KeepsWorkerRow w m s j c
    → ((k : Tid) → WaitsFor s j k → ⊥) → (by_worker c).met ≡ false
worker_unmet w m s j worker.Begin o none = refl
worker_unmet w m s j worker.Offer o none = refl
worker_unmet w m s j worker.LoadAssign o none = refl
worker_unmet w m s j (worker.ClearAssign t) o none = refl
worker_unmet w m s j (worker.LoadLife t) (k, waits, is) none = absurd (none k waits)
worker_unmet w m s j (worker.LoadFunction k) waits none = absurd (none k waits)
worker_unmet w m s j (worker.LoadRegion k f) (waits, is) none = absurd (none k waits)
worker_unmet w m s j (worker.LoadRegionLife k f r) (waits, is) none = absurd (none k waits)
worker_unmet w m s j (worker.LoadSize k f r) (waits, is) none = absurd (none k waits)
worker_unmet w m s j (worker.LoadNumber k f r size) ((waits, is), has) none = absurd (none k waits)
worker_unmet w m s j (worker.ImplicitBegin k f r size number) ((waits, is), has) none = absurd (none k waits)
worker_unmet w m s j worker.ImplicitEnd o none = refl
worker_unmet w m s j (worker.AddLeft r) o none = refl
worker_unmet w m s j worker.IdleState o none = refl

pub unmet : (p : Program) (w : List ℕ) (m : Memory) (s : State) (j : ℕ) (a : Actor)
    → KeepsRow p w m s j a a.counter → ((k : Tid) → WaitsFor s j k → ⊥) → (owed a).met ≡ false
unmet p w m s j a row none = go a.counter row
  where
    go : (c : Counter) → KeepsRow p w m s j a c → (owed_at a.context a.gathered.team c).met ≡ false
    go (counter.Worker c) o = worker_unmet w m s j c o none
    go (counter.Team c) o = team_unmet a.gathered.team c
    go (counter.Barrier c) o = refl
    go (counter.Join c) o = refl
    go (counter.Task c) o = task_unmet a.context c
    go (counter.Look c) o = look_unmet c
    go (counter.Finish c) o = finish_unmet a.context c
    go (counter.Plain c) o = refl
