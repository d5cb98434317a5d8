-- Names: each task and each region that an object or a thread names is live, and no such task is deferred; but for the members of a region that is joined.
use Rattle.std.specs.Prelude.{◌≡◌, ℕ, List, true, false, Some, slice_get}
use Rattle.omi_script.specs.declared.program.Program.{Program}
use Rattle.omi_model.specs.declared.event.Event.{Event}
use Rattle.omi_model.specs.declared.id.Tid.{Tid}
use Rattle.omi_model.specs.declared.id.Rid.{Rid}
use Rattle.omi_model.specs.declared.progress.Progress.TheVariants.{Deferred}
use Rattle.omi_model.specs.declared.region.Region.{Region}
use Rattle.omi_model.specs.declared.task.Task.{Task}
use Rattle.omi_model.specs.Reached.{Reached}
use Rattle.omi_model.specs.State.{State, region_of, task_of}

-- a live task that is not deferred
abbrev pub IsLiveTask : State → Tid → Type 0
IsLiveTask s k = (t : Task) × (task_of s k ≡ Some t) × (t.progress ≡ Deferred → ⊥)

abbrev pub IsLiveRegion : State → Rid → Type 0
IsLiveRegion s n = (r : Region) × (region_of s n ≡ Some r)

-- what a task names
pub record NamesOfTask (s : State) (t : Task) : Type 0 where
  pub region : IsLiveRegion s t.region
  pub generating : (k : Tid) → t.generating ≡ Some k → IsLiveTask s k
  pub scheduling : (k : Tid) → t.scheduling ≡ Some k → IsLiveTask s k

-- A member of a region's team: its task is an implicit one of this region, with the member's number and thread.
pub record IsMemberTask (s : State) (n : Rid) (j : ℕ) (m : Tid × ℕ) : Type 0 where
  pub task : Task
  pub live : task_of s m.0 ≡ Some task
  pub implicit : task.implicit ≡ true
  pub undeferred : task.progress ≡ Deferred → ⊥
  pub region : task.region ≡ n
  pub number : task.number ≡ j
  pub thread : task.thread ≡ m.1

-- What a region names. Its members' tasks are live while it is not joined; where a member's name is that of a live task, this is the member's.
pub record NamesOfRegion (s : State) (n : Rid) (r : Region) : Type 0 where
  pub enclosing : (o : Rid) → r.enclosing ≡ Some o → IsLiveRegion s o
  pub encountering : (k : Tid) → r.encountering ≡ Some k → IsLiveTask s k
  pub team : r.joined ≡ false → (j : ℕ) (m : Tid × ℕ) → slice_get r.team j ≡ Some m → IsMemberTask s n j m
  pub members : (j : ℕ) (m : Tid × ℕ) → slice_get r.team j ≡ Some m → (t : Task) → task_of s m.0 ≡ Some t
      → IsMemberTask s n j m

-- all names of a state
pub record AreNamesLive (s : State) : Type 0 where
  pub currents : (i : ℕ) (k : Tid) → (s.threads i).current ≡ Some k → IsLiveTask s k
  pub tasks : (k : Tid) (t : Task) → task_of s k ≡ Some t → NamesOfTask s t
  pub regions : (n : Rid) (r : Region) → region_of s n ≡ Some r → NamesOfRegion s n r

-- in every reached state
abbrev pub NamesAreLive : Type 0
NamesAreLive = (p : Program) (events : List (ℕ × Event)) (s : State) → Reached p events s
    → AreNamesLive s
