-- Encounters: a region and its tasks were made by the thread of member 0, in a task that, where it lives, this thread runs in the enclosing region. While the region is not joined that task lives and is suspended there, not finished, and the enclosing region is visible and not joined. Only the initial region has no such task, and no enclosing region. An explicit task was made on a member's thread, runs on that of the member with its number, and its region is not joined while it lives.
use Rattle.std.specs.Prelude.{◌≡◌, ℕ, List, false, slice_get, Some, None}
use Rattle.omi_script.specs.declared.program.Program.{Program}
use Rattle.omi_model.specs.declared.event.Event.{Event}
use Rattle.omi_model.specs.declared.id.Rid.{Rid}
use Rattle.omi_model.specs.declared.id.Tid.{Tid}
use Rattle.omi_model.specs.declared.progress.Progress.TheVariants.{Begun, Deferred}
use Rattle.omi_model.specs.declared.region.Region.{Region}
use Rattle.omi_model.specs.declared.task.Task.{Task}
use Rattle.omi_model.specs.Opening.{initial_region}
use Rattle.omi_model.specs.Reached.{Reached}
use Rattle.omi_model.specs.State.{State, region_of, task_of}
use Rattle.omi_model.specs.Visible.{IsVisibleRegion}

-- the region and the tasks of a team are named after the thread of member 0
pub record IsNamedByFirst (n : Rid) (team : List (Tid × ℕ)) : Type 0 where
  pub first : (m : Tid × ℕ) → slice_get team 0 ≡ Some m → m.1 ≡ n.0.creator
  pub tasks : (j : ℕ) (m : Tid × ℕ) → slice_get team j ≡ Some m → m.0.0.creator ≡ n.0.creator

-- a region is live, and not joined
abbrev pub IsOpen : State → Rid → Type 0
IsOpen s n = (r : Region) × (region_of s n ≡ Some r) × (r.joined ≡ false)

-- the task that encountered a region, where it lives
pub record IsEncountering (s : State) (n : Rid) (r : Region) (k : Tid) : Type 0 where
  pub task : Task
  pub live : task_of s k ≡ Some task
  pub thread : task.thread ≡ n.0.creator
  pub enclosing : r.enclosing ≡ Some task.region
  pub begun : r.joined ≡ false → task.progress ≡ Begun
  pub around : r.joined ≡ false → IsVisibleRegion s task.region × IsOpen s task.region

-- the member of this number in a region's team runs on this thread
abbrev pub IsThreadOf : State → Rid → ℕ → ℕ → Type 0
IsThreadOf s n j w = (r : Region) × (m : Tid × ℕ) × (region_of s n ≡ Some r)
    × (slice_get r.team j ≡ Some m) × (m.1 ≡ w)

pub record IsInRegion (s : State) (k : Tid) (t : Task) : Type 0 where
  pub creator : (j : ℕ) × IsThreadOf s t.region j k.0.creator
  pub thread : (t.progress ≡ Deferred → ⊥) → IsThreadOf s t.region t.number t.thread
  pub inside : IsOpen s t.region

pub record AreEncounters (s : State) : Type 0 where
  pub named : (n : Rid) (r : Region) → region_of s n ≡ Some r → IsNamedByFirst n r.team
  pub encountered : (n : Rid) (r : Region) (k : Tid) (t : Task) → region_of s n ≡ Some r
      → r.encountering ≡ Some k → task_of s k ≡ Some t → IsEncountering s n r k
  pub initial : (n : Rid) (r : Region) → region_of s n ≡ Some r → r.encountering ≡ None
      → n ≡ initial_region
  pub outermost : (n : Rid) (r : Region) → region_of s n ≡ Some r → r.enclosing ≡ None
      → n ≡ initial_region
  pub explicit : (k : Tid) (t : Task) → task_of s k ≡ Some t → t.implicit ≡ false
      → IsInRegion s k t

-- in every reached state
abbrev pub RegionsAreEncountered : Type 0
RegionsAreEncountered = (p : Program) (events : List (ℕ × Event)) (s : State)
    → Reached p events s → AreEncounters s
