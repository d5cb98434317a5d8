-- Giving back: a region that is joined is given back before its encountering task goes on, the tasks of its members first and in their order. So its encountering task is current, and what stands in front of that task's list says how far this has come.
use Rattle.std.specs.Prelude.{◌≡◌, ◌≤◌, ◌<◌, ℕ, List, true, false, length, slice_get, Some, None}
use Rattle.omi_script.specs.declared.program.Program.{Program}
use Rattle.omi_model.specs.declared.event.Event.{Event}
use Rattle.omi_model.specs.declared.freeable.Freeable.TheVariants as freeable
use Rattle.omi_model.specs.declared.id.Rid.{Rid}
use Rattle.omi_model.specs.declared.id.Tid.{Tid}
use Rattle.omi_model.specs.declared.progress.Progress.TheVariants.{Finished}
use Rattle.omi_model.specs.declared.region.Region.{Region}
use Rattle.omi_model.specs.declared.task.Task.{Task}
use Rattle.omi_model.specs.Changes.{IsCurrent}
use Rattle.omi_model.specs.Freeing.{HasNoChild, IsSpent, MayFreeMember, MayFreeRegion}
use Rattle.omi_model.specs.LawNames.{IsMemberTask}
use Rattle.omi_model.specs.Reached.{Reached}
use Rattle.omi_model.specs.State.{State, region_of, task_of}

-- A region that is joined is being given back behind task k, which encountered it: the tasks of the members below this number are gone, and those of the others live.
pub record IsBeingFreed (s : State) (n : Rid) (r : Region) (k : Tid) (number : ℕ) : Type 0 where
  pub task : Task
  pub current : IsCurrent s n.0.creator k task
  pub next : task.frees ≡ Some (freeable.Joined n number)
  pub few : number ≤ length r.team
  pub gone : (j : ℕ) (m : Tid × ℕ) → slice_get r.team j ≡ Some m → j < number → task_of s m.0 ≡ None
  pub there : (j : ℕ) (m : Tid × ℕ) → slice_get r.team j ≡ Some m → number ≤ j
      → IsMemberTask s n j m

-- a joined region that this task encountered
pub record IsJoinedOf (s : State) (n : Rid) (k : Tid) : Type 0 where
  pub region : Region
  pub live : region_of s n ≡ Some region
  pub joined : region.joined ≡ true
  pub encountering : region.encountering ≡ Some k

pub record AreRegionsFreed (s : State) : Type 0 where
  pub joined : (n : Rid) (r : Region) → region_of s n ≡ Some r → r.joined ≡ true
      → (k : Tid) × (number : ℕ) × (r.encountering ≡ Some k) × IsBeingFreed s n r k number
  pub front : (k : Tid) (t : Task) (n : Rid) (number : ℕ) → task_of s k ≡ Some t
      → t.frees ≡ Some (freeable.Joined n number) → IsJoinedOf s n k

-- in every reached state
abbrev pub RegionsAreFreed : Type 0
RegionsAreFreed = (p : Program) (events : List (ℕ × Event)) (s : State) → Reached p events s
    → AreRegionsFreed s

-- the next member's task, and the region behind the last one, may always be given back
pub record MayGoOnFreeing (s : State) (i : ℕ) (n : Rid) (number : ℕ) : Type 0 where
  pub region : Region
  pub live : region_of s n ≡ Some region
  pub creator : n.0.creator ≡ i
  pub member : (m : Tid × ℕ) → slice_get region.team number ≡ Some m → MayFreeMember s m.0 n number
  pub last : number ≡ length region.team → MayFreeRegion s n n number

abbrev pub JoinedMayBeFreed : Type 0
JoinedMayBeFreed = (p : Program) (events : List (ℕ × Event)) (s : State) → Reached p events s
    → (i : ℕ) (k : Tid) (t : Task) (n : Rid) (number : ℕ) → IsCurrent s i k t
    → t.frees ≡ Some (freeable.Joined n number) → MayGoOnFreeing s i n number

-- and an explicit task that has finished, once no explicit child of it lives
abbrev pub FinishedMayBeFreed : Type 0
FinishedMayBeFreed = (p : Program) (events : List (ℕ × Event)) (s : State) → Reached p events s
    → (k : Tid) (t : Task) → task_of s k ≡ Some t → t.implicit ≡ false → t.progress ≡ Finished
    → HasNoChild s k → IsSpent s k t
