-- Lineage: the chain of generating tasks of a task runs through explicit tasks of its region to an implicit one, and each of them has begun. The owner of its group is one of them. An explicit task that has started is scheduled from one of them, or from its thread's member of the region.
use Rattle.std.specs.Prelude.{◌≡◌, ◌⊎◌, ℕ, Bool, true, false, List, [], ◌∷◌, Option, Some, Contains}
use Rattle.omi_script.specs.declared.program.Program.{Program}
use Rattle.omi_model.specs.declared.event.Event.{Event}
use Rattle.omi_model.specs.declared.group.Group.{Group}
use Rattle.omi_model.specs.declared.id.Rid.{Rid}
use Rattle.omi_model.specs.declared.id.Tid.{Tid}
use Rattle.omi_model.specs.declared.progress.Progress.TheVariants.{Deferred}
use Rattle.omi_model.specs.declared.task.Task.{Task}
use Rattle.omi_model.specs.Reached.{Reached}
use Rattle.omi_model.specs.State.{State, task_of}
use Rattle.omi_model.specs.Visible.{HasStarted}

-- From a task of this kind, region and generating task, these tasks are the chain of generating tasks in the region.
abbrev pub IsLineage : State → Bool → Rid → Option Tid → List Tid → Type 0
IsLineage s implicit region generating [] = implicit ≡ true
IsLineage s implicit region generating (g ∷ gs) = (implicit ≡ false) × (u : Task)
    × (generating ≡ Some g) × (task_of s g ≡ Some u) × (u.region ≡ region)
    × HasStarted u.progress × IsLineage s u.implicit u.region u.generating gs

-- a task is the member of a region that runs on this thread
pub record IsMemberOn (s : State) (k : Tid) (region : Rid) (thread : ℕ) : Type 0 where
  pub task : Task
  pub live : task_of s k ≡ Some task
  pub implicit : task.implicit ≡ true
  pub same_region : task.region ≡ region
  pub same_thread : task.thread ≡ thread

pub record HasLineage (s : State) (t : Task) : Type 0 where
  pub tasks : List Tid
  pub chain : IsLineage s t.implicit t.region t.generating tasks
  pub owner : (g : Group) → t.group ≡ Some g → Contains tasks g.owner
  pub scheduling : t.implicit ≡ false → (t.progress ≡ Deferred → ⊥)
      → (k : Tid) × (t.scheduling ≡ Some k) × (Contains tasks k ⊎ IsMemberOn s k t.region t.thread)

-- in every reached state
abbrev pub TasksHaveLineage : Type 0
TasksHaveLineage = (p : Program) (events : List (ℕ × Event)) (s : State) → Reached p events s
    → (k : Tid) (t : Task) → task_of s k ≡ Some t → HasLineage s t
