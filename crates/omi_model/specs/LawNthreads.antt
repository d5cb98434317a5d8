-- nthreads-var shortens along regions: a task's list is that of the environment without one element for each level, but for its head, and one element stays.
use Rattle.std.specs.Prelude.{◌≡◌, ◌≤◌, ℕ, ◌+◌, List, drop, length, Some}
use Rattle.omi_script.specs.declared.program.Program.{Program}
use Rattle.omi_model.specs.declared.event.Event.{Event}
use Rattle.omi_model.specs.declared.id.Tid.{Tid}
use Rattle.omi_model.specs.declared.region.Region.{Region}
use Rattle.omi_model.specs.declared.task.Task.{Task}
use Rattle.omi_model.specs.declared.task.Variables.{Variables}
use Rattle.omi_model.specs.Reached.{Reached}
use Rattle.omi_model.specs.State.{State, region_of, task_of}

-- the list in a region: its head may have been set, and what stands behind the head is left of the environment's list
pub record IsShortenedBy (p : Program) (r : Region) (v : Variables) : Type 0 where
  pub some : 1 ≤ length v.nthreads
  pub rest : drop 1 v.nthreads ≡ drop (r.levels + 1) p.env.nthreads

-- in every reached state
abbrev pub NthreadsShorten : Type 0
NthreadsShorten = (p : Program) (events : List (ℕ × Event)) (s : State) → Reached p events s
    → (k : Tid) (t : Task) → task_of s k ≡ Some t
    → (r : Region) × (region_of s t.region ≡ Some r) × IsShortenedBy p r t.variables
