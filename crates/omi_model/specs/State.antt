-- The state of an OpenMP program: threads, live regions and tasks by name, locks and global variables. It has no address, offset or counter of the runtime.
use Rattle.std.specs.Prelude.{ℕ, Option}
use Rattle.std.specs.Option.{option_and_then}
use Rattle.omi_script.specs.declared.env.Env.{Env}
use Rattle.omi_model.specs.declared.id.Tid.{Tid}
use Rattle.omi_model.specs.declared.id.Rid.{Rid}
use Rattle.omi_model.specs.declared.region.Region.{Region}
use Rattle.omi_model.specs.declared.task.Task.{Task}
use Rattle.omi_model.specs.declared.thread.Thread.{Thread}
use Rattle.omi_model.specs.Put.{Slots, named}

-- the state. `count` is the number of threads, `max_active` max-active-levels-var; a lock has a holder or none.
pub record State : Type 0 where
  pub environment : Env
  pub count : ℕ
  pub max_active : ℕ
  pub locks : ℕ → Option ℕ
  pub threads : ℕ → Thread
  pub regions : Slots Region
  pub tasks : Slots Task

-- the live region of a name
abbrev pub region_of : State → Rid → Option Region
region_of s n = named s.regions n.0

-- the live task of a name
abbrev pub task_of : State → Tid → Option Task
task_of s k = named s.tasks k.0

-- the current task of a thread
abbrev pub current_task : State → ℕ → Option Task
current_task s i = option_and_then (task_of s) (s.threads i).current

-- the task that a task was scheduled from, and the region that encloses a region
abbrev pub scheduling_of : State → Tid → Option Tid
scheduling_of s k = option_and_then (λ t. t.scheduling) (task_of s k)

abbrev pub enclosing_of : State → Rid → Option Rid
enclosing_of s n = option_and_then (λ r. r.enclosing) (region_of s n)
