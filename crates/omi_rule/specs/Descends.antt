-- Functions go down: each explicit task runs a smaller function than the task that made it.
use Rattle.std.specs.Prelude.{◌≡◌, ◌<◌, ℕ, List, false, Some}
use Rattle.omi_script.specs.declared.program.Program.{Program}
use Rattle.omi_model.specs.declared.event.Event.{Event}
use Rattle.omi_model.specs.declared.id.Tid.{Tid}
use Rattle.omi_model.specs.declared.task.Task.{Task}
use Rattle.omi_model.specs.Reached.{Reached}
use Rattle.omi_model.specs.State.{State, task_of}

-- in every reached state
abbrev pub TasksDescend : Type 0
TasksDescend = (p : Program) (events : List (ℕ × Event)) (s : State) → Reached p events s
    → (k : Tid) (t : Task) → task_of s k ≡ Some t → t.implicit ≡ false
    → (g : Tid) (u : Task) → t.generating ≡ Some g → task_of s g ≡ Some u → t.function < u.function
