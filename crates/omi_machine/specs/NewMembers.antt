-- The implicit tasks of a new team, as they are made ready.
use Rattle.std.specs.Prelude.{ℕ, ◌+◌, List, [], ◌∷◌, ◌++◌}
use Rattle.omi_model.specs.declared.id.Tid.{Tid}
use Rattle.omi_model.specs.declared.task.Task.{Task}

-- the tasks of members, of which the first has this number, the last one first
abbrev pub tasks_back : (ℕ → ℕ → Task) → ℕ → List (Tid × ℕ) → List Task
tasks_back task number [] = []
tasks_back task number (m ∷ ms) = tasks_back task (number + 1) ms ++ task number m.1 ∷ []
