-- The members of a team in the making, and of one that was forked.
use Rattle.std.specs.Prelude.{ℕ, List, [], ◌∷◌, ◌++◌, slice_index_or}
use Rattle.omi_model.specs.declared.id.Tid.{Tid}
use Rattle.omi_model.specs.Columns.{no_task}

-- a member by its number: its task, and its thread
abbrev pub member_of : List (Tid × ℕ) → ℕ → Tid × ℕ
member_of team number = slice_index_or team number (no_task, 0)

-- a thread alone, for which no task is made yet
abbrev pub alone : ℕ → List (Tid × ℕ)
alone thread = (no_task, thread) ∷ []

-- one more thread, for which no task is made yet
abbrev pub joined_by : ℕ → List (Tid × ℕ) → List (Tid × ℕ)
joined_by thread team = team ++ (no_task, thread) ∷ []
