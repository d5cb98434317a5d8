-- Tables of numbers and names.
use Rattle.std.specs.Prelude.{ℕ, ◌==◌, List, [], ◌∷◌, bytes_eq, Option, Some, None, if◌then◌else◌}

-- the name of a number in a table, if it is there
abbrev pub name_in : List (ℕ × List ℕ) → ℕ → Option (List ℕ)
name_in [] n = None
name_in (row ∷ rows) n = if n == row.0 then Some row.1 else name_in rows n

-- the number of a name in a table, if it is there
abbrev pub number_in : List (ℕ × List ℕ) → List ℕ → Option ℕ
number_in [] word = None
number_in (row ∷ rows) word = if bytes_eq word row.1 then Some row.0 else number_in rows word
