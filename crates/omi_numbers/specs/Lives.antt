-- The life words of records.
use Rattle.std.specs.Prelude.{ℕ, ◌+◌, ◌*◌}

-- the life word of a record whose object has this generation
abbrev pub life_word : ℕ → ℕ
life_word generation = 2 * generation + 1
