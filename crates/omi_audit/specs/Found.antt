-- What the words of a record say of what is judged behind them: the next record of its chain, and how many elements its last field has.
use Rattle.std.specs.Prelude.{ℕ, Bool, true, false}
use Rattle.omi_layout.specs.declared.field.Field.{Field}
use Rattle.omi_layout.specs.declared.field.Field.TheVariants.{RegionEnclosing, RegionSize, TaskScheduling, TaskNthreadsLength}

-- the fields that count elements
abbrev pub counts : Field → Bool
counts RegionSize = true
counts TaskNthreadsLength = true
counts _ = false

-- what is known once this word was found in a field
abbrev pub count_with : ℕ → Field → ℕ → ℕ
count_with count RegionSize word = word
count_with count TaskNthreadsLength word = word
count_with count _ word = count

abbrev pub next_with : ℕ → Field → ℕ → ℕ
next_with next RegionEnclosing word = word
next_with next TaskScheduling word = word
next_with next _ word = next
