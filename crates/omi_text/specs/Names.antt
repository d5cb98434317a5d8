-- States and schedule kinds by name, or by number where they have none.
use Rattle.std.specs.Prelude.{ℕ, List, unwrap_or}
use Rattle.std.specs.Fmt.{decimal}
use Rattle.omi_numbers.specs.States.{states}
use Rattle.omi_numbers.specs.Schedules.{schedule_kinds}
use Rattle.omi_numbers.specs.Names.{name_in}
use Rattle.omi_text.specs.Numbers.{hexadecimal}

-- a state by its name, or by its number in hexadecimal where it has none
unfoldable pub state_text : ℕ → List ℕ
state_text state = unwrap_or (name_in states state) (hexadecimal state)

-- a schedule kind by its name, or by its number in decimal where it has none
unfoldable pub kind_text : ℕ → List ℕ
kind_text kind = unwrap_or (name_in schedule_kinds kind) (decimal kind)
