-- How the value of a control variable is spelled.
use Rattle.std.specs.Prelude.{ℕ, List, ◌∷◌, map}
use Rattle.std.specs.Fmt.{decimal}
use Rattle.std.specs.List.{join_with_byte, flat_map}
use Rattle.omi_text.specs.Head.{debug_text}
use Rattle.omi_text.specs.Tasks.{schedule_text}
use Rattle.omi_icv.specs.declared.variable.Spelling.{Spelling}
use Rattle.omi_icv.specs.declared.variable.Spelling.TheVariants.{Decimal, Schedule, Switch}

-- one number: in decimal, as a schedule's kind and chunk, or as disabled and enabled. Reports print schedules and debug-var alike
abbrev pub number_text : Spelling → ℕ → List ℕ
number_text Decimal number = decimal number
number_text Schedule number = schedule_text number
number_text Switch number = debug_text number

-- all numbers, joined by commas
unfoldable pub value_text : Spelling → List ℕ → List ℕ
value_text spelling numbers = join_with_byte 44 (map (number_text spelling) numbers)

-- numbers, each behind a comma, as a private function adds them
abbrev pub after_commas : Spelling → List ℕ → List ℕ
after_commas spelling numbers = flat_map (λ number. 44 ∷ number_text spelling number) numbers
