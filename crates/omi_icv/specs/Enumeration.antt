-- The enumerations of states and of control variables: each gives the row of its table behind a number.
use Rattle.std.specs.Prelude.{ℕ, ◌==◌, List, [], ◌∷◌, Result, Ok, Err, if◌then◌else◌}
use Rattle.omi_numbers.specs.Variables.{name_of}
use Rattle.omi_numbers.specs.declared.variables.TheConstants.{UNDEFINED_VARIABLE}
use Rattle.omi_numbers.specs.declared.states.TheConstants.{UNDEFINED_STATE}
use Rattle.omi_session.specs.declared.rc.Rc.{Rc}
use Rattle.omi_session.specs.declared.rc.Rc.TheVariants.{BadInput}
use Rattle.omi_numbers.specs.States.{states}
use Rattle.omi_icv.specs.Scopes.{scope_number}
use Rattle.omi_icv.specs.Table.{Row, variables}

-- 1 where rows follow, and else 0
abbrev pub more_of : {A : Type 0} → List A → ℕ
more_of [] = 0
more_of (row ∷ rows) = 1

-- the row behind a number in a table whose rows have numbers and which begins behind this one, and whether more follow. BadInput of a
-- number that isn't there, and of the last one
abbrev pub next_row : {A : Type 0} → (A → ℕ) → ℕ → List A → ℕ → Result (A × ℕ) Rc
next_row number start [] current = Err BadInput
next_row number start (row ∷ rows) current =
    if current == start then Ok (row, more_of rows) else next_row number (number row) rows current

-- a state: its number, its name, and whether more follow
abbrev pub state_entry : Result ((ℕ × List ℕ) × ℕ) Rc → Result (ℕ × List ℕ × ℕ) Rc
state_entry (Ok next) = Ok (next.0.0, next.0.1, next.1)
state_entry (Err rc) = Err rc

abbrev pub next_state : ℕ → Result (ℕ × List ℕ × ℕ) Rc
next_state current = state_entry (next_row (λ row. row.0) UNDEFINED_STATE states current)

-- a variable: its number, its name, its scope, and whether more follow
abbrev pub icv_entry : Result (Row × ℕ) Rc → Result (ℕ × List ℕ × ℕ × ℕ) Rc
icv_entry (Ok next) = Ok (next.0.number, name_of next.0.number, scope_number next.0.variable.scope, next.1)
icv_entry (Err rc) = Err rc

abbrev pub next_icv : ℕ → Result (ℕ × List ℕ × ℕ × ℕ) Rc
next_icv current = icv_entry (next_row (λ row. row.number) UNDEFINED_VARIABLE variables current)

-- what a call gave, with the bytes of the name
abbrev pub named_state : {N A : Type 0} → (N → A) → Result (ℕ × N × ℕ) Rc → Result (ℕ × A × ℕ) Rc
named_state bytes (Ok entry) = Ok (entry.0, bytes entry.1, entry.2)
named_state bytes (Err rc) = Err rc

abbrev pub named_icv : {N A : Type 0} → (N → A) → Result (ℕ × N × ℕ × ℕ) Rc
    → Result (ℕ × A × ℕ × ℕ) Rc
named_icv bytes (Ok entry) = Ok (entry.0, bytes entry.1, entry.2, entry.3)
named_icv bytes (Err rc) = Err rc
