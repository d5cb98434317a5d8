-- The state that events reach, each legal in the state before it.
use Rattle.std.specs.Prelude.{◌≡◌, ℕ, List, [], ◌∷◌, Some}
use Rattle.omi_script.specs.declared.program.Program.{Program}
use Rattle.omi_model.specs.declared.event.Event.{Event}
use Rattle.omi_model.specs.State.{State}
use Rattle.omi_model.specs.Rules.{Legal, after}
use Rattle.omi_model.specs.Opening.{opening}

-- an event of a thread leads from one state to the next
pub record Step (p : Program) (s : State) (i : ℕ) (e : Event) (next : State) : Type 0 where
  pub legal : Legal p s i e
  pub after_is : after p s i e ≡ Some next

-- from one state, these events of threads lead to another
abbrev pub Leads : Program → State → List (ℕ × Event) → State → Type 0
Leads p s [] t = t ≡ s
Leads p s (x ∷ xs) t = (next : State) × Step p s x.0 x.1 next × Leads p next xs t

-- from the opening state of a program, these events reach this state
abbrev pub Reached : Program → List (ℕ × Event) → State → Type 0
Reached p events s = Leads p (opening p) events s
