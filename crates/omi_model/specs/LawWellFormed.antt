-- Every state that events reach is well formed.
use Rattle.std.specs.Prelude.{ℕ, List}
use Rattle.omi_script.specs.declared.program.Program.{Program}
use Rattle.omi_model.specs.declared.event.Event.{Event}
use Rattle.omi_model.specs.Reached.{Reached}
use Rattle.omi_model.specs.State.{State}
use Rattle.omi_model.specs.WellFormed.{IsWellFormed}

abbrev pub ReachedIsWellFormed : Type 0
ReachedIsWellFormed = (p : Program) (events : List (ℕ × Event)) (s : State) → Reached p events s
    → IsWellFormed s
