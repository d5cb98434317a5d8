-- In every reached state the generations of what is visible have 32 bits.
use Rattle.std.specs.Prelude.{ℕ, List}
use Rattle.omi_script.specs.declared.program.Program.{Program}
use Rattle.omi_model.specs.declared.event.Event.{Event}
use Rattle.omi_model.specs.Reached.{Reached}
use Rattle.omi_model.specs.State.{State}
use Rattle.omi_rep.specs.ShownLooks.{AreNames}

abbrev pub ReachedAreNames : Type 0
ReachedAreNames = (p : Program) (events : List (ℕ × Event)) (s : State) → Reached p events s
    → AreNames s
