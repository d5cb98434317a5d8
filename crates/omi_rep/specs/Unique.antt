-- The words fix the report.
use Rattle.std.specs.Prelude.{◌≡◌, ℕ, List}
use Rattle.omi_model.specs.State.{State}
use Rattle.omi_model.specs.declared.view.View.{View}
use Rattle.omi_model.specs.Views.{IsViewOf}
use Rattle.omi_layout.specs.Valid.{IsValid}
use Rattle.omi_word.specs.Words.{Words}
use Rattle.omi_rep.specs.Shows.{Shows}

-- two states that the same words of one layout show have the same report, for the same contexts
abbrev pub FixTheReport : Type 0
FixTheReport = (w : List ℕ) (words : Words) (s t : State) (contexts : List ℕ) (v u : View)
    → IsValid w → Shows w words s → Shows w words t → IsViewOf s contexts v
    → IsViewOf t contexts u → v ≡ u
