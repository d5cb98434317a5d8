-- A look at words that show a state.
use Rattle.std.specs.Prelude.{◌≡◌, ◌<◌, ◌^◌, ℕ, List, Ok}
use Rattle.omi_model.specs.declared.id.Rid.{Rid}
use Rattle.omi_model.specs.declared.id.Tid.{Tid}
use Rattle.omi_model.specs.State.{State}
use Rattle.omi_model.specs.declared.view.View.{View}
use Rattle.omi_model.specs.Views.{IsViewOf}
use Rattle.omi_model.specs.Visible.{IsVisibleRegion, IsVisibleTask}
use Rattle.omi_layout.specs.Valid.{IsValid}
use Rattle.omi_word.specs.Words.{Words}
use Rattle.omi_rep.specs.LookView.{look_view}
use Rattle.omi_rep.specs.Shows.{Shows}

-- the generations of what is visible have 32 bits, as those of names do
pub record AreNames (s : State) : Type 0 where
  pub regions : (n : Rid) → IsVisibleRegion s n → n.0.generation < 2 ^ 32
  pub tasks : (k : Tid) → IsVisibleTask s k → k.0.generation < 2 ^ 32

-- words of a valid layout that show a state, the names of whose visible objects have 32 bits: a plain look is never refused, and its view is that of the state, for any contexts
abbrev pub ShownIsLooked : Type 0
ShownIsLooked = (w : List ℕ) (words : Words) (s : State) (contexts : List ℕ) → IsValid w
    → AreNames s → Shows w words s
    → (v : View) × (look_view w words contexts ≡ Ok v) × IsViewOf s contexts v
