-- Words give at most one layout; and where they give none, there is one cause.
use Rattle.std.specs.Prelude.{◌≡◌, ℕ, List}
use Rattle.omi_layout.specs.declared.reading.LayoutError.{LayoutError}
use Rattle.omi_word.specs.Words.{Words}
use Rattle.omi_layout.specs.Valid.{IsValid}
use Rattle.omi_layout.specs.Given.{GivesLayout}
use Rattle.omi_layout.specs.NoLayout.{GivesNone}

-- two layouts that the same words give are one
abbrev pub OneLayout : Type 0
OneLayout = (words : Words) (w v : List ℕ) → GivesLayout words w → GivesLayout words v → w ≡ v

-- two causes for which the same words give none are one
abbrev pub OneCause : Type 0
OneCause = (words : Words) (e f : LayoutError) → GivesNone words e → GivesNone words f → e ≡ f

-- words don't give a valid layout and give none
abbrev pub NotBoth : Type 0
NotBoth = (words : Words) (w : List ℕ) (e : LayoutError) → IsValid w → GivesLayout words w
    → GivesNone words e → ⊥
