-- What the parts of the judging of a table answer.
use Rattle.std.specs.Prelude.{◌≡◌, ℕ, ◌<◌, true, false, List}
use Rattle.omi_layout.specs.Field.{IsField, IsKind}
use Rattle.omi_layout.specs.Valid.{overlap, is_arena}

-- `g` is the least field that field `f` overlaps, of those that come later
pub record IsFirstOverlap (w : List ℕ) (f g : ℕ) : Type 0 where
  pub is : IsField g
  pub order : f < g
  pub overlaps : overlap w f g ≡ true
  pub least : (h : ℕ) → f < h → h < g → overlap w f h ≡ false

-- the arenas of lower number are in order
abbrev pub AllBelow : List ℕ → ℕ → Type 0
AllBelow w p = (q : ℕ) → IsKind q → q < p → is_arena w q ≡ true
