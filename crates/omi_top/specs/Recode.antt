-- What `recode` makes of a core, and what it prints.
use Rattle.std.specs.Prelude.{◌≡◌, ℕ, List, [], ◌∷◌, ◌++◌, codes}
use Rattle.std.specs.Fmt.{decimal}
use Rattle.omi_corefile.specs.Spelling.{Core}
use Rattle.omi_corefile.specs.declared.core_image.CoreImage.{CoreImage}

-- two files are cores with the same contexts and segments, and the second has this order
pub record IsRecoded (order : ℕ) (bytes copy : List ℕ) : Type 0 where
  pub core : CoreImage
  pub spelled : Core bytes core
  pub other : CoreImage
  pub copied : Core copy other
  pub order_is : other.order ≡ order
  pub contexts_are : other.contexts ≡ core.contexts
  pub segments_are : other.segments ≡ core.segments

-- the line that is printed
abbrev pub recoded_line : ℕ → List ℕ
recoded_line order = codes "recoded " ++ (decimal order ++ 10 ∷ [])

-- the second is this copy of the first, and the line tells of it
abbrev pub IsRecodedCopy : ℕ → List ℕ → List ℕ → List ℕ → Type 0
IsRecodedCopy order bytes copy line = IsRecoded order bytes copy × (line ≡ recoded_line order)
