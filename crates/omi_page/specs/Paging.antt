-- What is kept of a core file, and that it is right for the file's bytes.
use Rattle.std.specs.Prelude.{◌≡◌, ℕ, ◌+◌, ◌*◌, ◌%◌, ◌<◌, List, length, Some, Contains, Vec}
use Rattle.std.specs.Option.{option_map}
use Rattle.std.specs.declared.alloc.Global.{Global}
use Rattle.omi_outside.specs.Outside.{Told}
use Rattle.omi_calls.specs.CoreWords.{words_of_segments}
use Rattle.omi_corefile.specs.Refusals.{Parts}
use Rattle.omi_word.specs.Words.{Words}
use Rattle.omi_page.specs.declared.contents.Contents.{Contents}
use Rattle.omi_page.specs.declared.span.Span.{Span}
use Rattle.omi_page.specs.declared.limits.TheConstants.{PAGE_BYTES}
use Rattle.omi_page.specs.Spans.{eight_at, word_there, place_in}
use Rattle.omi_page.specs.CoreFiles.{StandsForCore, parts_of_core}
use Rattle.omi_page.specs.Told.{parts_of_bytes}
use Rattle.omi_page.specs.Bounds.{EndWithin}
use Rattle.omi_read.specs.Holding.{IsLength, Holds}

-- the pages that are kept, by their numbers
abbrev pub Kept : Type 0
Kept = List (ℕ × Vec ℕ Global)

-- a page holds the file's bytes of each word that stands in it: the page of this number begins at PAGE_BYTES times the number
abbrev pub IsPage : List ℕ → List Span → ℕ → List ℕ → Type 0
IsPage bytes spans page items =
    (offset at : ℕ) → offset % 8 ≡ 0 → offset < PAGE_BYTES
    → place_in spans (PAGE_BYTES * page + offset) ≡ Some at
    → eight_at items offset ≡ eight_at bytes at

-- each kept page has the length of a page
abbrev pub AreLong : Kept → Type 0
AreLong kept = (page : ℕ) (items : Vec ℕ Global) → Contains kept (page, items)
    → length items.items ≡ PAGE_BYTES

-- each kept page is the file's
abbrev pub ArePages : Told → List Span → Kept → Type 0
ArePages told spans kept =
    (bytes : List ℕ) → Holds told bytes → (page : ℕ) (items : Vec ℕ Global)
    → Contains kept (page, items) → IsPage bytes spans page items.items

-- the word at each address is the one at its place
abbrev pub AreWordsThere : Words → ℕ → List ℕ → List Span → Type 0
AreWordsThere words order bytes spans =
    (addr : ℕ) → addr % 8 ≡ 0 → words addr ≡ option_map (word_there order bytes) (place_in spans addr)

-- parts of a core of which this was read beside the words
pub record AreParts (parts : Parts) (order : ℕ) (contexts : List ℕ) (bytes : List ℕ) (spans : List Span) : Type 0 where
  pub order_is : parts.order ≡ order
  pub contexts_are : parts.contexts ≡ contexts
  pub words_are : AreWordsThere (words_of_segments parts.segments) order bytes spans

-- the parts of the core that the file's bytes are
abbrev pub ArePartsOf : Told → ℕ → List ℕ → List Span → Type 0
ArePartsOf told order contexts spans =
    (bytes : List ℕ) (parts : Parts) → Holds told bytes → parts_of_bytes bytes ≡ Some parts
    → AreParts parts order contexts bytes spans

-- what was read of bytes beside the words is right for them
pub record IsContentsOf (bytes : List ℕ) (contents : Contents) : Type 0 where
  pub core : StandsForCore bytes
  pub are : AreParts (parts_of_core core.core) contents.order contents.contexts bytes contents.spans

-- what was read of a file beside its words is right for its bytes
pub record IsOpened (told : Told) (contents : Contents) : Type 0 where
  pub length : IsLength told contents.len
  pub ends : EndWithin contents.len contents.spans
  pub parts : ArePartsOf told contents.order contents.contexts contents.spans
