-- The bytes of a core file: its fields, one after the other. Each number has its lowest byte first, but for the words of segments, which
-- have the core's order.
use Rattle.std.specs.Prelude.{◌≡◌, ℕ, List, [], ◌∷◌, ◌++◌, length, codes}
use Rattle.std.specs.List.{flat_map}
use Rattle.std.specs.Int.{w16, w32, w64, to_le_bytes}
use Rattle.omi_corefile.specs.declared.segment.Segment.{Segment}
use Rattle.omi_corefile.specs.declared.core_image.CoreImage.{CoreImage}
use Rattle.omi_word.specs.declared.limits.TheConstants.{FIRST_ADDRESS}
use Rattle.omi_corefile.specs.ByteOrder.{word_bytes}

-- eight bytes
abbrev pub eight_bytes : ℕ → List ℕ
eight_bytes n = to_le_bytes w64 n

-- eight bytes each
abbrev pub numbers : List ℕ → List ℕ
numbers ns = flat_map eight_bytes ns

-- the name of the format, the version, the order, and how many contexts and segments follow
abbrev pub header : ℕ → ℕ → ℕ → List ℕ
header order contexts segments = codes "OMPDCOR1" ++ 1 ∷ order ∷ to_le_bytes w16 contexts
    ++ to_le_bytes w32 segments

-- words in this order
abbrev pub words_in : ℕ → List ℕ → List ℕ
words_in order words = flat_map (word_bytes order) words

-- the start address, the number of words, and the words in this order
abbrev pub segment_bytes : ℕ → Segment → List ℕ
segment_bytes order s = eight_bytes s.start ++ eight_bytes (length s.words) ++ words_in order s.words

-- the header, the native ids, and the segments
abbrev pub spelling_of : ℕ → List ℕ → List Segment → List ℕ
spelling_of order contexts segments =
    header order (length contexts) (length segments) ++ numbers contexts
    ++ flat_map (segment_bytes order) segments

-- the one spelling of a core
abbrev pub spelling : CoreImage → List ℕ
spelling c = spelling_of c.order c.contexts c.segments

-- these bytes are this core
abbrev pub Core : List ℕ → CoreImage → Type 0
Core bytes c = bytes ≡ spelling c

-- the segments of an image: all of its words from the first address on, and none where it has no word
abbrev pub segments_of : List ℕ → List Segment
segments_of [] = []
segments_of (word ∷ words) = record { start = FIRST_ADDRESS; words = word ∷ words } ∷ []

-- the core of an image that has a word, in order 0: the header, the native ids, the first address, the number of words, and the words
abbrev pub core_bytes : List ℕ → List ℕ → List ℕ
core_bytes contexts words = header 0 (length contexts) 1 ++ numbers contexts ++ eight_bytes FIRST_ADDRESS
    ++ eight_bytes (length words) ++ words_in 0 words

-- the core holds an image in order 0: it has these contexts, and these words as its one segment, from the first address on
pub record HoldsImage (contexts words : List ℕ) (c : CoreImage) : Type 0 where
  pub order : c.order ≡ 0
  pub contexts_are : c.contexts ≡ contexts
  pub segments : c.segments ≡ record { start = FIRST_ADDRESS; words = words } ∷ []
