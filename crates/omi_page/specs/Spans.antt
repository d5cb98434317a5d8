-- Where the words of a core stand in its file, and what is read there.
use Rattle.std.specs.Prelude.{ℕ, zero, suc, ◌+◌, ◌-◌, ◌*◌, List, [], ◌∷◌, take, drop, map, Option, Some, None, Bool, ◌&&◌, nat_le, nat_lt, if◌then◌else◌}
use Rattle.std.specs.Option.{option_or}
use Rattle.omi_corefile.specs.ByteOrder.{number_of}
use Rattle.omi_corefile.specs.declared.segment.Segment.{Segment}
use Rattle.omi_page.specs.declared.span.Span.{Span}

-- the eight bytes at a place
abbrev pub eight_at : List ℕ → ℕ → List ℕ
eight_at bytes at = take 8 (drop at bytes)

-- the word at a place, in this order
abbrev pub word_there : ℕ → List ℕ → ℕ → ℕ
word_there order bytes at = number_of order (eight_at bytes at)

-- so many words from a place on
unfoldable pub words_there : ℕ → List ℕ → ℕ → ℕ → List ℕ
words_there order bytes at zero = []
words_there order bytes at (suc count) = word_there order bytes at ∷ words_there order bytes (at + 8) count

-- the segment that a span stands for
abbrev pub segment_there : ℕ → List ℕ → Span → Segment
segment_there order bytes s = record { start = s.start; words = words_there order bytes s.place s.count }

-- the segments that a list of spans stands for
abbrev pub segments_there : ℕ → List ℕ → List Span → List Segment
segments_there order bytes spans = map (segment_there order bytes) spans

-- whether a word of a span stands at an address
abbrev pub is_in : Span → ℕ → Bool
is_in s addr = nat_le s.start addr && nat_lt addr (s.start + 8 * s.count)

-- the place of the word of a span at an address, where it has one
abbrev pub place_of : Span → ℕ → Option ℕ
place_of s addr = if is_in s addr then Some (s.place + (addr - s.start)) else None

-- the place of the word at an address, where one stands
abbrev pub place_in : List Span → ℕ → Option ℕ
place_in [] addr = None
place_in (s ∷ ss) addr = option_or (place_of s addr) (place_in ss addr)
