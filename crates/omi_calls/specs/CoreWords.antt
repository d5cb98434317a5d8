-- The words that the segments of a core hold.
use Rattle.std.specs.Prelude.{◌-◌, ◌/◌, List, [], ◌∷◌, None, nat_le, slice_get, if◌then◌else◌}
use Rattle.std.specs.Option.{option_or}
use Rattle.omi_corefile.specs.declared.segment.Segment.{Segment}
use Rattle.omi_word.specs.Words.{Words}

-- the word at an address from the segment's start on
abbrev pub word_of : Segment → Words
word_of s addr = if nat_le s.start addr then slice_get s.words ((addr - s.start) / 8) else None

-- the word of the first segment that has one at the address
abbrev pub words_of_segments : List Segment → Words
words_of_segments [] addr = None
words_of_segments (s ∷ ss) addr = option_or (word_of s addr) (words_of_segments ss addr)
