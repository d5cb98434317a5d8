-- What a core may hold. Each rule is a test that computes, so that a type can keep it.
use Rattle.std.specs.Prelude.{ℕ, ◌+◌, ◌*◌, ◌^◌, ◌%◌, Bool, true, ◌&&◌, ◌==◌, nat_lt, nat_le, List, [], ◌∷◌, length, Option, None, Some}
use Rattle.std.specs.List.{list_all, sum_by}
use Rattle.omi_word.specs.declared.limits.TheConstants.{FIRST_ADDRESS, MEMORY_END}
use Rattle.omi_corefile.specs.declared.limits.TheConstants.{MOST_CONTEXTS, MOST_SEGMENTS, MOST_SEGMENT_WORDS}
use Rattle.omi_corefile.specs.declared.segment.Segment.{Segment}
use Rattle.omi_corefile.specs.ByteOrder.{is_order}

-- each number is above the one before, and the first is at least `least`
abbrev pub rises_from : ℕ → List ℕ → Bool
rises_from least [] = true
rises_from least (x ∷ xs) = nat_le least x && rises_from (x + 1) xs

-- each number is a word: below 2^64
abbrev pub are_words : List ℕ → Bool
are_words xs = list_all (λ x. nat_lt x (2 ^ 64)) xs

-- a start address that is at least `least`
abbrev pub is_start : ℕ → ℕ → Bool
is_start least start = start % 8 == 0 && nat_le least start && nat_lt start MEMORY_END

-- the address after the last word of a segment
abbrev pub end_of : ℕ → ℕ → ℕ
end_of start count = start + 8 * count

-- each segment has a word, and starts above the end of the one before, so that two neighbours have a gap
abbrev pub rise_apart_from : ℕ → List Segment → Bool
rise_apart_from least [] = true
rise_apart_from least (s ∷ ss) = is_start least s.start && nat_lt 0 (length s.words)
    && are_words s.words && rise_apart_from (end_of s.start (length s.words) + 1) ss

-- the number of words in all segments together
abbrev pub total_words : List Segment → ℕ
total_words segments = sum_by (λ s. length s.words) segments

-- few enough native ids, which rise strictly
abbrev pub are_contexts : List ℕ → Bool
are_contexts contexts = nat_le (length contexts) MOST_CONTEXTS && rises_from 0 contexts
    && are_words contexts

-- few enough segments from the first address on, with few enough words
abbrev pub are_segments : List Segment → Bool
are_segments segments = nat_le (length segments) MOST_SEGMENTS
    && rise_apart_from FIRST_ADDRESS segments && nat_le (total_words segments) MOST_SEGMENT_WORDS

-- the order, the contexts and the segments of a core
abbrev pub within_limits : ℕ → List ℕ → List Segment → Bool
within_limits order contexts segments = is_order order && are_contexts contexts && are_segments segments

-- the least native id that may follow one, if any
abbrev pub least_after : Option ℕ → ℕ
least_after None = 0
least_after (Some id) = id + 1
