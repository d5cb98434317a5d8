-- The kept segments in order of start, and which word they spell at an address.
use Rattle.std.specs.Prelude.{◌≡◌, ℕ, ◌+◌, ◌*◌, ◌<◌, ◌==◌, nat_lt, nat_le, List, [], ◌∷◌, take, drop, slice_get, Option, Some, None, Contains, if◌then◌else◌}
use Rattle.omi_corefile.specs.ByteOrder.{number_of}
use Rattle.omi_corefile.specs.declared.segment.Segment.{Segment}
use Rattle.omi_elf.specs.declared.program_header.ProgramHeader.{ProgramHeader}
use Rattle.omi_elf.specs.Header.{order_of, word_count, segment_end, kept_segments}

-- a segment in front of the first that doesn't start below it
abbrev pub in_place : ProgramHeader → List ProgramHeader → List ProgramHeader
in_place h [] = h ∷ []
in_place h (g ∷ gs) = if nat_le h.p_vaddr g.p_vaddr then h ∷ g ∷ gs else g ∷ in_place h gs

-- segments in order of start, and where two starts are equal in header order
abbrev pub by_start : List ProgramHeader → List ProgramHeader
by_start [] = []
by_start (h ∷ hs) = in_place h (by_start hs)

-- the first of these, one behind another in order of start, that begins below the end of the one before
abbrev pub overlap_behind : ProgramHeader → List ProgramHeader → Option ProgramHeader
overlap_behind h [] = None
overlap_behind h (g ∷ gs) = if nat_lt g.p_vaddr (segment_end h) then Some g else overlap_behind g gs

abbrev pub first_overlap : List ProgramHeader → Option ProgramHeader
first_overlap [] = None
first_overlap (h ∷ hs) = overlap_behind h hs

-- how many of these begin apart from the end of the one before: those that touch count as one
abbrev pub count_behind : ProgramHeader → List ProgramHeader → ℕ
count_behind h [] = 0
count_behind h (g ∷ gs) = (if segment_end h == g.p_vaddr then 0 else 1) + count_behind g gs

abbrev pub count_apart : List ProgramHeader → ℕ
count_apart [] = 0
count_apart (h ∷ hs) = 1 + count_behind h hs

-- the word of the eight bytes at a place of the file
abbrev pub word_in_file : List ℕ → ℕ → ℕ
word_in_file bytes at = number_of (order_of bytes) (take 8 (drop at bytes))

-- the eight bytes at the address, in some kept segment, spell the word
pub record IsSpelledAt (bytes : List ℕ) (address word : ℕ) : Type 0 where
  pub segment : ProgramHeader
  pub kept : Contains (kept_segments bytes) segment
  pub index : ℕ
  pub inside : index < word_count segment
  pub address_is : address ≡ segment.p_vaddr + 8 * index
  pub word_is : word ≡ word_in_file bytes (segment.p_offset + 8 * index)

-- the segments of a core have the word at the address
pub record IsWordAt (segments : List Segment) (address word : ℕ) : Type 0 where
  pub segment : Segment
  pub among : Contains segments segment
  pub index : ℕ
  pub address_is : address ≡ segment.start + 8 * index
  pub word_is : slice_get segment.words index ≡ Some word
