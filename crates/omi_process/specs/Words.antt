-- Which words the core of a process has. A segment of memory has p_filesz bytes of the file from p_offset on: those of the addresses from
-- p_vaddr on. What the process had behind them, up to p_memsz, isn't in the file.
use Rattle.std.specs.Prelude.{◌≡◌, ℕ, ◌+◌, ◌-◌, ◌*◌, ◌/◌, ◌%◌, ◌≤◌, Bool, ◌&&◌, ◌==◌, nat_lt, nat_le, List, [], ◌∷◌, filter, Option, Some, None, Contains, length, if◌then◌else◌}
use Rattle.std.specs.List.{list_any}
use Rattle.omi_word.specs.Words.{Words}
use Rattle.omi_word.specs.declared.limits.TheConstants.{FIRST_ADDRESS, MEMORY_END}
use Rattle.omi_elf.specs.declared.limits.TheConstants.{LOAD_SEGMENT}
use Rattle.omi_elf.specs.declared.program_header.ProgramHeader.{ProgramHeader}
use Rattle.omi_elf.specs.Header.{program_headers}
use Rattle.omi_elf.specs.Segments.{by_start, word_in_file}

-- the address of the first word whose eight bytes a segment has, and the address behind the last one: equal or less where it has none
abbrev pub words_from : ProgramHeader → ℕ
words_from h = 8 * ((h.p_vaddr + 7) / 8)

abbrev pub words_to : ProgramHeader → ℕ
words_to h = 8 * ((h.p_vaddr + h.p_filesz) / 8)

-- A segment of memory is looked at where it starts at an address of a program and has a word. Others are passed over.
abbrev pub is_looked_at : ProgramHeader → Bool
is_looked_at h = h.p_type == LOAD_SEGMENT && nat_le FIRST_ADDRESS h.p_vaddr && nat_lt h.p_vaddr MEMORY_END
    && nat_lt (words_from h) (words_to h)

-- in order of start, and where two starts are equal in header order
abbrev pub segments_of : List ℕ → List ProgramHeader
segments_of bytes = by_start (filter is_looked_at (program_headers bytes))

-- where the byte of an address stands in the file
abbrev pub place_of : ProgramHeader → ℕ → ℕ
place_of h address = h.p_offset + (address - h.p_vaddr)

-- The core has this word at this address: the address is a multiple of 8, some segment has its eight bytes, and the file has them too, for it
-- may end before.
pub record HasWord (bytes : List ℕ) (address word : ℕ) : Type 0 where
  pub segment : ProgramHeader
  pub among : Contains (segments_of bytes) segment
  pub aligned : address % 8 ≡ 0
  pub from : segment.p_vaddr ≤ address
  pub to : address + 8 ≤ segment.p_vaddr + segment.p_filesz
  pub there : place_of segment address + 8 ≤ length bytes
  pub word_is : word ≡ word_in_file bytes (place_of segment address)

-- a segment has the eight bytes at the address, and the file has them too
abbrev pub holds : List ℕ → ℕ → ProgramHeader → Bool
holds bytes address h = (address % 8 == 0 && nat_le h.p_vaddr address)
    && (nat_le (address + 8) (h.p_vaddr + h.p_filesz) && nat_le (place_of h address + 8) (length bytes))

-- the word of the first segment that has it
abbrev pub word_in : List ℕ → ℕ → List ProgramHeader → Option ℕ
word_in bytes address [] = None
word_in bytes address (h ∷ hs) =
    if holds bytes address h then Some (word_in_file bytes (place_of h address)) else word_in bytes address hs

-- the word at each address: where no segments overlap, these are just the words that the core has
abbrev pub words_of : List ℕ → Words
words_of bytes address = word_in bytes address (segments_of bytes)

-- the file ends in front of the last word of some segment: those behind its end aren't there
abbrev pub is_cut_off : List ℕ → Bool
is_cut_off bytes = list_any (λ h. nat_lt (length bytes) (place_of h (words_to h))) (segments_of bytes)

-- the first of these, one behind another in order of start, that has a word of the one before
abbrev pub overlap_behind : ProgramHeader → List ProgramHeader → Option ProgramHeader
overlap_behind h [] = None
overlap_behind h (g ∷ gs) = if nat_lt (words_from g) (words_to h) then Some g else overlap_behind g gs

abbrev pub first_overlap : List ProgramHeader → Option ProgramHeader
first_overlap [] = None
first_overlap (h ∷ hs) = overlap_behind h hs
