-- The table of faults: what is judged, in the order in which it is judged, with the place that each fault is told at.
use Rattle.std.specs.Prelude.{◌≡◌, ℕ, ◌+◌, ◌*◌, ◌%◌, Bool, true, false, ◌&&◌, ◌||◌, not, ◌==◌, nat_lt, nat_le, List, length, find, sum_by, Option, Some, None, Result, Ok, Err, if◌then◌else◌}
use Rattle.std.specs.List.{list_all}
use Rattle.omi_corefile.specs.Limits.{rises_from}
use Rattle.omi_corefile.specs.declared.limits.TheConstants.{MOST_SEGMENTS, MOST_SEGMENT_WORDS}
use Rattle.omi_elf.specs.declared.fault.ElfFault.{ElfFault}
use Rattle.omi_elf.specs.declared.fault.ElfFault.TheVariants.{NotElf, Class, Order, NotCore, HeaderSize, Short, Unaligned, TooLarge, Overlap, NoContexts, BadContext, TooMany}
use Rattle.omi_elf.specs.declared.limits.TheConstants.{CORE_TYPE, HEADER_BYTES, MOST_ELF_BYTES, MOST_ID_BYTES, PROGRAM_HEADER_BYTES}
use Rattle.omi_elf.specs.declared.program_header.ProgramHeader.{ProgramHeader}
use Rattle.omi_elf.specs.Header.{begins_as_elf, ei_class, ei_data, order_of, e_type, e_phoff, e_phentsize, e_phnum, word_count, rounded_size, kept_segments}
use Rattle.omi_elf.specs.Notes.{NotePlace, note_found, n_descsz, description_place, ids_of}
use Rattle.omi_elf.specs.Segments.{by_start, first_overlap, count_apart}

-- a place and what is wrong there
abbrev pub ElfRefusal : Type 0
ElfRefusal = ℕ × ElfFault

-- what a row of the table answers: nothing is wrong, or this is
abbrev pub Judged : Type 0
Judged = Result (Unit {0}) ElfRefusal

infixl 10 ◌>>=◌
abbrev pub ◌>>=◌ : {A B : Type 0} → Result A ElfRefusal → (A → Result B ElfRefusal) → Result B ElfRefusal
(Ok x) >>= f = f x
(Err e) >>= f = Err e

-- the fault, where the test holds
abbrev pub fault_if : Bool → ℕ → ElfFault → Judged
fault_if wrong at why = if wrong then Err (at, why) else Ok tt

-- a file of so many bytes ends inside something that has to be read
abbrev pub short_if : ℕ → Bool → Judged
short_if len wrong = fault_if wrong len (Short len)

-- The rows of the header are said of the front of a file of `len` bytes.

-- 28: an ELF file that is too long, of more than so many bytes
abbrev pub length_row : ℕ → List ℕ → ℕ → Judged
length_row most bytes len = fault_if (begins_as_elf bytes && nat_lt most len) 0 (TooLarge len)

-- 21: another file
abbrev pub magic_row : List ℕ → Judged
magic_row bytes = fault_if (not (begins_as_elf bytes)) 0 NotElf

-- a field of the header, which is judged once the file has it: it ends at this place
abbrev pub field_row : ℕ → ℕ → Bool → ℕ → ElfFault → Judged
field_row len end good at why = do
  there ← short_if len (nat_lt len end)
  fault_if (not good) at why

-- 22 to 25, each with 26 in front of it
unfoldable pub class_row : List ℕ → ℕ → Judged
class_row bytes len = field_row len 5 (ei_class bytes == 2) 4 (Class (ei_class bytes))

unfoldable pub data_row : List ℕ → ℕ → Judged
data_row bytes len = field_row len 6 (ei_data bytes == 1 || ei_data bytes == 2) 5 (Order (ei_data bytes))

unfoldable pub type_row : List ℕ → ℕ → Judged
type_row bytes len = field_row len 18 (e_type bytes == CORE_TYPE) 16 (NotCore (e_type bytes))

unfoldable pub entry_size_row : List ℕ → ℕ → Judged
entry_size_row bytes len =
    field_row len 56 (e_phentsize bytes == PROGRAM_HEADER_BYTES) 54 (HeaderSize (e_phentsize bytes))

-- 26: the rest of the header
abbrev pub header_row : ℕ → Judged
header_row len = short_if len (nat_lt len HEADER_BYTES)

-- 26: the program headers
unfoldable pub program_headers_row : List ℕ → Judged
program_headers_row bytes =
    short_if (length bytes) (nat_lt 0 (e_phnum bytes)
    && nat_lt (length bytes) (e_phoff bytes + PROGRAM_HEADER_BYTES * e_phnum bytes))

-- all bytes of a kept segment stand in a file of so many bytes
abbrev pub lies_within : ℕ → ProgramHeader → Bool
lies_within len h = nat_le (h.p_offset + rounded_size h) len

-- 26: the bytes of the kept segments
unfoldable pub segments_row : List ℕ → Judged
segments_row bytes =
    short_if (length bytes) (not (list_all (lies_within (length bytes)) (kept_segments bytes)))

-- the search for native ids ends at a note inside which the file ends
abbrev pub is_cut : Option NotePlace → Bool
is_cut None = false
is_cut (Some None) = true
is_cut (Some (Some at)) = false

-- 26: the notes that are read
unfoldable pub notes_row : List ℕ → Judged
notes_row bytes = short_if (length bytes) (is_cut (note_found bytes))

abbrev pub is_unaligned : ProgramHeader → Bool
is_unaligned h = not (h.p_vaddr % 8 == 0)

-- the fault of a segment, at the place of its p_vaddr, where there is one
abbrev pub fault_of : (ℕ → ElfFault) → Option ProgramHeader → Judged
fault_of why None = Ok tt
fault_of why (Some h) = Err (h.start_place, why h.p_vaddr)

-- 27: the first kept segment in header order that starts at no multiple of 8
unfoldable pub unaligned_row : List ℕ → Judged
unaligned_row bytes = fault_of Unaligned (find is_unaligned (kept_segments bytes))

-- the words of the kept segments, added up
abbrev pub words_of_all : List ProgramHeader → ℕ
words_of_all hs = sum_by word_count hs

-- 28: too many words
unfoldable pub words_row : List ℕ → Judged
words_row bytes =
    fault_if (nat_lt MOST_SEGMENT_WORDS (words_of_all (kept_segments bytes))) 0
    (TooLarge (words_of_all (kept_segments bytes)))

-- 29: the first in order of start that begins below the end of the one before
unfoldable pub overlap_row : List ℕ → Judged
overlap_row bytes = fault_of Overlap (first_overlap (by_start (kept_segments bytes)))

-- 32: too many segments
unfoldable pub count_row : List ℕ → Judged
count_row bytes =
    fault_if (nat_lt MOST_SEGMENTS (count_apart (by_start (kept_segments bytes)))) 0
    (TooMany (count_apart (by_start (kept_segments bytes))))

-- the description of a note is a list of few enough ids that rise
abbrev pub lists_ids : List ℕ → ℕ → Bool
lists_ids bytes at = n_descsz (order_of bytes) bytes at % 8 == 0
    && nat_le (n_descsz (order_of bytes) bytes at) MOST_ID_BYTES
    && rises_from 0 (ids_of (order_of bytes) bytes at)

-- 30 and 31: no note holds native ids, or the first that has the name and the type doesn't
abbrev pub judged_note : List ℕ → Option NotePlace → Judged
judged_note bytes None = Err (0, NoContexts)
judged_note bytes (Some None) = Ok tt
judged_note bytes (Some (Some at)) =
    let desc = description_place (order_of bytes) bytes at in
    fault_if (not (lists_ids bytes at)) desc (BadContext desc)

unfoldable pub contexts_row : List ℕ → Judged
contexts_row bytes = judged_note bytes (note_found bytes)

-- the rows of the header of a file of any length
unfoldable pub front_rows : List ℕ → ℕ → Judged
front_rows bytes len = do
  magic ← magic_row bytes
  class ← class_row bytes len
  order ← data_row bytes len
  core ← type_row bytes len
  size ← entry_size_row bytes len
  header_row len

-- and of one of at most so many bytes
unfoldable pub header_rows : ℕ → List ℕ → ℕ → Judged
header_rows most bytes len = do
  length ← length_row most bytes len
  front_rows bytes len

-- the rows of what the program headers say
unfoldable pub segment_rows : List ℕ → Judged
segment_rows bytes = do
  there ← segments_row bytes
  notes ← notes_row bytes
  aligned ← unaligned_row bytes
  words ← words_row bytes
  apart ← overlap_row bytes
  few ← count_row bytes
  contexts_row bytes

-- the whole table: the first row that tells a fault
unfoldable pub judgement : List ℕ → Judged
judgement bytes = do
  header ← header_rows MOST_ELF_BYTES bytes (length bytes)
  headers ← program_headers_row bytes
  segment_rows bytes

-- the file is refused with this fault at this place
abbrev pub ElfRefused : List ℕ → ℕ → ElfFault → Type 0
ElfRefused bytes at why = judgement bytes ≡ Err (at, why)
