-- The file's header and its program headers, with the names of the System V ABI. A place counts bytes from the front of the file.
use Rattle.std.specs.Prelude.{ℕ, ◌+◌, ◌-◌, ◌*◌, ◌/◌, Bool, ◌&&◌, ◌==◌, nat_eq, nat_lt, nat_le, List, take, drop, map, filter, slice_index, if◌then◌else◌}
use Rattle.std.specs.List.{starts_with, range_with_len}
use Rattle.std.specs.Int.{Width, w16, w32, w64, byte_len, from_le_bytes, from_be_bytes}
use Rattle.omi_word.specs.declared.limits.TheConstants.{FIRST_ADDRESS, MEMORY_END}
use Rattle.omi_elf.specs.declared.limits.TheConstants.{ELF_MAGIC, LOAD_SEGMENT, NOTE_SEGMENT, PROGRAM_HEADER_BYTES}
use Rattle.omi_elf.specs.declared.program_header.ProgramHeader.{ProgramHeader}

-- the number of this width at a place: the lowest byte first in order 0, the highest first in order 1
unfoldable pub field : Width → ℕ → List ℕ → ℕ → ℕ
field w order bytes at = if order == 0 then from_le_bytes w (take (byte_len w) (drop at bytes))
    else from_be_bytes w (take (byte_len w) (drop at bytes))

-- so many numbers of eight bytes, one right behind the other from a place on
unfoldable pub numbers_from : ℕ → List ℕ → ℕ → ℕ → List ℕ
numbers_from order bytes at count = map (λ k. field w64 order bytes (at + 8 * k)) (range_with_len 0 count)

-- the file begins with the four bytes of every ELF file
abbrev pub begins_as_elf : List ℕ → Bool
begins_as_elf bytes = starts_with nat_eq bytes ELF_MAGIC

-- ---- the header

abbrev pub ei_class : List ℕ → ℕ
ei_class bytes = slice_index bytes 4

abbrev pub ei_data : List ℕ → ℕ
ei_data bytes = slice_index bytes 5

-- the order of the file's numbers: 0 for ELFDATA2LSB, which is 1, and 1 for ELFDATA2MSB, which is 2
abbrev pub order_of : List ℕ → ℕ
order_of bytes = ei_data bytes - 1

abbrev pub e_type : List ℕ → ℕ
e_type bytes = field w16 (order_of bytes) bytes 16

abbrev pub e_phoff : List ℕ → ℕ
e_phoff bytes = field w64 (order_of bytes) bytes 32

abbrev pub e_phentsize : List ℕ → ℕ
e_phentsize bytes = field w16 (order_of bytes) bytes 54

abbrev pub e_phnum : List ℕ → ℕ
e_phnum bytes = field w16 (order_of bytes) bytes 56

-- ---- the program headers

-- the program header at a place
unfoldable pub program_header : ℕ → List ℕ → ℕ → ProgramHeader
program_header order bytes at = record {
  start_place = at + 16;
  p_type = field w32 order bytes at;
  p_offset = field w64 order bytes (at + 8);
  p_vaddr = field w64 order bytes (at + 16);
  p_filesz = field w64 order bytes (at + 32);
}

-- so many program headers, one right behind the other from a place on
unfoldable pub headers_from : ℕ → List ℕ → ℕ → ℕ → List ProgramHeader
headers_from order bytes at count =
    map (λ i. program_header order bytes (at + PROGRAM_HEADER_BYTES * i)) (range_with_len 0 count)

-- those of a file
abbrev pub program_headers : List ℕ → List ProgramHeader
program_headers bytes = headers_from (order_of bytes) bytes (e_phoff bytes) (e_phnum bytes)

-- ---- the segments of memory

-- the words of a segment: whole groups of eight bytes of the file
abbrev pub word_count : ProgramHeader → ℕ
word_count h = h.p_filesz / 8

-- its file size, rounded down to a multiple of 8
abbrev pub rounded_size : ProgramHeader → ℕ
rounded_size h = 8 * word_count h

-- the address behind its last word
abbrev pub segment_end : ProgramHeader → ℕ
segment_end h = h.p_vaddr + rounded_size h

-- a segment is kept where it is one of memory, starts at an address of a program, and has a word
abbrev pub is_kept : ProgramHeader → Bool
is_kept h = h.p_type == LOAD_SEGMENT && nat_le FIRST_ADDRESS h.p_vaddr && nat_lt h.p_vaddr MEMORY_END
    && nat_le 8 (rounded_size h)

-- the kept segments in header order
abbrev pub kept_segments : List ℕ → List ProgramHeader
kept_segments bytes = filter is_kept (program_headers bytes)

-- a segment of notes
abbrev pub is_note_segment : ProgramHeader → Bool
is_note_segment h = h.p_type == NOTE_SEGMENT
