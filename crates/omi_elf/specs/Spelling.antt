-- The bytes of the ELF core file that is written of a core: the header, the program headers of the note and of the segments, the note, and
-- the words of the segments, without gaps. All numbers have the core's order.
use Rattle.std.specs.Prelude.{ℕ, ◌+◌, ◌*◌, ◌==◌, List, [], ◌∷◌, ◌++◌, length, if◌then◌else◌}
use Rattle.std.specs.List.{flat_map}
use Rattle.std.specs.Int.{Width, w16, w32, w64, to_le_bytes, to_be_bytes}
use Rattle.omi_corefile.specs.Spelling.{words_in}
use Rattle.omi_corefile.specs.declared.segment.Segment.{Segment}
use Rattle.omi_corefile.specs.declared.core_image.CoreImage.{CoreImage}
use Rattle.omi_elf.specs.declared.limits.TheConstants.{CORE_TYPE, ELF_MAGIC, HEADER_BYTES, LOAD_SEGMENT, NOTE_FRONT_BYTES, NOTE_NAME, NOTE_SEGMENT, NOTE_TYPE, PROGRAM_HEADER_BYTES}
use Rattle.omi_elf.specs.Notes.{padded}

-- the bytes of a number in this order
abbrev pub bytes_of : Width → ℕ → ℕ → List ℕ
bytes_of w order n = if order == 0 then to_le_bytes w n else to_be_bytes w n

-- e_ident: the class of 64 bits, the order, the version 1, and nine zeros
abbrev pub e_ident : ℕ → List ℕ
e_ident order = ELF_MAGIC ++ 2 ∷ (order + 1) ∷ 1 ∷ 0 ∷ 0 ∷ 0 ∷ 0 ∷ 0 ∷ 0 ∷ 0 ∷ 0 ∷ 0 ∷ []

-- the front of a header: e_ident, e_type, e_machine, e_version, e_entry and e_phoff
unfoldable pub header_front : ℕ → List ℕ
header_front order =
    e_ident order ++ bytes_of w16 order CORE_TYPE ++ bytes_of w16 order 0 ++ bytes_of w32 order 1
    ++ bytes_of w64 order 0 ++ bytes_of w64 order HEADER_BYTES

-- the rest of one with so many program headers: e_shoff, e_flags, e_ehsize, e_phentsize, e_phnum, e_shentsize, e_shnum and e_shstrndx
unfoldable pub header_rest : ℕ → ℕ → List ℕ
header_rest order count =
    bytes_of w64 order 0 ++ bytes_of w32 order 0 ++ bytes_of w16 order HEADER_BYTES
    ++ bytes_of w16 order PROGRAM_HEADER_BYTES ++ bytes_of w16 order count ++ bytes_of w16 order 0
    ++ bytes_of w16 order 0 ++ bytes_of w16 order 0

-- the header
abbrev pub elf_header : ℕ → ℕ → List ℕ
elf_header order count = header_front order ++ header_rest order count

-- a program header: p_type, p_flags, p_offset, p_vaddr, p_paddr, p_filesz, p_memsz and p_align
unfoldable pub header_bytes : ℕ → ℕ → ℕ → ℕ → ℕ → List ℕ
header_bytes order kind offset address size =
    bytes_of w32 order kind ++ bytes_of w32 order 0 ++ bytes_of w64 order offset
    ++ bytes_of w64 order address ++ bytes_of w64 order 0 ++ bytes_of w64 order size
    ++ bytes_of w64 order size ++ bytes_of w64 order 0

-- the program headers of segments whose words stand one behind the other from an offset on
abbrev pub segment_headers : ℕ → ℕ → List Segment → List ℕ
segment_headers order offset [] = []
segment_headers order offset (s ∷ ss) =
    header_bytes order LOAD_SEGMENT offset s.start (8 * length s.words)
    ++ segment_headers order (offset + 8 * length s.words) ss

-- the bytes of the note of so many ids
abbrev pub note_size : ℕ → ℕ
note_size count = NOTE_FRONT_BYTES + padded (length NOTE_NAME) + 8 * count

-- the note: its two sizes, its type, its name with three bytes of padding, and the ids
unfoldable pub note_bytes : ℕ → List ℕ → List ℕ
note_bytes order ids =
    bytes_of w32 order (length NOTE_NAME) ++ bytes_of w32 order (8 * length ids)
    ++ bytes_of w32 order NOTE_TYPE ++ NOTE_NAME ++ 0 ∷ 0 ∷ 0 ∷ [] ++ words_in order ids

-- the place of the note: behind the header and the program headers of the note and of so many segments
abbrev pub note_place : ℕ → ℕ
note_place segments = HEADER_BYTES + PROGRAM_HEADER_BYTES * (segments + 1)

-- the one spelling of a core
abbrev pub elf_bytes : CoreImage → List ℕ
elf_bytes c =
    let count = length c.segments in let size = note_size (length c.contexts) in
    elf_header c.order (count + 1)
    ++ header_bytes c.order NOTE_SEGMENT (note_place count) 0 size
    ++ segment_headers c.order (note_place count + size) c.segments
    ++ note_bytes c.order c.contexts
    ++ flat_map (λ s. words_in c.order s.words) c.segments
