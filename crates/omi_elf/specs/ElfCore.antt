-- What an ELF core file stands for.
use Rattle.std.specs.Prelude.{◌≡◌, ◌↔◌, ℕ, List, Ok}
use Rattle.omi_corefile.specs.declared.core_image.CoreImage.{CoreImage}
use Rattle.omi_elf.specs.Header.{order_of}
use Rattle.omi_elf.specs.Notes.{contexts_of}
use Rattle.omi_elf.specs.Segments.{IsSpelledAt, IsWordAt}
use Rattle.omi_elf.specs.Table.{judgement}

-- The file stands for a core: no row of the table tells a fault, the core has the file's order, its contexts are the ids of the first note
-- that holds some, and it has a word at an address exactly where a kept segment spells it there. As neighbouring segments of a core have a
-- gap, kept segments that touch are one of its segments.
--
-- That no row tells a fault says, in the words of the System V ABI: the file has at most 16,777,216 bytes and begins with 7f 45 4c 46,
-- EI_CLASS is ELFCLASS64, EI_DATA is ELFDATA2LSB or ELFDATA2MSB, e_type is ET_CORE, e_phentsize is 56, and the file has the whole header
-- and all e_phnum program headers from e_phoff on. A segment is kept where its p_type is PT_LOAD, its p_vaddr is at least 0x10000 and below
-- 2^47, and its p_filesz is at least 8; what is over a multiple of 8 bytes of it is left away. The file has all bytes of each kept segment
-- from its p_offset on, its p_vaddr is a multiple of 8, no two of them share an address, together they have at most 1,048,576 words, and
-- they are at most 64 segments, those that touch counted as one. Some note of a PT_NOTE segment has n_namesz 5, n_type 1 and the name
-- "OMPD", the file does not end inside a note up to the first such one, and that one's description lists at most 64 ids of eight bytes,
-- which rise strictly.
pub record ElfCore (bytes : List ℕ) (c : CoreImage) : Type 0 where
  pub faultless : judgement bytes ≡ Ok tt
  pub order : c.order ≡ order_of bytes
  pub contexts_are : c.contexts ≡ contexts_of bytes
  pub words : (address word : ℕ) → IsWordAt c.segments address word ↔ IsSpelledAt bytes address word
