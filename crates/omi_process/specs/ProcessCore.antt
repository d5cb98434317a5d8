-- What the core file of a process stands for.
use Rattle.std.specs.Prelude.{◌≡◌, ◌≢◌, ◌↔◌, ℕ, Bool, false, List, None, Some}
use Rattle.omi_word.specs.Words.{Words}
use Rattle.omi_corefile.specs.declared.core_image.CoreImage.{CoreImage}
use Rattle.omi_elf.specs.ElfCore.{ElfCore}
use Rattle.omi_elf.specs.Header.{e_phnum, order_of}
use Rattle.omi_elf.specs.Segments.{IsWordAt}
use Rattle.omi_process.specs.Ids.{listed}
use Rattle.omi_process.specs.Table.{first_of, rows}
use Rattle.omi_process.specs.Words.{HasWord, is_cut_off, words_of}
use Rattle.omi_process.specs.declared.listed.Listed.{Listed}
use Rattle.omi_process.specs.declared.listed.Listed.TheVariants.{Contexts}
use Rattle.omi_process.specs.declared.limits.TheConstants.{MANY_HEADERS}

-- The file stands for a process: no row of the table tells a fault; the words are those that a segment has and the file has too; and the ids are
-- those of the note of ours, or else of the threads.
--
-- That no row tells a fault says, in the words of the System V ABI: the file begins with 7f 45 4c 46, EI_CLASS is ELFCLASS64, EI_DATA is
-- ELFDATA2LSB or ELFDATA2MSB, e_type is ET_CORE, e_phentsize is 56, e_phnum is not PN_XNUM, and the file has the whole header and all e_phnum
-- program headers from e_phoff on. It does not end inside a note of a PT_NOTE segment up to the first one with n_namesz 5, n_type 1 and the name
-- "OMPD". No two PT_LOAD segments that are looked at have a word of one address. Where there is such a note, its description lists at most 64 ids
-- of eight bytes, which rise strictly. Where there is none, there is a note of type NT_PRSTATUS under the name "CORE", and each of these has a pr_pid above 0.
--
-- The file may have any length below 2^63, and it may end inside a segment, as one does that was written to a full disk: then `cut_off` is true.
pub record ProcessCore (bytes : List ℕ) (order : ℕ) (words : Words) (ids : Listed) (cut_off : Bool) : Type 0 where
  pub faultless : first_of (rows bytes) ≡ None
  pub order_is : order ≡ order_of bytes
  pub words_are : (address word : ℕ) → (words address ≡ Some word) ↔ HasWord bytes address word
  pub ids_are : ids ≡ listed bytes
  pub end_is : cut_off ≡ is_cut_off bytes

-- Each ELF core file whose number of program headers isn't PN_XNUM is the core of a process: with the words of the core for which it stands, and
-- with that one's contexts.
abbrev pub AcceptsElfCores : Type 0
AcceptsElfCores = (bytes : List ℕ) (c : CoreImage) → ElfCore bytes c → e_phnum bytes ≢ MANY_HEADERS
    → (words : Words) → ((address word : ℕ) → (words address ≡ Some word) ↔ IsWordAt c.segments address word)
    → ProcessCore bytes c.order words (Contexts c.contexts) false

-- The words, the order, the ids and the end of a file are those of one process.
pub record IsOneProcess (bytes : List ℕ) : Type 0 where
  pub is : ProcessCore bytes (order_of bytes) (words_of bytes) (listed bytes) (is_cut_off bytes)
  pub only : (order : ℕ) (others : Words) (ids : Listed) (cut_off : Bool) → ProcessCore bytes order others ids cut_off
      → (address : ℕ) → others address ≡ words_of bytes address

-- Each file in which no row tells a fault is the core of one process: there are words of it, and no others.
abbrev pub EachIsOneProcess : Type 0
EachIsOneProcess = (bytes : List ℕ) → first_of (rows bytes) ≡ None → IsOneProcess bytes
