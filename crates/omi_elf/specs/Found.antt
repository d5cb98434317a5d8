-- What reading answers, as the code goes from note to note.
use Rattle.std.specs.Prelude.{◌≡◌, ℕ, suc, ◌+◌, ◌-◌, ◌^◌, ◌%◌, ◌<◌, ◌≤◌, List, [], ◌∷◌, length, take, drop, find, filter, Option, Some, None, Result, Ok, Err}
use Rattle.omi_elf.specs.declared.fault.ElfFault.{ElfFault}
use Rattle.omi_elf.specs.declared.fault.ElfFault.TheVariants.{Short}
use Rattle.omi_elf.specs.declared.fault.ElfError.{ElfError}
use Rattle.omi_elf.specs.declared.fault.ElfError.TheVariants.{Fault, OutOfMemory}
use Rattle.omi_elf.specs.declared.fault.ElfReadError.{ElfReadError}
use Rattle.omi_elf.specs.declared.fault.ElfReadError.TheVariants as read
use Rattle.omi_elf.specs.declared.notes.Note.{Note}
use Rattle.omi_elf.specs.declared.notes.Place.{Place}
use Rattle.omi_elf.specs.declared.notes.Place.TheVariants.{End, There}
use Rattle.std.specs.List.{flat_map}
use Rattle.std.specs.Option.{option_map}
use Rattle.omi_elf.specs.declared.program_header.ProgramHeader.{ProgramHeader}
use Rattle.omi_word.specs.declared.limits.TheConstants.{MEMORY_END}
use Rattle.omi_corefile.specs.declared.limits.TheConstants.{MOST_SEGMENT_WORDS}
use Rattle.omi_elf.specs.declared.limits.TheConstants.{MOST_ELF_BYTES}
use Rattle.omi_elf.specs.declared.header.Header.{Header}
use Rattle.omi_elf.specs.Header.{order_of, e_phoff, e_phnum, is_note_segment, rounded_size, word_count}
use Rattle.omi_elf.specs.Notes.{NotePlace, notes_from, notes_in, is_last_read, is_ours, is_status, n_descsz, description_place}

-- what stands from a place of the file on
abbrev pub IsPieceOf : List ℕ → ℕ → List ℕ → Type 0
IsPieceOf bytes at piece = piece ≡ take (length piece) (drop at bytes)

-- the file's header says this
pub record IsHeaderOf (bytes : List ℕ) (header : Header) : Type 0 where
  pub order_is : header.order ≡ order_of bytes
  pub place : header.phoff ≡ e_phoff bytes
  pub count : header.phnum ≡ e_phnum bytes

-- the file ends inside something that has to be read
pub record IsShort (bytes : List ℕ) (at : ℕ) (why : ElfFault) : Type 0 where
  pub place : at ≡ length bytes
  pub fault : why ≡ Short (length bytes)

-- the place of the note at which a search ended
abbrev pub place_found : Option Note → Option NotePlace
place_found note = option_map (λ n. Some n.at) note

-- our note, none, or the fault of a file that ends inside a note
abbrev pub IsFound : List ℕ → Result (Option Note) ElfReadError → Option NotePlace → Type 0
IsFound bytes (Ok None) found = found ≡ None
IsFound bytes (Ok (Some note)) found = found ≡ Some (Some note.at)
IsFound bytes (Err (read.Fault at why)) found = (found ≡ Some None) × IsShort bytes at why
IsFound bytes (Err read.Failed) found = Unit {0}
IsFound bytes (Err read.OutOfMemory) found = Unit {0}

-- the note at which the search ends, from a place on, with so many bytes of the segment left
abbrev pub last_from : ℕ → List ℕ → ℕ → ℕ → ℕ → Option NotePlace
last_from order bytes most at left = find (is_last_read order bytes) (notes_from order bytes most at left)

-- the note at a place, whose name and type say which it is, and whose description stands where it says, and has as many bytes
pub record IsNoteAt (order : ℕ) (bytes : List ℕ) (at : ℕ) (note : Note) : Type 0 where
  pub at_is : note.at ≡ at
  pub ours : note.ours ≡ is_ours order bytes at
  pub status : note.status ≡ is_status order bytes at
  pub description : note.description ≡ description_place order bytes at
  pub size : note.size ≡ n_descsz order bytes at

-- what stands at a place: no further note, or a note behind which the next one stands so many bytes further
abbrev pub GoesBy : ℕ → List ℕ → ℕ → ℕ → Place → Type 0
GoesBy order bytes at left End = (most : ℕ) → notes_from order bytes (suc most) at left ≡ []
GoesBy order bytes at left (There note step) = IsNoteAt order bytes at note × ((most : ℕ)
    → notes_from order bytes (suc most) at left
    ≡ Some at ∷ notes_from order bytes most (at + step) (left - step))

-- the file ends inside the note there
abbrev pub IsCut : ℕ → List ℕ → ℕ → ℕ → ℕ → ElfFault → Type 0
IsCut order bytes at left place why = IsShort bytes place why × ((most : ℕ)
    → notes_from order bytes (suc most) at left ≡ None ∷ [])

abbrev pub IsPlace : ℕ → List ℕ → ℕ → ℕ → Result Place ElfError → Type 0
IsPlace order bytes at left (Ok place) = GoesBy order bytes at left place
IsPlace order bytes at left (Err (Fault place why)) = IsCut order bytes at left place why
IsPlace order bytes at left (Err OutOfMemory) = Unit {0}

-- the same where the note is read
abbrev pub IsReadPlace : ℕ → List ℕ → ℕ → ℕ → Result Place ElfReadError → Type 0
IsReadPlace order bytes at left (Ok place) = GoesBy order bytes at left place
IsReadPlace order bytes at left (Err (read.Fault place why)) = IsCut order bytes at left place why
IsReadPlace order bytes at left (Err read.Failed) = Unit {0}
IsReadPlace order bytes at left (Err read.OutOfMemory) = Unit {0}

-- the note at which the search ends, in the segments of these program headers
abbrev pub last_in : ℕ → List ℕ → List ProgramHeader → Option NotePlace
last_in order bytes headers =
    find (is_last_read order bytes) (flat_map (notes_in order bytes) (filter is_note_segment headers))

-- the description stands where the note says, and has as many bytes
pub record IsDescribed (order : ℕ) (bytes : List ℕ) (note : Note) : Type 0 where
  pub place : note.description ≡ description_place order bytes note.at
  pub size : note.size ≡ n_descsz order bytes note.at

abbrev pub IsDescribedIfAny : ℕ → List ℕ → Option Note → Type 0
IsDescribedIfAny order bytes None = Unit {0}
IsDescribedIfAny order bytes (Some note) = IsDescribed order bytes note

-- the file of so many bytes has the note up to the end of its description
abbrev pub EndsWithin : ℕ → Note → Type 0
EndsWithin len note = note.description + note.size ≤ len

-- so it has a note at this place, and the place behind that one is no number above 2^64
abbrev pub StaysWithin : ℕ → ℕ → Place → Type 0
StaysWithin len at End = Unit {0}
StaysWithin len at (There note step) = EndsWithin len note × (at + step < 2 ^ 64)

abbrev pub EndsWithinIfAny : ℕ → Option Note → Type 0
EndsWithinIfAny len None = Unit {0}
EndsWithinIfAny len (Some note) = EndsWithin len note

-- a file of so many bytes has all bytes of a segment
pub record IsReadable (len : ℕ) (h : ProgramHeader) : Type 0 where
  pub within : h.p_offset + rounded_size h ≤ len

-- the end of a segment is no number above 2^64, and the words of all together aren't either
pub record IsBounded (h : ProgramHeader) : Type 0 where
  pub few : word_count h ≤ MOST_ELF_BYTES
  pub low : h.p_vaddr < MEMORY_END

-- What is known of a kept segment of a file of so many bytes that no row refuses: the file has all of its bytes, and it starts at a multiple
-- of 8 below the end of memory and has few words
pub record FitsIn (len : ℕ) (h : ProgramHeader) : Type 0 where
  pub within : h.p_offset + rounded_size h ≤ len
  pub aligned : h.p_vaddr % 8 ≡ 0
  pub low : h.p_vaddr < MEMORY_END
  pub few : word_count h ≤ MOST_SEGMENT_WORDS
