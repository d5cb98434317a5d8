-- The search for our note goes from segment to segment.
use Rattle.std.proofs.Common.{◌≡◌, ℕ, suc, ◌+◌, ◌<◌, true, false, List, ◌∷◌, ◌++◌, length, drop, get_or, Option, Some, None, Ok, Err, refl, ap, sym, ◌∙◌}
use Rattle.std.specs.Prelude.{is_some, find, filter}
use Rattle.std.specs.List.{flat_map}
use Rattle.std.proofs.lemmas.List.{drop_more}
use Rattle.std.proofs.lemmas.List.Folds.{find-append}
use Rattle.omi_elf.specs.declared.fault.ElfError.{ElfError}
use Rattle.omi_elf.specs.declared.fault.ElfError.TheVariants.{Fault, OutOfMemory}
use Rattle.omi_elf.specs.declared.fault.ElfReadError.{ElfReadError}
use Rattle.omi_elf.specs.declared.fault.ElfReadError.TheVariants as read
use Rattle.omi_elf.specs.declared.notes.Note.{Note}
use Rattle.omi_elf.specs.Faults.{read_error_of}
use Rattle.omi_elf.specs.declared.program_header.ProgramHeader.{ProgramHeader}
use Rattle.omi_elf.specs.Header.{is_note_segment}
use Rattle.omi_elf.specs.Notes.{NotePlace, notes_in, is_last_read}
use Rattle.omi_elf.specs.Found.{IsFound, IsPlace, IsReadPlace, last_from, last_in}
use Rattle.omi_elf.proofs.NoteSteps.{cut_there}

-- what stands in for a program header that isn't there
abbrev pub no_header : ProgramHeader
no_header = record { start_place = 0; p_type = 0; p_offset = 0; p_vaddr = 0; p_filesz = 0 }

-- where the search ends in one segment
abbrev pub last_of : ℕ → List ℕ → ProgramHeader → Option NotePlace
last_of order bytes h = find (is_last_read order bytes) (notes_in order bytes h)

-- the search ends in the first segment, or goes on behind it
pub last_in-cons : (order : ℕ) (bytes : List ℕ) (h : ProgramHeader) (hs : List ProgramHeader)
    → is_note_segment h ≡ true
    → last_in order bytes (h ∷ hs)
    ≡ find (is_last_read order bytes) (notes_in order bytes h ++ flat_map (notes_in order bytes) (filter is_note_segment hs))
last_in-cons order bytes h hs e = rw e refl

pub ends_here : (order : ℕ) (bytes : List ℕ) (h : ProgramHeader) (hs : List ProgramHeader) (x : NotePlace)
    → is_note_segment h ≡ true → last_of order bytes h ≡ Some x → last_in order bytes (h ∷ hs) ≡ Some x
ends_here order bytes h hs x e f =
    last_in-cons order bytes h hs e
    ∙ find-append (is_last_read order bytes) (notes_in order bytes h) (flat_map (notes_in order bytes) (filter is_note_segment hs))
    ∙ rw f refl

pub goes_on : (order : ℕ) (bytes : List ℕ) (h : ProgramHeader) (hs : List ProgramHeader)
    → is_note_segment h ≡ true → last_of order bytes h ≡ None
    → last_in order bytes (h ∷ hs) ≡ last_in order bytes hs
goes_on order bytes h hs e f =
    last_in-cons order bytes h hs e
    ∙ find-append (is_last_read order bytes) (notes_in order bytes h) (flat_map (notes_in order bytes) (filter is_note_segment hs))
    ∙ rw f refl

pub passes_over : (order : ℕ) (bytes : List ℕ) (h : ProgramHeader) (hs : List ProgramHeader)
    → is_note_segment h ≡ false → last_in order bytes (h ∷ hs) ≡ last_in order bytes hs
passes_over order bytes h hs e = rw e refl

-- the same from a place of the list on
pub ends_at : (order : ℕ) (bytes : List ℕ) (hs : List ProgramHeader) (i : ℕ) (x : NotePlace)
    → i < length hs → is_note_segment (get_or hs i no_header) ≡ true
    → last_of order bytes (get_or hs i no_header) ≡ Some x → last_in order bytes (drop i hs) ≡ Some x
ends_at order bytes hs i x lt e f =
    ap (last_in order bytes) (drop_more hs i no_header lt)
    ∙ ends_here order bytes (get_or hs i no_header) (drop (i + 1) hs) x e f

pub goes_on_at : (order : ℕ) (bytes : List ℕ) (hs : List ProgramHeader) (i : ℕ)
    → i < length hs → is_note_segment (get_or hs i no_header) ≡ true
    → last_of order bytes (get_or hs i no_header) ≡ None
    → last_in order bytes (drop (i + 1) hs) ≡ last_in order bytes (drop i hs)
goes_on_at order bytes hs i lt e f =
    sym (ap (last_in order bytes) (drop_more hs i no_header lt)
    ∙ goes_on order bytes (get_or hs i no_header) (drop (i + 1) hs) e f)

pub passes_over_at : (order : ℕ) (bytes : List ℕ) (hs : List ProgramHeader) (i : ℕ)
    → i < length hs → is_note_segment (get_or hs i no_header) ≡ false
    → last_in order bytes (drop (i + 1) hs) ≡ last_in order bytes (drop i hs)
passes_over_at order bytes hs i lt e =
    sym (ap (last_in order bytes) (drop_more hs i no_header lt)
    ∙ passes_over order bytes (get_or hs i no_header) (drop (i + 1) hs) e)

-- what was found in one segment was found in all
pub found_failed : (bytes : List ℕ) (e : ElfReadError) (f g : Option NotePlace)
    → ((x : NotePlace) → f ≡ Some x → g ≡ Some x) → IsFound bytes (Err e) f → IsFound bytes (Err e) g
found_failed bytes (read.Fault at why) f g h found = (h None found.0, found.1)
found_failed bytes read.Failed f g h found = tt
found_failed bytes read.OutOfMemory f g h found = tt

pub found_here : (bytes : List ℕ) (r : Option Note) (f g : Option NotePlace) → is_some r ≡ true
    → ((x : NotePlace) → f ≡ Some x → g ≡ Some x) → IsFound bytes (Ok r) f → IsFound bytes (Ok r) g
found_here bytes None f g e h found = absurd cc
found_here bytes (Some note) f g e h found = h (Some note.at) found

pub found_none : (bytes : List ℕ) (r : Option Note) (f : Option NotePlace) → is_some r ≡ false
    → IsFound bytes (Ok r) f → f ≡ None
found_none bytes None f e found = found
found_none bytes (Some note) f e found = absurd cc

-- what was judged of a note that was read
pub read_place : (order : ℕ) (bytes : List ℕ) (at left : ℕ) (e : ElfError) → IsPlace order bytes at left (Err e)
    → IsReadPlace order bytes at left (Err (read_error_of e))
read_place order bytes at left (Fault place why) is = is
read_place order bytes at left OutOfMemory is = tt

-- the search in one segment ends where the place ends it
pub found_cut : (order : ℕ) (bytes : List ℕ) (at left most : ℕ) (e : ElfReadError) (f : Option NotePlace) → last_from order bytes (suc most) at left ≡ f
    → IsReadPlace order bytes at left (Err e) → IsFound bytes (Err e) f
found_cut order bytes at left most (read.Fault place why) f is cut =
    (sym is ∙ cut_there order bytes at left most (cut.1 most), cut.0)
found_cut order bytes at left most read.Failed f is cut = tt
found_cut order bytes at left most read.OutOfMemory f is cut = tt
