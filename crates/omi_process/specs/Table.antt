-- The table of faults: what is judged, in the order in which it is judged, with the place that each fault is told at.
use Rattle.std.specs.Prelude.{◌≡◌, ℕ, ◌==◌, List, [], ◌∷◌, length, Option, Some, None, Ok, Err, if◌then◌else◌}
use Rattle.omi_elf.specs.Header.{e_phnum, order_of}
use Rattle.omi_elf.specs.Notes.{NotePlace, description_place, note_found}
use Rattle.omi_elf.specs.Table.{Judged, header_rows, judged_note, notes_row, program_headers_row}
use Rattle.omi_elf.specs.declared.fault.ElfFault.TheVariants.{Overlap}
use Rattle.omi_elf.specs.declared.program_header.ProgramHeader.{ProgramHeader}
use Rattle.omi_process.specs.Ids.{first_untold, statuses}
use Rattle.omi_process.specs.Words.{first_overlap, segments_of}
use Rattle.omi_process.specs.declared.fault.ProcessFault.{ProcessFault}
use Rattle.omi_process.specs.declared.fault.ProcessFault.TheVariants.{Elf, ManyHeaders, NoThreads, BadThread}
use Rattle.omi_process.specs.declared.limits.TheConstants.{MANY_HEADERS, MANY_HEADERS_PLACE, MOST_BYTES}

-- a place and what is wrong there
abbrev pub ProcessRefusal : Type 0
ProcessRefusal = ℕ × ProcessFault

-- what a row of the table tells: nothing, or a fault
abbrev pub Row : Type 0
Row = Option ProcessRefusal

-- a row of the table of ELF cores
abbrev pub as_elf : Judged → Row
as_elf (Ok x) = None
as_elf (Err refusal) = Some (refusal.0, Elf refusal.1)

-- the header's fields are those of an ELF core, of a file whose places are all numbers of an `off_t`
abbrev pub front : List ℕ → Row
front bytes = as_elf (header_rows MOST_BYTES bytes (length bytes))

-- PN_XNUM: how many program headers there are stands elsewhere
abbrev pub many_headers : List ℕ → Row
many_headers bytes = if e_phnum bytes == MANY_HEADERS then Some (MANY_HEADERS_PLACE, ManyHeaders) else None

-- the file has the program headers whole, and the notes that are read
abbrev pub headers : List ℕ → Row
headers bytes = as_elf (program_headers_row bytes)

abbrev pub whole_notes : List ℕ → Row
whole_notes bytes = as_elf (notes_row bytes)

-- no word stands in two segments
abbrev pub overlap_of : Option ProgramHeader → Row
overlap_of None = None
overlap_of (Some h) = Some (h.start_place, Elf (Overlap h.p_vaddr))

abbrev pub overlap : List ℕ → Row
overlap bytes = overlap_of (first_overlap (segments_of bytes))

-- the notes of threads are some, and each of them tells one
abbrev pub untold : List ℕ → Option ℕ → Row
untold bytes None = None
untold bytes (Some at) =
    let place = description_place (order_of bytes) bytes at in Some (place, BadThread place)

abbrev pub threads : List ℕ → List ℕ → Row
threads bytes [] = Some (0, NoThreads)
threads bytes (at ∷ more) = untold bytes (first_untold (order_of bytes) bytes (at ∷ more))

-- the note of ours lists ids, where there is one, and else the notes of threads do
abbrev pub ids_by : List ℕ → Option NotePlace → Row
ids_by bytes None = threads bytes (statuses bytes)
ids_by bytes (Some note) = as_elf (judged_note bytes (Some note))

abbrev pub ids : List ℕ → Row
ids bytes = ids_by bytes (note_found bytes)

-- the table
abbrev pub rows : List ℕ → List Row
rows bytes = front bytes ∷ many_headers bytes ∷ headers bytes ∷ whole_notes bytes ∷ overlap bytes ∷ ids bytes ∷ []

-- the first fault that a row tells
abbrev pub first_of : List Row → Row
first_of [] = None
first_of (None ∷ more) = first_of more
first_of (Some refusal ∷ more) = Some refusal

-- the file is no core of a process, by this fault at this place
abbrev pub ProcessRefused : List ℕ → ℕ → ProcessFault → Type 0
ProcessRefused bytes at why = first_of (rows bytes) ≡ Some (at, why)
