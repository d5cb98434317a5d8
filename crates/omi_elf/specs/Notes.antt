-- The notes of a file. A note is two sizes, a type, a name and a description; name and description are padded to a multiple of 4.
use Rattle.std.specs.Prelude.{ℕ, zero, suc, ◌+◌, ◌-◌, ◌*◌, ◌/◌, Bool, true, ◌&&◌, ◌==◌, nat_eq, nat_lt, List, [], ◌∷◌, length, drop, filter, find, Option, Some, None, if◌then◌else◌}
use Rattle.std.specs.List.{starts_with, flat_map}
use Rattle.std.specs.Int.{w32}
use Rattle.omi_elf.specs.declared.limits.TheConstants.{NOTE_FRONT_BYTES, NOTE_NAME, NOTE_TYPE, STATUS_NAME, STATUS_TYPE}
use Rattle.omi_elf.specs.declared.program_header.ProgramHeader.{ProgramHeader}
use Rattle.omi_elf.specs.Header.{field, numbers_from, order_of, program_headers, is_note_segment}

-- the least multiple of 4 that isn't below
abbrev pub padded : ℕ → ℕ
padded size = 4 * ((size + 3) / 4)

abbrev pub n_namesz : ℕ → List ℕ → ℕ → ℕ
n_namesz order bytes at = field w32 order bytes at

abbrev pub n_descsz : ℕ → List ℕ → ℕ → ℕ
n_descsz order bytes at = field w32 order bytes (at + 4)

abbrev pub n_type : ℕ → List ℕ → ℕ → ℕ
n_type order bytes at = field w32 order bytes (at + 8)

-- how far behind the note's place its description stands, where the description ends, and where the next note stands
abbrev pub to_description : ℕ → List ℕ → ℕ → ℕ
to_description order bytes at = NOTE_FRONT_BYTES + padded (n_namesz order bytes at)

abbrev pub to_end : ℕ → List ℕ → ℕ → ℕ
to_end order bytes at = to_description order bytes at + n_descsz order bytes at

abbrev pub to_next : ℕ → List ℕ → ℕ → ℕ
to_next order bytes at = to_description order bytes at + padded (n_descsz order bytes at)

-- the place of a note, or None where the file ends inside it
abbrev pub NotePlace : Type 0
NotePlace = Option ℕ

-- The notes that stand one behind the other from a place on, where so many bytes of the segment are left. They end where the segment
-- has no room for another one, and where the file ends inside one. A note has bytes, so no file has more notes than bytes: `most`.
abbrev pub notes_from : ℕ → List ℕ → ℕ → ℕ → ℕ → List NotePlace
notes_from order bytes zero at left = []
notes_from order bytes (suc most) at left =
    if nat_lt left NOTE_FRONT_BYTES then []
    else if nat_lt (length bytes) (at + NOTE_FRONT_BYTES) then None ∷ []
    else if nat_lt left (to_end order bytes at) then []
    else if nat_lt (length bytes) (at + to_end order bytes at) then None ∷ []
    else Some at ∷ notes_from order bytes most (at + to_next order bytes at)
    (left - to_next order bytes at)

-- the notes of a segment
abbrev pub notes_in : ℕ → List ℕ → ProgramHeader → List NotePlace
notes_in order bytes h = notes_from order bytes (length bytes) h.p_offset h.p_filesz

-- the notes of a file, in header order
abbrev pub notes : List ℕ → List NotePlace
notes bytes = flat_map (notes_in (order_of bytes) bytes)
    (filter is_note_segment (program_headers bytes))

-- the note has this name, the zero byte that ends it with it, and this type
abbrev pub is_named : List ℕ → ℕ → ℕ → List ℕ → ℕ → Bool
is_named name kind order bytes at = n_namesz order bytes at == length name
    && n_type order bytes at == kind
    && starts_with nat_eq (drop (at + NOTE_FRONT_BYTES) bytes) name

-- it has those of the note that holds native ids
unfoldable pub is_ours : ℕ → List ℕ → ℕ → Bool
is_ours order bytes at = is_named NOTE_NAME NOTE_TYPE order bytes at

-- or those of one that holds the status of a thread
unfoldable pub is_status : ℕ → List ℕ → ℕ → Bool
is_status order bytes at = is_named STATUS_NAME STATUS_TYPE order bytes at

-- no note is read behind the first one of ours, nor behind one inside which the file ends
abbrev pub is_last_read : ℕ → List ℕ → NotePlace → Bool
is_last_read order bytes None = true
is_last_read order bytes (Some at) = is_ours order bytes at

-- the note at which the search for native ids ends, if any
abbrev pub note_found : List ℕ → Option NotePlace
note_found bytes = find (is_last_read (order_of bytes) bytes) (notes bytes)

-- the place of the note's description
abbrev pub description_place : ℕ → List ℕ → ℕ → ℕ
description_place order bytes at = at + to_description order bytes at

-- the ids that the description lists, eight bytes each
abbrev pub ids_of : ℕ → List ℕ → ℕ → List ℕ
ids_of order bytes at =
    numbers_from order bytes (description_place order bytes at) (n_descsz order bytes at / 8)

-- the ids of the note at which the search ended, if that one is whole
abbrev pub ids_found : ℕ → List ℕ → Option NotePlace → List ℕ
ids_found order bytes None = []
ids_found order bytes (Some None) = []
ids_found order bytes (Some (Some at)) = ids_of order bytes at

-- the native ids that a file lists
abbrev pub contexts_of : List ℕ → List ℕ
contexts_of bytes = ids_found (order_of bytes) bytes (note_found bytes)
