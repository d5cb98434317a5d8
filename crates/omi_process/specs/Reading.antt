-- What is read of the core of a process, as the code goes from note to note and from segment to segment.
use Rattle.std.specs.Prelude.{◌≡◌, ℕ, ◌+◌, ◌-◌, ◌*◌, ◌/◌, ◌%◌, ◌<◌, ◌≤◌, min, nat_lt, List, [], ◌∷◌, ◌++◌, Option, Some, None, Contains, flat_map, filter, filter_map, if◌then◌else◌}
use Rattle.omi_word.specs.declared.limits.TheConstants.{MEMORY_END}
use Rattle.omi_elf.specs.Header.{is_note_segment, word_count}
use Rattle.omi_elf.specs.Notes.{NotePlace, is_status, notes_in}
use Rattle.omi_elf.specs.Segments.{word_in_file}
use Rattle.omi_elf.specs.declared.program_header.ProgramHeader.{ProgramHeader}
use Rattle.omi_process.specs.Ids.{pr_pid, tells_thread}
use Rattle.omi_process.specs.Words.{place_of, words_from, words_to}

-- ---- the notes of threads

-- the ids of the threads of all notes, the place of the first note that tells none, or that the file ends inside a note
pub data Gathered : Type 0 where
  Told : List ℕ → Gathered
  Untold : ℕ → Gathered
  Cut : Gathered

-- what the notes at these places add to ids
abbrev pub gathered : ℕ → List ℕ → List ℕ → List NotePlace → Gathered
gathered order bytes ids [] = Told ids
gathered order bytes ids (None ∷ more) = Cut
gathered order bytes ids (Some at ∷ more) =
    if is_status order bytes at
    then (if tells_thread order bytes at then gathered order bytes (ids ++ pr_pid order bytes at ∷ []) more
    else Untold at)
    else gathered order bytes ids more

-- the notes of the segments of these program headers
abbrev pub notes_of : ℕ → List ℕ → List ProgramHeader → List NotePlace
notes_of order bytes headers = flat_map (notes_in order bytes) (filter is_note_segment headers)

-- ---- segments

-- the whole words of a segment that a file of so many bytes has, as a segment of its own
abbrev pub part_at : ℕ → ProgramHeader → ℕ → ProgramHeader
part_at len h place = record h {
  p_offset = place;
  p_vaddr = words_from h;
  p_filesz = 8 * (min (words_to h - words_from h) (len - place) / 8);
}

abbrev pub part_in : ℕ → ProgramHeader → Option ProgramHeader
part_in len h = let place = place_of h (words_from h) in
    if nat_lt len (place + 8) then None else Some (part_at len h place)

abbrev pub parts_in : ℕ → List ProgramHeader → List ProgramHeader
parts_in len hs = filter_map (part_in len) hs

-- these segments have the word at the address
pub record IsSpelledIn (bytes : List ℕ) (segments : List ProgramHeader) (address word : ℕ) : Type 0 where
  pub segment : ProgramHeader
  pub among : Contains segments segment
  pub index : ℕ
  pub inside : index < word_count segment
  pub address_is : address ≡ segment.p_vaddr + 8 * index
  pub word_is : word ≡ word_in_file bytes (segment.p_offset + 8 * index)

-- a file of so many bytes has all words of a segment, which begins at a multiple of 8 where a program's memory ends, or before
pub record Fits (len : ℕ) (h : ProgramHeader) : Type 0 where
  pub within : h.p_offset + 8 * word_count h ≤ len
  pub aligned : h.p_vaddr % 8 ≡ 0
  pub low : h.p_vaddr ≤ MEMORY_END
