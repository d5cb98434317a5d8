-- How the words of the kept segments are gathered, from the least address on: segments that touch are joined.
use Rattle.std.specs.Prelude.{ℕ, ◌+◌, ◌*◌, ◌==◌, List, [], ◌∷◌, ◌++◌, length, if◌then◌else◌}
use Rattle.omi_corefile.specs.declared.segment.Segment.{Segment}
use Rattle.omi_elf.specs.declared.program_header.ProgramHeader.{ProgramHeader}
use Rattle.omi_elf.specs.Header.{numbers_from, word_count}

-- the words of a segment
abbrev pub words_of : ℕ → List ℕ → ProgramHeader → List ℕ
words_of order bytes h = numbers_from order bytes h.p_offset (word_count h)

abbrev pub segment_of : ℕ → List ℕ → ProgramHeader → Segment
segment_of order bytes h = record { start = h.p_vaddr; words = words_of order bytes h }

-- a segment with more words at its end
abbrev pub longer : Segment → List ℕ → Segment
longer s words = record { start = s.start; words = s.words ++ words }

-- segments in order of start behind one that is open at its end
abbrev pub gathered_behind : ℕ → List ℕ → Segment → List ProgramHeader → List Segment
gathered_behind order bytes s [] = s ∷ []
gathered_behind order bytes s (h ∷ hs) =
    if s.start + 8 * length s.words == h.p_vaddr
    then gathered_behind order bytes (longer s (words_of order bytes h)) hs
    else s ∷ gathered_behind order bytes (segment_of order bytes h) hs

abbrev pub gathered : ℕ → List ℕ → List ProgramHeader → List Segment
gathered order bytes [] = []
gathered order bytes (h ∷ hs) = gathered_behind order bytes (segment_of order bytes h) hs
