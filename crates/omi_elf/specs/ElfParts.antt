-- What is read of an ELF core file: its order, its contexts and its segments, of which those that touch are joined.
use Rattle.std.specs.Prelude.{ℕ, List, Result, Ok}
use Rattle.omi_corefile.specs.Refusals.{Parts}
use Rattle.omi_corefile.specs.declared.segment.Segment.{Segment}
use Rattle.omi_elf.specs.Header.{order_of, kept_segments}
use Rattle.omi_elf.specs.Notes.{contexts_of}
use Rattle.omi_elf.specs.Segments.{by_start}
use Rattle.omi_elf.specs.Gathered.{gathered}
use Rattle.omi_elf.specs.Table.{ElfRefusal, ◌>>=◌, judgement}

-- the segments of a file
abbrev pub segments_in : List ℕ → List Segment
segments_in bytes = gathered (order_of bytes) bytes (by_start (kept_segments bytes))

abbrev pub parts_in : List ℕ → Parts
parts_in bytes = record { order = order_of bytes; contexts = contexts_of bytes; segments = segments_in bytes }

-- these parts, or the first fault that a row of the table tells
abbrev pub elf_reading : List ℕ → Result Parts ElfRefusal
elf_reading bytes = judgement bytes >>= λ _. Ok (parts_in bytes)
