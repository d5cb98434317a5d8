-- The bounds of segments, which are read without their words, and where the words of an ELF file's segments stand.
use Rattle.std.specs.Prelude.{◌≡◌, ℕ, ◌+◌, ◌*◌, ◌%◌, ◌^◌, ◌<◌, ◌≤◌, List, map, slice_get, Some, Ok}
use Rattle.omi_word.specs.declared.limits.TheConstants.{MEMORY_END}
use Rattle.omi_corefile.specs.Refusals.{ReadStep, ◌>>=◌, Left, start_at, word_count_at}
use Rattle.omi_elf.specs.Header.{word_count}
use Rattle.omi_elf.specs.declared.program_header.ProgramHeader.{ProgramHeader}
use Rattle.omi_page.specs.declared.span.Span.{Span}

-- a start address and a number of words
abbrev pub bounds_at : ℕ → Left → List ℕ → ReadStep (ℕ × ℕ)
bounds_at len left bytes = do
  start ← start_at len left.0 bytes
  count ← word_count_at len left.1 start.1
  Ok ((start.0, count.0), count.1)

-- Each span ends where a later one starts, or before it. So at most one of them has the word at an address.
abbrev pub AreInOrder : List Span → Type 0
AreInOrder spans = (i j : ℕ) (s later : Span) → i < j → slice_get spans i ≡ Some s → slice_get spans j ≡ Some later
    → s.start + 8 * s.count ≤ later.start

-- the words of each span end within a file of this many bytes
abbrev pub EndWithin : ℕ → List Span → Type 0
EndWithin len spans =
    (k : ℕ) (s : Span) → slice_get spans k ≡ Some s → s.place + 8 * s.count ≤ len

-- a start address, a number of words and a place: those of a span, and those of a segment of an ELF file
abbrev pub span_bounds : Span → ℕ × ℕ × ℕ
span_bounds s = (s.start, s.count, s.place)

abbrev pub segment_bounds : ProgramHeader → ℕ × ℕ × ℕ
segment_bounds h = (h.p_vaddr, word_count h, h.p_offset)

-- a file of so many bytes has all words of a segment, which begins at a multiple of 8 where a program's memory ends, or before
pub record IsSpan (len : ℕ) (h : ProgramHeader) : Type 0 where
  pub within : h.p_offset + 8 * word_count h ≤ len
  pub aligned : h.p_vaddr % 8 ≡ 0
  pub low : h.p_vaddr ≤ MEMORY_END
  pub few : 8 * word_count h < 2 ^ 63

-- each span is where the words of a segment stand
abbrev pub AreBoundsOf : List ProgramHeader → List Span → Type 0
AreBoundsOf hs spans = map span_bounds spans ≡ map segment_bounds hs
