-- What the file of a core tells as a target: the order, the words and the symbols of the core that its bytes are.
use Rattle.std.specs.Prelude.{List, ℕ, Option, Some, None, Result, Ok, Err, if◌then◌else◌}
use Rattle.omi_outside.specs.Outside.{Told as FileTold}
use Rattle.omi_corefile.specs.Refusals.{Parts, reading}
use Rattle.omi_elf.specs.ElfParts.{elf_reading}
use Rattle.omi_elf.specs.Header.{begins_as_elf}
use Rattle.omi_calls.specs.Told.{Told, aligned_word_at}
use Rattle.omi_calls.specs.CoreWords.{words_of_segments}
use Rattle.omi_word.specs.SymbolTable.{symbol_in}
use Rattle.omi_calls.specs.Memory.{usual_sizes}

-- nothing but the sizes of the basic types
abbrev pub told_nothing : Told
told_nothing = record { order = None; words = λ _. None; symbols = None; fails = None; sizes = usual_sizes }

-- what was read of a file, if it is a core
abbrev pub told_by_parts : Option Parts → Told
told_by_parts (Some parts) = record {
  order = Some parts.order;
  words = λ _. Some (words_of_segments parts.segments);
  symbols = Some (symbol_in (aligned_word_at (words_of_segments parts.segments)));
  fails = None;
  sizes = usual_sizes;
}
told_by_parts None = told_nothing

-- the parts that reading gives, if it doesn't refuse the bytes
abbrev pub parts_read : {R : Type 0} → Result Parts R → Option Parts
parts_read (Ok parts) = Some parts
parts_read (Err refusal) = None

-- The parts of the core that bytes are: an ELF core file, where they begin with the four bytes of every ELF file, and else a core file of
-- the format of omi_corefile.
abbrev pub parts_of_bytes : List ℕ → Option Parts
parts_of_bytes bytes =
    if begins_as_elf bytes then parts_read (elf_reading bytes) else parts_read (reading bytes)

-- a file whose bytes aren't told, one that isn't there and one that is no core tell nothing
abbrev pub told_by_file : FileTold → Told
told_by_file (Some (Some bytes)) = told_by_parts (parts_of_bytes bytes)
told_by_file (Some None) = told_nothing
told_by_file None = told_nothing
