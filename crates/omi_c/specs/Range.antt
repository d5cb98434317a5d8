-- The words of one range of addresses, and what callbacks over them tell.
use Rattle.std.specs.Prelude.{◌==◌, ◌&&◌, ◌-◌, ◌/◌, ◌%◌, ℕ, List, Some, None, nat_le, slice_get, if◌then◌else◌}
use Rattle.omi_word.specs.Words.{Words}
use Rattle.omi_calls.specs.Told.{Told, aligned_word_at}
use Rattle.omi_calls.specs.Memory.{usual_sizes}
use Rattle.omi_c.specs.declared.range.RangeCalls.{RangeCalls}

-- these words stand one behind another from a byte address on, and no others. From an address that is no multiple of 8 on none does
abbrev pub words_from : ℕ → List ℕ → Words
words_from start words addr =
    if start % 8 == 0 && nat_le start addr then slice_get words ((addr - start) / 8) else None

-- they are all that is mapped
abbrev pub memory_of : ℕ → List ℕ → Words
memory_of start words = aligned_word_at (words_from start words)

abbrev pub told_by_range : ℕ → List ℕ → Told
told_by_range start words = record {
  order = Some 0;
  words = λ _. Some (words_from start words);
  symbols = None;
  fails = None;
  sizes = usual_sizes;
}

abbrev pub told_of_range : RangeCalls → Told
told_of_range calls = told_by_range calls.memory.start calls.memory.words.now
