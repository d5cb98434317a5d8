-- What callbacks over a core in memory tell, and which of their calls are to fail.
use Rattle.std.specs.Prelude.{◌==◌, ℕ, ◌+◌, ◌-◌, ◌^◌, Bool, min, Some, None}
use Rattle.std.specs.List.{list_any}
use Rattle.omi_corefile.specs.declared.core_image.CoreImage.{CoreImage}
use Rattle.omi_calls.specs.declared.memory.MemCalls.{MemCalls}
use Rattle.omi_calls.specs.declared.callbacks.Sizes.{Sizes}
use Rattle.omi_calls.specs.Told.{Told, aligned_word_at}
use Rattle.omi_calls.specs.CoreWords.{words_of_segments}
use Rattle.omi_word.specs.SymbolTable.{symbol_in}

-- the sizes of the basic types of a target whose addresses have 64 bits
abbrev pub usual_sizes : Sizes
usual_sizes = record {
  char_size = 1;
  short_size = 2;
  int_size = 4;
  long_size = 8;
  long_long_size = 8;
  pointer_size = 8;
}

-- what a core tells: its order, its words, and the symbols of the table that the words hold
abbrev pub told_by : CoreImage → Told
told_by core = record {
  order = Some core.order;
  words = λ _. Some (words_of_segments core.segments);
  symbols = Some (symbol_in (aligned_word_at (words_of_segments core.segments)));
  fails = None;
  sizes = usual_sizes;
}

-- what callbacks over a core tell
abbrev pub told_of : MemCalls → Told
told_of calls = told_by calls.core

-- how many reads and look-ups were made
abbrev pub calls_made : MemCalls → ℕ
calls_made calls = calls.made

-- how many of them have failed
abbrev pub faults_counted : MemCalls → ℕ
faults_counted calls = calls.faults

-- the call of this number is in the list of those that are to fail
abbrev pub is_to_fail : MemCalls → ℕ → Bool
is_to_fail calls number = list_any (λ listed. listed == number) calls.failing.items

-- a count of calls, one higher, or the greatest number of 64 bits
abbrev pub next_count : ℕ → ℕ
next_count count = min (count + 1) (2 ^ 64 - 1)
