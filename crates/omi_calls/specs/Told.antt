-- What callbacks may tell of a target: the order of a word's bytes, its words and its symbols, and which reads fail.
use Rattle.std.specs.Prelude.{◌==◌, ℕ, Bool, ◌%◌, List, Option, None, if◌then◌else◌}
use Rattle.omi_word.specs.Words.{Words}
use Rattle.omi_calls.specs.declared.callbacks.Sizes.{Sizes}

-- the address of each symbol that there is
abbrev pub Symbols : Type 0
Symbols = List ℕ → Option ℕ

-- each part is told or untold, but for the sizes of the basic types, which always are
pub record Told : Type 0 where
  -- 0 where the lowest byte of a word comes first, 1 where the highest does
  pub order : Option ℕ
  -- the target's words, by those that are not told: where all are told, those make no difference
  pub words : Words → Option Words
  pub symbols : Option Symbols
  -- the addresses at which each read fails, where it depends on the address alone
  pub fails : Option (ℕ → Bool)
  pub sizes : Sizes

-- the word at an address, which is a multiple of 8
abbrev pub aligned_word_at : Words → ℕ → Option ℕ
aligned_word_at words addr = if addr % 8 == 0 then words addr else None
