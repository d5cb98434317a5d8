-- The layout that a memory's words give, and the words of an image in front of the records.
use Rattle.std.specs.Prelude.{◌≡◌, ℕ, ◌+◌, ◌%◌, ◌^◌, ◌<◌, ◌≤◌, List, length, slice_index, codes, Some}
use Rattle.omi_layout.specs.declared.limits.TheConstants.{TABLE_PLACE, TABLE_WORDS, FRONT_WORDS}
use Rattle.omi_layout.specs.Front.{front}
use Rattle.omi_word.specs.Words.{Words, words_of}
use Rattle.omi_word.specs.SymbolTable.{words_from, symbol_in}

-- the words by their addresses modulo 2^64
abbrev pub wrapped : Words → Words
wrapped words = λ addr. words (addr % 2 ^ 64)

-- the words give this layout: there is the symbol, and its address is that of the layout's table
pub record GivesLayout (words : Words) (w : List ℕ) : Type 0 where
  pub address : ℕ
  pub symbol : symbol_in words (codes "omi_layout") ≡ Some address
  pub table : words_from (wrapped words) address TABLE_WORDS ≡ Some w

-- the words of an image in front of the records are those that publishing this layout writes
pub record HasTables (w words : List ℕ) : Type 0 where
  pub long : FRONT_WORDS ≤ length words
  pub symbols : (i : ℕ) → i < TABLE_PLACE → slice_index words i ≡ slice_index front i
  pub table : (i : ℕ) → i < TABLE_WORDS → slice_index words (TABLE_PLACE + i) ≡ slice_index w i

-- an image with these words gives the layout
abbrev pub TablesGive : List ℕ → Type 0
TablesGive w = (words : List ℕ) → HasTables w words → GivesLayout (words_of words) w
