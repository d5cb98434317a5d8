-- Why the words of a memory give no layout.
use Rattle.std.specs.Prelude.{◌≡◌, ℕ, ◌+◌, ◌*◌, ◌%◌, ◌^◌, ◌<◌, List, codes, Some, None, IsSome}
use Rattle.omi_layout.specs.declared.fault.LayoutFault.{LayoutFault}
use Rattle.omi_layout.specs.declared.reading.LayoutError.{LayoutError}
use Rattle.omi_layout.specs.declared.reading.LayoutError.TheVariants.{NoSymbol, Unmapped, Refused}
use Rattle.omi_layout.specs.declared.limits.TheConstants.{TABLE_WORDS}
use Rattle.omi_word.specs.Words.{Words}
use Rattle.omi_word.specs.SymbolTable.{words_from, symbol_in}
use Rattle.omi_layout.specs.Given.{wrapped}
use Rattle.omi_layout.specs.Valid.{RefusesTable, word_named}

-- the byte address of a word of the table at an address
abbrev pub table_address : ℕ → ℕ → ℕ
table_address address at = (address + 8 * at) % 2 ^ 64

-- the first word of the table that isn't mapped
pub record IsUnmapped (words : Words) (addr : ℕ) : Type 0 where
  pub address : ℕ
  pub symbol : symbol_in words (codes "omi_layout") ≡ Some address
  pub at : ℕ
  pub within : at < TABLE_WORDS
  pub is : addr ≡ table_address address at
  pub none : words addr ≡ None
  pub before : (j : ℕ) → j < at → IsSome (words (table_address address j))

-- the table is refused for this fault, which names the word at this address
pub record IsLayoutRefused (words : Words) (addr : ℕ) (fault : LayoutFault) : Type 0 where
  pub address : ℕ
  pub symbol : symbol_in words (codes "omi_layout") ≡ Some address
  pub table : List ℕ
  pub read : words_from (wrapped words) address TABLE_WORDS ≡ Some table
  pub refused : RefusesTable table fault
  pub is : addr ≡ table_address address (word_named fault)

-- the words give no layout, for this cause
abbrev pub GivesNone : Words → LayoutError → Type 0
GivesNone words NoSymbol = symbol_in words (codes "omi_layout") ≡ None
GivesNone words (Unmapped addr) = IsUnmapped words addr
GivesNone words (Refused addr fault) = IsLayoutRefused words addr fault
