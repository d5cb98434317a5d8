-- The symbol table that a memory's words hold. Its first word, at 0x10000, is the number of symbols, at most 16. Five words follow for each: four hold the name, its bytes from the lowest byte of the first word on and zeros after them, and the last holds the address.
use Rattle.std.specs.Prelude.{ℕ, zero, suc, ◌+◌, ◌-◌, Bool, List, [], ◌∷◌, ◌++◌, length, replicate, find, take, slice_index, Option, Some, None, if◌then◌else◌, nat_le}
use Rattle.std.specs.List.{flat_map}
use Rattle.std.specs.Option.{option_map, option_and_then}
use Rattle.std.specs.Int.{w64, to_le_bytes}
use Rattle.std.specs.Str.{bytes_eq}
use Rattle.omi_word.specs.declared.limits.TheConstants.{SYMBOL_COUNT_ADDRESS, FIRST_SYMBOL_ADDRESS, MOST_SYMBOLS, SYMBOL_BYTES}
use Rattle.omi_word.specs.Words.{Words}

-- a symbol as it is stored: its name, filled up with zeros to 32 bytes, and its address
pub record Symbol : Type 0 where
  pub name : List ℕ
  pub address : ℕ

-- so many words from an address on, where each of them is mapped
abbrev pub words_from : Words → ℕ → ℕ → Option (List ℕ)
words_from words addr zero = Some []
words_from words addr (suc n) =
    option_and_then (λ word. option_map (λ more. word ∷ more) (words_from words (addr + 8) n))
    (words addr)

-- the symbol that five words spell
abbrev pub symbol_of : List ℕ → Symbol
symbol_of words =
    record { name = flat_map (to_le_bytes w64) (take 4 words); address = slice_index words 4 }

-- so many symbols from an address on, where each word of them is mapped
abbrev pub symbols_from : Words → ℕ → ℕ → Option (List Symbol)
symbols_from words addr zero = Some []
symbols_from words addr (suc n) =
    option_and_then
    (λ five. option_map (λ more. symbol_of five ∷ more) (symbols_from words (addr + SYMBOL_BYTES) n))
    (words_from words addr 5)

-- the symbols of the table
abbrev pub symbols_in : Words → Option (List Symbol)
symbols_in words =
    option_and_then
    (λ count. if nat_le count MOST_SYMBOLS then symbols_from words FIRST_SYMBOL_ADDRESS count else None)
    (words SYMBOL_COUNT_ADDRESS)

-- the symbol has this name
abbrev pub is_named : List ℕ → Symbol → Bool
is_named name symbol = bytes_eq symbol.name (name ++ replicate (32 - length name) 0)

-- the address of the first symbol with this name
abbrev pub symbol_in : Words → List ℕ → Option ℕ
symbol_in words name =
    option_and_then
    (λ symbols. option_map (λ symbol. symbol.address) (find (is_named name) symbols))
    (symbols_in words)
