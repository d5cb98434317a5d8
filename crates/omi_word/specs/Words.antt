-- The words of a memory, by their addresses.
use Rattle.std.specs.Prelude.{ℕ, ◌==◌, ◌%◌, ◌&&◌, Bool, List, length, Option, Some, None, if◌then◌else◌, nat_le, nat_lt}
use Rattle.omi_word.specs.declared.limits.TheConstants.{FIRST_ADDRESS}
use Rattle.omi_word.specs.Memory.{place_of, word_at}

-- the word at each address at which one stands
abbrev pub Words : Type 0
Words = ℕ → Option ℕ

-- a word of an image stands at this address
abbrev pub is_word : List ℕ → ℕ → Bool
is_word image addr = addr % 8 == 0
    && (nat_le FIRST_ADDRESS addr && nat_lt (place_of addr) (length image))

-- the words of an image, by their addresses
abbrev pub words_of : List ℕ → Words
words_of image addr = if is_word image addr then Some (word_at image addr) else None
