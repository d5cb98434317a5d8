-- The eight bytes of a word. In order 0 the lowest byte comes first, in order 1 the highest does.
use Rattle.std.specs.Prelude.{ℕ, Bool, ◌==◌, nat_le, List, if◌then◌else◌}
use Rattle.std.specs.Int.{w64, to_le_bytes, to_be_bytes, from_le_bytes, from_be_bytes}

-- there are two orders
abbrev pub is_order : ℕ → Bool
is_order order = nat_le order 1

-- the bytes of a word in this order
abbrev pub word_bytes : ℕ → ℕ → List ℕ
word_bytes order word = if order == 0 then to_le_bytes w64 word else to_be_bytes w64 word

-- the number of eight bytes in this order
abbrev pub number_of : ℕ → List ℕ → ℕ
number_of order bytes = if order == 0 then from_le_bytes w64 bytes else from_be_bytes w64 bytes
