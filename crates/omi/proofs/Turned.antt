-- The eight bytes of a word in the other order.
use Rattle.std.proofs.Common.{◌≡◌, ℕ, List, Option, Some, None, arith, refl, ap, subst, length}
use Rattle.std.specs.Int.{w64, from_be_bytes, from_le_bytes}
use Rattle.std.specs.Option.{option_map}
use Rattle.std.specs.List.{ReversedBelow}
use Rattle.std.proofs.lemmas.Bool.{ne_eqb}
use Rattle.omi_corefile.specs.ByteOrder.{number_of}

-- where an order of 0 is told in place of another, this is the other
pub zero_told : (o : Option ℕ) (order n : ℕ) → option_map (λ _. 0) o ≡ Some order → ((other : ℕ) → o ≡ Some other → other ≡ n)
    → (order ≡ 0) × (o ≡ Some n)
zero_told (Some other) order n told one = (cc, ap (λ x. Some x) (one other refl))
zero_told None order n told one = absurd cc

turned : (old new : List ℕ) → ReversedBelow old new 8 → from_be_bytes w64 old ≡ from_le_bytes w64 new
turned old new back =
    omega (arith, back 0 0 (omega arith), back 1 0 (omega arith), back 2 0 (omega arith), back 3 0 (omega arith), back 4 0 (omega arith), back 5 0 (omega arith), back 6 0 (omega arith), back 7 0 (omega arith))

-- bytes in the order 1 are the same number as these turned, with the lowest first
pub turned_number : (order n : ℕ) (old new : List ℕ) → order ≡ 0 → (n ≡ 0 → ⊥) → length old ≡ 8 → ReversedBelow old new (length old)
    → number_of n old ≡ number_of order new
turned_number order n old new lowest high eight back =
    rw (lowest, ne_eqb n 0 high) (turned old new (subst (λ (len : ℕ). ReversedBelow old new len) eight back))
