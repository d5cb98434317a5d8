-- Digits without a leading 0 are how std writes their number, and what it writes is such digits.
use Rattle.std.proofs.Common.{◌≡◌, ℕ, ◌<◌, ◌≤◌, ◌+◌, ◌^◌, Bool, true, false, not, ◌&&◌, ◌||◌, ◌==◌, List, [], ◌∷◌, length, refl, sym, ap, ◌∙◌, arith, ⊎_elim}
use Rattle.std.specs.Prelude.{nat_le, slice_index}
use Rattle.std.specs.Fmt.{decimal}
use Rattle.std.specs.List.{list_all}
use Rattle.std.proofs.lemmas.Bool.{cases_lt, leb-true, le-leb, or_right, eqb-true}
use Rattle.std.proofs.lemmas.Bool.Decides.{nat_tests}
use Rattle.std.proofs.lemmas.Fmt.{digits_decimal, decimal_nonempty, decimal_digit, first_decimal, decimal-digits_value}
use Rattle.omi_script.specs.Names.{is_digit}
use Rattle.omi_script.specs.Numbers.{is_decimal, value_of}
use Rattle.omi_script.proofs.Conjunctions.{and_left, and_right, and_true}
use Rattle.omi_script.proofs.NumberLemmas.{numerals}

-- a number that is written is digits
pub digits-decimal : (n : ℕ) → n < 2 ^ 64 → list_all is_digit (decimal n) ≡ true
digits-decimal n h = digits_decimal numerals n h

pub some_digit : (n : ℕ) → n < 2 ^ 64 → nat_le 1 (length (decimal n)) ≡ true
some_digit n h =
    let l : 0 < length (decimal n) = decimal_nonempty n h in le-leb 1 (length (decimal n)) (omega arith)

above_zero : (b : ℕ) → 48 < b → not (b == 48) ≡ true
above_zero b h = grind (arith, nat_tests)

no_leading_zero : (n : ℕ) → n < 2 ^ 64
    → (length (decimal n) == 1 || not (slice_index (decimal n) 0 == 48)) ≡ true
no_leading_zero n h =
    ⊎_elim
    (λ l. let zero_digit : decimal n ≡ (48 + n) ∷ [] = decimal_digit n (omega arith) in ap (λ ds. length ds == 1 || not (slice_index ds 0 == 48)) zero_digit)
    (λ l. or_right (length (decimal n) == 1) _ (above_zero (slice_index (decimal n) 0) (first_decimal n (omega arith) h)))
    (cases_lt n 1)

-- and has no leading 0
pub is_decimal-decimal : (n : ℕ) → n < 2 ^ 64 → is_decimal (decimal n) ≡ true
is_decimal-decimal n h =
    and_true (nat_le 1 (length (decimal n)) && list_all is_digit (decimal n))
    (length (decimal n) == 1 || not (slice_index (decimal n) 0 == 48))
    (and_true (nat_le 1 (length (decimal n))) (list_all is_digit (decimal n)) (some_digit n h) (digits-decimal n h))
    (no_leading_zero n h)

-- a leading 0 stands alone
alone : (word : List ℕ) → (length word == 1 || not (slice_index word 0 == 48)) ≡ true
    → slice_index word 0 ≡ 48 → length word ≡ 1
alone word h e = by_test (length word == 1) refl
  where
    by_test : (b : Bool) → (length word == 1) ≡ b → length word ≡ 1
    by_test true k = eqb-true (length word) 1 k
    by_test false k =
        let no : not (slice_index word 0 == 48) ≡ true =
        sym (ap (λ b. b || not (slice_index word 0 == 48)) k) ∙ h in
        let yes : not (slice_index word 0 == 48) ≡ false = ap (λ n. not (n == 48)) e in
        absurd (cc (no, yes))

-- digits without a leading 0 are how their number is written
pub written : (word : List ℕ) → value_of word < 2 ^ 64 → is_decimal word ≡ true
    → decimal (value_of word) ≡ word
written word small h =
    let some : Bool = nat_le 1 (length word) in
    let all : Bool = list_all is_digit word in
    let lead : Bool = length word == 1 || not (slice_index word 0 == 48) in
    let first : (some && all) ≡ true = and_left (some && all) lead h in
    let long : 1 ≤ length word = leb-true 1 (length word) (and_left some all first) in
    decimal-digits_value numerals word (and_right some all first) (omega arith)
    (alone word (and_right (some && all) lead h)) small
