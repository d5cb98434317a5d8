-- What a text of decimal digits is read as.
use Rattle.std.proofs.Common.{◌≡◌, ◌<◌, ◌≤◌, ◌^◌, ◌&&◌, ◌+◌, ℕ, Bool, true, false, cond, List, [], ◌∷◌, length, refl, subst, arith, Some, None}
use Rattle.std.specs.Prelude.{nat_le}
use Rattle.std.specs.List.{list_all}
use Rattle.std.specs.Char.{digit_value, is_ascii_digit}
use Rattle.std.specs.Str.{IsUtf8}
use Rattle.std.specs.Str.Parse.{AllDigits, IsNumeral, digits_value, without_leading_plus}
use Rattle.std.proofs.lemmas.Fmt.{IsAscii-from_digits}
use Rattle.std.proofs.lemmas.Str.{IsUtf8-from_ascii, digit_value_digit}
use Rattle.std.proofs.Common.{inl, inr}
use Rattle.std.proofs.lemmas.Bool.{cases_lt}
use borrow.Author.Tests.{leb-true, lt-leb, ltb-true, ne_eqb, both_ways}
use Rattle.omi_line.specs.Number.{is_decimal_text, number_between}

-- the parts of a test that passes
pub both : (a b : Bool) → (a && b) ≡ true → (a ≡ true) × (b ≡ true)
both true b is = (refl, is)
both false b is = absurd (both_ways false refl is)

pub digit_is_low : (byte : ℕ) → is_ascii_digit byte ≡ true → digit_value byte < 10
digit_is_low byte is =
    let parts = both (nat_le 48 byte) (nat_le byte 57) is in
    let above : 48 ≤ byte = leb-true 48 byte parts.0 in
    let below : byte ≤ 57 = leb-true byte 57 parts.1 in
    let sum : digit_value byte + 48 ≡ byte = digit_value_digit byte (above, below) in
    omega arith

pub digits_low : (bytes : List ℕ) → list_all is_ascii_digit bytes ≡ true → AllDigits 10 bytes
digits_low [] is = tt
digits_low (byte ∷ bytes) is =
    let parts = both (is_ascii_digit byte) (list_all is_ascii_digit bytes) is in
    (digit_is_low byte parts.0, digits_low bytes parts.1)

-- a text of digits has no sign
no_sign : (bytes : List ℕ) → list_all is_ascii_digit bytes ≡ true → without_leading_plus bytes ≡ bytes
no_sign [] is = refl
no_sign (byte ∷ bytes) is =
    let parts = both (is_ascii_digit byte) (list_all is_ascii_digit bytes) is in
    let above : 48 ≤ byte = leb-true 48 byte (both (nat_le 48 byte) (nat_le byte 57) parts.0).0 in
    rw (ne_eqb byte 43 (λ same. omega arith)) refl

-- what a number is made of
pub record WritesNumber (text : List ℕ) : Type 0 where
  pub some : 0 < length text
  pub digits : AllDigits 10 text
  pub unsigned : without_leading_plus text ≡ text

pub numeral : (text : List ℕ) → is_decimal_text text ≡ true → WritesNumber text
numeral text is =
    let outer = both _ _ is in
    let inner = both _ _ outer.1 in
    record { some = ltb-true 0 (length text) outer.0; digits = digits_low text inner.1; unsigned = no_sign text inner.1 }

-- a number is text
pub numeral_is_text : (text : List ℕ) → is_decimal_text text ≡ true → IsUtf8 text
numeral_is_text text is = IsUtf8-from_ascii text (IsAscii-from_digits text (numeral text is).digits)

-- a number that can't be read is too great
pub number_past : (text : List ℕ) (least most : ℕ) → is_decimal_text text ≡ true → most < 2 ^ 64
    → (IsNumeral 10 (without_leading_plus text) × (digits_value 10 (without_leading_plus text) < 2 ^ 64) → ⊥)
    → None ≡ number_between text least most
number_past text least most is fits unread =
    let n = numeral text is in
    let small : digits_value 10 text < 2 ^ 64 → ⊥ = λ low.
    subst (λ (bytes : List ℕ). IsNumeral 10 bytes × (digits_value 10 bytes < 2 ^ 64) → ⊥) n.unsigned unread
    ((n.some, n.digits), low) in
    let past : most < digits_value 10 text = elim (cases_lt (digits_value 10 text) (2 ^ 64)) [ inl low ↦ absurd (small low) | inr high ↦ omega arith ] in
    rw (is, lt-leb (digits_value 10 text) most past) (none (nat_le least (digits_value 10 text)))
  where
    none : (low : Bool) → None ≡ cond (low && false) (Some (digits_value 10 text)) None
    none true = refl
    none false = refl
