-- What digits stand for, as `parse` of std says it.
use Rattle.std.proofs.Common.{◌≡◌, ℕ, ◌<◌, ◌≤◌, true, List, length, arith, rules, Option, Result, Ok, Err, ⊎_elim, subst, sym, ◌^◌, IfSome, IfNone}
use Rattle.std.proofs.lemmas.Bool.{cases_lt}
use Rattle.std.proofs.lemmas.List.{get_or_past}
use Rattle.std.proofs.lemmas.Str.Parse.{digit_at}
use Rattle.std.specs.Result.{OkIff, result_ok}
use Rattle.std.proofs.lemmas.Str.{IsUtf8-from_ascii}
use Rattle.std.proofs.lemmas.Str.Parse.{IsNumeralModel, numerals_by_fold}
use Rattle.std.specs.List.{list_all}
use Rattle.std.specs.Str.{IsAscii, IsUtf8}
use Rattle.omi_script.specs.Names.{is_digit}
use Rattle.omi_script.specs.Numbers.{value_after}

pub numerals : IsNumeralModel (λ ds. list_all is_digit ds ≡ true) (value_after 0)
numerals = numerals_by_fold _ (search rules) value_after (search rules)

-- digits are ASCII
pub IsAscii-from_digits : (ds : List ℕ) → list_all is_digit ds ≡ true → IsAscii ds
IsAscii-from_digits ds h i =
    ⊎_elim
    (λ l. let d = digit_at ds i (numerals.to ds h) l in omega arith)
    (λ l. let e = get_or_past ds i 0 l in omega arith)
    (cases_lt i (length ds))

pub IsUtf8-from_digits : (ds : List ℕ) → list_all is_digit ds ≡ true → IsUtf8 ds
IsUtf8-from_digits ds h = IsUtf8-from_ascii ds (IsAscii-from_digits ds h)

-- a parsed number is the value, where it fits
pub parsed_some : {E : Type 0} (r : Result ℕ E) (o : Option ℕ) (n v : ℕ) → OkIff r ((0 < n) × (v < 2 ^ 64)) v
    → o ≡ result_ok r → IfSome o (λ x. x ≡ v)
parsed_some (Ok x) o n v h e = subst (λ p. IfSome p (λ y. y ≡ v)) (sym e) h.1
parsed_some (Err x) o n v h e = subst (λ p. IfSome p (λ y. y ≡ v)) (sym e) tt

-- there is none only where it does not fit
pub parsed_none : {E : Type 0} (r : Result ℕ E) (o : Option ℕ) (n v : ℕ) → 0 < n
    → OkIff r ((0 < n) × (v < 2 ^ 64)) v → o ≡ result_ok r → IfNone o (2 ^ 64 ≤ v)
parsed_none (Ok x) o n v some h e = subst (λ p. IfNone p (2 ^ 64 ≤ v)) (sym e) tt
parsed_none (Err x) o n v some h e =
    subst (λ p. IfNone p (2 ^ 64 ≤ v)) (sym e)
    (⊎_elim (λ l. absurd (h (some, l))) (λ l. l) (cases_lt v (2 ^ 64)))
