use Rattle.std.proofs.Common.{◌≡◌, subst, sym, true, List, ℕ, ◌<◌, ◌^◌}
use Rattle.std.specs.Str.Parse.{IsNumeral, digits_value, without_leading_plus}
use Rattle.omi_line.specs.Number.{is_decimal_text}
use Rattle.omi_line.proofs.Digits.{number_past, numeral_is_text}
use Rattle.omi_line.proofs.numbers.number_of.Goals as goal

pub returns-in_default : goal.returns-in_default
returns-in_default c =
    absurd
    (c.in_default.ensures.cases.0 (numeral_is_text c.args.bytes.now (sym c.if-not-is_numeral.ensures)))

pub returns-in_default-parse : goal.returns-in_default-parse
returns-in_default-parse c =
    let is : is_decimal_text c.args.bytes.now ≡ true = sym c.if-not-is_numeral.ensures in
    number_past c.args.bytes.now c.args.least c.args.most is c.ranges.most.fits
    (subst (λ (text : List ℕ). IsNumeral 10 (without_leading_plus text) × (digits_value 10 (without_leading_plus text) < 2 ^ 64) → ⊥) c.in-Ok.ensures.cases.0 c.in_default-parse.ensures.value.0)
