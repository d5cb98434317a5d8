use Rattle.std.proofs.Common.{◌≡◌, ◌++◌, ◌∷◌, [], ℕ, List, ◌/◌, ◌%◌, ◌-◌, false, string_bytes, sym, ap, ◌∙◌, append_assoc, arith}
use Rattle.std.specs.Fmt.{digit_glyph, digits_onto}
use Rattle.omi_frame.proofs.Digits.{last_digit}
use Rattle.omi_frame.proofs.refusal_line.+push_digits.Goals as goal

pub returns-else-number-lt16-clause-added : goal.returns-else-number-lt16-clause-added
returns-else-number-lt16-clause-added t c =
    let n = c.args.number in
    let front : List ℕ = digits_onto (c.args.most - 1) 16 false (n / 16) [] in
    let glyph : List ℕ = digit_glyph false (n % 16) ∷ [] in
    let put : string_bytes c.push_str-else-number-lt16.new.self ≡ string_bytes c.push_digits.new.room ++ c.digit-else-number-lt16.result.now =
    rw c.unwrap-else-number-lt16.ensures at c.push_str-else-number-lt16.ensures.bytes in
    put
    ∙ ap (λ (xs : List ℕ). string_bytes c.push_digits.new.room ++ xs) c.digit-else-number-lt16.ensures
    ∙ ap (λ (xs : List ℕ). xs ++ glyph) c.push_digits.ensures.added
    ∙ append_assoc (string_bytes c.args.room.now) front glyph
    ∙ ap (λ (xs : List ℕ). string_bytes c.args.room.now ++ xs)
    (sym (last_digit c.args.most n (omega arith) (omega arith)))
