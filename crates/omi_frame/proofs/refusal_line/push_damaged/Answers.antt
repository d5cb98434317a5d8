use Rattle.std.proofs.Common.{◌≡◌, ◌++◌, ◌∷◌, [], ℕ, List, false, string_bytes, codes, ap, ◌∙◌, append_assoc, arith}
use Rattle.std.specs.Fmt.{digits_onto}
use Rattle.omi_layout.specs.Named.{field_text}
use Rattle.omi_frame.proofs.Digits.{hexadecimal_is}
use Rattle.omi_frame.proofs.refusal_line.push_damaged.Goals as goal

pub returns : goal.returns
returns c =
    let old : List ℕ = string_bytes c.args.room.now in
    let front : List ℕ = codes "damaged 0x" in
    let digits : List ℕ = digits_onto 16 16 false c.args.addr [] in
    let tail : List ℕ = 32 ∷ (field_text c.args.field ++ 10 ∷ []) in
    let first : string_bytes c.push_all.new.room ≡ old ++ front = c.push_all.ensures.added in
    let second : string_bytes c.push_digits.new.room ≡ (old ++ front) ++ digits =
    c.push_digits.ensures.added ∙ ap (λ (xs : List ℕ). xs ++ digits) first in
    let third : string_bytes c.push_all-2.new.room ≡ ((old ++ front) ++ digits) ++ tail =
    c.push_all-2.ensures.added
    ∙ ap (λ (xs : List ℕ). string_bytes c.push_digits.new.room ++ 32 ∷ (xs ++ 10 ∷ [])) c.field_text.ensures.name
    ∙ ap (λ (xs : List ℕ). xs ++ tail) second in
    third
    ∙ append_assoc (old ++ front) digits tail
    ∙ append_assoc old front (digits ++ tail)
    ∙ ap (λ (xs : List ℕ). old ++ (codes "damaged " ++ (xs ++ tail)))
    (hexadecimal_is c.args.addr (omega arith))
