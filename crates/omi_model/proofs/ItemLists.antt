-- A list that is kept with its first item last, and a part of it.
use Rattle.std.proofs.Common.{◌≡◌, ◌≤◌, ◌-◌, ℕ, List, ◌++◌, length, take, drop, sym, ap, ◌∙◌, arith}
use Rattle.std.specs.Prelude.{reverse}
use Rattle.std.proofs.lemmas.List.{reverse-append, length-reverse, length-drop, take-append-drop, drop_at}

-- the front of a list, reversed, is the rest of the list that is reversed
pub reverse-take : {A : Type 0} (xs : List A) (n : ℕ) → n ≤ length xs
    → reverse (take (length xs - n) xs) ≡ drop n (reverse xs)
reverse-take {A} xs n within =
    let k : ℕ = length xs - n in
    let behind : length (reverse (drop k xs)) ≡ n =
    length-reverse (drop k xs) ∙ length-drop k xs ∙ omega (arith, within) in
    let whole : reverse xs ≡ reverse (drop k xs) ++ reverse (take k xs) =
    ap (λ (ys : List A). reverse ys) (sym (take-append-drop k xs)) ∙ reverse-append (take k xs) (drop k xs) in
    sym (ap (drop n) whole ∙ drop_at (reverse (drop k xs)) (reverse (take k xs)) n behind)
