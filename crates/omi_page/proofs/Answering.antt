-- Facts about an answer.
use Rattle.std.proofs.Common.{◌≡◌, ℕ, false, List, ◌++◌, length, take, OnOk, Result, Ok, Err, ap, ◌∙◌}
use Rattle.std.specs.Result.{is_err}
use Rattle.std.proofs.Math.Seq.{take-append_seam}

-- a fact of an `Ok` gives another
pub on_ok : {T E : Type 0} (r : Result T E) (P Q : Type 0) → (P → Q) → OnOk r P → OnOk r Q
on_ok (Ok x) P Q f p = f p
on_ok (Err e) P Q f p = tt

-- a fact of an answer that is no `Err`
pub not_err : {T E : Type 0} (r : Result T E) (P : Type 0) → is_err r ≡ false → OnOk r P → P
not_err (Ok x) P is p = p
not_err (Err e) P is p = absurd cc

-- what a whole buffer holds after it was lent
pub lent_whole : (n : ℕ) (items rest : List ℕ) → n ≡ length items → take n (items ++ rest) ≡ items
lent_whole n items rest is = ap (λ k. take k (items ++ rest)) is ∙ take-append_seam items rest
