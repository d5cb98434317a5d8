-- One of two, by a test.
use Rattle.std.proofs.Common.{Bool, true, false, if◌then◌else◌}

-- what holds of both
pub one_of : {A : Type 0} (P : A → Type 0) (b : Bool) (x y : A) → P x → P y → P (if b then x else y)
one_of P true x y one other = one
one_of P false x y one other = other

-- and of two pairs, where one test chooses in both
pub paired : {A B : Type 0} (P : A → B → Type 0) (b : Bool) (v w : A) (x y : B) → P v x → P w y
    → P (if b then v else w) (if b then x else y)
paired P true v w x y one other = one
paired P false v w x y one other = other
