-- Places in lists: what stands at one, where an element is set or each is mapped.
use Rattle.std.proofs.Common.{◌≡◌, ◌≢◌, ◌<◌, ℕ, zero, suc, List, [], ◌∷◌, slice_get, slice_set, length, map, Option, Some, None, refl, sym, ap, ◌∙◌, arith}

abbrev some_or : {X : Type 0} → X → Option X → X
some_or d None = d
some_or d (Some x) = x

pub one_value : {X : Type 0} → (o : Option X) (x y : X) → o ≡ Some x → o ≡ Some y → x ≡ y
one_value {X} o x y is other = ap (some_or x) (sym is ∙ other)

pub none_at : {X : Type 0} → (xs : List X) (k : ℕ) (x : X) → xs ≡ [] → slice_get xs k ≡ Some x → ⊥
none_at [] k x is got = grind (arith, got)
none_at (y ∷ ys) k x is got = let count : suc (length ys) ≡ 0 = ap length is in omega (arith, count)

-- a place that is set, and another one
pub set_here : {X : Type 0} → (xs : List X) (i : ℕ) (x y : X) → slice_get xs i ≡ Some x
    → slice_get (slice_set xs i y) i ≡ Some y
set_here [] i x y is = absurd (grind (arith, is))
set_here (z ∷ zs) zero x y is = refl
set_here (z ∷ zs) (suc i) x y is = set_here zs i x y is

pub set_there : {X : Type 0} → (xs : List X) (i j : ℕ) (y : X) → j ≢ i
    → slice_get (slice_set xs i y) j ≡ slice_get xs j
set_there [] i j y other = refl
set_there (z ∷ zs) zero zero y other = absurd (other refl)
set_there (z ∷ zs) zero (suc j) y other = refl
set_there (z ∷ zs) (suc i) zero y other = refl
set_there (z ∷ zs) (suc i) (suc j) y other = set_there zs i j y (λ same. other (ap suc same))

pub place_there : {X : Type 0} → (xs : List X) (i : ℕ) → i < length xs → (x : X) × (slice_get xs i ≡ Some x)
place_there [] i below = absurd (omega (arith, below))
place_there (x ∷ xs) zero below = (x, refl)
place_there (x ∷ xs) (suc i) below = place_there xs i (omega (arith, below))

-- what an element of a mapped list comes of
pub mapped_from : {X Y : Type 0} → (f : X → Y) (xs : List X) (k : ℕ) (y : Y) → slice_get (map f xs) k ≡ Some y
    → (x : X) × (slice_get xs k ≡ Some x) × (f x ≡ y)
mapped_from f [] k y got = absurd (grind (arith, got))
mapped_from {Y = Y} f (x ∷ xs) zero y got = (x, refl, ap (some_or (f x)) got)
mapped_from f (x ∷ xs) (suc k) y got = mapped_from f xs k y got

pub never_some : {X : Type 0} → (o : Option X) (x : X) → o ≡ None → o ≡ Some x → ⊥
never_some {X} o x none some = cc (none, some)
