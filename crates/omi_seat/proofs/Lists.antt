-- Places in lists.
use Rattle.std.proofs.Common.{◌≡◌, ◌⊎◌, inl, inr, ◌<◌, ◌≤◌, ◌+◌, ◌++◌, ℕ, zero, suc, List, [], ◌∷◌, length, slice_get, slice_index, slice_set, Some, refl, sym, ap, ◌∙◌, subst, arith, ⊎_elim}
use mathlib.Core.Option.{some, some-injective, some-ne-none}
use lib.ListN.{get_elem?}
use Rattle.std.proofs.lemmas.Bool.{cases_lt}
use Rattle.std.proofs.lemmas.List.{ext_get_or, get_or-set_other, get_or-set_same, get_or_append_left}

pub word_is : (xs : List ℕ) (k x : ℕ) → get_elem? xs k ≡ some x → slice_index xs k ≡ x
word_is [] k x is = absurd (some-ne-none x (sym is))
word_is (y ∷ ys) zero x is = some-injective y x is
word_is (y ∷ ys) (suc k) x is = word_is ys k x is

-- a list with one more at its end
pub get_more : {X : Type 0} → (xs : List X) (x y : X) (i : ℕ) → slice_get (xs ++ x ∷ []) i ≡ Some y
    → (slice_get xs i ≡ Some y) ⊎ ((i ≡ length xs) × (x ≡ y))
get_more [] x y zero is = inr (refl, grind (arith, is))
get_more [] x y (suc i) is = absurd (grind (arith, is))
get_more (z ∷ zs) x y zero is = inl is
get_more (z ∷ zs) x y (suc i) is = ⊎_elim inl (λ last. inr (ap suc last.0, last.1)) (get_more zs x y i is)

pub get_front : {X : Type 0} → (xs : List X) (x y : X) (i : ℕ) → slice_get xs i ≡ Some y
    → slice_get (xs ++ x ∷ []) i ≡ Some y
get_front [] x y i is = absurd (grind (arith, is))
get_front (z ∷ zs) x y zero is = is
get_front (z ∷ zs) x y (suc i) is = get_front zs x y i is

pub get_last : {X : Type 0} → (xs : List X) (x : X) → slice_get (xs ++ x ∷ []) (length xs) ≡ Some x
get_last [] x = refl
get_last (z ∷ zs) x = get_last zs x

pub get_within : {X : Type 0} → (xs : List X) (y : X) (i : ℕ) → slice_get xs i ≡ Some y → i < length xs
get_within [] y i is = absurd (grind (arith, is))
get_within (z ∷ zs) y zero is = omega arith
get_within (z ∷ zs) y (suc i) is = let rest = get_within zs y i is in omega (arith, rest)

-- words that are copied one after another
pub copied : (xs ys : List ℕ) (at word : ℕ) → at < length xs → word ≡ slice_index ys at
    → ((k : ℕ) → k < at → slice_index xs k ≡ slice_index ys k)
    → (k : ℕ) → k < at + 1 → slice_index (slice_set xs at word) k ≡ slice_index ys k
copied xs ys at word below is same k within = ⊎_elim before here (cases_lt k at)
  where
    before : k < at → slice_index (slice_set xs at word) k ≡ slice_index ys k
    before less = get_or-set_other xs at k word 0 (λ eq. omega (arith, less, eq)) ∙ same k less

    here : at ≤ k → slice_index (slice_set xs at word) k ≡ slice_index ys k
    here more =
        let k_is : k ≡ at = omega (arith, within, more) in
        ap (λ j. slice_index (slice_set xs at word) j) k_is
        ∙ get_or-set_same xs at word 0 below
        ∙ is
        ∙ ap (slice_index ys) (sym k_is)

-- the first words of a list, each as in another one
pub front_is : (xs ys zs all : List ℕ) → all ≡ ys ++ zs → length ys ≡ length xs
    → ((k : ℕ) → k < length xs → slice_index xs k ≡ slice_index all k) → xs ≡ ys
front_is xs ys zs all is as_long same =
    ext_get_or 0 xs ys (sym as_long)
    (λ k below. same k below ∙ ap (λ (ws : List ℕ). slice_index ws k) is ∙ get_or_append_left ys zs 0 k (subst (λ n. k < n) (sym as_long) below))
