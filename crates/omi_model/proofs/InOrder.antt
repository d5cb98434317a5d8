-- Rows in the order of names: two lists of the same rows are the same list.
use Rattle.std.proofs.Common.{◌≡◌, ◌⊎◌, inl, inr, zero, suc, List, [], ◌∷◌, refl, sym, subst, ◌∙◌, arith}
use Rattle.std.specs.Prelude.{Contains}
use Rattle.omi_model.specs.declared.id.Id.{Id}
use Rattle.omi_model.specs.declared.view.RegionRow.{RegionRow}
use Rattle.omi_model.specs.Views.{ComesBefore, AreInOrder}

before_then : (a b c : Id) → ComesBefore a b → ComesBefore b c → ComesBefore a c
before_then a b c (inl x) (inl y) = inl (omega (arith, x, y))
before_then a b c (inl x) (inr (e, y)) = inl (omega (arith, x, e))
before_then a b c (inr (d, x)) (inl y) = inl (omega (arith, d, y))
before_then a b c (inr (d, inl x)) (inr (e, inl y)) = inr (d ∙ e, inl (omega (arith, x, y)))
before_then a b c (inr (d, inl x)) (inr (e, inr (f, y))) = inr (d ∙ e, inl (omega (arith, x, f)))
before_then a b c (inr (d, inr (f, x))) (inr (e, inl y)) = inr (d ∙ e, inl (omega (arith, f, y)))
before_then a b c (inr (d, inr (f, x))) (inr (e, inr (g, y))) = inr (d ∙ e, inr (f ∙ g, omega (arith, x, y)))

never_before_itself : (a : Id) → ComesBefore a a → ⊥
never_before_itself a (inl x) = omega (arith, x)
never_before_itself a (inr (e, inl x)) = omega (arith, x)
never_before_itself a (inr (e, inr (f, x))) = omega (arith, x)

-- an element of a longer list
contains_first : (x : RegionRow) (xs : List RegionRow) → Contains (x ∷ xs) x
contains_first x xs = (0, omega arith, refl)

contains_later : (x y : RegionRow) (xs : List RegionRow) → Contains xs y → Contains (x ∷ xs) y
contains_later x y xs (k, within, is) = (suc k, omega (arith, within), is)

contains_none : (y : RegionRow) → Contains [] y → ⊥
contains_none y (k, within, is) = omega (arith, within)

contained : (x y : RegionRow) (xs : List RegionRow) → Contains (x ∷ xs) y → (x ≡ y) ⊎ Contains xs y
contained x y xs (zero, within, is) = inl is
contained x y xs (suc k, within, is) = inr (k, omega (arith, within), is)

-- the rest of rows in order is in order, and the first comes before all of it
rest_in_order : (x : RegionRow) (xs : List RegionRow) → AreInOrder (x ∷ xs) → AreInOrder xs
rest_in_order x [] sorted = tt
rest_in_order x (y ∷ xs) sorted = sorted.1

first_before : (x y : RegionRow) (xs : List RegionRow) → AreInOrder (x ∷ xs) → Contains xs y
    → ComesBefore x.region.0 y.region.0
first_before x y [] sorted is = absurd (contains_none y is)
first_before x y (z ∷ xs) sorted is =
    elim (contained z y xs is) [
      | inl same ↦ subst (λ (r : RegionRow). ComesBefore x.region.0 r.region.0) same sorted.0
      | inr later ↦ before_then x.region.0 z.region.0 y.region.0 sorted.0 (first_before z y xs sorted.1 later)
    ]

-- each row of one list is one of the other
abbrev pub AreAmong : List RegionRow → List RegionRow → Type 0
AreAmong xs ys = (r : RegionRow) → Contains xs r → Contains ys r

same_first : (x y : RegionRow) (xs ys : List RegionRow) → AreInOrder (x ∷ xs) → AreInOrder (y ∷ ys)
    → AreAmong (x ∷ xs) (y ∷ ys) → AreAmong (y ∷ ys) (x ∷ xs) → x ≡ y
same_first x y xs ys a b there back =
    go (contained y x ys (there x (contains_first x xs))) (contained x y xs (back y (contains_first y ys)))
  where
    go : (y ≡ x) ⊎ Contains ys x → (x ≡ y) ⊎ Contains xs y → x ≡ y
    go (inl same) other = sym same
    go (inr later) (inl same) = same
    go (inr later) (inr behind) =
        absurd
        (never_before_itself x.region.0 (before_then x.region.0 y.region.0 x.region.0 (first_before x y xs a behind) (first_before y x ys b later)))

-- of lists with the same first row the rests have the same rows
rest_among : (x y : RegionRow) (xs ys : List RegionRow) → AreInOrder (x ∷ xs) → x ≡ y
    → AreAmong (x ∷ xs) (y ∷ ys) → AreAmong xs ys
rest_among x y xs ys sorted same there r is = go (contained y r ys (there r (contains_later x r xs is)))
  where
    go : (y ≡ r) ⊎ Contains ys r → Contains ys r
    go (inl first) =
        absurd
        (never_before_itself x.region.0 (subst (λ (z : RegionRow). ComesBefore x.region.0 z.region.0) (sym (same ∙ first)) (first_before x r xs sorted is)))
    go (inr later) = later

pub same_rows : (xs ys : List RegionRow) → AreInOrder xs → AreInOrder ys → AreAmong xs ys → AreAmong ys xs
    → xs ≡ ys
same_rows [] [] a b there back = refl
same_rows [] (y ∷ ys) a b there back = absurd (contains_none y (back y (contains_first y ys)))
same_rows (x ∷ xs) [] a b there back = absurd (contains_none x (there x (contains_first x xs)))
same_rows (x ∷ xs) (y ∷ ys) a b there back =
    let same : x ≡ y = same_first x y xs ys a b there back in
    let rest : xs ≡ ys =
    same_rows xs ys (rest_in_order x xs a) (rest_in_order y ys b) (rest_among x y xs ys a same there)
    (rest_among y x ys xs b (sym same) back) in
    λ i. same i ∷ rest i
