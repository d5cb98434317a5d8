-- Elements of lists that are made of others.
use Rattle.std.proofs.Common.{◌≡◌, ◌⊎◌, inl, inr, ℕ, zero, suc, ◌+◌, ◌<◌, ◌≤◌, ◌==◌, Bool, true, false, cond, List, [], ◌∷◌, ◌++◌, map, Option, Some, None, refl, sym, ap, subst, ◌∙◌, arith, eqb-true}
use Rattle.std.specs.Prelude.{Contains, find, slice_get}
use Rattle.std.specs.Option.{option_map}
use Rattle.std.specs.List.{AllZip, filter_map, cons_option, flat_map, range_with_len}
use Rattle.std.proofs.lemmas.Bool.Decides.{nat_tests}
use Rattle.std.proofs.lemmas.Option.{slice_get_within, get_or_from_slice_get}
use Rattle.std.proofs.lemmas.List.Elements.{Contains-append_left, Contains-append_right, Contains-append_cases}

-- the first element, a later one, and which of them it is
pub here : {A : Type 0} (x : A) (xs : List A) → Contains (x ∷ xs) x
here x xs = (0, omega arith, refl)

pub later : {A : Type 0} (x y : A) (xs : List A) → Contains xs y → Contains (x ∷ xs) y
later x y xs (k, within, is) = (suc k, omega (arith, within), is)

pub nowhere : {A : Type 0} (y : A) → Contains [] y → ⊥
nowhere y (k, within, is) = omega (arith, within)

pub either : {A : Type 0} (x y : A) (xs : List A) → Contains (x ∷ xs) y → (x ≡ y) ⊎ Contains xs y
either x y xs (zero, within, is) = inl is
either x y xs (suc k, within, is) = inr (k, omega (arith, within), is)

-- elements of a list that is mapped
pub in_map : {A B : Type 0} (f : A → B) (xs : List A) (x : A) → Contains xs x → Contains (map f xs) (f x)
in_map f [] x among = absurd (nowhere x among)
in_map {A} {B} f (y ∷ ys) x among = elim (either y x ys among) [
  | inl same ↦ (0, omega arith, ap f same)
  | inr behind ↦ later (f y) (f x) (map f ys) (in_map f ys x behind)
]

pub from_map : {A B : Type 0} (f : A → B) (xs : List A) (y : B) → Contains (map f xs) y
    → (x : A) × Contains xs x × (f x ≡ y)
from_map f [] y among = absurd (nowhere y among)
from_map {A} {B} f (z ∷ zs) y among = elim (either (f z) y (map f zs) among) [
  | inl same ↦ (z, here z zs, same)
  | inr behind ↦ let (x, inside, is) = from_map f zs y behind in (x, later z x zs inside, is)
]

-- what is taken and given back is what it was
pub given_back : {A B : Type 0} (take : A → B) (give : B → A) → ((x : A) → give (take x) ≡ x) → (o : Option A)
    → option_map give (option_map take o) ≡ o
given_back take give same None = refl
given_back take give same (Some x) = ap Some (same x)

-- elements of what is given of elements
pub in_given : {A B : Type 0} (f : A → Option B) (xs : List A) (x : A) (y : B) → Contains xs x → f x ≡ Some y
    → Contains (filter_map f xs) y
in_given f [] x y among is = absurd (nowhere x among)
in_given {A} {B} f (z ∷ zs) x y among is =
    go (f z) refl (either z x zs among) (λ behind. in_given f zs x y behind is)
  where
    go : (o : Option B) → f z ≡ o → (z ≡ x) ⊎ Contains zs x → (Contains zs x → Contains (filter_map f zs) y)
        → Contains (cons_option o (filter_map f zs)) y
    go None e (inl same) more = absurd (let clash : None ≡ Some y = sym e ∙ ap f same ∙ is in cc clash)
    go None e (inr behind) more = more behind
    go (Some u) e (inl same) more =
        let one : Some u ≡ Some y = sym e ∙ ap f same ∙ is in (0, omega arith, (let it : u ≡ y = cc one in it))
    go (Some u) e (inr behind) more = later u y (filter_map f zs) (more behind)

pub from_given : {A B : Type 0} (f : A → Option B) (xs : List A) (y : B) → Contains (filter_map f xs) y
    → (x : A) × Contains xs x × (f x ≡ Some y)
from_given f [] y among = absurd (nowhere y among)
from_given {A} {B} f (z ∷ zs) y among = go (f z) refl among (λ behind. behind_it (from_given f zs y behind))
  where
    behind_it : (x : A) × Contains zs x × (f x ≡ Some y) → (x : A) × Contains (z ∷ zs) x × (f x ≡ Some y)
    behind_it (x, inside, is) = (x, later z x zs inside, is)

    go : (o : Option B) → f z ≡ o → Contains (cons_option o (filter_map f zs)) y
        → (Contains (filter_map f zs) y → (x : A) × Contains (z ∷ zs) x × (f x ≡ Some y))
        → (x : A) × Contains (z ∷ zs) x × (f x ≡ Some y)
    go None e c more = more c
    go (Some u) e c more = elim (either u y (filter_map f zs) c) [
      | inl same ↦ (z, here z zs, e ∙ ap (λ (q : B). Some q) same)
      | inr behind ↦ more behind
    ]

-- elements of lists that are joined
pub in_joined : {A B : Type 0} (f : A → List B) (xs : List A) (x : A) (y : B) → Contains xs x
    → Contains (f x) y → Contains (flat_map f xs) y
in_joined f [] x y among is = absurd (nowhere x among)
in_joined {A} {B} f (z ∷ zs) x y among is = elim (either z x zs among) [
  | inl same ↦ Contains-append_left (f z) (flat_map f zs) y (subst (λ (q : A). Contains (f q) y) (sym same) is)
  | inr behind ↦ Contains-append_right (f z) (flat_map f zs) y (in_joined f zs x y behind is)
]

pub from_joined : {A B : Type 0} (f : A → List B) (xs : List A) (y : B) → Contains (flat_map f xs) y
    → (x : A) × Contains xs x × Contains (f x) y
from_joined f [] y among = absurd (nowhere y among)
from_joined {A} {B} f (z ∷ zs) y among = elim (Contains-append_cases (f z) (flat_map f zs) y among) [
  | inl first ↦ (z, here z zs, first)
  | inr behind ↦ let (x, inside, is) = from_joined f zs y behind in (x, later z x zs inside, is)
]

-- what is found is an element that passes, and where an element passes one is found
pub from_found : {A : Type 0} (p : A → Bool) (xs : List A) (x : A) → find p xs ≡ Some x
    → Contains xs x × (p x ≡ true)
from_found p [] x e = absurd (cc)
from_found {A} p (y ∷ ys) x e = go (p y) refl e (from_found p ys x)
  where
    go : (b : Bool) → p y ≡ b → cond b (Some y) (find p ys) ≡ Some x
        → (find p ys ≡ Some x → Contains ys x × (p x ≡ true)) → Contains (y ∷ ys) x × (p x ≡ true)
    go true is f more = let same : y ≡ x = cc f in ((0, omega arith, same), sym (ap p same) ∙ is)
    go false is f more = let rest = more f in (later y x ys rest.0, rest.1)

pub one_found : {A : Type 0} (p : A → Bool) (xs : List A) (x : A) → Contains xs x → p x ≡ true
    → (y : A) × (find p xs ≡ Some y)
one_found p [] x among is = absurd (nowhere x among)
one_found {A} p (y ∷ ys) x among is =
    go (p y) refl (either y x ys among) (λ behind. one_found p ys x behind is)
  where
    go : (b : Bool) → p y ≡ b → (y ≡ x) ⊎ Contains ys x → (Contains ys x → (z : A) × (find p ys ≡ Some z))
        → (z : A) × (cond b (Some y) (find p ys) ≡ Some z)
    go true e at more = (y, refl)
    go false e (inl same) more = absurd (let clash : false ≡ true = sym e ∙ ap p same ∙ is in cc clash)
    go false e (inr behind) more = more behind

-- numbers of a range
pub in_range : (a n k : ℕ) → a ≤ k → k < a + n → Contains (range_with_len a n) k
in_range a zero k low high = absurd (omega arith)
in_range a (suc n) k low high = go (a == k) refl (λ past. in_range (a + 1) n k past (omega arith))
  where
    go : (b : Bool) → a == k ≡ b → (a + 1 ≤ k → Contains (range_with_len (a + 1) n) k)
        → Contains (range_with_len a (suc n)) k
    go true e more = let same : a ≡ k = eqb-true a k e in (0, omega arith, same)
    go false e more = later a k (range_with_len (a + 1) n) (more (grind (arith, nat_tests)))

pub from_range : (a n k : ℕ) → Contains (range_with_len a n) k → (a ≤ k) × (k < a + n)
from_range a zero k among = absurd (nowhere k among)
from_range a (suc n) k among = elim (either a k (range_with_len (a + 1) n) among) [
  | inl same ↦ (omega (arith, same), omega (arith, same))
  | inr behind ↦ let (low, high) = from_range (a + 1) n k behind in (omega (arith, low), omega (arith, high))
]

-- an element at a place
pub among : {A : Type 0} (xs : List A) (j : ℕ) (x : A) → slice_get xs j ≡ Some x → Contains xs x
among xs j x is = (j, slice_get_within xs j x is, get_or_from_slice_get xs j x x is)

-- elements of two lists in the same places
pub zip_left : {A B : Type 0} (R : A → B → Type 0) (xs : List A) (ys : List B) → AllZip R xs ys → (x : A)
    → Contains xs x → (y : B) × Contains ys y × R x y
zip_left R [] [] all x inside = absurd (nowhere x inside)
zip_left R [] (y ∷ ys) all x inside = absurd all
zip_left R (z ∷ xs) [] all x inside = absurd all
zip_left {A} {B} R (z ∷ xs) (u ∷ ys) all x inside = elim (either z x xs inside) [
  | inl same ↦ (u, here u ys, subst (λ (q : A). R q u) same all.0)
  | inr behind ↦ let (y, there, right) = zip_left R xs ys all.1 x behind in (y, later u y ys there, right)
]

pub zip_right : {A B : Type 0} (R : A → B → Type 0) (xs : List A) (ys : List B) → AllZip R xs ys → (y : B)
    → Contains ys y → (x : A) × Contains xs x × R x y
zip_right R [] [] all y inside = absurd (nowhere y inside)
zip_right R [] (u ∷ ys) all y inside = absurd all
zip_right R (z ∷ xs) [] all y inside = absurd all
zip_right {A} {B} R (z ∷ xs) (u ∷ ys) all y inside = elim (either u y ys inside) [
  | inl same ↦ (z, here z xs, subst (λ (q : B). R z q) same all.0)
  | inr behind ↦ let (x, there, right) = zip_right R xs ys all.1 y behind in (x, later z x xs there, right)
]

-- a list in which each element stands in a relation to all behind it
abbrev pub Ordered : {A : Type 0} → (A → A → Type 0) → List A → Type 0
Ordered R [] = Unit {0}
Ordered {A} R (x ∷ xs) = ((y : A) → Contains xs y → R x y) × Ordered R xs

pub joined_ordered : {A : Type 0} (R : A → A → Type 0) (xs ys : List A) → Ordered R xs → Ordered R ys
    → ((x y : A) → Contains xs x → Contains ys y → R x y) → Ordered R (xs ++ ys)
joined_ordered R [] ys a b between = b
joined_ordered {A} R (x ∷ xs) ys a b between =
    (front, joined_ordered R xs ys a.1 b (λ z y inside behind. between z y (later x z xs inside) behind))
  where
    front : (y : A) → Contains (xs ++ ys) y → R x y
    front y inside = elim (Contains-append_cases xs ys y inside) [
      | inl first ↦ a.0 y first
      | inr behind ↦ between x y (here x xs) behind
    ]

-- what is given of elements in order is in order
pub given_ordered : {A B : Type 0} (R : A → A → Type 0) (Q : B → B → Type 0) (f : A → Option B) (xs : List A)
    → ((x y : A) (u v : B) → R x y → f x ≡ Some u → f y ≡ Some v → Q u v) → Ordered R xs → Ordered Q (filter_map f xs)
given_ordered R Q f [] keeps all = tt
given_ordered {A} {B} R Q f (x ∷ xs) keeps all = go (f x) refl (given_ordered R Q f xs keeps all.1)
  where
    go : (o : Option B) → f x ≡ o → Ordered Q (filter_map f xs) → Ordered Q (cons_option o (filter_map f xs))
    go None e rest = rest
    go (Some u) e rest =
        (λ v inside. (let (y, there, is) = from_given f xs v inside in keeps x y u v (all.0 y there) e is), rest)
