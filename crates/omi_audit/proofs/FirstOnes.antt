-- Lists in which each number stands once, where it comes first: what is among them, how they grow, and how long they get.
use Rattle.std.proofs.Common.{◌≡◌, ◌⊎◌, inl, inr, ℕ, suc, ◌+◌, ◌<◌, ◌≤◌, ◌||◌, Bool, true, false, cond, not, List, [], ◌∷◌, ◌++◌, length, refl, sym, ap, subst, ◌∙◌, arith, append_assoc}
use Rattle.std.specs.Prelude.{◌==◌, fold, filter}
use Rattle.std.specs.List.{list_any, flat_map}
use Rattle.std.proofs.lemmas.Bool.{eqb-true, eq-eqb}
use Rattle.std.proofs.lemmas.Bool.Decides.{eqb_tells}
use Rattle.std.proofs.lemmas.List.{append-nil, length-append}
use Rattle.std.proofs.lemmas.List.Folds.{list_any-append}
use Rattle.std.proofs.lemmas.List.Sums.{fold-append}

-- a number is among these
abbrev pub has : List ℕ → ℕ → Bool
has xs x = list_any (λ one. x == one) xs

-- one more, where it comes first
abbrev pub with_one : List ℕ → ℕ → List ℕ
with_one met x = cond (has met x) met (met ++ x ∷ [])

-- and all of these
abbrev pub with_all : List ℕ → List ℕ → List ℕ
with_all met xs = fold with_one met xs

-- ---- one list begins another

pub record Begins (xs ys : List ℕ) : Type 0 where
  pub rest : List ℕ
  pub is : ys ≡ xs ++ rest

pub begins_same : (xs : List ℕ) → Begins xs xs
begins_same xs = record { rest = []; is = sym (append-nil xs) }

pub begins_then : {xs ys zs : List ℕ} → Begins xs ys → Begins ys zs → Begins xs zs
begins_then {xs} {ys} {zs} first second = record {
  rest = first.rest ++ second.rest;
  is = second.is ∙ ap (λ l. l ++ second.rest) first.is ∙ append_assoc xs first.rest second.rest;
}

pub begins_length : {xs ys : List ℕ} → Begins xs ys → length xs ≤ length ys
begins_length {xs} {ys} b = omega (arith, ap length b.is ∙ length-append xs b.rest)

-- a list that begins another one and is no shorter is the same
pub begins_whole : {xs ys : List ℕ} → Begins xs ys → length ys ≤ length xs → ys ≡ xs
begins_whole {xs} {ys} b short = go b.rest b.is
  where
    go : (rest : List ℕ) → ys ≡ xs ++ rest → ys ≡ xs
    go [] e = e ∙ append-nil xs
    go (x ∷ rest) e = absurd (let long : length ys ≡ length xs + suc (length rest) = ap length e ∙ length-append xs (x ∷ rest) in omega (arith, long, short))

pub begins_both : {xs ys : List ℕ} → Begins xs ys → Begins ys xs → xs ≡ ys
begins_both first second = begins_whole second (begins_length first)

-- ---- what is among them

or_false : (b : Bool) → (b || false) ≡ b
or_false true = refl
or_false false = refl

or_assoc : (a b c : Bool) → ((a || b) || c) ≡ (a || (b || c))
or_assoc true b c = refl
or_assoc false b c = refl

pub or_cases : (a b : Bool) → (a || b) ≡ true → (a ≡ true) ⊎ (b ≡ true)
or_cases true b is = inl refl
or_cases false b is = inr is

pub or_first : (a b : Bool) → a ≡ true → (a || b) ≡ true
or_first a b is = ap (λ c. c || b) is

pub or_second : (a b : Bool) → b ≡ true → (a || b) ≡ true
or_second true b is = refl
or_second false b is = is

pub has_append : (xs ys : List ℕ) (a : ℕ) → has (xs ++ ys) a ≡ (has xs a || has ys a)
has_append xs ys a = list_any-append (λ one. a == one) xs ys

has_with_one : (met : List ℕ) (x a : ℕ) → has (with_one met x) a ≡ (has met a || (a == x))
has_with_one met x a = go (has met x) refl (a == x) refl
  where
    go : (b : Bool) → has met x ≡ b → (c : Bool) → (a == x) ≡ c
        → has (cond b met (met ++ x ∷ [])) a ≡ (has met a || c)
    go true known true same = ap (has met) (eqb-true a x same) ∙ known ∙ sym (or_second (has met a) true refl)
    go true known false same = sym (or_false (has met a))
    go false known c same = has_append met (x ∷ []) a ∙ ap (λ t. has met a || t) (or_false (a == x) ∙ same)

pub has_with_all : (met xs : List ℕ) (a : ℕ) → has (with_all met xs) a ≡ (has met a || has xs a)
has_with_all met [] a = sym (or_false (has met a))
has_with_all met (x ∷ xs) a =
    has_with_all (with_one met x) xs a
    ∙ ap (λ t. t || has xs a) (has_with_one met x a)
    ∙ or_assoc (has met a) (a == x) (has xs a)

pub has_named : (next : ℕ → List ℕ) (xs : List ℕ) (a : ℕ) → has (flat_map next xs) a ≡ true
    → (x : ℕ) × (has xs x ≡ true) × (has (next x) a ≡ true)
has_named next [] a is = absurd (cc)
has_named next (x ∷ xs) a is = elim (or_cases (has (next x) a) (has (flat_map next xs) a) (sym (has_append (next x) (flat_map next xs) a) ∙ is)) [
  | inl here ↦ (x, or_first (x == x) (has xs x) (eq-eqb x x refl), here)
  | inr there ↦ let found = has_named next xs a there in (found.0, or_second (found.0 == x) (has xs found.0) found.1, found.2)
]

pub named_has : (next : ℕ → List ℕ) (xs : List ℕ) (x a : ℕ) → has xs x ≡ true → has (next x) a ≡ true
    → has (flat_map next xs) a ≡ true
named_has next [] x a among is = absurd (cc)
named_has next (y ∷ ys) x a among is =
    has_append (next y) (flat_map next ys) a
    ∙ elim (or_cases (x == y) (has ys x) among) [
      | inl same ↦ or_first (has (next y) a) (has (flat_map next ys) a) (ap (λ z. has (next z) a) (sym (eqb-true x y same)) ∙ is)
      | inr later ↦ or_second (has (next y) a) (has (flat_map next ys) a) (named_has next ys x a later is)
    ]

-- ---- how they grow

pub with_all_then : (met xs ys : List ℕ) → with_all met (xs ++ ys) ≡ with_all (with_all met xs) ys
with_all_then met xs ys = fold-append with_one met xs ys

pub with_all_begins : (met xs : List ℕ) → Begins met (with_all met xs)
with_all_begins met [] = begins_same met
with_all_begins met (x ∷ xs) = begins_then (one (has met x)) (with_all_begins (with_one met x) xs)
  where
    one : (b : Bool) → Begins met (cond b met (met ++ x ∷ []))
    one true = begins_same met
    one false = record { rest = x ∷ []; is = refl }

pub first_begins : {xs ys : List ℕ} → Begins xs ys → Begins (with_all [] xs) (with_all [] ys)
first_begins {xs} {ys} b =
    subst (λ l. Begins (with_all [] xs) l) (sym (ap (with_all []) b.is ∙ with_all_then [] xs b.rest))
    (with_all_begins (with_all [] xs) b.rest)

-- ---- how long they get

module _ (p q : ℕ → Bool) (fewer : (y : ℕ) → q y ≡ true → p y ≡ true) where
  passed : (all : List ℕ) → length (filter q all) ≤ length (filter p all)
  passed [] = omega arith
  passed (y ∷ ys) = go (p y) (q y) (fewer y) (passed ys)
    where
      go : (a b : Bool) → (b ≡ true → a ≡ true) → length (filter q ys) ≤ length (filter p ys)
          → length (cond b (y ∷ filter q ys) (filter q ys)) ≤ length (cond a (y ∷ filter p ys) (filter p ys))
      go true true h low = omega arith
      go true false h low = omega arith
      go false true h low = let never : false ≡ true = h refl in absurd (cc)
      go false false h low = low

  pub fewer_pass : (x : ℕ) → p x ≡ true → q x ≡ false → (all : List ℕ) → has all x ≡ true
      → length (filter q all) < length (filter p all)
  fewer_pass x passes fails [] among = absurd (cc)
  fewer_pass x passes fails (y ∷ ys) among =
      elim (eqb_tells x y) [
        | inl same ↦ here (p y) (q y) (ap p (sym same.1) ∙ passes) (ap q (sym same.1) ∙ fails)
        | inr apart ↦ later (p y) (q y) (fewer y) (fewer_pass x passes fails ys (ap (λ t. t || has ys x) (sym apart.0) ∙ among))
      ]
    where
      here : (a b : Bool) → a ≡ true → b ≡ false
          → length (cond b (y ∷ filter q ys) (filter q ys)) < length (cond a (y ∷ filter p ys) (filter p ys))
      here true true is isnt = absurd (cc)
      here true false is isnt = let low = passed ys in omega (arith, low)
      here false true is isnt = absurd (cc)
      here false false is isnt = absurd (cc)

      later : (a b : Bool) → (b ≡ true → a ≡ true) → length (filter q ys) < length (filter p ys)
          → length (cond b (y ∷ filter q ys) (filter q ys)) < length (cond a (y ∷ filter p ys) (filter p ys))
      later true true h low = omega arith
      later true false h low = omega arith
      later false true h low = let never : false ≡ true = h refl in absurd (cc)
      later false false h low = low

-- how many of these were not met
abbrev pub unmet : List ℕ → List ℕ → ℕ
unmet all met = length (filter (λ y. not (has met y)) all)

module _ (all : List ℕ) where
  one_met : (met : List ℕ) (x : ℕ) → has all x ≡ true
      → length (with_one met x) + unmet all (with_one met x) ≤ length met + unmet all met
  one_met met x among = go (has met x) refl
    where
      not_before : (a b : Bool) → not (a || b) ≡ true → not a ≡ true
      not_before true b is = is
      not_before false b is = refl

      go : (b : Bool) → has met x ≡ b
          → length (cond b met (met ++ x ∷ [])) + unmet all (cond b met (met ++ x ∷ [])) ≤ length met + unmet all met
      go true known = omega arith
      go false known =
          let less : unmet all (met ++ x ∷ []) < unmet all met =
          fewer_pass (λ y. not (has met y)) (λ y. not (has (met ++ x ∷ []) y))
          (λ y is. not_before (has met y) (has (x ∷ []) y) (ap not (sym (has_append met (x ∷ []) y)) ∙ is)) x
          (ap not known)
          (ap not (has_append met (x ∷ []) x ∙ or_second (has met x) (has (x ∷ []) x) (or_first (x == x) false (eq-eqb x x refl))))
          all among in
          let long : length (met ++ x ∷ []) ≡ length met + 1 = length-append met (x ∷ []) in
          omega (arith, less, long)

  all_met : (met xs : List ℕ) → ((x : ℕ) → has xs x ≡ true → has all x ≡ true)
      → length (with_all met xs) + unmet all (with_all met xs) ≤ length met + unmet all met
  all_met met [] within = omega arith
  all_met met (x ∷ xs) within =
      let first = one_met met x (within x (or_first (x == x) (has xs x) (eq-eqb x x refl))) in
      let rest = all_met (with_one met x) xs (λ y is. within y (or_second (y == x) (has xs y) is)) in
      omega (arith, first, rest)

pub all_pass : (all : List ℕ) → length (filter (λ y. true) all) ≤ length all
all_pass [] = omega arith
all_pass (y ∷ ys) = let low = all_pass ys in omega (arith, low)

-- those that are among these are no more than these
pub few_first : (all xs : List ℕ) → ((x : ℕ) → has xs x ≡ true → has all x ≡ true)
    → length (with_all [] xs) ≤ length all
few_first all xs within =
    let low = all_met all [] xs within in
    let most = all_pass all in
    omega (arith, low, most)
