-- Walks along chains that end: none comes back to where it was, and so it makes no more steps than there are places.
use Rattle.std.proofs.Common.{◌≡◌, ◌==◌, inl, inr, ℕ, zero, suc, ◌+◌, ◌*◌, ◌<◌, ◌≤◌, Bool, true, false, cond, List, [], ◌∷◌, length, map, Option, Some, None, refl, sym, ap, subst, ◌∙◌, arith, eqb-true}
use Rattle.std.specs.Prelude.{Contains}
use Rattle.std.specs.Option.{option_and_then}
use Rattle.std.proofs.lemmas.Bool.Decides.{nat_tests}
use Rattle.omi_model.specs.WellFormed.{along, Ends}
use Rattle.omi_rep.specs.Look.{was_met}
use Rattle.omi_rep.proofs.Lists.{here, later, nowhere, either, from_map}
use Rattle.omi_rep.proofs.shown.ReadWords.{not_met}

-- ---- numbers in a list, none of them twice

abbrev AreDifferent : List ℕ → Type 0
AreDifferent [] = Unit {0}
AreDifferent (x ∷ xs) = (Contains xs x → ⊥) × AreDifferent xs

-- the list without a number
abbrev without : ℕ → List ℕ → List ℕ
without n [] = []
without n (x ∷ xs) = cond (x == n) (without n xs) (x ∷ without n xs)

from_without : (n : ℕ) (xs : List ℕ) (y : ℕ) → Contains (without n xs) y → Contains xs y × (y ≡ n → ⊥)
from_without n [] y among = absurd (nowhere y among)
from_without n (x ∷ xs) y among = go (x == n) refl among (from_without n xs y)
  where
    differs : x == n ≡ false → x ≡ n → ⊥
    differs e same =
        let clash : x == n ≡ true = grind (arith, nat_tests) in (let no : true ≡ false = sym clash ∙ e in cc no)

    go : (b : Bool) → x == n ≡ b → Contains (cond b (without n xs) (x ∷ without n xs)) y
        → (Contains (without n xs) y → Contains xs y × (y ≡ n → ⊥)) → Contains (x ∷ xs) y × (y ≡ n → ⊥)
    go true e c more = let rest = more c in (later x y xs rest.0, rest.1)
    go false e c more = elim (either x y (without n xs) c) [
      | inl same ↦ ((0, omega arith, same), λ is. differs e (same ∙ is))
      | inr behind ↦ let rest = more behind in (later x y xs rest.0, rest.1)
    ]

without_different : (n : ℕ) (xs : List ℕ) → AreDifferent xs → AreDifferent (without n xs)
without_different n [] all = tt
without_different n (x ∷ xs) all = go (x == n) (without_different n xs all.1)
  where
    go : (b : Bool) → AreDifferent (without n xs) → AreDifferent (cond b (without n xs) (x ∷ without n xs))
    go true rest = rest
    go false rest = (λ c. all.0 (from_without n xs x c).0, rest)

-- nothing goes where the number is not there
without_none : (n : ℕ) (xs : List ℕ) → (Contains xs n → ⊥) → length (without n xs) ≡ length xs
without_none n [] none = refl
without_none n (x ∷ xs) none = go (x == n) refl (without_none n xs (λ c. none (later x n xs c)))
  where
    go : (b : Bool) → x == n ≡ b → length (without n xs) ≡ length xs
        → length (cond b (without n xs) (x ∷ without n xs)) ≡ suc (length xs)
    go true e rest = absurd (none (0, omega arith, eqb-true x n e))
    go false e rest = ap suc rest

-- at most one goes
without_one : (n : ℕ) (xs : List ℕ) → AreDifferent xs → length xs ≤ suc (length (without n xs))
without_one n [] all = omega arith
without_one n (x ∷ xs) all = go (x == n) refl (without_one n xs all.1)
  where
    go : (b : Bool) → x == n ≡ b → length xs ≤ suc (length (without n xs))
        → suc (length xs) ≤ suc (length (cond b (without n xs) (x ∷ without n xs)))
    go true e rest =
        let none : Contains xs n → ⊥ = subst (λ (q : ℕ). Contains xs q → ⊥) (eqb-true x n e) all.0 in
        let same = without_none n xs none in
        omega (arith, same)
    go false e rest = omega (arith, rest)

-- there are at most as many as there are numbers below the limit
different_few : (n : ℕ) (xs : List ℕ) → AreDifferent xs → ((y : ℕ) → Contains xs y → y < n) → length xs ≤ n
different_few zero [] all low = omega arith
different_few zero (x ∷ xs) all low = let never = low x (here x xs) in absurd (omega (arith, never))
different_few (suc n) xs all low =
    let most = without_one n xs all in
    let rest = different_few n (without n xs) (without_different n xs all) below in
    omega (arith, most, rest)
  where
    below : (y : ℕ) → Contains (without n xs) y → y < n
    below y c =
        let was = from_without n xs y c in
        let at_most = low y was.0 in
        go (y == n) refl was.1 at_most
      where
        go : (b : Bool) → y == n ≡ b → (y ≡ n → ⊥) → y < suc n → y < n
        go true e other at_most = absurd (other (eqb-true y n e))
        go false e other at_most = grind (arith, nat_tests)

-- ---- chains that end

module _ {A : Type 0} (next : A → Option A) where
  -- one step more
  along_more : (n : ℕ) (from : Option A) → along next (suc n) from ≡ option_and_then next (along next n from)
  along_more zero from = refl
  along_more (suc n) from = along_more n (option_and_then next from)

  along_add : (a b : ℕ) (from : Option A) → along next (a + b) from ≡ along next b (along next a from)
  along_add zero b from = let e : zero + b ≡ b = omega arith in ap (λ n. along next n from) e
  along_add (suc a) b from =
      let e : suc a + b ≡ suc (a + b) = omega arith in
      ap (λ n. along next n from) e ∙ along_add a b (option_and_then next from)

  -- nothing follows the end
  pub none_stays : (n : ℕ) → along next n None ≡ None
  none_stays zero = refl
  none_stays (suc n) = none_stays n

  -- a chain that comes back to where it was goes round as often as one likes
  around : (m d : ℕ) (x : A) → along next (suc d) (Some x) ≡ Some x → along next (m * suc d) (Some x) ≡ Some x
  around zero d x back = let e : zero * suc d ≡ zero = omega arith in ap (λ n. along next n (Some x)) e
  around (suc m) d x back =
      let e : suc m * suc d ≡ suc d + m * suc d = grind arith in
      ap (λ n. along next n (Some x)) e
      ∙ along_add (suc d) (m * suc d) (Some x)
      ∙ ap (along next (m * suc d)) back
      ∙ around m d x back

  never_back : (d : ℕ) (x : A) → along next (suc d) (Some x) ≡ Some x → Ends next (Some x) → ⊥
  never_back d x back (n, end) =
      let e : n * suc d ≡ n + n * d = grind arith in
      let there : Some x ≡ None =
      sym (around n d x back)
      ∙ ap (λ m. along next m (Some x)) e
      ∙ along_add n (n * d) (Some x)
      ∙ ap (along next (n * d)) end
      ∙ none_stays (n * d) in
      absurd (cc there)

-- what is seen along a chain: what follows is seen too, and each has a place of its own, of which there are `most`, and an address of its own
pub record Places {A : Type 0} (next : A → Option A) (Seen : A → Type 0) (place address : A → ℕ) (most : ℕ) : Type 0 where
  pub next_seen : (x : A) → Seen x → (y : A) → next x ≡ Some y → Seen y
  pub low : (x : A) → Seen x → place x < most
  pub one_place : (x y : A) → Seen x → Seen y → place x ≡ place y → x ≡ y
  pub one_address : (x y : A) → Seen x → Seen y → address x ≡ address y → x ≡ y

-- a walk has come from what was seen before to where it is now, with so many steps left
pub record Walk {A : Type 0} (next : A → Option A) (Seen : A → Type 0) (place : A → ℕ) (most left : ℕ) (before : List A) (now : Option A) : Type 0 where
  pub was_seen : (x : A) → Contains before x → Seen x
  pub is_seen : (x : A) → now ≡ Some x → Seen x
  pub led : (x : A) → Contains before x → (k : ℕ) × (along next (suc k) (Some x) ≡ now)
  pub ends : Ends next now
  pub different : AreDifferent (map place before)
  pub room : left + length before ≡ most

length_map : {A B : Type 0} (f : A → B) (xs : List A) → length (map f xs) ≡ length xs
length_map f [] = refl
length_map f (x ∷ xs) = ap suc (length_map f xs)

module _ {A : Type 0} (next : A → Option A) (Seen : A → Type 0) (place address : A → ℕ) (most : ℕ) where
  pub walk_begins : (from : Option A) → ((x : A) → from ≡ Some x → Seen x) → Ends next from
      → Walk next Seen place most most [] from
  walk_begins from seen ends = record {
    was_seen = λ x c. absurd (nowhere x c);
    is_seen = seen;
    led = λ x c. absurd (nowhere x c);
    ends = ends;
    different = tt;
    room = omega arith;
  }

  -- where the walk is now it was not before
  now_new : (left : ℕ) (before : List A) (x : A) → Walk next Seen place most left before (Some x)
      → Contains before x → ⊥
  now_new left before x walk c = let (k, back) = walk.led x c in never_back next k x back walk.ends

  module _ (places : Places next Seen place address most) where
    -- what follows what is seen is seen
    pub along_seen : (n : ℕ) (from : Option A) → ((x : A) → from ≡ Some x → Seen x) → (y : A)
        → along next n from ≡ Some y → Seen y
    along_seen zero from seen y is = seen y is
    along_seen (suc n) None seen y is =
        absurd (let clash : None ≡ Some y = sym (none_stays next n) ∙ is in cc clash)
    along_seen (suc n) (Some x) seen y is =
        along_seen n (next x) (λ z e. places.next_seen x (seen x refl) z e) y is

    place_new : (left : ℕ) (before : List A) (x : A) → Walk next Seen place most left before (Some x)
        → Contains (map place before) (place x) → ⊥
    place_new left before x walk c =
        let (y, inside, same) = from_map place before (place x) c in
        now_new left before x walk
        (subst (Contains before) (places.one_place y x (walk.was_seen y inside) (walk.is_seen x refl) same) inside)

    -- its address is none of those before
    pub address_new : (left : ℕ) (before : List A) (now : Option A)
        → Walk next Seen place most left before now → (x : A) → now ≡ Some x
        → was_met (map address before) (address x) ≡ false
    address_new left before now walk x is =
        let here_now : Walk next Seen place most left before (Some x) =
        subst (Walk next Seen place most left before) is walk in
        not_met address before (address x)
        (λ y inside same. now_new left before x here_now (subst (Contains before) (places.one_address y x (walk.was_seen y inside) (walk.is_seen x is) same) inside))

    -- a walk that goes on has a step left
    pub some_left : (before : List A) (x : A) → Walk next Seen place most zero before (Some x) → ⊥
    some_left before x walk =
        let few : suc (length (map place before)) ≤ most =
        different_few most (place x ∷ map place before) (place_new zero before x walk, walk.different) below in
        omega (arith, few, length_map place before, walk.room)
      where
        below : (y : ℕ) → Contains (place x ∷ map place before) y → y < most
        below y c = elim (either (place x) y (map place before) c) [
          | inl same ↦ subst (λ (q : ℕ). q < most) same (places.low x (walk.is_seen x refl))
          | inr behind ↦ let (z, inside, is) = from_map place before y behind in subst (λ (q : ℕ). q < most) is (places.low z (walk.was_seen z inside))
        ]

    pub walk_onward : (left : ℕ) (before : List A) (x : A)
        → Walk next Seen place most (suc left) before (Some x)
        → Walk next Seen place most left (x ∷ before) (next x)
    walk_onward left before x walk = record {
      was_seen = λ y c. elim (either x y before c) [ inl same ↦ subst Seen same (walk.is_seen x refl) | inr behind ↦ walk.was_seen y behind ];
      is_seen = λ y is. places.next_seen x (walk.is_seen x refl) y is;
      led = led_on;
      ends = ends_on walk.ends;
      different = (place_new (suc left) before x walk, walk.different);
      room = let all = walk.room in omega (arith, all);
    }
      where
        led_on : (y : A) → Contains (x ∷ before) y → (k : ℕ) × (along next (suc k) (Some y) ≡ next x)
        led_on y c = elim (either x y before c) [
          | inl same ↦ (0, ap next (sym same))
          | inr behind ↦ let (k, is) = walk.led y behind in (suc k, along_more next (suc k) (Some y) ∙ ap (option_and_then next) is)
        ]

        ends_on : Ends next (Some x) → Ends next (next x)
        ends_on (zero, is) = absurd (cc)
        ends_on (suc n, is) = (n, is)
