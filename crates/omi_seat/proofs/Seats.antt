-- What seats know, behind an operation of one of them, and where seats are made and taken in.
use Rattle.std.proofs.Common.{◌≡◌, ◌≢◌, ◌⊎◌, inl, inr, ◌<◌, ◌==◌, ◌++◌, ℕ, zero, suc, Bool, true, false, List, [], ◌∷◌, length, slice_set, slice_get, Some, refl, sym, ap, ◌∙◌, subst, arith, ⊎_elim, eq-eqb, eqb-true, if◌then◌else◌}
use mathlib.Core.Option.{some, some-injective, some-ne-none}
use lib.ListN.{get_elem?}
use Rattle.std.proofs.lemmas.List.{length-set}
use Rattle.atomic_table.proofs.Lists.{at_set, set_else}
use Rattle.omi_seat.specs.Seats.{AreSeated, all_below}

-- ---- places in lists

pub one_alone : {X : Type 0} → (x y : X) (known : List X) (at : ℕ) → x ∷ [] ≡ known
    → slice_get known at ≡ Some y → x ≡ y
one_alone {X} x y known at is there = go at (subst (λ (ks : List X). slice_get ks at ≡ Some y) (sym is) there)
  where
    go : (at : ℕ) → slice_get (x ∷ []) at ≡ Some y → x ≡ y
    go zero there = grind (arith, there)
    go (suc at) there = absurd (grind (arith, there))

pub head_is : {X : Type 0} → (x y : X) → x ∷ [] ≡ y ∷ [] → x ≡ y
head_is {X} x y is = ap (λ (ks : List X). head_or x ks) is
  where
    head_or : X → List X → X
    head_or d [] = d
    head_or d (z ∷ zs) = z

there_in_front : {X : Type 0} → (xs ys : List X) (at : ℕ) (z : X) → slice_get (xs ++ ys) at ≡ Some z
    → ((i : ℕ) × (slice_get xs i ≡ Some z)) ⊎ ((i : ℕ) × (slice_get ys i ≡ Some z))
there_in_front [] ys at z is = inr (at, is)
there_in_front (x ∷ xs) ys zero z is = inl (0, is)
there_in_front (x ∷ xs) ys (suc at) z is =
    ⊎_elim (λ one. inl (suc one.0, one.1)) inr (there_in_front xs ys at z is)

-- a place in a list with one more at its end
at_end : {X : Type 0} → (l : List X) (a b : X) (j : ℕ) → get_elem? (l ++ a ∷ []) j ≡ some b
    → (get_elem? l j ≡ some b) ⊎ ((j ≡ length l) × (a ≡ b))
at_end [] a b zero e = inr (refl, some-injective a b e)
at_end [] a b (suc j) e = absurd (some-ne-none b (sym e))
at_end (x ∷ xs) a b zero e = inl e
at_end (x ∷ xs) a b (suc j) e = ⊎_elim inl (λ last. inr (ap suc last.0, last.1)) (at_end xs a b j e)

-- each of these parts is that of a thread below the number
pub one_below : {X : Type 0} → (part : ℕ → X) (n at : ℕ) (z : X) → slice_get (all_below part n) at ≡ Some z
    → (i : ℕ) × (part i ≡ z) × (i < n)
one_below part zero at z is = absurd (grind (arith, is))
one_below part (suc n) zero z is = (n, grind (arith, is), omega arith)
one_below part (suc n) (suc at) z is =
    let rest = one_below part n at z is in
    let below = rest.2 in
    (rest.0, rest.1, omega (arith, below))

module _ {X : Type 0} (thread : X → ℕ) where
  -- ---- an operation of a seat that stands for one thread

  module _ (Is Now : X → Type 0) (views : List (List X)) (seated : AreSeated thread Is views) (id : ℕ) (x : X)
      (at : get_elem? views id ≡ some (x ∷ [])) where
    pub own_part : Is x
    own_part = (seated.parts id 0 (x ∷ []) x at refl).1

    own_seat : seated.seat (thread x) ≡ id
    own_seat = (seated.parts id 0 (x ∷ []) x at refl).0

    -- its part is another one of the same thread, and those of the others hold still
    pub one_changed : (y : X) → thread y ≡ thread x → Now y → ((z : X) → thread z ≢ thread x → Is z → Now z)
        → AreSeated thread Now (slice_set views id (y ∷ []))
    one_changed y same now others = record { seat = seated.seat; parts = each }
      where
        each : (j at : ℕ) (known : List X) (z : X) → get_elem? (slice_set views id (y ∷ [])) j ≡ some known
            → slice_get known at ≡ Some z
            → (seated.seat (thread z) ≡ j) × Now z
        each j at known z got there = ⊎_elim here elsewhere (at_set views id j (y ∷ []) known got)
          where
            here : (j ≡ id) × (y ∷ [] ≡ known) → (seated.seat (thread z) ≡ j) × Now z
            here (at_id, is) =
                let alone : y ≡ z = one_alone y z known at is there in
                (ap (λ (q : X). seated.seat (thread q)) (sym alone) ∙ ap seated.seat same ∙ own_seat ∙ sym at_id, subst Now alone now)

            elsewhere : (j ≢ id) × (get_elem? views j ≡ some known) → (seated.seat (thread z) ≡ j) × Now z
            elsewhere (not, old) =
                let before = seated.parts j at known z old there in
                (before.0, others z (λ is. not (sym before.0 ∙ ap seated.seat is ∙ own_seat)) before.1)

  -- ---- a seat for the first of several threads

  module _ (Is : X → Type 0) (views : List (List X)) (seated : AreSeated thread Is views) (id : ℕ) (first : X)
      (rest : List X)
      (apart : (at : ℕ) (z : X) → slice_get rest at ≡ Some z → thread z ≢ thread first)
      (at : get_elem? views id ≡ some (first ∷ rest)) where
    abbrev seat_now : ℕ → ℕ
    seat_now i = if i == thread first then length views else seated.seat i

    of_first : seat_now (thread first) ≡ length views
    of_first =
        ap (λ (b : Bool). if b then length views else seated.seat (thread first))
        (eq-eqb (thread first) (thread first) refl)

    of_other : (i : ℕ) → i ≢ thread first → seat_now i ≡ seated.seat i
    of_other i other = go (i == thread first) refl
      where
        go : (b : Bool) → i == thread first ≡ b → (if b then length views else seated.seat i) ≡ seated.seat i
        go true is = absurd (other (eqb-true i (thread first) is))
        go false is = refl

    one_seat : seated.seat (thread first) ≡ id
    one_seat = (seated.parts id 0 (first ∷ rest) first at refl).0

    split_parts : (j k : ℕ) (known : List X) (z : X)
        → get_elem? (slice_set views id rest ++ (first ∷ []) ∷ []) j ≡ some known → slice_get known k ≡ Some z
        → (seat_now (thread z) ≡ j) × Is z
    split_parts j k known z got there =
        ⊎_elim (λ old. ⊎_elim here elsewhere (at_set views id j rest known old)) new
        (at_end (slice_set views id rest) (first ∷ []) known j got)
      where
        here : (j ≡ id) × (rest ≡ known) → (seat_now (thread z) ≡ j) × Is z
        here (at_id, is) =
            let in_rest = subst (λ (ks : List X). slice_get ks k ≡ Some z) (sym is) there in
            let before = seated.parts id (suc k) (first ∷ rest) z at in_rest in
            (of_other (thread z) (apart k z in_rest) ∙ before.0 ∙ sym at_id, before.1)

        elsewhere : (j ≢ id) × (get_elem? views j ≡ some known) → (seat_now (thread z) ≡ j) × Is z
        elsewhere (not, old) =
            let before = seated.parts j k known z old there in
            (of_other (thread z) (λ same. not (sym before.0 ∙ ap seated.seat same ∙ one_seat)) ∙ before.0, before.1)

        new : (j ≡ length (slice_set views id rest)) × (first ∷ [] ≡ known) → (seat_now (thread z) ≡ j) × Is z
        new (last, is) =
            let alone : first ≡ z = one_alone first z known k is there in (
              ap (λ (q : X). seat_now (thread q)) (sym alone) ∙ of_first ∙ sym (length-set views id rest) ∙ sym last,
              subst Is alone (seated.parts id 0 (first ∷ rest) first at refl).1,
            )

    pub one_split : AreSeated thread Is (slice_set views id rest ++ (first ∷ []) ∷ [])
    one_split = record { seat = seat_now; parts = split_parts }

  -- the last of so many threads gets a seat
  pub last_split : (Is : X → Type 0) (views : List (List X)) → AreSeated thread Is views
      → (id n : ℕ) (part : ℕ → X) → ((i : ℕ) → thread (part i) ≡ i)
      → get_elem? views id ≡ some (part n ∷ all_below part n) → AreSeated thread Is (slice_set views id (all_below part n) ++ (part n ∷ []) ∷ [])
  last_split Is views seated id n part of at =
      one_split Is views seated id (part n) (all_below part n)
      (λ k z is same.
      let one = one_below part n k z is in
      let below = one.2 in
      let thread_is : one.0 ≡ n = sym (of one.0) ∙ ap thread one.1 ∙ same ∙ of n in
      omega (arith, below, thread_is)) at

  -- ---- a seat takes in what another one knows

  module _ (Is : X → Type 0) (views : List (List X)) (seated : AreSeated thread Is views) (id other : ℕ)
      (v w : List X)
      (at : get_elem? views id ≡ some v) (apart : other ≡ id → ⊥)
      (at_other : get_elem? (slice_set views id (v ++ w)) other ≡ some w) where
    abbrev seat_joined : ℕ → ℕ
    seat_joined i = if seated.seat i == other then id else seated.seat i

    taken : (i : ℕ) → seated.seat i ≡ other → seat_joined i ≡ id
    taken i is = ap (λ (b : Bool). if b then id else seated.seat i) (eq-eqb (seated.seat i) other is)

    left : (i : ℕ) → seated.seat i ≢ other → seat_joined i ≡ seated.seat i
    left i not = go (seated.seat i == other) refl
      where
        go : (b : Bool) → seated.seat i == other ≡ b → (if b then id else seated.seat i) ≡ seated.seat i
        go true is = absurd (not (eqb-true (seated.seat i) other is))
        go false is = refl

    -- the other seat had its view before
    before : get_elem? views other ≡ some w
    before = sym (set_else views id other (v ++ w) apart) ∙ at_other

    join_parts : (j k : ℕ) (known : List X) (z : X)
        → get_elem? (slice_set (slice_set views id (v ++ w)) other []) j ≡ some known
        → slice_get known k ≡ Some z
        → (seat_joined (thread z) ≡ j) × Is z
    join_parts j k known z got there =
        ⊎_elim spent (λ old. ⊎_elim here (elsewhere old.0) (at_set views id j (v ++ w) known old.1))
        (at_set (slice_set views id (v ++ w)) other j [] known got)
      where
        spent : (j ≡ other) × ([] ≡ known) → (seat_joined (thread z) ≡ j) × Is z
        spent (at_j, is) =
            absurd (no_part k z (subst (λ (ks : List X). slice_get ks k ≡ Some z) (sym is) there))
          where
            no_part : (k : ℕ) (z : X) → slice_get [] k ≡ Some z → ⊥
            no_part k z is = grind (arith, is)

        here : (j ≡ id) × (v ++ w ≡ known) → (seat_joined (thread z) ≡ j) × Is z
        here (at_id, is) =
            ⊎_elim own others
            (there_in_front v w k z (subst (λ (ks : List X). slice_get ks k ≡ Some z) (sym is) there))
          where
            own : (i : ℕ) × (slice_get v i ≡ Some z) → (seat_joined (thread z) ≡ j) × Is z
            own (i, in_v) =
                let was = seated.parts id i v z at in_v in
                (left (thread z) (λ same. apart (sym same ∙ was.0)) ∙ was.0 ∙ sym at_id, was.1)

            others : (i : ℕ) × (slice_get w i ≡ Some z) → (seat_joined (thread z) ≡ j) × Is z
            others (i, in_w) =
                let was = seated.parts other i w z before in_w in
                (taken (thread z) was.0 ∙ sym at_id, was.1)

        elsewhere : j ≢ other → (j ≢ id) × (get_elem? views j ≡ some known)
            → (seat_joined (thread z) ≡ j) × Is z
        elsewhere not_other (not, old) =
            let was = seated.parts j k known z old there in
            (left (thread z) (λ same. not_other (sym was.0 ∙ same)) ∙ was.0, was.1)

    pub one_joined : AreSeated thread Is (slice_set (slice_set views id (v ++ w)) other [])
    one_joined = record { seat = seat_joined; parts = join_parts }

  -- ---- a table is opened, with one seat for all threads

  pub first_seated : (Is : X → Type 0) (part : ℕ → X) (n : ℕ) → ((i : ℕ) → i < n → Is (part i))
      → AreSeated thread Is (all_below part n ∷ [])
  first_seated Is part n is = record { seat = λ i. 0; parts = each }
    where
      each : (j k : ℕ) (known : List X) (z : X) → get_elem? (all_below part n ∷ []) j ≡ some known
          → slice_get known k ≡ Some z → (0 ≡ j) × Is z
      each zero k known z got there =
          let one =
          one_below part n k z
          (subst (λ (ks : List X). slice_get ks k ≡ Some z) (sym (some-injective (all_below part n) known got)) there) in
          (refl, subst Is one.1 (is one.0 one.2))
      each (suc j) k known z got there = absurd (some-ne-none known (sym got))
