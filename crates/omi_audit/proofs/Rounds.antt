-- A search in rounds, and the same search by a list that is worked through: both meet the same, in the same order.
use Rattle.std.proofs.Common.{◌≡◌, ◌⊎◌, inl, inr, ℕ, zero, suc, ◌+◌, ◌-◌, ◌<◌, ◌≤◌, true, List, [], ◌∷◌, ◌++◌, length, take, Some, refl, sym, ap, subst, ◌∙◌, arith, append_assoc}
use Rattle.std.specs.Prelude.{slice_get}
use Rattle.std.specs.List.{flat_map}
use Rattle.std.proofs.lemmas.Grind.{flat_map-append}
use Rattle.std.proofs.lemmas.List.{append-nil, length-append, take-append-le, flat_map_more}
use Rattle.std.proofs.lemmas.Option.{slice_get_within}
use Rattle.std.proofs.Math.Seq.{take-length}
use Rattle.omi_audit.proofs.FirstOnes.{has, with_all, Begins, begins_same, begins_then, begins_length, begins_whole, begins_both, or_cases, or_first, or_second, has_append, has_with_all, has_named, named_has, with_all_then, with_all_begins, first_begins, few_first}

-- the elements in front of one, and this one
pub take_one : {A : Type 0} (xs : List A) (k : ℕ) (x : A) → slice_get xs k ≡ Some x → take (suc k) xs ≡ take k xs ++ x ∷ []
take_one [] k x is = absurd (cc)
take_one (y ∷ ys) zero x is = let same : y ≡ x = cc in ap (λ z. z ∷ []) same
take_one (y ∷ ys) (suc k) x is = ap (λ l. y ∷ l) (take_one ys k x is)

take_begins : (k : ℕ) (xs : List ℕ) → Begins (take k xs) xs
take_begins zero xs = record { rest = xs; is = refl }
take_begins (suc k) [] = record { rest = []; is = refl }
take_begins (suc k) (x ∷ xs) = let b = take_begins k xs in record { rest = b.rest; is = ap (λ l. x ∷ l) b.is }

-- what is named first, and what each number names
module _ (first : List ℕ) (next : ℕ → List ℕ) where
  abbrev pub round : List ℕ → List ℕ
  round met = with_all [] (first ++ flat_map next met)

  abbrev pub rounds : ℕ → List ℕ
  rounds zero = []
  rounds (suc n) = round (rounds n)

  round_begins : {xs ys : List ℕ} → Begins xs ys → Begins (round xs) (round ys)
  round_begins {xs} {ys} b = first_begins (record {
    rest = flat_map next b.rest;
    is = ap (λ l. first ++ flat_map next l) b.is ∙ ap (λ l. first ++ l) (flat_map-append next xs b.rest) ∙ sym (append_assoc first (flat_map next xs) (flat_map next b.rest));
  })

  rounds_begin : (n : ℕ) → Begins (rounds n) (rounds (suc n))
  rounds_begin zero = record { rest = rounds 1; is = refl }
  rounds_begin (suc n) = round_begins (rounds_begin n)

  rounds_later : (d n m : ℕ) → m ≡ d + n → Begins (rounds n) (rounds m)
  rounds_later zero n m is = subst (λ k. Begins (rounds n) (rounds k)) (let e : n ≡ m = omega (arith, is) in e) (begins_same (rounds n))
  rounds_later (suc d) n m is =
      subst (λ k. Begins (rounds n) (rounds k)) (let e : suc (d + n) ≡ m = omega (arith, is) in e)
      (begins_then (rounds_later d n (d + n) refl) (rounds_begin (d + n)))

  pub round_later : (n m : ℕ) → n ≤ m → Begins (rounds n) (rounds m)
  round_later n m low = rounds_later (m - n) n m (omega arith)

  -- ---- a list that is worked through

  -- the first k were worked through
  pub record IsGoing (k : ℕ) (met : List ℕ) : Type 0 where
    pub within : k ≤ length met
    pub is : met ≡ round (take k met)
    pub reach : Begins (take k met) (rounds k)

  pub going_first : IsGoing 0 (with_all [] first)
  going_first = record {
    within = omega arith;
    is = ap (with_all []) (sym (append-nil first));
    reach = begins_same [];
  }

  -- what was met is met in the next round at the latest
  pub going_begins : {k : ℕ} {met : List ℕ} → IsGoing k met → Begins met (rounds (suc k))
  going_begins {k} {met} g = subst (λ l. Begins l (rounds (suc k))) (sym g.is) (round_begins g.reach)

  pub going_next : {k : ℕ} {met : List ℕ} (x : ℕ) → IsGoing k met → slice_get met k ≡ Some x
      → IsGoing (suc k) (with_all met (next x))
  going_next {k} {met} x g is =
      let grown = with_all_begins met (next x) in
      let past : k < length met = slice_get_within met k x is in
      let more : take (suc k) (with_all met (next x)) ≡ take (suc k) met =
      ap (take (suc k)) grown.is ∙ take-append-le (suc k) met grown.rest (omega (arith, past)) in
      let one : take (suc k) (with_all met (next x)) ≡ take k met ++ x ∷ [] = more ∙ take_one met k x is in
      let done : round (take k met ++ x ∷ []) ≡ with_all met (next x) =
      ap (with_all []) (sym (flat_map_more next first (take k met) x))
      ∙ with_all_then [] (first ++ flat_map next (take k met)) (next x)
      ∙ ap (λ l. with_all l (next x)) (sym g.is) in
      record {
        within = (let long = begins_length grown in omega (arith, past, long));
        is = sym (ap round one ∙ done);
        reach = subst (λ l. Begins l (rounds (suc k))) (sym more) (begins_then (take_begins (suc k) met) (going_begins g));
      }

  -- all were
  module _ (met : List ℕ) (g : IsGoing (length met) met) where
    done_fixed : round met ≡ met
    done_fixed = ap round (sym (take-length met)) ∙ sym g.is

    done_begins : (n : ℕ) → Begins (rounds n) met
    done_begins zero = record { rest = met; is = refl }
    done_begins (suc n) = subst (Begins (rounds (suc n))) done_fixed (round_begins (done_begins n))

    pub going_done : (n : ℕ) → length met ≤ n → rounds n ≡ met
    going_done n low =
        begins_both (done_begins n)
        (begins_then (subst (λ l. Begins l (rounds (length met))) (take-length met) g.reach) (round_later (length met) n low))

  -- ---- where there are only so many

  module _ (all : List ℕ) (firsts : (x : ℕ) → has first x ≡ true → has all x ≡ true)
      (nexts : (y x : ℕ) → has (next y) x ≡ true → has all x ≡ true) where
    pub few_met : (met : List ℕ) → length (round met) ≤ length all
    few_met met = few_first all (first ++ flat_map next met) (λ x is.
        elim (or_cases (has first x) (has (flat_map next met) x) (sym (has_append first (flat_map next met) x) ∙ is)) [
          | inl named ↦ firsts x named
          | inr named ↦ let by = has_named next met x named in nexts by.0 x by.2
        ])

    -- each round meets more, or nothing more is met
    more_met : (n : ℕ) → (n ≤ length (rounds n)) ⊎ (round (rounds n) ≡ rounds n)
    more_met zero = inl (omega arith)
    more_met (suc n) = elim (more_met n) [
      | inl many ↦ let b = rounds_begin n in grown many b.rest b.is
      | inr same ↦ inr (ap round same)
    ]
      where
        grown : n ≤ length (rounds n) → (rest : List ℕ) → round (rounds n) ≡ rounds n ++ rest
            → (suc n ≤ length (round (rounds n))) ⊎ (round (round (rounds n)) ≡ round (rounds n))
        grown many [] e = inr (ap round (e ∙ append-nil (rounds n)))
        grown many (x ∷ rest) e =
            inl (let long : length (round (rounds n)) ≡ length (rounds n) + suc (length rest) = ap length e ∙ length-append (rounds n) (x ∷ rest) in omega (arith, long, many))

    -- so after that many nothing more is
    pub rounds_end : (n : ℕ) → n ≡ length all → round (rounds n) ≡ rounds n
    rounds_end n is = elim (more_met n) [
      | inl many ↦ let few = few_met (rounds n) in begins_whole (rounds_begin n) (omega (arith, many, few, is))
      | inr same ↦ same
    ]

  -- ---- what is met

  pub round_has : (met : List ℕ) (a : ℕ) → has (round met) a ≡ true
      → (has first a ≡ true) ⊎ ((x : ℕ) × (has met x ≡ true) × (has (next x) a ≡ true))
  round_has met a is =
      elim (or_cases (has first a) (has (flat_map next met) a) (sym (has_append first (flat_map next met) a) ∙ sym (has_with_all [] (first ++ flat_map next met) a) ∙ is)) [
        | inl named ↦ inl named
        | inr named ↦ inr (has_named next met a named)
      ]

  pub has_first : (met : List ℕ) (a : ℕ) → has first a ≡ true → has (round met) a ≡ true
  has_first met a is =
      has_with_all [] (first ++ flat_map next met) a ∙ has_append first (flat_map next met) a ∙ or_first (has first a) (has (flat_map next met) a) is

  pub has_next : (met : List ℕ) (x a : ℕ) → has met x ≡ true → has (next x) a ≡ true → has (round met) a ≡ true
  has_next met x a among is =
      has_with_all [] (first ++ flat_map next met) a
      ∙ has_append first (flat_map next met) a
      ∙ or_second (has first a) (has (flat_map next met) a) (named_has next met x a among is)
