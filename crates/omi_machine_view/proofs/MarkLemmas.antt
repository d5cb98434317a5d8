-- One more place of the marks filled.
use Rattle.std.proofs.Common.{◌≡◌, ◌≢◌, ◌==◌, ◌⊎◌, inl, inr, ℕ, zero, suc, ◌+◌, ◌*◌, ◌/◌, ◌%◌, ◌<◌, Bool, true, false, List, [], ◌∷◌, length, Option, Some, None, is_some, refl, sym, ap, subst, ◌∙◌, arith, eqb-true, eq-eqb, get_or}
use Rattle.std.specs.Prelude.{slice_get, slice_set}
use Rattle.std.proofs.lemmas.Option.{slice_get_within, slice_get-get_or}
use Rattle.std.proofs.lemmas.Nat.{div-mul-add, mod-mul-add}
use Rattle.omi_model.specs.declared.id.Id.{Id}
use Rattle.omi_model.specs.Put.{Slots}
use Rattle.omi_machine_view.specs.declared.marks.Marks.{Marks}
use Rattle.omi_machine_view.specs.Marked.{IsMarked}
use Rattle.omi_machine_view.specs.Marks.{HavePlaces, Stops, HasPlace, IsPlaced, ArePlaced, WasMet, IsMetSlot, place_of, unmet}

pub slice_get-set_same : {A : Type 0} (xs : List A) (i : ℕ) (x : A) → i < length xs
    → slice_get (slice_set xs i x) i ≡ Some x
slice_get-set_same [] i x within = absurd (omega (arith, within))
slice_get-set_same (y ∷ ys) zero x within = refl
slice_get-set_same (y ∷ ys) (suc i) x within = slice_get-set_same ys i x (omega (arith, within))

pub slice_get-set_other : {A : Type 0} (xs : List A) (i j : ℕ) (x : A) → j ≢ i
    → slice_get (slice_set xs i x) j ≡ slice_get xs j
slice_get-set_other [] i j x ne = refl
slice_get-set_other (y ∷ ys) zero zero x ne = absurd (ne refl)
slice_get-set_other (y ∷ ys) zero (suc j) x ne = refl
slice_get-set_other (y ∷ ys) (suc i) zero x ne = refl
slice_get-set_other (y ∷ ys) (suc i) (suc j) x ne = slice_get-set_other ys i j x (λ e. ne (ap suc e))

-- one unmet place less
pub unmet-set : (met : List (Option Id)) (i : ℕ) (n : Id) → slice_get met i ≡ Some None
    → unmet (slice_set met i (Some n)) + 1 ≡ unmet met
unmet-set [] i n free = absurd (cc free)
unmet-set (None ∷ places) zero n free = omega arith
unmet-set (Some m ∷ places) zero n free = absurd (cc free)
unmet-set (None ∷ places) (suc i) n free = omega (arith, unmet-set places i n free)
unmet-set (Some m ∷ places) (suc i) n free = unmet-set places i n free

-- what stands at a place, by whether it is something
pub nothing_there : (o : Option Id) → is_some o ≡ false → o ≡ None
nothing_there None e = refl
nothing_there (Some n) e = absurd (cc e)

pub something_there : (o : Option Id) → is_some o ≡ true → (n : Id) × (o ≡ Some n)
something_there None e = absurd (cc e)
something_there (Some n) e = (n, refl)

pub free_at : (met : List (Option Id)) (place : ℕ) (o : Option Id) → place < length met
    → o ≡ get_or met place o → is_some o ≡ false → slice_get met place ≡ Some None
free_at met place o within is e = slice_get-get_or met place o within ∙ ap Some (sym is ∙ nothing_there o e)

pub met_at : (met : List (Option Id)) (place : ℕ) (o : Option Id) → place < length met
    → o ≡ get_or met place o → is_some o ≡ true → (n : Id) × (slice_get met place ≡ Some (Some n))
met_at met place o within is e =
    let (n, some) = something_there o e in
    (n, slice_get-get_or met place o within ∙ ap Some (sym is ∙ some))

-- names at one place are in one slot
pub one_slot : (creators width place : ℕ) (m n : Id) → IsPlaced creators width place m
    → HasPlace creators width n → place_of width n ≡ place → (m.creator ≡ n.creator) × (m.slot ≡ n.slot)
one_slot creators width place m n there has same =
    let at : place_of width m ≡ place_of width n = there.there ∙ sym same in (
      sym (div-mul-add m.creator width m.slot there.has.slot) ∙ ap (λ x. x / width) at ∙ div-mul-add n.creator width n.slot has.slot,
      sym (mod-mul-add m.creator width m.slot there.has.slot) ∙ ap (λ x. x % width) at ∙ mod-mul-add n.creator width n.slot has.slot,
    )

module _ (creators width : ℕ) (met : List (Option Id)) (n : Id)
    (free : slice_get met (place_of width n) ≡ Some None) where
  here : slice_get (slice_set met (place_of width n) (Some n)) (place_of width n) ≡ Some (Some n)
  here =
      slice_get-set_same met (place_of width n) (Some n) (slice_get_within met (place_of width n) None free)

  pub added : WasMet (slice_set met (place_of width n) (Some n)) n
  added = (place_of width n, here)

  pub kept : (m : Id) → WasMet met m → WasMet (slice_set met (place_of width n) (Some n)) m
  kept m (p, is) = (p, slice_get-set_other met (place_of width n) p (Some n) differ ∙ is)
    where
      differ : p ≢ place_of width n
      differ same =
          let clash : Some None ≡ Some (Some m) = sym free ∙ ap (slice_get met) (sym same) ∙ is in cc clash

  pub only : (m : Id) → WasMet (slice_set met (place_of width n) (Some n)) m → WasMet met m ⊎ (m ≡ n)
  only m (p, is) = go (p == place_of width n) refl
    where
      go : (b : Bool) → p == place_of width n ≡ b → WasMet met m ⊎ (m ≡ n)
      go true e =
          let same : p ≡ place_of width n = eqb-true p (place_of width n) e in
          let there : Some (Some n) ≡ Some (Some m) =
          sym here ∙ ap (slice_get (slice_set met (place_of width n) (Some n))) (sym same) ∙ is in
          inr (cc there)
      go false e =
          inl
          (p, sym (slice_get-set_other met (place_of width n) p (Some n) (λ same. clash e (eq-eqb p (place_of width n) same))) ∙ is)
        where
          clash : p == place_of width n ≡ false → p == place_of width n ≡ true → ⊥
          clash x y = cc

  pub still_placed : ArePlaced creators width met → HasPlace creators width n
      → ArePlaced creators width (slice_set met (place_of width n) (Some n))
  still_placed placed has p m is = go (p == place_of width n) refl
    where
      clash : p == place_of width n ≡ false → p == place_of width n ≡ true → ⊥
      clash x y = cc

      go : (b : Bool) → p == place_of width n ≡ b → IsPlaced creators width p m
      go true e =
          let same : p ≡ place_of width n = eqb-true p (place_of width n) e in
          let there : Some (Some n) ≡ Some (Some m) =
          sym here ∙ ap (slice_get (slice_set met (place_of width n) (Some n))) (sym same) ∙ is in
          let one : n ≡ m = cc there in
          subst (IsPlaced creators width p) one (record { has = has; there = sym same })
      go false e =
          placed p m
          (sym (slice_get-set_other met (place_of width n) p (Some n) (λ same. clash e (eq-eqb p (place_of width n) same))) ∙ is)

-- places stay while objects are met
pub places_stay : {A : Type 0} (slots : Slots A) (old new : Marks) (n : Id) → IsMarked old new n
    → HavePlaces old.creators old.width slots → HavePlaces new.creators new.width slots
places_stay slots old new n marked places m x live =
    let has = places m x live in
    record { creator = omega (arith, has.creator, marked.creators); slot = omega (arith, has.slot, marked.width) }

-- where a walk stops, said of the same slots and the same place
pub stop_at : {A : Type 0} (slots others : Slots A) (met : List (Option Id)) (there at : Option Id)
    → slots ≡ others → there ≡ at → Stops others met there → Stops slots met at
stop_at slots others met there at same e stops =
    subst (λ m. Stops m met at) (sym same) (subst (Stops others met) e stops)
