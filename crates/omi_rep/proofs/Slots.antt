-- The slots of a kind of record: all are gone through, in order, and the one of a record is found at its address.
use Rattle.std.proofs.Common.{◌≡◌, ◌==◌, ◌⊎◌, inl, inr, ℕ, zero, suc, ◌+◌, ◌*◌, ◌<◌, ◌≤◌, true, List, map, Option, Some, None, refl, sym, ap, subst, ◌∙◌, arith, eq-eqb, mul-le-mul}
use Rattle.std.specs.Prelude.{Contains, is_some}
use Rattle.std.specs.Option.{option_map}
use Rattle.std.specs.List.{flat_map, range_with_len}
use Rattle.std.proofs.lemmas.Bool.{eqb-true}
use Rattle.omi_layout.specs.declared.limits.TheConstants.{LAST_END}
use Rattle.omi_layout.specs.Field.{IsKind, threads}
use Rattle.omi_layout.specs.Table.{size, makers, per_thread, records}
use Rattle.omi_layout.specs.Place.{slot_address, record_address, index_of, IsSlot, IsSlotAt, IsRecordAt}
use Rattle.omi_layout.specs.Valid.{IsValid}
use Rattle.omi_layout.proofs.Arenas.{index_within, ends, placed}
use Rattle.omi_layout.proofs.Frame.{addresses_apart}
use Rattle.omi_rep.specs.Look.{slot_list, slot_at}
use Rattle.omi_rep.proofs.Lists.{in_map, from_map, in_joined, from_joined, in_range, from_range, from_found, one_found, Ordered, joined_ordered}

-- each slot is gone through
pub in_slots : (w : List ℕ) (kind creator slot : ℕ) → IsSlot w kind creator slot
    → Contains (slot_list w kind) (creator, slot)
in_slots w kind creator slot is =
    in_joined (λ (c : ℕ). map (λ (k : ℕ). (c, k)) (range_with_len 0 (per_thread w kind)))
    (range_with_len 0 (makers w kind)) creator (creator, slot)
    (in_range 0 (makers w kind) creator (omega arith) (omega (arith, is.made_by)))
    (in_map (λ (k : ℕ). (creator, k)) (range_with_len 0 (per_thread w kind)) slot (in_range 0 (per_thread w kind) slot (omega arith) (omega (arith, is.within))))

slot_within : (w : List ℕ) (kind : ℕ) (at : ℕ × ℕ) → Contains (slot_list w kind) at → IsSlot w kind at.0 at.1
slot_within w kind at among =
    let (c, maker, inside) =
    from_joined (λ (c : ℕ). map (λ (k : ℕ). (c, k)) (range_with_len 0 (per_thread w kind)))
    (range_with_len 0 (makers w kind)) at among in
    let (k, place, is) = from_map (λ (k : ℕ). (c, k)) (range_with_len 0 (per_thread w kind)) at inside in
    let made : c ≡ at.0 = ap (λ (q : ℕ × ℕ). q.0) is in
    let placed : k ≡ at.1 = ap (λ (q : ℕ × ℕ). q.1) is in
    record { made_by = omega (arith, made, (from_range 0 (makers w kind) c maker).1); within = omega (arith, placed, (from_range 0 (per_thread w kind) k place).1) }

module _ (w : List ℕ) (kind address : ℕ) where
  -- the slot that was found has its record there
  pub slot_is : (at : ℕ × ℕ) → slot_at w kind address ≡ Some at
      → IsSlot w kind at.0 at.1 × (address ≡ slot_address w kind at.0 at.1)
  slot_is at e =
      let found =
      from_found (λ (at : ℕ × ℕ). slot_address w kind at.0 at.1 == address) (slot_list w kind) at e in
      (slot_within w kind at found.0, sym (eqb-true _ _ found.1))

  -- where none was found, there is none
  pub slot_none : (creator slot : ℕ) → slot_at w kind address ≡ None → IsSlot w kind creator slot
      → address ≡ slot_address w kind creator slot → ⊥
  slot_none creator slot e is there =
      let (at, found) =
      one_found (λ (at : ℕ × ℕ). slot_address w kind at.0 at.1 == address) (slot_list w kind) (creator, slot)
      (in_slots w kind creator slot is) (eq-eqb _ _ (sym there)) in
      let clash : None ≡ Some at = sym e ∙ found in
      cc clash

  -- so the slot at an address is the one that is found
  pub slot_same : (found : Option (ℕ × ℕ)) → IsSlotAt w kind address found → slot_at w kind address ≡ found
  slot_same found h = go (slot_at w kind address) refl found h
    where
      go : (o : Option (ℕ × ℕ)) → slot_at w kind address ≡ o → (f : Option (ℕ × ℕ))
          → IsSlotAt w kind address f → o ≡ f
      go None e None at = refl
      go None e (Some x) at = absurd (slot_none x.0 x.1 e at.is.0 at.is.1)
      go (Some y) e f at = let there = slot_is y e in sym (at.all y.0 y.1 there.0 there.1)

  -- a record's address is low
  pub slot_low : IsValid w → IsKind kind → (at : ℕ × ℕ) → slot_at w kind address ≡ Some at
      → address ≤ LAST_END
  unfolding slot_address
  slot_low v k at e =
      let there = slot_is at e in
      let within = index_within w kind at.0 at.1 there.0 in
      let low = ends w kind (placed w kind (v.arenas kind k)) in
      let front : index_of w kind at.0 at.1 * size w kind ≤ records w kind * size w kind =
      mul-le-mul (omega (arith, within)) (omega arith) in
      omega (arith, low, front, there.1)

  pub place_low : IsValid w → IsKind kind → is_some (slot_at w kind address) ≡ true → address ≤ LAST_END
  place_low v k is = go (slot_at w kind address) refl is
    where
      go : (o : Option (ℕ × ℕ)) → slot_at w kind address ≡ o → is_some o ≡ true → address ≤ LAST_END
      go None e is = absurd (cc)
      go (Some at) e is = slot_low v k at e

-- the record of a thread at an address is in its slot 0
pub thread_slot : (w : List ℕ) (address : ℕ) (found : Option ℕ) → IsRecordAt w threads address found
    → slot_at w threads address ≡ option_map (λ (i : ℕ). (i, 0)) found
unfolding slot_address
thread_slot w address found h = go (slot_at w threads address) refl found h
  where
    one : (y : ℕ × ℕ) (i : ℕ) → y.1 < 1 → i ≡ y.0 * 1 + y.1 → ◌≡◌ {A = Option (ℕ × ℕ)} (Some y) (Some (i, 0))
    one y i low is =
        let first : y.0 ≡ i = omega (arith, low, is) in
        let second : y.1 ≡ 0 = omega (arith, low) in
        (λ k. Some (first k, second k))

    go : (o : Option (ℕ × ℕ)) → slot_at w threads address ≡ o → (f : Option ℕ)
        → IsRecordAt w threads address f → o ≡ option_map (λ (i : ℕ). (i, 0)) f
    go None e None at = refl
    go None e (Some i) at =
        absurd
        (slot_none w threads address i 0 e (record { made_by = omega (arith, at.is.0); within = omega arith }) (at.is.1 ∙ ap (record_address w threads) (let same : i ≡ i * 1 + 0 = omega arith in same)))
    go (Some y) e None at =
        let there = slot_is w threads address y e in
        let never : None ≡ Some (index_of w threads y.0 y.1) =
        at.all (index_of w threads y.0 y.1) (index_within w threads y.0 y.1 there.0) there.1 in
        absurd (cc)
    go (Some y) e (Some i) at =
        let there = slot_is w threads address y e in
        let found : Some i ≡ Some (index_of w threads y.0 y.1) =
        at.all (index_of w threads y.0 y.1) (index_within w threads y.0 y.1 there.0) there.1 in
        let same : i ≡ index_of w threads y.0 y.1 = cc in
        one y i (omega (arith, there.0.within)) same

-- so one begins there where it is found
pub thread_same : (w : List ℕ) (address : ℕ) (found : Option ℕ) → IsRecordAt w threads address found
    → is_some (slot_at w threads address) ≡ is_some found
thread_same w address found h = ap is_some (thread_slot w address found h) ∙ some found
  where
    some : (f : Option ℕ) → is_some {T = ℕ × ℕ} (option_map (λ (i : ℕ). (i, 0)) f) ≡ is_some f
    some None = refl
    some (Some i) = refl

-- a slot's record begins at its address
pub slot_begins : (w : List ℕ) (kind creator slot : ℕ) → IsSlot w kind creator slot
    → is_some (slot_at w kind (slot_address w kind creator slot)) ≡ true
slot_begins w kind creator slot is = go (slot_at w kind (slot_address w kind creator slot)) refl
  where
    go : (o : Option (ℕ × ℕ)) → slot_at w kind (slot_address w kind creator slot) ≡ o → is_some o ≡ true
    go None e = absurd (slot_none w kind (slot_address w kind creator slot) creator slot e is refl)
    go (Some at) e = refl

-- the slot of a record is found at its address
pub slot_found : (w : List ℕ) → IsValid w → (kind : ℕ) → IsKind kind → (creator slot : ℕ)
    → IsSlot w kind creator slot → slot_at w kind (slot_address w kind creator slot) ≡ Some (creator, slot)
slot_found w valid kind known creator slot is = go (slot_at w kind (slot_address w kind creator slot)) refl
  where
    go : (o : Option (ℕ × ℕ)) → slot_at w kind (slot_address w kind creator slot) ≡ o
        → o ≡ Some (creator, slot)
    go None e = absurd (slot_none w kind (slot_address w kind creator slot) creator slot e is refl)
    go (Some at) e =
        let there = slot_is w kind (slot_address w kind creator slot) at e in
        let same = addresses_apart w valid kind creator slot at.0 at.1 known is there.0 there.1 in
        λ i. Some (sym same.maker i, sym same.place i)

-- one slot comes before another: by creator, then by number
abbrev pub SlotBefore : ℕ × ℕ → ℕ × ℕ → Type 0
SlotBefore a b = (a.0 < b.0) ⊎ ((a.0 ≡ b.0) × (a.1 < b.1))

row_ordered : (c a n : ℕ) → Ordered SlotBefore (map (λ (k : ℕ). (c, k)) (range_with_len a n))
row_ordered c a zero = tt
row_ordered c a (suc n) = (front, row_ordered c (a + 1) n)
  where
    front : (y : ℕ × ℕ) → Contains (map (λ (k : ℕ). (c, k)) (range_with_len (a + 1) n)) y
        → SlotBefore (c, a) y
    front y among =
        let (k, inside, is) = from_map (λ (k : ℕ). (c, k)) (range_with_len (a + 1) n) y among in
        let low = from_range (a + 1) n k inside in
        inr
        (ap (λ (q : ℕ × ℕ). q.0) is, (let past : a < y.1 = subst (λ (q : ℕ). a < q) (ap (λ (q : ℕ × ℕ). q.1) is) (omega (arith, low.0)) in past))

rows_ordered : (m a n : ℕ)
    → Ordered SlotBefore (flat_map (λ (c : ℕ). map (λ (k : ℕ). (c, k)) (range_with_len 0 m)) (range_with_len a n))
rows_ordered m a zero = tt
rows_ordered m a (suc n) =
    joined_ordered SlotBefore (map (λ (k : ℕ). (a, k)) (range_with_len 0 m))
    (flat_map (λ (c : ℕ). map (λ (k : ℕ). (c, k)) (range_with_len 0 m)) (range_with_len (a + 1) n))
    (row_ordered a 0 m) (rows_ordered m (a + 1) n) between
  where
    between : (x y : ℕ × ℕ) → Contains (map (λ (k : ℕ). (a, k)) (range_with_len 0 m)) x
        → Contains (flat_map (λ (c : ℕ). map (λ (k : ℕ). (c, k)) (range_with_len 0 m)) (range_with_len (a + 1) n)) y
        → SlotBefore x y
    between x y first second =
        let (k, _, is) = from_map (λ (k : ℕ). (a, k)) (range_with_len 0 m) x first in
        let (c, inside, among) =
        from_joined (λ (c : ℕ). map (λ (k : ℕ). (c, k)) (range_with_len 0 m))
        (range_with_len (a + 1) n) y second in
        let (h, _, was) = from_map (λ (k : ℕ). (c, k)) (range_with_len 0 m) y among in
        let low = from_range (a + 1) n c inside in
        let one : a ≡ x.0 = ap (λ (q : ℕ × ℕ). q.0) is in
        let other : c ≡ y.0 = ap (λ (q : ℕ × ℕ). q.0) was in
        inl (omega (arith, low.0, one, other))

-- the slots are gone through in order
pub slots_ordered : (w : List ℕ) (kind : ℕ) → Ordered SlotBefore (slot_list w kind)
slots_ordered w kind = rows_ordered (per_thread w kind) 0 (makers w kind)
