-- The slot of the record at an address, as index arithmetic gives it.
use Rattle.std.proofs.Common.{◌≡◌, ℕ, ◌+◌, ◌-◌, ◌*◌, ◌/◌, ◌%◌, ◌<◌, ◌==◌, nat_lt, Bool, true, false, List, None, refl, sym, ap, ap₂, ◌∙◌, arith, eqb-true, ltb-true, if◌then◌else◌}
use Rattle.std.proofs.lemmas.Nat.{div-mul-add, mod-mul-add}
use Rattle.std.proofs.lemmas.Bool.Decides.{nat_tests}
use Rattle.omi_layout.specs.Place.{IsSlot, IsSlotAt, slot_address}
use Rattle.omi_layout.proofs.Arenas.{test_left, test_right}
use Rattle.omi_layout.specs.Table.{makers, per_thread, place, size}
use Rattle.omi_pc.specs.declared.place.Place.{Place}
use Rattle.omi_step_words.specs.Words.{slot_by, index_by, begins_at, initial_place, place_at}

gap_of : (a d i s : ℕ) → d ≡ a + 8 * (i * s) → d - a ≡ i * (8 * s) + 0
gap_of a d i s e = omega (arith, e)

quotient : (a d i s : ℕ) → 0 < s → d ≡ a + 8 * (i * s) → (d - a) / (8 * s) ≡ i
quotient a d i s h e = ap (λ x. x / (8 * s)) (gap_of a d i s e) ∙ div-mul-add i (8 * s) 0 (omega (arith, h))

begins : (w : List ℕ) (kind address creator slot : ℕ) → creator < makers w kind
    → address ≡ slot_address w kind creator slot
    → begins_at w kind address (record { creator = creator; slot = slot }) ≡ true
begins w kind address creator slot h e = grind (arith, nat_tests)

module _ (w : List ℕ) (kind address : ℕ) where
  -- the place is that of the slot whose record begins at the address
  pub found_place : (creator slot : ℕ) → 0 < size w kind → IsSlot w kind creator slot
      → address ≡ slot_address w kind creator slot
      → place_at w kind address ≡ record { creator = creator; slot = slot }
  unfolding slot_address
  found_place creator slot some k e =
      let index : index_by w kind address ≡ creator * per_thread w kind + slot =
      quotient (place w kind) address (creator * per_thread w kind + slot) (size w kind) some e in
      let first : index_by w kind address / per_thread w kind ≡ creator =
      ap (λ i. i / per_thread w kind) index ∙ div-mul-add creator (per_thread w kind) slot k.within in
      let second : index_by w kind address % per_thread w kind ≡ slot =
      ap (λ i. i % per_thread w kind) index ∙ mod-mul-add creator (per_thread w kind) slot k.within in
      let same : slot_by w kind (index_by w kind address) ≡ record { creator = creator; slot = slot } =
      ap₂ {C = Place} (λ a b. record { creator = a; slot = b }) first second in
      let here : begins_at w kind address (slot_by w kind (index_by w kind address)) ≡ true =
      ap (begins_at w kind address) same ∙ begins w kind address creator slot k.made_by e in
      rw here same

  -- and the first place where no record begins there
  pub no_place : 0 < per_thread w kind → IsSlotAt w kind address None
      → place_at w kind address ≡ initial_place
  no_place some none = by (begins_at w kind address at) refl
    where
      at : Place
      at = slot_by w kind (index_by w kind address)

      by : (b : Bool) → begins_at w kind address at ≡ b → place_at w kind address ≡ initial_place
      by true e =
          let made : at.creator < makers w kind =
          ltb-true at.creator (makers w kind)
          (test_left (nat_lt at.creator (makers w kind)) (slot_address w kind at.creator at.slot == address) e) in
          let there : slot_address w kind at.creator at.slot ≡ address =
          eqb-true (slot_address w kind at.creator at.slot) address
          (test_right (nat_lt at.creator (makers w kind)) (slot_address w kind at.creator at.slot == address) e) in
          let k : IsSlot w kind at.creator at.slot = record { made_by = made; within = omega (arith, some) } in
          let no = none.all at.creator at.slot k (sym there) in
          absurd (cc)
      by false e = rw e refl

  -- a place that is read back is that of a slot, whatever the address
  pub slot_there : 0 < per_thread w kind → 0 < makers w kind
      → IsSlot w kind (place_at w kind address).creator (place_at w kind address).slot
  slot_there some made = by (begins_at w kind address at) refl
    where
      at : Place
      at = slot_by w kind (index_by w kind address)

      by : (b : Bool) → begins_at w kind address at ≡ b
          → IsSlot w kind (if b then at else initial_place).creator (if b then at else initial_place).slot
      by true e = record {
        made_by = ltb-true at.creator (makers w kind)
            (test_left (nat_lt at.creator (makers w kind)) (slot_address w kind at.creator at.slot == address) e);
        within = omega (arith, some);
      }
      by false e = record { made_by = made; within = some }
