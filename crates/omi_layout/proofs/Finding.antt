-- The record at an address: the quotient and the remainder of the gap tell it.
use Rattle.std.proofs.Common.{◌≡◌, ◌≢◌, ℕ, ◌+◌, ◌-◌, ◌*◌, ◌/◌, ◌%◌, ◌<◌, ◌≤◌, List, Option, Some, None, sym, ap, subst, ap₂, ◌∙◌, arith}
use Rattle.std.proofs.lemmas.Nat.{div-mul-add, mod-mul-add, div-add-mod'}
use Rattle.std.proofs.Math.Nat.{div-lt_iff_lt-mul}
use Rattle.omi_layout.specs.Table.{size, place, thread_count, per_thread, records}
use Rattle.omi_layout.specs.Place.{record_address, slot_address, index_of, IsSlotAt, IsRecordAt}
use Rattle.omi_layout.proofs.Arenas.{index_within, records_made, all_make}

gap_of : (a d i s : ℕ) → d ≡ a + 8 * (i * s) → d - a ≡ i * (8 * s) + 0
gap_of a d i s e = omega (arith, e)

quotient : (a d i s : ℕ) → 0 < s → d ≡ a + 8 * (i * s) → (d - a) / (8 * s) ≡ i
quotient a d i s h e = ap (λ x. x / (8 * s)) (gap_of a d i s e) ∙ div-mul-add i (8 * s) 0 (omega (arith, h))

rest : (a d i s : ℕ) → 0 < s → d ≡ a + 8 * (i * s) → (d - a) % (8 * s) ≡ 0
rest a d i s h e = ap (λ x. x % (8 * s)) (gap_of a d i s e) ∙ mod-mul-add i (8 * s) 0 (omega (arith, h))

back : (a d q s : ℕ) → a ≤ d → d - a ≡ q * (8 * s) + 0 → d ≡ a + 8 * (q * s)
back a d q s h e = omega (arith, h, e)

whole : (x n : ℕ) → 0 < n → x % n ≡ 0 → x ≡ (x / n) * n + 0
whole x n h e = grind arith

module _ (w : List ℕ) (p addr : ℕ) where
  -- no record begins below the arena
  pub none_below : addr < place w p → IsRecordAt w p addr None
  none_below low = record { is = tt; all = λ i _ e. absurd (omega (arith, low, e)) }

  -- none begins where the gap is no multiple of a record
  pub none_between : 0 < size w p → (addr - place w p) % (8 * size w p) ≢ 0 → IsRecordAt w p addr None
  none_between h ne = record { is = tt; all = λ i _ e. absurd (ne (rest (place w p) addr i (size w p) h e)) }

  -- none begins behind the last
  pub none_behind : 0 < size w p → records w p ≤ (addr - place w p) / (8 * size w p)
      → IsRecordAt w p addr None
  none_behind h past = record { is = tt; all = λ i within e. absurd (omega (arith, quotient (place w p) addr i (size w p) h e, past, within)) }

  -- and else the quotient's record does
  pub one_found : 0 < size w p → place w p ≤ addr → (addr - place w p) % (8 * size w p) ≡ 0
      → (addr - place w p) / (8 * size w p) < records w p → IsRecordAt w p addr (Some ((addr - place w p) / (8 * size w p)))
  one_found h low even within = record {
    is = (within, back (place w p) addr ((addr - place w p) / (8 * size w p)) (size w p) low (whole (addr - place w p) (8 * size w p) (omega (arith, h)) even));
    all = λ i _ e. ap Some (quotient (place w p) addr i (size w p) h e);
  }

  -- no slot's record begins where none of the arena does
  pub no_slot : 2 ≤ p → IsRecordAt w p addr None → IsSlotAt w p addr None
  unfolding slot_address
  no_slot two r = record { is = tt; all = λ creator slot k e. let no = r.all (index_of w p creator slot) (index_within w p creator slot k) e in absurd (cc) }

some_same : (a b : ℕ) → Some a ≡ Some b → a ≡ b
some_same a b e = cc

quotient_below : (i t n : ℕ) → 0 < n → i < t * n → i / n < t
quotient_below i t n h e = (div-lt_iff_lt-mul {k = n} {x = i} {y = t} h).1 e

-- the thread of a record is one of the threads
pub creator_below : (w : List ℕ) (p addr index : ℕ) → 2 ≤ p → 0 < per_thread w p
    → IsRecordAt w p addr (Some index) → index / per_thread w p < thread_count w
creator_below w p addr index two h r =
    quotient_below index (thread_count w) (per_thread w p) h
    (omega (arith, r.is.0, records_made w p ∙ ap (λ m. m * per_thread w p) (all_make w p two)))

pub slot_below : (i n : ℕ) → 0 < n → i % n < n
slot_below i n h = omega (arith, h)

-- the slot of a record, by its number in the arena
pub slot_found : (w : List ℕ) (p addr index : ℕ) → 2 ≤ p → 0 < per_thread w p
    → IsRecordAt w p addr (Some index)
    → IsSlotAt w p addr (Some (record { 0 = index / per_thread w p; 1 = index % per_thread w p }))
unfolding slot_address
slot_found w p addr index two h r = record {
  is = (
    record { made_by = subst (λ m. index / per_thread w p < m) (sym (all_make w p two)) (creator_below w p addr index two h r); within = slot_below index (per_thread w p) h },
    subst (λ i. addr ≡ record_address w p i) (sym (div-add-mod' index (per_thread w p))) r.is.1,
  );
  all = λ creator slot k e.
      let same : index ≡ creator * per_thread w p + slot =
      some_same _ _ (r.all (index_of w p creator slot) (index_within w p creator slot k) e) in
      let first : index / per_thread w p ≡ creator =
      ap (λ i. i / per_thread w p) same ∙ div-mul-add creator (per_thread w p) slot k.within in
      let second : index % per_thread w p ≡ slot =
      ap (λ i. i % per_thread w p) same ∙ mod-mul-add creator (per_thread w p) slot k.within in
      ap₂ {C = Option (record { 0 : ℕ; 1 : ℕ })} (λ a b. Some (record { 0 = a; 1 = b })) first second;
}
