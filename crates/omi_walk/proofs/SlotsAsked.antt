-- The regions of an index in the slots of a layout, and the first that was met in each.
use Rattle.std.proofs.Common.{◌≡◌, ◌≤◌, ◌<◌, ◌+◌, ◌&&◌, ◌==◌, ℕ, zero, suc, Bool, true, false, cond, List, [], ◌∷◌, ◌++◌, find, Some, None, map, refl, sym, ap, ◌∙◌, arith, drop}
use Rattle.std.specs.Prelude.{slice_get}
use Rattle.std.specs.BTreeMap.{BTreeMap, get}
use Rattle.std.specs.List.{All, flat_map, filter_map, cons_option, range_with_len}
use Rattle.std.specs.Ordering.{nat_cmp}
use Rattle.std.proofs.lemmas.List.{drop_more}
use Rattle.std.proofs.lemmas.List.Elements.{filter_map-append, All-head, All-tail}
use Rattle.std.proofs.lemmas.Option.{slice_get_within, get_or_from_slice_get}
use Rattle.omi_layout.specs.Field.{regions}
use Rattle.omi_layout.specs.Table.{per_thread, makers}
use Rattle.omi_rep.specs.Look.{slot_list}
use Rattle.omi_walk.specs.declared.found.Found.{Found}
use Rattle.omi_walk.specs.declared.met.Met.{Met}
use Rattle.omi_walk.specs.AskRegions.{first_in}
use Rattle.omi_walk.specs.Index.{slot_key, key_of, HasFirst}
use Rattle.omi_walk.specs.Regions.{met_in_slot, own_slots}
use Rattle.omi_walk.proofs.RegionSlots.{same_key}

-- the elements that are left begin with the next
pub next_found : (found : List Found) (at : ℕ) (f : Found) → slice_get found at ≡ Some f
    → drop at found ≡ f ∷ drop (at + 1) found
next_found found at f here =
    drop_more found at f (slice_get_within found at f here)
    ∙ ap (λ g. g ∷ drop (at + 1) found) (get_or_from_slice_get found at f f here)

-- the first that was met in a slot is the one that an index of them has there
first_is : (met : List Met) (creator slot : ℕ) → slot < 65536 → All (λ m. m.name.slot < 65536) met
    → first_in met (creator, slot) ≡ find (λ m. key_of m == slot_key creator slot) met
first_is [] creator slot low small = refl
first_is (m ∷ met) creator slot low small =
    go (m.name.creator == creator && m.name.slot == slot) (key_of m == slot_key creator slot)
    (same_key m.name.creator m.name.slot creator slot (All-head (λ m. m.name.slot < 65536) m met small) low)
    (first_is met creator slot low (All-tail (λ m. m.name.slot < 65536) m met small))
  where
    go : (x y : Bool) → x ≡ y
        → first_in met (creator, slot) ≡ find (λ m. key_of m == slot_key creator slot) met
        → cond x (Some m) (first_in met (creator, slot)) ≡ cond y (Some m) (find (λ m. key_of m == slot_key creator slot) met)
    go true true same rest = refl
    go true false same rest = absurd (cc)
    go false true same rest = absurd (cc)
    go false false same rest = rest

module _ (index : BTreeMap ℕ Met) (met : List Met) (first : HasFirst index met)
    (small : All (λ m. m.name.slot < 65536) met) (w : List ℕ) where
  own_first : (creator a n : ℕ) → a + n ≤ 65536
      → filter_map (first_in met) (map (λ slot. (creator, slot)) (range_with_len a n)) ≡ filter_map (met_in_slot index) (map (λ slot. (creator, slot)) (range_with_len a n))
  own_first creator a zero few = refl
  own_first creator a (suc n) few =
      let here : first_in met (creator, a) ≡ met_in_slot index (creator, a) =
      first_is met creator a (omega (arith, few)) small ∙ sym (first (slot_key creator a)) in
      let more = own_first creator (a + 1) n (omega (arith, few)) in
      ap
      (λ o. cons_option o (filter_map (first_in met) (map (λ slot. (creator, slot)) (range_with_len (a + 1) n)))) here
      ∙ ap (cons_option (met_in_slot index (creator, a))) more

  all_first : (creators : List ℕ) → per_thread w regions ≤ 65536
      → filter_map (first_in met) (flat_map (own_slots w) creators) ≡ filter_map (met_in_slot index) (flat_map (own_slots w) creators)
  all_first [] few = refl
  all_first (x ∷ creators) few =
      filter_map-append (first_in met) (own_slots w x) (flat_map (own_slots w) creators)
      ∙ ap (λ xs. xs ++ filter_map (first_in met) (flat_map (own_slots w) creators))
      (own_first x 0 (per_thread w regions) (omega (arith, few)))
      ∙ ap (λ xs. filter_map (met_in_slot index) (own_slots w x) ++ xs) (all_first creators few)
      ∙ sym (filter_map-append (met_in_slot index) (own_slots w x) (flat_map (own_slots w) creators))

  -- so it is in all the slots of a layout
  pub first_in_slots : per_thread w regions ≤ 65536
      → filter_map (first_in met) (slot_list w regions) ≡ filter_map (met_in_slot index) (slot_list w regions)
  first_in_slots few = all_first (range_with_len 0 (makers w regions)) few

module _ (index : BTreeMap ℕ Met) where
  -- that of one slot stands before those of the others
  pub slot_next : (creator slot : ℕ) (slots : List ℕ)
      → filter_map (met_in_slot index) (map (λ slot. (creator, slot)) (slot ∷ slots))
      ≡ filter_map (met_in_slot index) ((creator, slot) ∷ []) ++ filter_map (met_in_slot index) (map (λ slot. (creator, slot)) slots)
  slot_next creator slot slots =
      filter_map-append (met_in_slot index) ((creator, slot) ∷ []) (map (λ slot. (creator, slot)) slots)

  -- and those of one thread before those of the others
  pub thread_next : (w : List ℕ) (creator : ℕ) (creators : List ℕ)
      → filter_map (met_in_slot index) (flat_map (own_slots w) (creator ∷ creators))
      ≡ filter_map (met_in_slot index) (own_slots w creator) ++ filter_map (met_in_slot index) (flat_map (own_slots w) creators)
  thread_next w creator creators =
      filter_map-append (met_in_slot index) (own_slots w creator) (flat_map (own_slots w) creators)

  pub one_found : (creator slot : ℕ) (m : Met) → get nat_cmp index (slot_key creator slot) ≡ Some m
      → filter_map (met_in_slot index) ((creator, slot) ∷ []) ≡ m ∷ []
  one_found creator slot m some = ap (λ o. cons_option o []) some

  pub none_found : (creator slot : ℕ) → get nat_cmp index (slot_key creator slot) ≡ None
      → filter_map (met_in_slot index) ((creator, slot) ∷ []) ≡ []
  none_found creator slot none = ap (λ o. cons_option o []) none
