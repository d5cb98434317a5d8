-- The regions of an index, slot by slot and thread by thread, and those that were met in the slots.
use Rattle.std.proofs.Common.{◌≡◌, ◌<◌, ◌≤◌, ◌+◌, ◌-◌, ◌*◌, ◌==◌, ◌&&◌, ℕ, suc, zero, Bool, true, false, cond, List, [], ◌∷◌, ◌++◌, map, find, Some, None, refl, sym, ap, ◌∙◌, arith, zero-add, add-zero, eqb-true, eq-eqb}
use Rattle.std.specs.BTreeMap.{BTreeMap, get}
use Rattle.std.specs.List.{All, flat_map, filter_map, cons_option, range_with_len}
use Rattle.std.specs.Ordering.{nat_cmp}
use Rattle.std.proofs.lemmas.List.Elements.{filter_map-append, All-head, All-tail}
use Rattle.omi_word.specs.Words.{Words}
use Rattle.omi_layout.specs.Field.{regions}
use Rattle.omi_layout.specs.Table.{per_thread, makers}
use Rattle.omi_model.specs.declared.id.Id.{Id}
use Rattle.omi_rep.specs.Look.{slot_list}
use Rattle.omi_rep.specs.LookView.{met_in}
use Rattle.omi_walk.specs.declared.met.Met.{Met}
use Rattle.omi_walk.specs.Index.{slot_key, key_of, HasFirst}
use Rattle.omi_walk.specs.Objects.{name_in}
use Rattle.omi_walk.specs.Regions.{in_slot, own_slots, in_own_slots}

-- ---- numbers one after the other

pub range_over : (a n k : ℕ) → range_with_len a (n + k) ≡ range_with_len a n ++ range_with_len (a + n) k
range_over a zero k = ap (range_with_len a) (zero-add k) ∙ ap (λ b. range_with_len b k) (sym (add-zero a))
range_over a (suc n) k =
    let one : suc n + k ≡ suc (n + k) = omega arith in
    let next : a + 1 + n ≡ a + suc n = omega arith in
    ap (range_with_len a) one
    ∙ ap (λ xs. a ∷ xs)
    (range_over (a + 1) n k ∙ ap (λ b. range_with_len (a + 1) n ++ range_with_len b k) next)

-- ---- the regions of an index

module _ (index : BTreeMap ℕ Met) where
  -- that of one slot, if any
  abbrev pub in_one : ℕ → ℕ → List Id
  in_one creator slot = filter_map (in_slot index) ((creator, slot) ∷ [])

  pub none_in : (creator slot : ℕ) → get nat_cmp index (slot_key creator slot) ≡ None
      → in_one creator slot ≡ []
  none_in creator slot none = ap (λ o. cons_option (name_in o) []) none

-- ---- what was met in a slot

-- two slots have one key exactly where they are one
pub same_key : (a b c d : ℕ) → b < 65536 → d < 65536 → (a == c && b == d) ≡ (slot_key a b == slot_key c d)
same_key a b c d low small = go (a == c) (b == d) (slot_key a b == slot_key c d) refl refl refl
  where
    go : (x y z : Bool) → a == c ≡ x → b == d ≡ y → slot_key a b == slot_key c d ≡ z → (x && y) ≡ z
    go true true true i j k = refl
    go true true false i j k =
        absurd
        (let clash : true ≡ false = sym (eq-eqb _ _ (ap (λ e. e * 65536 + b) (eqb-true a c i) ∙ ap (λ e. c * 65536 + e) (eqb-true b d j))) ∙ k in cc)
    go true false true i j k =
        absurd
        (let same : b ≡ d = omega (arith, low, small, eqb-true _ _ k, eqb-true a c i) in let clash : true ≡ false = sym (eq-eqb b d same) ∙ j in cc)
    go true false false i j k = refl
    go false y true i j k =
        absurd
        (let same : a ≡ c = omega (arith, low, small, eqb-true _ _ k) in let clash : true ≡ false = sym (eq-eqb a c same) ∙ i in cc)
    go false y false i j k = refl

module _ (w : List ℕ) (memory : Words) where
  -- the object that was met in a slot is the one that an index of the objects has there
  pub met_is : (met : List Met) (creator slot : ℕ) → slot < 65536 → All (λ m. m.name.slot < 65536) met
      → met_in w memory (map (λ m. m.name) met) (creator, slot) ≡ name_in (find (λ m. key_of m == slot_key creator slot) met)
  met_is [] creator slot low small = refl
  met_is (m ∷ met) creator slot low small =
      go (m.name.creator == creator && m.name.slot == slot) (key_of m == slot_key creator slot)
      (same_key m.name.creator m.name.slot creator slot (All-head (λ m. m.name.slot < 65536) m met small) low)
      (met_is met creator slot low (All-tail (λ m. m.name.slot < 65536) m met small))
    where
      go : (x y : Bool) → x ≡ y
          → met_in w memory (map (λ m. m.name) met) (creator, slot) ≡ name_in (find (λ m. key_of m == slot_key creator slot) met)
          → cond x (Some m.name) (met_in w memory (map (λ m. m.name) met) (creator, slot)) ≡ name_in (cond y (Some m) (find (λ m. key_of m == slot_key creator slot) met))
      go true true same rest = refl
      go true false same rest = absurd (cc)
      go false true same rest = absurd (cc)
      go false false same rest = rest

  module _ (index : BTreeMap ℕ Met) (met : List Met) (first : HasFirst index met)
      (small : All (λ m. m.name.slot < 65536) met) where
    own_met : (creator a n : ℕ) → a + n ≤ 65536
        → filter_map (met_in w memory (map (λ m. m.name) met)) (map (λ slot. (creator, slot)) (range_with_len a n)) ≡ filter_map (in_slot index) (map (λ slot. (creator, slot)) (range_with_len a n))
    own_met creator a zero few = refl
    own_met creator a (suc n) few =
        let here : met_in w memory (map (λ m. m.name) met) (creator, a) ≡ in_slot index (creator, a) =
        met_is met creator a (omega (arith, few)) small ∙ ap name_in (sym (first (slot_key creator a))) in
        let more = own_met creator (a + 1) n (omega (arith, few)) in
        ap
        (λ o. cons_option o (filter_map (met_in w memory (map (λ m. m.name) met)) (map (λ slot. (creator, slot)) (range_with_len (a + 1) n)))) here
        ∙ ap (cons_option (in_slot index (creator, a))) more

    all_met : (creators : List ℕ) → per_thread w regions ≤ 65536
        → filter_map (met_in w memory (map (λ m. m.name) met)) (flat_map (own_slots w) creators) ≡ filter_map (in_slot index) (flat_map (own_slots w) creators)
    all_met [] few = refl
    all_met (x ∷ creators) few =
        filter_map-append (met_in w memory (map (λ m. m.name) met)) (own_slots w x)
        (flat_map (own_slots w) creators)
        ∙ ap
        (λ xs. xs ++ filter_map (met_in w memory (map (λ m. m.name) met)) (flat_map (own_slots w) creators))
        (own_met x 0 (per_thread w regions) (omega (arith, few)))
        ∙ ap (λ xs. in_own_slots index w x ++ xs) (all_met creators few)
        ∙ sym (filter_map-append (in_slot index) (own_slots w x) (flat_map (own_slots w) creators))

    -- those that were met in the slots of a layout are those that the index has in them
    pub met_in_slots : per_thread w regions ≤ 65536
        → filter_map (met_in w memory (map (λ m. m.name) met)) (slot_list w regions) ≡ filter_map (in_slot index) (slot_list w regions)
    met_in_slots few = all_met (range_with_len 0 (makers w regions)) few
