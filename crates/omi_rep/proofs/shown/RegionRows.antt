-- Over words that show a state, the rows of the regions that are met are those that the state reports, in the order of names.
use Rattle.std.proofs.Common.{◌≡◌, ◌==◌, ◌&&◌, inl, inr, ℕ, ◌+◌, ◌≤◌, Bool, true, List, [], ◌∷◌, length, map, Option, Some, refl, sym, ap, ap₂, subst, ◌∙◌, arith, eqb-true, eq-eqb}
use Rattle.std.specs.Prelude.{Ok, Contains, slice_get}
use Rattle.std.specs.Option.{option_map}
use Rattle.std.specs.List.{AllZip, filter_map, flat_map}
use Rattle.std.proofs.lemmas.List.Elements.{All-contains}
use Rattle.omi_layout.specs.declared.field.Field.TheVariants.{RegionFunction, RegionEnclosing, RegionSize, RegionLevels, RegionActive, RegionTeam, TaskThread}
use Rattle.omi_layout.specs.Field.{threads, regions, tasks}
use Rattle.omi_layout.specs.Table.{thread_count}
use Rattle.omi_layout.specs.Place.{slot_address}
use Rattle.omi_layout.specs.Valid.{IsValid}
use Rattle.omi_word.specs.Words.{Words}
use Rattle.omi_layout.proofs.Arenas.{test_left, test_right}
use Rattle.omi_model.specs.declared.id.Id.{Id}
use Rattle.omi_model.specs.declared.id.Rid.{Rid}
use Rattle.omi_model.specs.declared.id.Tid.{Tid}
use Rattle.omi_model.specs.declared.region.Region.{Region}
use Rattle.omi_model.specs.declared.view.MemberRow.{MemberRow}
use Rattle.omi_model.specs.declared.view.RegionRow.{RegionRow}
use Rattle.omi_model.specs.State.{State, region_of}
use Rattle.omi_model.specs.Views.{ComesBefore, AreInOrder, IsReported, AreRegions, region_row}
use Rattle.omi_model.specs.Visible.{IsVisibleRegion}
use Rattle.omi_model.specs.WellFormed.{HasBegun, IsMember, IsRegionRight}
use Rattle.omi_rep.specs.Codes.{region_code, region_told}
use Rattle.omi_rep.specs.Codes.{shown as visible}
use Rattle.omi_rep.specs.Records.{records_of}
use Rattle.omi_rep.specs.Look.{each, slot_list, id_address}
use Rattle.omi_rep.specs.LookView.{met_in, look_member, look_region}
use Rattle.omi_rep.specs.Shows.{CodesStand, Shows}
use Rattle.omi_rep.proofs.Codes.{member_code}
use Rattle.omi_rep.proofs.Looks.{step}
use Rattle.omi_rep.proofs.Same.{same_region, region_slot}
use Rattle.omi_rep.specs.ShownLooks.{AreNames}
use Rattle.omi_rep.proofs.Lists.{among, given_back, in_given, from_given, from_found, one_found, in_map, zip_left, zip_right, Ordered, given_ordered}
use Rattle.omi_rep.proofs.Slots.{SlotBefore, in_slots, slots_ordered}
use Rattle.omi_rep.proofs.shown.ReadWords.{all_looked, places_looked, word_looked, within_looked, object_looked, optional_looked, thread_name, thread_live, region_live, task_live, region_somewhere}
use Rattle.omi_rep.proofs.shown.Enclosing.{AreRegionsOf, met_reported, reported_met, reported_seen}

abbrev region_name : Id → Rid
region_name n = record { 0 = n }

-- the row of a live region
abbrev IsRowOf : State → Id → RegionRow → Type 0
IsRowOf s n row = (r : Region) × (region_of s (region_name n) ≡ Some r) × (row ≡ region_row (region_name n) r)

-- rows of names in order are in order
abbrev NameBefore : Id → Id → Type 0
NameBefore a b = SlotBefore (a.creator, a.slot) (b.creator, b.slot)

comes_before : (a b : Id) → NameBefore a b → ComesBefore a b
comes_before a b (inl lower) = inl lower
comes_before a b (inr (same, lower)) = inr (same, inl lower)

rows_in_order : (s : State) (ids : List Id) (rows : List RegionRow) → AllZip (IsRowOf s) ids rows
    → Ordered NameBefore ids → AreInOrder rows
rows_in_order s [] [] all order = tt
rows_in_order s [] (row ∷ rows) all order = absurd all
rows_in_order s (n ∷ ids) [] all order = absurd all
rows_in_order s (n ∷ []) (row ∷ []) all order = tt
rows_in_order s (n ∷ []) (row ∷ next ∷ rows) all order = absurd all.1
rows_in_order s (n ∷ m ∷ ids) (row ∷ []) all order = absurd all.1
rows_in_order s (n ∷ m ∷ ids) (row ∷ next ∷ rows) all order =
    (first, rows_in_order s (m ∷ ids) (next ∷ rows) all.1 order.1)
  where
    first : ComesBefore row.region.0 next.region.0
    first =
        let (_, _, made) = all.0 in
        let (_, _, built) = all.1.0 in
        let one : n ≡ row.region.0 = ap (λ (r : RegionRow). r.region.0) (sym made) in
        let other : m ≡ next.region.0 = ap (λ (r : RegionRow). r.region.0) (sym built) in
        subst (λ (q : Id). ComesBefore q next.region.0) one
        (subst (ComesBefore n) other (comes_before n m (order.0 m (0, omega arith, refl))))

module _ (w : List ℕ) (words : Words) (s : State) (valid : IsValid w) (names : AreNames s)
    (shown : Shows w words s) where
  -- ---- a visible region
  module _ (n : Rid) (seen : IsVisibleRegion s n) where
    abbrev r : Region
    r = seen.region

    abbrev at : ℕ
    at = id_address w regions n.0

    told : CodesStand visible (region_code w (region_told r)) (records_of w words n.0.creator regions n.0.slot)
    told = shown.records.regions n seen

    right : IsRegionRight s r
    right = shown.within.well_formed.regions n seen

    abbrev member_row : Tid × ℕ → MemberRow
    member_row m = record { thread = m.1; task = m.0 }

    member_looked : (j : ℕ) (m : Tid × ℕ) → slice_get r.team j ≡ Some m
        → look_member w words n.0 j ≡ Ok (member_row m)
    member_looked j m is =
        let member =
        All-contains (λ (q : Tid × ℕ). IsMember s q.0 q.1) r.team m right.members (among r.team j m is) in
        let task = member.visible in
        let begun : HasBegun s task.task.thread = (shown.within.well_formed.tasks m.0 task).begun in
        step _ _ m.0.0 _
        (object_looked w words tasks at RegionTeam j m.0.0 (told RegionTeam j _ refl (member_code w (region_told r) j m is)) (task_live w words s valid names shown m.0 task))
        (step _ _ (thread_name task.task.thread) _
        (object_looked w words threads (id_address w tasks m.0.0) TaskThread 0 (thread_name task.task.thread) (shown.records.tasks m.0 task TaskThread 0 _ refl refl) (thread_live w words s valid names shown task.task.thread begun))
        (ap (λ (i : ℕ). Ok (member_row (m.0, i))) (member.same task.task task.live)))

    region_looked : look_region w words n.0 ≡ Ok (region_row n r)
    region_looked =
        step _ _ _ _ (word_looked w words at RegionFunction 0 _ (told RegionFunction 0 _ refl refl))
        (step _ _ _ _ (word_looked w words at RegionLevels 0 _ (told RegionLevels 0 _ refl refl))
        (step _ _ _ _ (word_looked w words at RegionActive 0 _ (told RegionActive 0 _ refl refl))
        (step _ _ (length r.team) _ (within_looked w words at RegionSize 1 (thread_count w) (length r.team) (told RegionSize 0 _ refl refl) right.some (subst (λ (c : ℕ). length r.team ≤ c) shown.within.count right.few))
        (step _ _ (option_map (λ (q : Rid). q.0) r.enclosing) _
        (optional_looked w words regions at RegionEnclosing (λ (q : Rid). q.0) r.enclosing (region_somewhere w words s valid names shown) (λ q is. region_live w words s valid names shown q (right.enclosing q is)) (told RegionEnclosing 0 _ refl refl))
        (step _ _ (map member_row r.team) _ (places_looked (look_member w words n.0) member_row 0 r.team element)
        (ap (λ (q : Option Rid). Ok (record (region_row n r) { enclosing = q })) (given_back (λ (q : Rid). q.0) (λ (q : Id). record { 0 = q }) (λ q. refl) r.enclosing)))))))
      where
        element : (j : ℕ) (m : Tid × ℕ) → slice_get r.team j ≡ Some m
            → look_member w words n.0 (0 + j) ≡ Ok (member_row m)
        element j m is =
            let e : 0 + j ≡ j = omega arith in ap (look_member w words n.0) e ∙ member_looked j m is

  -- ---- the regions that are met from threads that have begun
  module _ (all : List ℕ) (begun : (i : ℕ) → Contains all i → HasBegun s i) (met : List (List Id))
      (are : AllZip (AreRegionsOf s) all met) where
    abbrev flat : List Id
    flat = flat_map (λ ids. ids) met

    -- those in order
    abbrev ids : List Id
    ids = filter_map (met_in w words flat) (slot_list w regions)

    -- what is met in a slot is a region of this slot
    met_there : (at : ℕ × ℕ) (n : Id) → met_in w words flat at ≡ Some n
        → Contains flat n × (n.creator ≡ at.0) × (n.slot ≡ at.1)
    met_there at n is =
        let found = from_found (λ (m : Id). m.creator == at.0 && m.slot == at.1) flat n is in (
          found.0,
          eqb-true n.creator at.0 (test_left (n.creator == at.0) (n.slot == at.1) found.1),
          eqb-true n.slot at.1 (test_right (n.creator == at.0) (n.slot == at.1) found.1),
        )

    id_reported : (n : Id) → Contains ids n → IsReported s all (region_name n)
    id_reported n inside =
        let (at, _, is) = from_given (met_in w words flat) (slot_list w regions) n inside in
        met_reported s all met are (region_name n) (met_there at n is).0

    seen : (n : Rid) → IsReported s all n → IsVisibleRegion s n
    seen = reported_seen w words s valid names shown all begun

    -- each reported region is there
    reported_id : (n : Rid) → IsReported s all n → Contains ids n.0
    reported_id n reported =
        let mine = reported_met s all met are n reported in
        let (m, found) =
        one_found (λ (q : Id). q.creator == n.0.creator && q.slot == n.0.slot) flat n.0 mine
        (both (eq-eqb n.0.creator n.0.creator refl) (eq-eqb n.0.slot n.0.slot refl)) in
        let (there, creator, slot) = met_there (n.0.creator, n.0.slot) m found in
        let theirs = seen (region_name m) (met_reported s all met are (region_name m) there) in
        let same : region_name m ≡ n =
        same_region w words valid s s shown shown (region_name m) n theirs (seen n reported)
        (ap₂ (slot_address w regions) creator slot) in
        let is : met_in w words flat (n.0.creator, n.0.slot) ≡ Some n.0 =
        found ∙ ap (λ (q : Rid). Some q.0) same in
        in_given (met_in w words flat) (slot_list w regions) (n.0.creator, n.0.slot) n.0
        (in_slots w regions n.0.creator n.0.slot (region_slot w words valid s shown n (seen n reported))) is
      where
        both : {a b : Bool} → a ≡ true → b ≡ true → a && b ≡ true
        both x y = ap₂ (λ (p q : Bool). p && q) x y

    ids_ordered : Ordered NameBefore ids
    ids_ordered =
        given_ordered SlotBefore NameBefore (met_in w words flat) (slot_list w regions) keeps
        (slots_ordered w regions)
      where
        keeps : (a b : ℕ × ℕ) (m n : Id) → SlotBefore a b → met_in w words flat a ≡ Some m
            → met_in w words flat b ≡ Some n → NameBefore m n
        keeps a b m n before is was =
            let (_, creator, slot) = met_there a m is in
            let (_, other, there) = met_there b n was in
            subst (λ (q : ℕ × ℕ). SlotBefore q (n.creator, n.slot)) (λ j. (sym creator j, sym slot j))
            (subst (SlotBefore a) (λ j. (sym other j, sym there j)) before)

    rows_right : (rows : List RegionRow) → AllZip (IsRowOf s) ids rows → AreRegions s all rows
    rows_right rows zip = record {
      in_order = rows_in_order s ids rows zip ids_ordered;
      each = each_right;
      all = λ n reported.
          let (row, there, (r, live, made)) =
          zip_left (IsRowOf s) ids rows zip n.0 (reported_id n reported) in
          subst (Contains (map (λ row. row.region) rows)) (ap (λ (q : RegionRow). q.region) made) (in_map (λ (q : RegionRow). q.region) rows row there);
    }
      where
        each_right : (row : RegionRow) → Contains rows row
            → IsReported s all row.region × (r : Region) × (region_of s row.region ≡ Some r) × (row ≡ region_row row.region r)
        each_right row inside =
            let (n, there, (r, live, made)) = zip_right (IsRowOf s) ids rows zip row inside in
            let name : region_name n ≡ row.region = ap (λ (q : RegionRow). q.region) (sym made) in
            (subst (IsReported s all) name (id_reported n there), r, ap (region_of s) (sym name) ∙ live, made ∙ ap (λ (q : Rid). region_row q r) name)

    -- and a look gives their rows
    pub rows_looked : (rows : List RegionRow) × (each (look_region w words) ids ≡ Ok rows) × AreRegions s all rows
    rows_looked =
        let (rows, is, zip) = all_looked (look_region w words) (IsRowOf s) ids row_of in
        (rows, is, rows_right rows zip)
      where
        row_of : (n : Id) → Contains ids n
            → (row : RegionRow) × (look_region w words n ≡ Ok row) × IsRowOf s n row
        row_of n inside =
            let visible = seen (region_name n) (id_reported n inside) in
            (region_row (region_name n) visible.region, region_looked (region_name n) visible, (visible.region, visible.live, refl))
