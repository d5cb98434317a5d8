-- Over words that show a state, the regions that are met from a thread are those of its current task and around it.
use Rattle.std.proofs.Common.{◌≡◌, ℕ, zero, suc, List, [], ◌∷◌, inl, inr, map, Option, Some, None, refl, sym, ap, subst, ◌∙◌, arith}
use Rattle.std.specs.Prelude.{Ok, Contains}
use Rattle.std.specs.Option.{option_map, option_and_then}
use Rattle.std.specs.List.{AllZip, flat_map}
use Rattle.omi_layout.specs.declared.field.Field.TheVariants.{RegionEnclosing, TaskRegion}
use Rattle.omi_layout.specs.Field.{regions, tasks}
use Rattle.omi_layout.specs.Table.{records}
use Rattle.omi_layout.specs.Place.{record_address, slot_address, index_of}
use Rattle.omi_layout.specs.Valid.{IsValid}
use Rattle.omi_word.specs.Words.{Words}
use Rattle.omi_layout.proofs.Arenas.{index_within}
use Rattle.omi_model.specs.declared.id.Id.{Id}
use Rattle.omi_model.specs.declared.id.Rid.{Rid}
use Rattle.omi_model.specs.declared.id.Tid.{Tid}
use Rattle.omi_model.specs.declared.region.Region.{Region}
use Rattle.omi_model.specs.declared.task.Task.{Task}
use Rattle.omi_model.specs.State.{State, task_of, current_task, enclosing_of}
use Rattle.omi_model.specs.Views.{IsReported}
use Rattle.omi_model.specs.Visible.{IsVisibleRegion, IsVisibleTask}
use Rattle.omi_model.specs.WellFormed.{HasBegun, IsRegionRight, along, Ends}
use Rattle.omi_rep.specs.Records.{region_address}
use Rattle.omi_rep.specs.Look.{optional, id_address, look_object}
use Rattle.omi_rep.specs.LookView.{look_innermost, look_enclosing, look_regions}
use Rattle.omi_rep.specs.Shows.{Shows}
use Rattle.omi_rep.proofs.Looks.{step}
use Rattle.omi_rep.proofs.Same.{same_region, region_slot}
use Rattle.omi_rep.specs.ShownLooks.{AreNames}
use Rattle.omi_rep.proofs.Lists.{here, later, nowhere, either, in_map, from_map, in_joined, from_joined, zip_left, zip_right}
use Rattle.omi_rep.proofs.shown.ReadWords.{object_looked, onward_looked, region_live, region_somewhere}
use Rattle.omi_rep.proofs.shown.Threads.{current_seen, current_looked}
use Rattle.omi_rep.proofs.shown.Walks.{Places, Walk, walk_begins, walk_onward, along_seen, address_new, some_left, none_stays}

-- the elements of a chain in order
abbrev IsTrail : {A : Type 0} → (A → Option A) → Option A → List A → Type 0
IsTrail next None [] = Unit {0}
IsTrail next None (y ∷ ys) = ⊥
IsTrail next (Some x) [] = ⊥
IsTrail next (Some x) (y ∷ ys) = (x ≡ y) × IsTrail next (next x) ys

on_trail : {A : Type 0} (next : A → Option A) (from : Option A) (xs : List A) → IsTrail next from xs → (y : A)
    → Contains xs y → (n : ℕ) × (along next n from ≡ Some y)
on_trail next None [] trail y inside = absurd (nowhere y inside)
on_trail next None (x ∷ xs) trail y inside = absurd trail
on_trail next (Some x) [] trail y inside = absurd trail
on_trail next (Some x) (z ∷ xs) trail y inside = elim (either z y xs inside) [
  | inl same ↦ (0, ap Some (trail.0 ∙ same))
  | inr behind ↦ let (n, is) = on_trail next (next x) xs trail.1 y behind in (suc n, is)
]

all_on_trail : {A : Type 0} (next : A → Option A) (from : Option A) (xs : List A) → IsTrail next from xs
    → (n : ℕ) (y : A) → along next n from ≡ Some y → Contains xs y
all_on_trail next None [] trail n y is =
    absurd (let clash : None ≡ Some y = sym (none_stays next n) ∙ is in cc clash)
all_on_trail next None (x ∷ xs) trail n y is = absurd trail
all_on_trail next (Some x) [] trail n y is = absurd trail
all_on_trail next (Some x) (z ∷ xs) trail zero y is =
    (0, omega arith, sym trail.0 ∙ (let same : x ≡ y = cc is in same))
all_on_trail next (Some x) (z ∷ xs) trail (suc n) y is =
    later z y xs (all_on_trail next (next x) xs trail.1 n y is)

-- the region of the current task of a thread
abbrev pub innermost_of : State → ℕ → Option Rid
innermost_of s i = option_map (λ t. t.region) (current_task s i)

-- these are the regions of a thread
pub record AreRegionsOf (s : State) (i : ℕ) (ids : List Id) : Type 0 where
  pub each : (n : Rid) → Contains ids n.0
      → (steps : ℕ) × (along (enclosing_of s) steps (innermost_of s i) ≡ Some n)
  pub all : (n : Rid) (steps : ℕ) → along (enclosing_of s) steps (innermost_of s i) ≡ Some n
      → Contains ids n.0

-- the regions that are met from threads are those that are reported
pub met_reported : (s : State) (threads : List ℕ) (met : List (List Id)) → AllZip (AreRegionsOf s) threads met
    → (n : Rid) → Contains (flat_map (λ ids. ids) met) n.0 → IsReported s threads n
met_reported s threads met all n inside =
    let (ids, there, here) = from_joined (λ (ids : List Id). ids) met n.0 inside in
    let (i, known, are) = zip_right (AreRegionsOf s) threads met all ids there in
    let (steps, is) = are.each n here in
    (i, steps, known, is)

pub reported_met : (s : State) (threads : List ℕ) (met : List (List Id)) → AllZip (AreRegionsOf s) threads met
    → (n : Rid) → IsReported s threads n → Contains (flat_map (λ ids. ids) met) n.0
reported_met s threads met all n (i, steps, known, is) =
    let (ids, there, are) = zip_left (AreRegionsOf s) threads met all i known in
    in_joined (λ (ids : List Id). ids) met ids n.0 there (are.all n steps is)

module _ (w : List ℕ) (words : Words) (s : State) (valid : IsValid w) (names : AreNames s)
    (shown : Shows w words s) where
  right : (n : Rid) (seen : IsVisibleRegion s n) → IsRegionRight s seen.region
  right n seen = shown.within.well_formed.regions n seen

  -- the region that encloses a visible one
  enclosed : (n : Rid) (seen : IsVisibleRegion s n) → enclosing_of s n ≡ seen.region.enclosing
  enclosed n seen = ap (option_and_then (λ (r : Region). r.enclosing)) seen.live

  -- ---- a walk along the enclosing regions

  abbrev place : Rid → ℕ
  place n = index_of w regions n.0.creator n.0.slot

  places : Places (enclosing_of s) (IsVisibleRegion s) place (region_address w) (records w regions)
  unfolding slot_address
  places = record {
    next_seen = λ n seen r is. (right n seen).enclosing r (sym (enclosed n seen) ∙ is);
    low = λ n seen. index_within w regions n.0.creator n.0.slot (region_slot w words valid s shown n seen);
    one_place = λ n r seen also same. same_region w words valid s s shown shown n r seen also (ap (record_address w regions) same);
    one_address = λ n r seen also same. same_region w words valid s s shown shown n r seen also same;
  }

  abbrev RegionWalk : ℕ → List Rid → Option Rid → Type 0
  RegionWalk = Walk (enclosing_of s) (IsVisibleRegion s) place (records w regions)

  enclosing_looked : (left : ℕ) (before : List Rid) (now : Option Rid) → RegionWalk left before now
      → (ids : List Rid) × (look_enclosing w words left (map (region_address w) before) (option_map (λ n. n.0) now) ≡ Ok (map (λ n. n.0) ids)) × IsTrail (enclosing_of s) now ids
  enclosing_looked zero before None walk = ([], refl, tt)
  enclosing_looked (suc left) before None walk = ([], refl, tt)
  enclosing_looked zero before (Some n) walk =
      absurd
      (some_left (enclosing_of s) (IsVisibleRegion s) place (region_address w) (records w regions) places before n walk)
  enclosing_looked (suc left) before (Some n) walk =
      let seen = walk.is_seen n refl in
      let onward =
      walk_onward (enclosing_of s) (IsVisibleRegion s) place (region_address w)
      (records w regions) places left before n walk in
      let then : RegionWalk left (n ∷ before) seen.region.enclosing =
      subst (RegionWalk left (n ∷ before)) (enclosed n seen) onward in
      let new =
      address_new (enclosing_of s) (IsVisibleRegion s) place (region_address w)
      (records w regions) places left (n ∷ before) seen.region.enclosing then in
      let (ids, are, trail) = enclosing_looked left (n ∷ before) seen.region.enclosing then in (
        n ∷ ids,
        step _ _ _ _
            (onward_looked w words regions (region_address w n) RegionEnclosing (λ (r : Rid). r.0) seen.region.enclosing (region_somewhere w words s valid names shown)
            (λ r is. region_live w words s valid names shown r ((right n seen).enclosing r is)) (shown.records.regions n seen RegionEnclosing 0 _ refl refl) (map (region_address w) (n ∷ before)) new)
            (step _ _ (map (λ (r : Rid). r.0) ids) _ are refl),
        (refl, subst (λ (o : Option Rid). IsTrail (enclosing_of s) o ids) (sym (enclosed n seen)) trail),
      )

  -- ---- the regions of a thread that has begun

  task_region : (k : Tid) → (seen : IsVisibleTask s k) → IsVisibleRegion s seen.task.region
  task_region k seen = (shown.within.well_formed.tasks k seen).region

  pub innermost_seen : (i : ℕ) → HasBegun s i → (n : Rid) → innermost_of s i ≡ Some n → IsVisibleRegion s n
  innermost_seen i has n is = go (s.threads i).current (current_seen w words s valid names shown i has) is
    where
      go : (o : Option Tid) → ((k : Tid) → o ≡ Some k → IsVisibleTask s k)
          → option_map (λ (t : Task). t.region) (option_and_then (task_of s) o) ≡ Some n → IsVisibleRegion s n
      go None seen e = absurd (cc e)
      go (Some k) seen e =
          let task = seen k refl in
          let both : Some task.task.region ≡ Some n =
          sym (ap (option_map (λ (t : Task). t.region)) task.live) ∙ e in
          let same : task.task.region ≡ n = cc both in
          subst (IsVisibleRegion s) same (task_region k task)

  innermost_looked : (i : ℕ) → HasBegun s i
      → look_innermost w words i ≡ Ok (option_map (λ n. n.0) (innermost_of s i))
  innermost_looked i has =
      step _ _ _ _ (current_looked w words s valid names shown i has)
      (go (s.threads i).current (current_seen w words s valid names shown i has))
    where
      go : (o : Option Tid) → ((k : Tid) → o ≡ Some k → IsVisibleTask s k)
          → optional (λ (k : Id). look_object w words regions (id_address w tasks k) TaskRegion 0)
          (option_map (λ (k : Tid). k.0) o)
          ≡ Ok
          (option_map (λ (n : Rid). n.0) (option_map (λ (t : Task). t.region) (option_and_then (task_of s) o)))
      go None seen = refl
      go (Some k) seen =
          let task = seen k refl in
          step _ _ task.task.region.0 _
          (object_looked w words regions (id_address w tasks k.0) TaskRegion 0 task.task.region.0 (shown.records.tasks k task TaskRegion 0 _ refl refl) (region_live w words s valid names shown task.task.region (task_region k task)))
          (ap (λ (t : Option Task). Ok (option_map (λ (n : Rid). n.0) (option_map (λ (u : Task). u.region) t))) (sym task.live))

  pub regions_looked : (i : ℕ) → HasBegun s i
      → (ids : List Id) × (look_regions w words i ≡ Ok ids) × AreRegionsOf s i ids
  regions_looked i has =
      let seen = innermost_seen i has in
      let (ids, are, trail) = enclosing_looked (records w regions) [] (innermost_of s i)
      (walk_begins (enclosing_of s) (IsVisibleRegion s) place (region_address w) (records w regions) (innermost_of s i) seen (ends (innermost_of s i) seen)) in (
        map (λ (n : Rid). n.0) ids,
        step _ _ _ _ (innermost_looked i has) are,
        record {
          each = λ n inside. (let (r, there, same) = from_map (λ (q : Rid). q.0) ids n.0 inside in on_trail (enclosing_of s) (innermost_of s i) ids trail n (subst (Contains ids) (λ j. record { 0 = same j }) there));
          all = λ n steps is. in_map (λ (q : Rid). q.0) ids n (all_on_trail (enclosing_of s) (innermost_of s i) ids trail steps n is);
        },
      )
    where
      ends : (o : Option Rid) → ((n : Rid) → o ≡ Some n → IsVisibleRegion s n) → Ends (enclosing_of s) o
      ends None seen = (0, refl)
      ends (Some n) seen =
          let is = seen n refl in
          let (steps, end) = (right n is).ends in
          (suc steps, ap (along (enclosing_of s) steps) (enclosed n is) ∙ end)

  -- what is reported of threads that have begun is visible
  pub reported_seen : (threads : List ℕ) → ((i : ℕ) → Contains threads i → HasBegun s i) → (n : Rid)
      → IsReported s threads n → IsVisibleRegion s n
  reported_seen threads begun n (i, steps, known, is) =
      along_seen (enclosing_of s) (IsVisibleRegion s) place (region_address w)
      (records w regions) places steps (innermost_of s i) (innermost_seen i (begun i known)) n is
