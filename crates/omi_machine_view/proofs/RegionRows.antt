-- The rows of the regions that were met: in the order of their names, and exactly those that are reported.
use Rattle.std.proofs.lemmas.Bool.{cases_lt}
use Rattle.std.proofs.Common.{◌≡◌, ◌-◌, ◌⊎◌, inl, inr, ℕ, zero, suc, ◌+◌, ◌*◌, ◌<◌, ◌≤◌, List, [], ◌∷◌, length, map, Option, Some, None, refl, sym, ap, subst, ◌∙◌, arith}
use Rattle.std.specs.Prelude.{Contains, slice_get}
use Rattle.std.specs.List.{filter_map, cons_option}
use Rattle.std.specs.Option.{option_map, option_and_then}
use Rattle.omi_model.specs.declared.id.Id.{Id}
use Rattle.omi_model.specs.declared.id.Rid.{Rid}
use Rattle.omi_model.specs.declared.id.Tid.{Tid}
use Rattle.omi_model.specs.declared.region.Region.{Region}
use Rattle.omi_model.specs.declared.task.Task.{Task}
use Rattle.omi_model.specs.declared.view.RegionRow.{RegionRow}
use Rattle.omi_model.specs.State.{State, region_of, task_of, current_task, enclosing_of}
use Rattle.omi_model.specs.Views.{AreInOrder, AreRegions, ComesBefore, IsReported, region_row}
use Rattle.omi_model.specs.Visible.{IsVisibleRegion}
use Rattle.omi_model.specs.WellFormed.{IsWellFormed, IsRegionRight, IsTaskRight, along}
use Rattle.omi_machine_view.specs.Marks.{ArePlaced, IsPlaced, WasMet, place_of}
use Rattle.omi_machine_view.specs.Reported.{AreMet, region_name, root_of, row_met}
use Rattle.omi_machine_view.proofs.Alongs.{along_more}

some_same : {A : Type 0} (x y : A) → Some x ≡ Some y → x ≡ y
some_same x y e = cc e

-- ---- the order of places is that of names

lesser : (w a b x y : ℕ) → x < w → y < w → a * w + x < b * w + y → (a < b) ⊎ ((a ≡ b) × (x < y))
lesser w a b x y inx iny less = go (cases_lt a b) (cases_lt b a)
  where
    farther : b < a → ⊥
    farther h =
        let d : ℕ = a - suc b in
        let e : a ≡ suc b + d = omega arith in
        let m : a * w ≡ b * w + w + d * w = ap (λ n. n * w) e ∙ spread b d w in
        omega (arith, m)
      where
        spread : (b d w : ℕ) → (suc b + d) * w ≡ b * w + w + d * w
        spread b d w = grind arith

    go : (a < b) ⊎ (b ≤ a) → (b < a) ⊎ (a ≤ b) → (a < b) ⊎ ((a ≡ b) × (x < y))
    go (inl h) other = inl h
    go (inr h) (inl g) = absurd (farther g)
    go (inr h) (inr g) =
        let e : a ≡ b = omega arith in
        let m : a * w ≡ b * w = ap (λ n. n * w) e in
        inr (e, omega (arith, m))

-- rows whose regions have places from one on
record IsFrom (w from : ℕ) (row : RegionRow) : Type 0 where
  pub slot : row.region.0.slot < w
  pub place : from ≤ place_of w row.region.0

abbrev AreFrom : ℕ → ℕ → List RegionRow → Type 0
AreFrom w from [] = Unit {0}
AreFrom w from (row ∷ rows) = IsFrom w from row × AreFrom w from rows

from_less : (w m n : ℕ) (rows : List RegionRow) → m ≤ n → AreFrom w n rows → AreFrom w m rows
from_less w m n [] h is = tt
from_less w m n (row ∷ rows) h (is, rest) =
    (record { slot = is.slot; place = omega (arith, is.place) }, from_less w m n rows h rest)

before_all : (w from : ℕ) (row : RegionRow) (rows : List RegionRow) → IsFrom w from row
    → place_of w row.region.0 < from + 1 → AreFrom w (from + 1) rows → AreInOrder rows
    → AreInOrder (row ∷ rows)
before_all w from row [] is at later sorted = tt
before_all w from row (next ∷ rows) is at (there, rest) sorted =
    (before (lesser w row.region.0.creator next.region.0.creator row.region.0.slot next.region.0.slot is.slot there.slot (omega (arith, at, there.place))), sorted)
  where
    before : (row.region.0.creator < next.region.0.creator) ⊎ ((row.region.0.creator ≡ next.region.0.creator) × (row.region.0.slot < next.region.0.slot))
        → ComesBefore row.region.0 next.region.0
    before (inl h) = inl h
    before (inr (e, h)) = inr (e, inl h)

-- each name that stands at a place has it
abbrev PlacedFrom : ℕ → ℕ → List (Option Id) → Type 0
PlacedFrom w from met =
    (j : ℕ) (n : Id) → slice_get met j ≡ Some (Some n) → (n.slot < w) × (place_of w n ≡ from + j)

later_placed : (w from : ℕ) (o : Option Id) (met : List (Option Id)) → PlacedFrom w from (o ∷ met)
    → PlacedFrom w (from + 1) met
later_placed w from o met placed j n is =
    let (slot, place) = placed (suc j) n is in (slot, place ∙ omega arith)

record Sorted (w from : ℕ) (rows : List RegionRow) : Type 0 where
  pub order : AreInOrder rows
  pub from_here : AreFrom w from rows

sorted : (s : State) (w from : ℕ) (met : List (Option Id)) → PlacedFrom w from met
    → Sorted w from (filter_map (row_met s) met)
sorted s w from [] placed = record { order = tt; from_here = tt }
sorted s w from (None ∷ met) placed =
    let rest = sorted s w (from + 1) met (later_placed w from None met placed) in
    record { order = rest.order; from_here = from_less w from (from + 1) (filter_map (row_met s) met) (omega arith) rest.from_here }
sorted s w from (Some n ∷ met) placed =
    go (sorted s w (from + 1) met (later_placed w from (Some n) met placed))
    (region_of s (region_name n)) refl
  where
    here : (n.slot < w) × (place_of w n ≡ from + 0)
    here = placed 0 n refl

    go : Sorted w (from + 1) (filter_map (row_met s) met) → (o : Option Region)
        → region_of s (region_name n) ≡ o → Sorted w from (filter_map (row_met s) (Some n ∷ met))
    go rest None e =
        rw e
        (record { order = rest.order; from_here = from_less w from (from + 1) (filter_map (row_met s) met) (omega arith) rest.from_here })
    go rest (Some r) e =
        let row : RegionRow = region_row (region_name n) r in
        let is : IsFrom w from row = record { slot = here.0; place = omega (arith, here.1) } in
        rw e (record {
          order = before_all w from row (filter_map (row_met s) met) is (omega (arith, here.1)) rest.from_here rest.order;
          from_here = (is, from_less w from (from + 1) (filter_map (row_met s) met) (omega arith) rest.from_here);
        })

-- ---- each row is that of a region that was met, and each of these has one

contained : {A : Type 0} (x y : A) (xs : List A) → Contains (x ∷ xs) y → (x ≡ y) ⊎ Contains xs y
contained x y xs (zero, within, is) = inl is
contained x y xs (suc k, within, is) = inr (k, omega (arith, within), is)

-- a row of what was met
abbrev IsRowOf : State → List (Option Id) → RegionRow → Type 0
IsRowOf s met row =
    (n : Id) × (r : Region) × WasMet met n × (region_of s (region_name n) ≡ Some r) × (row ≡ region_row (region_name n) r)

later : (s : State) (o : Option Id) (met : List (Option Id)) (row : RegionRow) → IsRowOf s met row
    → IsRowOf s (o ∷ met) row
later s o met row (n, r, (place, is), live, made) = (n, r, (suc place, is), live, made)

row_from : (s : State) (met : List (Option Id)) (row : RegionRow) → Contains (filter_map (row_met s) met) row
    → IsRowOf s met row
row_from s [] row (k, within, is) = absurd (omega (arith, within))
row_from s (None ∷ met) row among = later s None met row (row_from s met row among)
row_from s (Some n ∷ met) row among =
    go (λ is. later s (Some n) met row (row_from s met row is)) (region_of s (region_name n)) refl among
  where
    go : (Contains (filter_map (row_met s) met) row → IsRowOf s (Some n ∷ met) row) → (o : Option Region)
        → region_of s (region_name n) ≡ o
        → Contains (cons_option (option_map (region_row (region_name n)) o) (filter_map (row_met s) met)) row → IsRowOf s (Some n ∷ met) row
    go rest None e is = rest is
    go rest (Some r) e is =
        first (contained (region_row (region_name n) r) row (filter_map (row_met s) met) is)
      where
        first : (region_row (region_name n) r ≡ row) ⊎ Contains (filter_map (row_met s) met) row
            → IsRowOf s (Some n ∷ met) row
        first (inl same) = (n, r, (0, refl), e, sym same)
        first (inr among) = rest among

behind : (o : Option RegionRow) (rows : List RegionRow) (n : Rid) → Contains (map (λ row. row.region) rows) n
    → Contains (map (λ row. row.region) (cons_option o rows)) n
behind None rows n is = is
behind (Some row) rows n (k, within, is) = (suc k, omega (arith, within), is)

row_of_met : (s : State) (met : List (Option Id)) (n : Id) (r : Region) (place : ℕ)
    → slice_get met place ≡ Some (Some n) → region_of s (region_name n) ≡ Some r
    → Contains (map (λ row. row.region) (filter_map (row_met s) met)) (region_name n)
row_of_met s [] n r place is live = absurd (cc is)
row_of_met s (o ∷ met) n r zero is live =
    let here : o ≡ Some n = some_same o (Some n) is in
    let made : row_met s o ≡ Some (region_row (region_name n) r) =
    ap (row_met s) here ∙ ap (option_map (region_row (region_name n))) live in
    subst
    (λ (x : Option RegionRow). Contains (map (λ row. row.region) (cons_option x (filter_map (row_met s) met))) (region_name n))
    (sym made) (0, omega arith, refl)
row_of_met s (o ∷ met) n r (suc place) is live =
    behind (row_met s o) (filter_map (row_met s) met) (region_name n) (row_of_met s met n r place is live)

-- ---- what is reported was met

record IsSeen (s : State) (met : List (Option Id)) (n : Rid) : Type 0 where
  pub visible : IsVisibleRegion s n
  pub was : WasMet met n.0

module _ (s : State) (threads : List ℕ) (met : List (Option Id)) (right : IsWellFormed s)
    (known : (i : ℕ) → Contains threads i → i < s.count) (are : AreMet s threads met) where
  root_seen : (i : ℕ) → Contains threads i → (n : Rid) → root_of s i ≡ Some n → IsSeen s met n
  root_seen i among n is = go (s.threads i).current refl is
    where
      go : (o : Option Tid) → (s.threads i).current ≡ o
          → option_map (λ (t : Task). t.region) (option_and_then (task_of s) o) ≡ Some n → IsSeen s met n
      go None e root = absurd (cc root)
      go (Some k) e root =
          let seen = right.currents i k (known i among) e in
          let region : seen.task.region ≡ n =
          some_same seen.task.region n (sym (ap (option_map (λ (t : Task). t.region)) seen.live) ∙ root) in
          let visible : IsVisibleRegion s n = subst (IsVisibleRegion s) region (right.tasks k seen).region in
          record { visible = visible; was = are.roots i n among is (visible.region, visible.live) }

  encloses_seen : (o n : Rid) → IsSeen s met o → enclosing_of s o ≡ Some n → IsSeen s met n
  encloses_seen o n seen is =
      let here = seen.visible in
      let encloses : here.region.enclosing ≡ Some n =
      sym (ap (option_and_then (λ (r : Region). r.enclosing)) here.live) ∙ is in
      let visible : IsVisibleRegion s n = (right.regions o here).enclosing n encloses in
      record { visible = visible; was = are.closed o.0 n seen.was is (visible.region, visible.live) }

  reported_seen : (i : ℕ) → Contains threads i → (steps : ℕ) (n : Rid)
      → along (enclosing_of s) steps (root_of s i) ≡ Some n → IsSeen s met n
  reported_seen i among zero n is = root_seen i among n is
  reported_seen i among (suc steps) n is =
      go (λ o. reported_seen i among steps o) (along (enclosing_of s) steps (root_of s i)) refl
      (sym (along_more (enclosing_of s) steps (root_of s i)) ∙ is)
    where
      go : ((o : Rid) → along (enclosing_of s) steps (root_of s i) ≡ Some o → IsSeen s met o)
          → (o : Option Rid) → along (enclosing_of s) steps (root_of s i) ≡ o
          → option_and_then (enclosing_of s) o ≡ Some n → IsSeen s met n
      go before None e on = absurd (cc on)
      go before (Some o) e on = encloses_seen o n (before o e) on

  pub regions_met : (creators width : ℕ) → ArePlaced creators width met
      → AreRegions s threads (filter_map (row_met s) met)
  regions_met creators width placed = record {
    in_order = (sorted s width 0 met (λ j n is. let at = placed j n is in (at.has.slot, at.there ∙ omega arith))).order;
    each = λ row among. each row (row_from s met row among);
    all = λ n (i, steps, among, is). all n (reported_seen i among steps n is);
  }
    where
      each : (row : RegionRow) → IsRowOf s met row
          → IsReported s threads row.region × (r : Region) × (region_of s row.region ≡ Some r) × (row ≡ region_row row.region r)
      each row (n, r, was, live, made) =
          subst
          (λ (x : RegionRow). IsReported s threads x.region × (q : Region) × (region_of s x.region ≡ Some q) × (x ≡ region_row x.region q))
          (sym made)
          (are.reported n was, r, live, refl)

      all : (n : Rid) → IsSeen s met n → Contains (map (λ row. row.region) (filter_map (row_met s) met)) n
      all n seen = row_of_met s met n.0 seen.visible.region seen.was.0 seen.was.1 seen.visible.live
