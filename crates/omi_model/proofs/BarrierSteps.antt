-- What a step does to the arrivals and the released barriers of a region.
use Rattle.std.proofs.Common.{◌≡◌, ◌+◌, ℕ, true, false, List, slice_index, slice_set, Some, refl, sym, ap, ◌∙◌, subst}
use Rattle.std.specs.Prelude.{IfSome}
use Rattle.omi_script.specs.declared.program.Program.{Program}
use Rattle.omi_model.specs.declared.event.Event.{Event}
use Rattle.omi_model.specs.declared.event.Event.TheVariants as event
use Rattle.omi_model.specs.declared.id.Rid.{Rid}
use Rattle.omi_model.specs.declared.id.Tid.{Tid}
use Rattle.omi_model.specs.declared.item.Item.{Item}
use Rattle.omi_model.specs.declared.region.Region.{Region}
use Rattle.omi_model.specs.declared.task.Task.{Task}
use Rattle.omi_model.specs.Barriers.{HaveArrived, MayRelease, arrived, released}
use Rattle.omi_model.specs.Changes.{IsCurrent, encounter, with_list}
use Rattle.omi_model.specs.Lists.{stays}
use Rattle.omi_model.specs.Put.{Slots, named}
use Rattle.omi_model.specs.Rules.{Rule, effect}
use Rattle.omi_model.specs.State.{State, region_of}
use Rattle.omi_model.specs.Teams.{new_region}
use Rattle.omi_model.proofs.SlotEffects.{changed_now, changes_regions, regions_effect, same_current}
use Rattle.omi_model.proofs.Slots.{false_true, gone_was, made_stays, none_some, some_same}
use Rattle.omi_model.proofs.StaysKept.{fresh_empty}
use Rattle.omi_model.proofs.Steps.{IsMove, current_moved, from_some, is_relisted, list_moves, relisted}

-- the region as it was, as far as barriers go
abbrev pub IsUntouched : Region → Region → Type 0
IsUntouched r q = (q.arrivals ≡ r.arrivals) × (q.released ≡ r.released)

-- what an event of a task makes of a region's barriers
abbrev pub Touches : Event → Task → Rid → Region → Region → Type 0
Touches event.Arrive t n r q =
    (t.region ≡ n → q.arrivals ≡ slice_set r.arrivals t.number (slice_index r.arrivals t.number + 1)) × ((t.region ≡ n → ⊥) → q.arrivals ≡ r.arrivals) × (q.released ≡ r.released)
Touches event.Release t n r q =
    (t.region ≡ n → (t.number ≡ 0) × HaveArrived r × (q.released ≡ r.released + 1)) × ((t.region ≡ n → ⊥) → q.released ≡ r.released) × (q.arrivals ≡ r.arrivals)
Touches e t n r q = IsUntouched r q

-- the same by any thread: only an arrival and a release are looked at with a task
abbrev pub Changes : State → ℕ → Event → Rid → Region → Region → Type 0
Changes s i event.Arrive n r q = (k : Tid) (t : Task) → IsCurrent s i k t → Touches event.Arrive t n r q
Changes s i event.Release n r q = (k : Tid) (t : Task) → IsCurrent s i k t → Touches event.Release t n r q
Changes s i e n r q = IsUntouched r q

abbrev AreChanged : State → ℕ → Event → Slots Region → Type 0
AreChanged s i e slots =
    (n : Rid) (r : Region) → region_of s n ≡ Some r → (q : Region) → named slots n.0 ≡ Some q → Changes s i e n r q

module _ (p : Program) (s : State) (i : ℕ) where
  arrive_touches : (k : Tid) (t : Task) → IsCurrent s i k t
      → AreChanged s i event.Arrive (arrived s t).regions
  arrive_touches k t is n r e q found_q =
      changed_now s.regions t.region
      (λ q. record q { arrivals = slice_set q.arrivals t.number (slice_index q.arrivals t.number + 1) })
      (Changes s i event.Arrive n) n r e q found_q
      (λ same k' t' is'.
      let one = same_current s i k k' t t' is is' in (
        λ h. ap (λ (x : Task). slice_set r.arrivals x.number (slice_index r.arrivals x.number + 1)) one,
        λ other. absurd (other (ap (λ (x : Task). x.region) (sym one) ∙ sym same)),
        refl,
      ))
      (λ apart k' t' is'.
      let one = same_current s i k k' t t' is is' in
      (λ h. absurd (apart (sym (ap (λ (x : Task). x.region) one ∙ h))), λ other. refl, refl))

  release_touches : (k : Tid) (t : Task) (r0 : Region) → IsCurrent s i k t → region_of s t.region ≡ Some r0
      → MayRelease s t r0 → AreChanged s i event.Release (released s t).regions
  release_touches k t r0 is found may n r e q found_q =
      changed_now s.regions t.region (λ q. record q { released = q.released + 1 })
      (Changes s i event.Release n) n r e q found_q
      (λ same k' t' is'.
      let one = same_current s i k k' t t' is is' in
      let known : r0 ≡ r = some_same found (ap (region_of s) (sym same) ∙ e) in (
        λ h. (ap (λ (x : Task). x.number) (sym one) ∙ may.first, subst HaveArrived known may.arrived, refl),
        λ other. absurd (other (ap (λ (x : Task). x.region) (sym one) ∙ sym same)),
        refl,
      ))
      (λ apart k' t' is'.
      let one = same_current s i k k' t t' is is' in
      (λ h. absurd (apart (sym (ap (λ (x : Task). x.region) one ∙ h))), λ other. refl, refl))

  untouched : (e : Event) → changes_regions e ≡ false → AreChanged s i e s.regions
  untouched event.Arrive is = absurd (false_true (sym is))
  untouched event.Release is = absurd (false_true (sym is))
  untouched e is = λ n r found q here. subst (IsUntouched r) (some_same found here) (refl, refl)

  changed_effect : (e : Event) (y : Item) → Rule s i e y
      → IfSome (effect p s i e y) (λ u. AreChanged s i e u.regions)
  changed_effect = regions_effect p s i (AreChanged s i) (record {
    stays = untouched;
    forks = λ region team f k t r may n q e w found_w.
        let there = made_stays s.regions region.0 (new_region k t r team f) n.0 q (fresh_empty s.regions i region.0 may.region_new) e in
        subst (IsUntouched q) (some_same there found_w) (refl, refl);
    arrives = arrive_touches;
    releases = release_touches;
    ends = λ task k t is n r e q found_q.
        changed_now s.regions t.region (λ q. record q { ended = slice_set q.ended t.number true }) IsUntouched n r e q found_q
        (λ same. (refl, refl)) (λ apart. (refl, refl));
    joins = λ region k t r0 is n r e q found_q.
        changed_now s.regions t.region (λ q. record q { joined = true }) IsUntouched n r e q found_q
        (λ same. (refl, refl)) (λ apart. (refl, refl));
    frees_region = λ region m number may n r e q found_q.
        subst (IsUntouched r) (some_same e (gone_was s.regions region.0 n.0 q found_q)) (refl, refl);
  })

-- the current task, once the list has moved on
pub current_after : (s : State) (i : ℕ) (zs : List Item) (k : Tid) (t : Task) → IsCurrent s i k t
    → IsCurrent (with_list s i zs) i k (relisted zs t)
current_after s i zs k t is =
    list_moves s i zs (λ u. IsCurrent u i k (relisted zs t)) (λ n name. current_moved s i n name zs k t is)
    (λ none. absurd (none_some none is.name))

-- what a step makes of a region's barriers
pub region_changed : (p : Program) (s : State) (i : ℕ) (e : Event) (next : State) (m : IsMove p s i e next) (n : Rid) (r q : Region)
    → region_of s n ≡ Some r → region_of next n ≡ Some q → Changes s i e n r q
region_changed p s i e after_step m n r q found found_q =
    let zs : List Item = stays (encounter s i) e m.item m.behind in
    back zs e
    (from_some (λ (u : State). AreChanged (with_list s i zs) i e u.regions)
    (effect p (with_list s i zs) i e m.item) after_step m.effect_is
    (changed_effect p (with_list s i zs) i e m.item m.rule_moved) n r ((is_relisted s i zs).regions n ∙ found) q found_q)
  where
    back : (zs : List Item) (e' : Event) → Changes (with_list s i zs) i e' n r q
        → Changes s i e' n r q
    back zs event.Arrive h = λ k t is. h k (relisted zs t) (current_after s i zs k t is)
    back zs event.Release h = λ k t is. h k (relisted zs t) (current_after s i zs k t is)
    back zs e' h = h
