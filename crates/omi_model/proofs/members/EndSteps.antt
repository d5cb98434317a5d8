-- What a step does to the ends of a region's members and to its join.
use Rattle.std.proofs.Common.{◌≡◌, ℕ, true, false, List, slice_set, Some, refl, sym, ap, ◌∙◌, subst}
use Rattle.std.specs.Prelude.{IfSome}
use Rattle.omi_script.specs.declared.program.Program.{Program}
use Rattle.omi_model.specs.declared.event.Event.{Event}
use Rattle.omi_model.specs.declared.event.Event.TheVariants as event
use Rattle.omi_model.specs.declared.id.Rid.{Rid}
use Rattle.omi_model.specs.declared.id.Tid.{Tid}
use Rattle.omi_model.specs.declared.item.Item.{Item}
use Rattle.omi_model.specs.declared.region.Region.{Region}
use Rattle.omi_model.specs.declared.task.Task.{Task}
use Rattle.omi_model.specs.Changes.{IsCurrent, encounter, with_list}
use Rattle.omi_model.specs.Lists.{stays}
use Rattle.omi_model.specs.LawStays.{Stays}
use Rattle.omi_model.specs.Put.{Slots, named}
use Rattle.omi_model.specs.Reached.{Step}
use Rattle.omi_model.specs.Rules.{Rule, effect}
use Rattle.omi_model.specs.State.{State, region_of}
use Rattle.omi_model.specs.Teams.{joined, new_region, task_ended}
use Rattle.omi_model.proofs.BarrierSteps.{current_after}
use Rattle.omi_model.proofs.EachObject.{EachRegion, IsRegionLaw, region_step}
use Rattle.omi_model.proofs.SlotEffects.{changed_now, changes_regions, regions_effect, same_current}
use Rattle.omi_model.proofs.Slots.{false_true, gone_was, made_stays, some_same}
use Rattle.omi_model.proofs.StaysKept.{fresh_empty}
use Rattle.omi_model.proofs.Steps.{IsMove, IsRelisted, from_some, is_relisted, relisted}

-- the region as it was, as far as its end goes
abbrev pub IsAsOpen : Region → Region → Type 0
IsAsOpen r q = (q.ended ≡ r.ended) × (q.joined ≡ r.joined)

-- what an event of a task makes of a region's end
abbrev pub Ends : Event → Task → Rid → Region → Region → Type 0
Ends (event.ImplicitEnd task) t n r q =
    (t.region ≡ n → q.ended ≡ slice_set r.ended t.number true) × ((t.region ≡ n → ⊥) → q.ended ≡ r.ended) × (q.joined ≡ r.joined)
Ends (event.Join region) t n r q =
    (t.region ≡ n → q.joined ≡ true) × ((t.region ≡ n → ⊥) → q.joined ≡ r.joined) × (q.ended ≡ r.ended)
Ends e t n r q = IsAsOpen r q

-- the same by any thread: only an end and a join are looked at with a task
abbrev pub EndsBy : State → ℕ → Event → Rid → Region → Region → Type 0
EndsBy s i (event.ImplicitEnd task) n r q =
    (k : Tid) (t : Task) → IsCurrent s i k t → Ends (event.ImplicitEnd task) t n r q
EndsBy s i (event.Join region) n r q =
    (k : Tid) (t : Task) → IsCurrent s i k t → Ends (event.Join region) t n r q
EndsBy s i e n r q = IsAsOpen r q

abbrev AreEnded : State → ℕ → Event → Slots Region → Type 0
AreEnded s i e slots =
    (n : Rid) (r : Region) → region_of s n ≡ Some r → (q : Region) → named slots n.0 ≡ Some q → EndsBy s i e n r q

module _ (p : Program) (s : State) (i : ℕ) where
  ends : (task k : Tid) (t : Task) → IsCurrent s i k t
      → AreEnded s i (event.ImplicitEnd task) (task_ended s i k t).regions
  ends task k t is n r e q found_q =
      changed_now s.regions t.region (λ q. record q { ended = slice_set q.ended t.number true })
      (EndsBy s i (event.ImplicitEnd task) n) n r e q found_q
      (λ same k' t' is'.
      let one = same_current s i k k' t t' is is' in
      (λ h. ap (λ (x : Task). slice_set r.ended x.number true) one, λ other. absurd (other (ap (λ (x : Task). x.region) (sym one) ∙ sym same)), refl))
      (λ apart k' t' is'.
      let one = same_current s i k k' t t' is is' in
      (λ h. absurd (apart (sym (ap (λ (x : Task). x.region) one ∙ h))), λ other. refl, refl))

  joins : (region : Rid) (k : Tid) (t : Task) (r0 : Region) → IsCurrent s i k t
      → AreEnded s i (event.Join region) (joined s i k t r0).regions
  joins region k t r0 is n r e q found_q =
      changed_now s.regions t.region (λ q. record q { joined = true }) (EndsBy s i (event.Join region) n) n r e q found_q
      (λ same k' t' is'.
      let one = same_current s i k k' t t' is is' in
      (λ h. refl, λ other. absurd (other (ap (λ (x : Task). x.region) (sym one) ∙ sym same)), refl))
      (λ apart k' t' is'.
      let one = same_current s i k k' t t' is is' in
      (λ h. absurd (apart (sym (ap (λ (x : Task). x.region) one ∙ h))), λ other. refl, refl))

  as_open : (e : Event) → changes_regions e ≡ false → AreEnded s i e s.regions
  as_open (event.ImplicitEnd task) is = absurd (false_true (sym is))
  as_open (event.Join region) is = absurd (false_true (sym is))
  as_open e is = λ n r found q here. subst (IsAsOpen r) (some_same found here) (refl, refl)

  ended_effect : (e : Event) (y : Item) → Rule s i e y
      → IfSome (effect p s i e y) (λ u. AreEnded s i e u.regions)
  ended_effect = regions_effect p s i (AreEnded s i) (record {
    stays = as_open;
    forks = λ region team f k t r may n q e w found_w.
        let there = made_stays s.regions region.0 (new_region k t r team f) n.0 q (fresh_empty s.regions i region.0 may.region_new) e in
        subst (IsAsOpen q) (some_same there found_w) (refl, refl);
    arrives = λ k t is n r e q found_q. changed_now s.regions t.region _ IsAsOpen n r e q found_q (λ same. (refl, refl)) (λ apart. (refl, refl));
    releases = λ k t r0 is found may n r e q found_q. changed_now s.regions t.region _ IsAsOpen n r e q found_q (λ same. (refl, refl)) (λ apart. (refl, refl));
    ends = ends;
    joins = joins;
    frees_region = λ region m number may n r e q found_q.
        subst (IsAsOpen r) (some_same e (gone_was s.regions region.0 n.0 q found_q)) (refl, refl);
  })

-- what a step makes of a region's end
pub region_ended : (p : Program) (s : State) (i : ℕ) (e : Event) (next : State) (m : IsMove p s i e next) (n : Rid) (r q : Region)
    → region_of s n ≡ Some r → region_of next n ≡ Some q → EndsBy s i e n r q
region_ended p s i e after_step m n r q found found_q =
    let zs : List Item = stays (encounter s i) e m.item m.behind in
    back zs e
    (from_some (λ (u : State). AreEnded (with_list s i zs) i e u.regions)
    (effect p (with_list s i zs) i e m.item) after_step m.effect_is
    (ended_effect p (with_list s i zs) i e m.item m.rule_moved) n r ((is_relisted s i zs).regions n ∙ found) q found_q)
  where
    back : (zs : List Item) (e' : Event) → EndsBy (with_list s i zs) i e' n r q
        → EndsBy s i e' n r q
    back zs (event.ImplicitEnd task) h = λ k t is. h k (relisted zs t) (current_after s i zs k t is)
    back zs (event.Join region) h = λ k t is. h k (relisted zs t) (current_after s i zs k t is)
    back zs e' h = h

-- a joined region was there before
pub was_there : (p : Program) (s : State) (i : ℕ) (e : Event) (next : State) → Step p s i e next
    → EachRegion (λ n q. q.joined ≡ true → (r : Region) × (region_of s n ≡ Some r)) next
was_there p s i e next step = region_step p (λ n q. q.joined ≡ true → (r : Region) × (region_of s n ≡ Some r)) s i e next step law
    (λ n r found joined. (r, found))
  where
    law : (middle : State) → IsRelisted s middle → Stays middle next
        → IsRegionLaw p middle i next (λ n q. q.joined ≡ true → (r : Region) × (region_of s n ≡ Some r))
    law middle before later = record {
      arrives = λ k t r is found q. q;
      releases = λ k t r is found may q. q;
      ends = λ k t r is found im other q. q;
      joins = λ k t r is found may q joined. (r, sym (before.regions t.region) ∙ found);
      forks = λ region team f k t r is found may new joined. absurd (false_true joined);
    }
