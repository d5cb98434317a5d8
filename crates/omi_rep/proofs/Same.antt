-- What two states that the same words show have in common: the objects to which an address leads.
use Rattle.std.proofs.Common.{◌≡◌, ℕ, ◌+◌, ◌*◌, Bool, true, false, List, Option, Some, None, refl, sym, ap, ap₂, ◌∙◌, arith}
use Rattle.omi_model.specs.declared.id.Id.{Id}
use Rattle.omi_model.specs.declared.id.Rid.{Rid}
use Rattle.omi_model.specs.declared.id.Tid.{Tid}
use Rattle.omi_numbers.specs.Words.{flag}
use Rattle.omi_model.specs.State.{State}
use Rattle.omi_model.specs.Visible.{IsVisibleRegion, IsVisibleTask}
use Rattle.omi_layout.specs.declared.field.Field.{Field}
use Rattle.omi_layout.specs.declared.field.Field.TheVariants.{RegionLife, TaskLife}
use Rattle.omi_layout.specs.Field.{IsKind, regions, tasks}
use Rattle.omi_layout.specs.Named.{number}
use Rattle.omi_layout.specs.Place.{slot_address, IsSlot}
use Rattle.omi_layout.specs.Valid.{IsValid}
use Rattle.omi_word.specs.Words.{Words}
use Rattle.omi_layout.proofs.Frame.{addresses_apart, none_is_null, kind_2, kind_3, kind_4}
use Rattle.omi_rep.specs.Records.{Seen, records_of, region_address, task_address, region_word, task_word, thread_address}
use Rattle.omi_rep.specs.Shows.{Shows, Stands}

-- one word stands at a place
pub one_word : (r : Seen) (f : Field) (at x y : ℕ) → Stands r f at x → Stands r f at y → x ≡ y
one_word r f at x y a b = let both : Some x ≡ Some y = sym a ∙ b in cc

pub same_flag : (a b : Bool) → flag a ≡ flag b → a ≡ b
same_flag true true e = refl
same_flag false false e = refl
same_flag true false e = absurd (omega arith)
same_flag false true e = absurd (omega arith)

-- two names are the same where their slots have one address and their generations one life word
pub same_name : (w : List ℕ) (v : IsValid w) (kind : ℕ) → IsKind kind → (life : ℕ → ℕ → Option ℕ) (n h : Id)
    → IsSlot w kind n.creator n.slot → IsSlot w kind h.creator h.slot
    → slot_address w kind n.creator n.slot ≡ slot_address w kind h.creator h.slot
    → life n.creator n.slot ≡ Some (2 * n.generation + 1) → life h.creator h.slot ≡ Some (2 * h.generation + 1) → n ≡ h
same_name w v kind is life n h one other address a b =
    let apart = addresses_apart w v kind n.creator n.slot h.creator h.slot is one other address in
    let lives : Some (2 * n.generation + 1) ≡ Some (2 * h.generation + 1) =
    sym a ∙ ap₂ life apart.maker apart.place ∙ b in
    let words : 2 * n.generation + 1 ≡ 2 * h.generation + 1 = cc lives in
    let generations : n.generation ≡ h.generation = omega (arith, words) in
    λ i. record { creator = apart.maker i; slot = apart.place i; generation = generations i }

-- two numbers of threads are the same where their records have one address
pub same_thread : (w : List ℕ) (v : IsValid w) (i j : ℕ) → IsSlot w 2 i 0 → IsSlot w 2 j 0
    → thread_address w i ≡ thread_address w j → i ≡ j
same_thread w v i j one other address = (addresses_apart w v 2 i 0 j 0 kind_2 one other address).maker

module _ (w : List ℕ) (words : Words) (v : IsValid w) where
  pub region_slot : (s : State) → Shows w words s → (n : Rid) → IsVisibleRegion s n
      → IsSlot w regions n.0.creator n.0.slot
  region_slot s shown n seen =
      let at = shown.within.regions n.0.creator n.0.slot n.0.generation seen.region seen.live in
      record { made_by = at.maker; within = at.place }

  pub task_slot : (s : State) → Shows w words s → (k : Tid) → IsVisibleTask s k
      → IsSlot w tasks k.0.creator k.0.slot
  task_slot s shown k seen =
      let at = shown.within.tasks k.0.creator k.0.slot k.0.generation seen.task seen.live in
      record { made_by = at.maker; within = at.place }

  pub region_life : (s : State) (shown : Shows w words s) (n : Rid) (seen : IsVisibleRegion s n)
      → records_of w words n.0.creator regions n.0.slot (number RegionLife) 0 ≡ Some (2 * n.0.generation + 1)
  region_life s shown n seen =
      let at = shown.within.regions n.0.creator n.0.slot n.0.generation seen.region seen.live in
      (shown.records.region_lives n.0.creator n.0.slot at.maker at.place).live n.0.generation seen.region seen.live

  pub task_life : (s : State) (shown : Shows w words s) (k : Tid) (seen : IsVisibleTask s k)
      → records_of w words k.0.creator tasks k.0.slot (number TaskLife) 0 ≡ Some (2 * k.0.generation + 1)
  task_life s shown k seen =
      let at = shown.within.tasks k.0.creator k.0.slot k.0.generation seen.task seen.live in
      (shown.records.task_lives k.0.creator k.0.slot at.maker at.place).live k.0.generation seen.task seen.live

  module _ (s t : State) (a : Shows w words s) (b : Shows w words t) where
    -- an address leads to one region, in both states
    pub same_region : (n h : Rid) → IsVisibleRegion s n → IsVisibleRegion t h
        → region_address w n ≡ region_address w h → n ≡ h
    same_region n h x y e =
        let names = same_name w v regions kind_3 (λ c k. records_of w words c regions k (number RegionLife) 0) n.0 h.0
        (region_slot s a n x) (region_slot t b h y) e (region_life s a n x) (region_life t b h y) in
        λ i. record { 0 = names i }

    -- and to one task
    pub same_task : (k h : Tid) → IsVisibleTask s k → IsVisibleTask t h → task_address w k ≡ task_address w h
        → k ≡ h
    same_task k h x y e =
        let names = same_name w v tasks kind_4 (λ c j. records_of w words c tasks j (number TaskLife) 0) k.0 h.0
        (task_slot s a k x) (task_slot t b h y) e (task_life s a k x) (task_life t b h y) in
        λ i. record { 0 = names i }

    -- the same of a region or none
    pub same_regions : (n h : Option Rid) → ((r : Rid) → n ≡ Some r → IsVisibleRegion s r)
        → ((r : Rid) → h ≡ Some r → IsVisibleRegion t r)
        → region_word w n ≡ region_word w h → n ≡ h
    same_regions None None x y e = refl
    same_regions None (Some h) x y e =
        absurd (omega (arith, none_is_null w v 3 h.0.creator h.0.slot kind_3, e))
    same_regions (Some n) None x y e =
        absurd (omega (arith, none_is_null w v 3 n.0.creator n.0.slot kind_3, e))
    same_regions (Some n) (Some h) x y e = ap Some (same_region n h (x n refl) (y h refl) e)

    pub same_tasks : (k h : Option Tid) → ((j : Tid) → k ≡ Some j → IsVisibleTask s j)
        → ((j : Tid) → h ≡ Some j → IsVisibleTask t j)
        → task_word w k ≡ task_word w h → k ≡ h
    same_tasks None None x y e = refl
    same_tasks None (Some h) x y e = absurd (omega (arith, none_is_null w v 4 h.0.creator h.0.slot kind_4, e))
    same_tasks (Some k) None x y e = absurd (omega (arith, none_is_null w v 4 k.0.creator k.0.slot kind_4, e))
    same_tasks (Some k) (Some h) x y e = ap Some (same_task k h (x k refl) (y h refl) e)
