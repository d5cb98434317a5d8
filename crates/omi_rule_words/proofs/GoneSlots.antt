-- Slots of which one is emptied: it has had as many objects as before, and every other slot stays.
use Rattle.std.proofs.Common.{◌≡◌, ◌+◌, ℕ, Some, None, refl, ap, ◌∙◌, eq-eqb, if◌then◌else◌}
use Rattle.omi_model.specs.declared.id.Id.{Id}
use Rattle.omi_model.specs.declared.slot.Slot.{Slot}
use Rattle.omi_model.specs.Put.{Slots, emptied, gone, named}
use Rattle.omi_model.proofs.Slots.{each_slot, found_generation, found_live}
use Rattle.omi_rule_words.proofs.EachPlace.{each_place}

module _ {A : Type 0} (slots : Slots A) (n : Id) (old : A) (live : named slots n ≡ Some old) where
  abbrev there : Slot A
  there = slots n.creator n.slot

  pub live_there : there.live ≡ Some old
  live_there = found_live n.generation there old live

  pub generations_there : there.generations ≡ n.generation + 1
  generations_there = found_generation n.generation there old live

  abbrev empty : Slot A
  empty = record { generations = there.generations; live = None }

  pub slot_here : gone slots n n.creator n.slot ≡ empty
  slot_here =
      each_slot slots n (λ c j (y : Slot A). c ≡ n.creator → j ≡ n.slot → y ≡ empty)
      (emptied n.generation there)
      (λ _ _. ap (λ b. if b then empty else there) (eq-eqb _ _ generations_there))
      (λ c j apart a b. absurd (apart a b)) n.creator n.slot refl refl

  pub slot_beside : (c j : ℕ) → (c ≡ n.creator → j ≡ n.slot → ⊥) → gone slots n c j ≡ slots c j
  slot_beside =
      each_slot slots n (λ c j (y : Slot A). (c ≡ n.creator → j ≡ n.slot → ⊥) → y ≡ slots c j)
      (emptied n.generation there) (λ apart. absurd (apart refl refl)) (λ c j _ _. refl)

  pub empty_after : (c j : ℕ) → (slots c j).live ≡ None → (gone slots n c j).live ≡ None
  empty_after =
      each_place (λ c j. (slots c j).live ≡ None → (gone slots n c j).live ≡ None) n.creator n.slot
      (λ none. let some = live_there in absurd (cc))
      (λ c j apart none. ap (λ (x : Slot A). x.live) (slot_beside c j apart) ∙ none)
