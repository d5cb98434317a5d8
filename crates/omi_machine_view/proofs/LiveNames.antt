-- One object lives in a slot: live names of one slot are the same name.
use Rattle.std.proofs.Common.{◌≡◌, ◌==◌, ℕ, ◌+◌, Bool, true, false, Option, Some, None, refl, sym, ap, ◌∙◌, arith, eqb-true, if◌then◌else◌}
use Rattle.omi_model.specs.declared.id.Id.{Id}
use Rattle.omi_model.specs.declared.slot.Slot.{Slot}
use Rattle.omi_model.specs.Put.{Slots, named, found}

generation : {A : Type 0} (g : ℕ) (slot : Slot A) (x : A) → found g slot ≡ Some x → slot.generations ≡ g + 1
generation {A} g slot x is = go (slot.generations == g + 1) refl is
  where
    go : (b : Bool) → slot.generations == g + 1 ≡ b → (if b then slot.live else None) ≡ Some x
        → slot.generations ≡ g + 1
    go true e f = eqb-true slot.generations (g + 1) e
    go false e f = absurd (cc f)

pub one_name : {A : Type 0} (slots : Slots A) (m n : Id) (x y : A) → named slots m ≡ Some x
    → named slots n ≡ Some y → m.creator ≡ n.creator → m.slot ≡ n.slot → m ≡ n
one_name slots m n x y a b creators places =
    let first = generation m.generation (slots m.creator m.slot) x a in
    let second = generation n.generation (slots n.creator n.slot) y b in
    let same : (slots m.creator m.slot).generations ≡ (slots n.creator n.slot).generations =
    ap (λ c. (slots c m.slot).generations) creators ∙ ap (λ k. (slots n.creator k).generations) places in
    let generations : m.generation ≡ n.generation = omega (arith, first, second, same) in
    λ j. record { creator = creators j; slot = places j; generation = generations j }
