-- What holds of each object that is kept holds of each live one, and back.
use Rattle.std.proofs.Common.{◌≡◌, ◌↔◌, ℕ, Bool, true, List, get_or, slice_get, Option, Some, None, unwrap_or, refl, sym, ap, subst, ◌∙◌}
use Rattle.std.specs.List.{All}
use Rattle.std.specs.Option.{option_and_then}
use Rattle.std.proofs.lemmas.Option.{none-some, slice_get_within, get_or_from_slice_get, slice_get-get_or}
use Rattle.omi_model.specs.declared.slot.Slot.{Slot}
use Rattle.omi_machine_legal.specs.Decided.{IfLive}
use Rattle.omi_machine.specs.Kept.{slots_of}
use Rattle.omi_model.specs.Put.{unused}

-- what is decided of a value is decided of the same value
pub decided_of : {X : Type 0} (P : X → Type 0) (b : Bool) (x y : X) → x ≡ y → ((b ≡ true) ↔ P y)
    → ((b ≡ true) ↔ P x)
decided_of P b x y same decides =
    (λ is. subst P (sym same) (decides.0 is), λ holds. decides.1 (subst P same holds))

-- a fact of each element is one of the element at a place
all_at : {X : Type 0} (P : X → Type 0) (xs : List X) (k : ℕ) (x : X) → All P xs → slice_get xs k ≡ Some x
    → P x
all_at P xs k x all is = subst P (get_or_from_slice_get xs k x x is) (all k x (slice_get_within xs k x is))

-- a slot that is kept
kept_at : {A : Type 0} (kept : List (List (Slot A))) (c k : ℕ) (own : List (Slot A)) (slot : Slot A)
    → slice_get kept c ≡ Some own → slice_get own k ≡ Some slot → slots_of kept c k ≡ slot
kept_at {A = A} kept c k own slot at there =
    ap
    (λ (o : Option (List (Slot A))). unwrap_or (option_and_then (λ (slots : List (Slot A)). slice_get slots k) o) unused) at
    ∙ ap (λ (o : Option (Slot A)). unwrap_or o unused) there

pub live_from_kept : {A : Type 0} (P : A → Type 0) (kept : List (List (Slot A))) → All (All (IfLive P)) kept
    → (c k : ℕ) → IfLive P (slots_of kept c k)
live_from_kept {A = A} P kept all c k = of_creator (slice_get kept c) refl
  where
    of_slot : (own : List (Slot A)) → slice_get kept c ≡ Some own → (o : Option (Slot A))
        → slice_get own k ≡ o → IfLive P (unwrap_or o unused)
    of_slot own at None there x is = absurd (none-some x is)
    of_slot own at (Some slot) there x is =
        all_at (IfLive P) own k slot (all_at (All (IfLive P)) kept c own all at) there x is

    of_creator : (o : Option (List (Slot A))) → slice_get kept c ≡ o
        → IfLive P (unwrap_or (option_and_then (λ (slots : List (Slot A)). slice_get slots k) o) unused)
    of_creator None at x is = absurd (none-some x is)
    of_creator (Some own) at x is = of_slot own at (slice_get own k) refl x is

pub kept_from_live : {A : Type 0} (P : A → Type 0) (kept : List (List (Slot A)))
    → ((c k : ℕ) → IfLive P (slots_of kept c k)) → All (All (IfLive P)) kept
kept_from_live {A = A} P kept each c own inside k slot within =
    subst (IfLive P)
    (kept_at kept c k (get_or kept c own) (get_or (get_or kept c own) k slot) (slice_get-get_or kept c own inside) (slice_get-get_or (get_or kept c own) k slot within))
    (each c k)
