-- More slots are kept than before, and they mean the same.
use Rattle.std.proofs.Common.{◌≡◌, ◌≤◌, ◌<◌, ◌==◌, ℕ, zero, suc, Bool, true, false, List, [], ◌∷◌, ◌++◌, length, get_or, Option, Some, if◌then◌else◌, refl, sym, ap, subst, ◌∙◌, arith, length-set, length-append, set-set, get_or-set_same, get_or-set_other}
use mathlib.Core.Path.{fun_ext}
use Rattle.std.specs.Prelude.{slice_get, slice_set, unwrap_or}
use Rattle.std.specs.Option.{option_and_then}
use Rattle.std.proofs.lemmas.Bool.{eqb-true, eqb-false}
use Rattle.std.proofs.lemmas.List.{get_or_append_left}
use Rattle.std.proofs.lemmas.Option.{get_or_from_slice_get}
use Rattle.omi_model.specs.declared.id.Id.{Id}
use Rattle.omi_model.specs.declared.slot.Slot.{Slot}
use Rattle.omi_model.specs.Put.{unused}
use Rattle.omi_machine.specs.Kept.{slots_of}
use Rattle.omi_machine.specs.KeptSlots.{IsKept, row_at}
use Rattle.omi_machine.proofs.KeptSlotLemmas.{got}

-- the slot of a number in the slots of a creator, if they are kept
abbrev in_slot : {A : Type 0} → ℕ → Option (List (Slot A)) → Slot A
in_slot {A} k o = unwrap_or (option_and_then (λ (row : List (Slot A)). slice_get row k) o) unused

-- one creator more, who has no slots
creator_more : {A : Type 0} (slots : List (List (Slot A))) (c k : ℕ)
    → in_slot k (slice_get (slots ++ [] ∷ []) c) ≡ in_slot k (slice_get slots c)
creator_more [] zero k = refl
creator_more [] (suc c) k = refl
creator_more (row ∷ slots) zero k = refl
creator_more (row ∷ slots) (suc c) k = creator_more slots c k

pub slots_more : {A : Type 0} (slots : List (List (Slot A))) → slots_of (slots ++ [] ∷ []) ≡ slots_of slots
slots_more slots = fun_ext (λ c. fun_ext (λ k. creator_more slots c k))

pub kept_more : {A : Type 0} (slots : List (List (Slot A))) (n : Id) → IsKept slots n
    → IsKept (slots ++ [] ∷ []) n
kept_more {A} slots n kept =
    let same : row_at (slots ++ [] ∷ []) n.creator ≡ row_at slots n.creator =
    get_or_append_left slots ([] ∷ []) [] n.creator kept.creator in
    record {
      creator = omega (arith, length-append slots ([] ∷ []), kept.creator);
      slot = subst (λ (row : List (Slot A)). n.slot < length row) (sym same) kept.slot;
    }

-- the slots of a creator exchanged for more of them
module _ {A : Type 0} (slots between after : List (List (Slot A))) (c : ℕ) (row new empty : List (Slot A))
    (inside : c < length slots) (was : slice_get slots c ≡ Some row)
    (out : between ≡ slice_set slots c empty) (back : after ≡ slice_set between c new) where
  whole : after ≡ slice_set slots c new
  whole = back ∙ ap (λ (xs : List (List (Slot A))). slice_set xs c new) out ∙ set-set slots c empty new

  pub row_exchanged : ((k : ℕ) → unwrap_or (slice_get new k) unused ≡ unwrap_or (slice_get row k) unused)
      → slots_of after ≡ slots_of slots
  row_exchanged same =
      ap (slots_of {A = A}) whole
      ∙ fun_ext (λ d. fun_ext (λ k. ap (in_slot k) (got slots c d new inside) ∙ split d k (d == c) refl))
    where
      split : (d k : ℕ) (b : Bool) → (d == c) ≡ b
          → in_slot k (if b then Some new else slice_get slots d) ≡ in_slot k (slice_get slots d)
      split d k true is = same k ∙ sym (ap (in_slot k) (ap (slice_get slots) (eqb-true d c is) ∙ was))
      split d k false is = refl

  pub still_kept_row : length row ≤ length new → (m : Id) → IsKept slots m → IsKept after m
  still_kept_row more m kept = record {
    creator = omega (arith, ap (λ (xs : List (List (Slot A))). length xs) whole, length-set slots c new, kept.creator);
    slot = split (m.creator == c) refl;
  }
    where
      split : (b : Bool) → (m.creator == c) ≡ b → m.slot < length (row_at after m.creator)
      split true is =
          let e : m.creator ≡ c = eqb-true m.creator c is in
          let now : row_at after m.creator ≡ new =
          ap (λ (xs : List (List (Slot A))). get_or xs m.creator []) whole
          ∙ ap (λ (d : ℕ). get_or (slice_set slots c new) d []) e
          ∙ get_or-set_same slots c new [] inside in
          let before : row_at slots m.creator ≡ row =
          ap (row_at slots) e ∙ get_or_from_slice_get slots c row [] was in
          omega
          (arith, ap (λ (xs : List (Slot A)). length xs) now, ap (λ (xs : List (Slot A)). length xs) before, kept.slot, more)
      split false is =
          let now : row_at after m.creator ≡ row_at slots m.creator =
          ap (λ (xs : List (List (Slot A))). get_or xs m.creator []) whole
          ∙ get_or-set_other slots c m.creator new [] (eqb-false m.creator c is) in
          omega (arith, ap (λ (xs : List (Slot A)). length xs) now, kept.slot)

  pub now_kept : (n : Id) → n.creator ≡ c → n.slot < length new → IsKept after n
  now_kept n is within =
      let now : row_at after n.creator ≡ new =
      ap (λ (xs : List (List (Slot A))). get_or xs n.creator []) whole
      ∙ ap (λ (d : ℕ). get_or (slice_set slots c new) d []) is
      ∙ get_or-set_same slots c new [] inside in
      record {
        creator = omega (arith, ap (λ (xs : List (List (Slot A))). length xs) whole, length-set slots c new, is, inside);
        slot = omega (arith, ap (λ (xs : List (Slot A)). length xs) now, within);
      }
