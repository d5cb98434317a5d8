-- What is kept of the slots, with one slot exchanged, and the slots that it means.
use Rattle.std.proofs.Common.{◌≡◌, ◌<◌, ◌==◌, ◌+◌, ℕ, zero, suc, Bool, true, false, List, [], ◌∷◌, length, Option, Some, None, if◌then◌else◌, refl, sym, ap, ◌∙◌, arith, set-set, get_or-set_same}
use mathlib.Core.Path.{fun_ext}
use Rattle.std.specs.Prelude.{slice_get, slice_set, unwrap_or}
use Rattle.std.specs.Option.{option_and_then, option_map}
use Rattle.std.proofs.Math.Dec.{eqb-suc-zero, eqb-zero-suc, eqb-suc-suc}
use Rattle.std.proofs.lemmas.Bool.{eqb-true}
use Rattle.std.proofs.lemmas.Option.{get_or_from_slice_get, slice_get-get_or, unwrap_or-slice_get}
use Rattle.omi_model.specs.declared.id.Id.{Id}
use Rattle.omi_model.specs.declared.slot.Slot.{Slot}
use Rattle.omi_machine.specs.Kept.{slots_of}
use Rattle.omi_machine.specs.KeptSlots.{IsKept, row_at, slot_at, with_slot}
use Rattle.omi_model.specs.Put.{put, on, named, found, changed, unused, emptied, gone}

-- the element at a place of a list of which one is exchanged
pub got : {A : Type 0} (xs : List A) (i j : ℕ) (x : A) → i < length xs
    → slice_get (slice_set xs i x) j ≡ (if j == i then Some x else slice_get xs j)
got {A} [] i j x within = absurd (omega (arith, within))
got {A} (y ∷ ys) zero zero x within = refl
got {A} (y ∷ ys) zero (suc j) x within =
    sym (ap (λ (b : Bool). if b then Some x else slice_get ys j) (eqb-suc-zero j))
got {A} (y ∷ ys) (suc i) zero x within =
    sym (ap (λ (b : Bool). if b then Some x else Some y) (eqb-zero-suc i))
got {A} (y ∷ ys) (suc i) (suc j) x within =
    got ys i j x (omega (arith, within))
    ∙ sym (ap (λ (b : Bool). if b then Some x else slice_get ys j) (eqb-suc-suc j i))

module _ {A : Type 0} (slots : List (List (Slot A))) (n : Id) (kept : IsKept slots n) where
  -- the slots of the creator
  row_is : slice_get slots n.creator ≡ Some (row_at slots n.creator)
  row_is = slice_get-get_or slots n.creator [] kept.creator

  in_row : (k : ℕ) → unwrap_or (slice_get (row_at slots n.creator) k) unused ≡ slots_of slots n.creator k
  in_row k =
      sym
      (ap (λ (o : Option (List (Slot A))). unwrap_or (option_and_then (λ (row : List (Slot A)). slice_get row k) o) unused) row_is)

  -- the slot of the name
  pub slot_is : slots_of slots n.creator n.slot ≡ slot_at slots n
  slot_is = sym (in_row n.slot) ∙ unwrap_or-slice_get (row_at slots n.creator) n.slot unused

  -- one slot exchanged is one place of the function
  pub slots_put : (v : Slot A)
      → slots_of (with_slot slots n v) ≡ put (slots_of slots) n.creator (put (slots_of slots n.creator) n.slot v)
  slots_put v = fun_ext (λ c. fun_ext (λ k. by_creator c k ∙ split c k (c == n.creator)))
    where
      row : List (Slot A)
      row = slice_set (row_at slots n.creator) n.slot v

      in_slot : (k : ℕ) (o : Option (List (Slot A))) → Slot A
      in_slot k o = unwrap_or (option_and_then (λ (r : List (Slot A)). slice_get r k) o) unused

      by_creator : (c k : ℕ)
          → in_slot k (slice_get (slice_set slots n.creator row) c) ≡ in_slot k (if c == n.creator then Some row else slice_get slots c)
      by_creator c k = ap (in_slot k) (got slots n.creator c row kept.creator)

      inner : (k : ℕ) (b : Bool)
          → unwrap_or (if b then Some v else slice_get (row_at slots n.creator) k) unused ≡ (if b then v else slots_of slots n.creator k)
      inner k true = refl
      inner k false = in_row k

      split : (c k : ℕ) (b : Bool)
          → in_slot k (if b then Some row else slice_get slots c) ≡ (if◌then◌else◌ {A = ℕ → Slot A} b (put (slots_of slots n.creator) n.slot v) (slots_of slots c)) k
      split c k true =
          ap (λ (o : Option (Slot A)). unwrap_or o unused) (got (row_at slots n.creator) n.slot k v kept.slot)
          ∙ inner k (k == n.slot)
      split c k false = refl

  -- exchanged twice
  pub slot_twice : (v w : Slot A) → with_slot (with_slot slots n v) n w ≡ with_slot slots n w
  slot_twice v w =
      set-set slots n.creator _ _
      ∙ ap (λ (r : List (Slot A)). slice_set slots n.creator (slice_set r n.slot w))
      (get_or-set_same slots n.creator _ [] kept.creator)
      ∙ ap (λ (r : List (Slot A)). slice_set slots n.creator r) (set-set (row_at slots n.creator) n.slot v w)

-- an object that is found and changed
pub changed_found : {A : Type 0} (slot : Slot A) (g : ℕ) (f : A → A) (t : A) → found g slot ≡ Some t
    → changed g f slot ≡ record { generations = g + 1; live = Some (f t) }
changed_found {A} slot g f t = go (slot.generations == g + 1) refl
  where
    go : (b : Bool) → slot.generations == g + 1 ≡ b → (if b then slot.live else None) ≡ Some t
        → (if b then record { generations = slot.generations; live = option_map f slot.live } else slot) ≡ record { generations = g + 1; live = Some (f t) }
    go true is live =
        let generations = eqb-true slot.generations (g + 1) is in
        λ j. record { generations = generations j; live = option_map f (live j) }
    go false is live = absurd (cc)

-- the object of a name is changed
pub object_changed : {A : Type 0} (slots : List (List (Slot A))) (n : Id) (f : A → A) (t : A) → IsKept slots n
    → named (slots_of slots) n ≡ Some t
    → slots_of (with_slot slots n (record { generations = n.generation + 1; live = Some (f t) })) ≡ on (slots_of slots) n f
object_changed {A} slots n f t kept live =
    slots_put slots n kept _
    ∙ ap (λ (v : Slot A). put (slots_of slots) n.creator (put (slots_of slots n.creator) n.slot v))
    (sym (changed_found (slots_of slots n.creator n.slot) n.generation f t live))

-- a slot that is emptied
emptied_found : {A : Type 0} (slot : Slot A) (g : ℕ) (t : A) → found g slot ≡ Some t
    → emptied g slot ≡ record { generations = g + 1; live = None }
emptied_found {A} slot g t = go (slot.generations == g + 1) refl
  where
    go : (b : Bool) → slot.generations == g + 1 ≡ b → (if b then slot.live else None) ≡ Some t
        → (if b then record { generations = slot.generations; live = None } else slot) ≡ record { generations = g + 1; live = None }
    go true is live = let generations = eqb-true slot.generations (g + 1) is in λ j. record { generations = generations j; live = None }
    go false is live = absurd (cc)

-- the object of a name is gone
pub object_gone : {A : Type 0} (slots : List (List (Slot A))) (n : Id) (t : A) → IsKept slots n
    → named (slots_of slots) n ≡ Some t
    → slots_of (with_slot slots n (record { generations = n.generation + 1; live = None })) ≡ gone (slots_of slots) n
object_gone {A} slots n t kept live =
    slots_put slots n kept _
    ∙ ap (λ (v : Slot A). put (slots_of slots) n.creator (put (slots_of slots n.creator) n.slot v))
    (sym (emptied_found (slots_of slots n.creator n.slot) n.generation t live))

-- how a slot is exchanged: its row is taken out, and put back
pub slot_exchanged : {A : Type 0} (slots between after : List (List (Slot A))) (n : Id) (slot : Slot A) (empty row next : List (Slot A))
    → slice_get slots n.creator ≡ Some row → between ≡ slice_set slots n.creator empty → next ≡ slice_set row n.slot slot → after ≡ slice_set between n.creator next
    → after ≡ with_slot slots n slot
slot_exchanged {A} slots between after n slot empty row next was out changes back =
    back
    ∙ ap (λ (xs : List (List (Slot A))). slice_set xs n.creator next) out
    ∙ set-set slots n.creator empty next
    ∙ ap (slice_set slots n.creator)
    (changes ∙ ap (λ (r : List (Slot A)). slice_set r n.slot slot) (sym (get_or_from_slice_get slots n.creator row [] was)))
