-- One place of a function changed, and changed back.
use Rattle.std.proofs.Common.{◌≡◌, ◌==◌, ◌+◌, ℕ, Bool, true, false, List, Option, Some, None, if◌then◌else◌, refl, sym, ap, ◌∙◌, eq-eqb}
use mathlib.Core.Path.{fun_ext}
use Rattle.std.specs.Option.{option_map, option_map_or}
use Rattle.std.specs.Prelude.{IfNone, IfSome}
use Rattle.std.proofs.lemmas.Bool.{eqb-true}
use Rattle.omi_model.specs.declared.freeable.Freeable.{Freeable}
use Rattle.omi_model.specs.declared.id.Id.{Id}
use Rattle.omi_model.specs.declared.id.Tid.{Tid}
use Rattle.omi_model.specs.declared.item.Item.{Item}
use Rattle.omi_model.specs.declared.slot.Slot.{Slot}
use Rattle.omi_model.specs.declared.thread.Thread.{Thread}
use Rattle.omi_model.specs.Changes.{on_task, on_thread, with_ahead}
use Rattle.omi_model.specs.Put.{Slots, changed, found, named, on, put, emptied, gone}
use Rattle.omi_model.specs.State.{State}
use Rattle.omi_machine.specs.Kept.{slots_of}
use Rattle.omi_machine.specs.KeptSlots.{IsKept, with_slot}
use Rattle.omi_machine.proofs.KeptSlotLemmas.{changed_found, object_gone}

-- the place itself, put again
pub put_same : {A : Type 0} (m : ℕ → A) (i : ℕ) → put m i (m i) ≡ m
put_same {A} m i = fun_ext (λ j. split j (j == i) refl)
  where
    split : (j : ℕ) (b : Bool) → (j == i) ≡ b → (if b then m i else m j) ≡ m j
    split j true is = ap m (sym (eqb-true j i is))
    split j false is = refl

-- one place put twice
pub put_put : {A : Type 0} (m : ℕ → A) (i : ℕ) (x y : A) → put (put m i x) i y ≡ put m i y
put_put {A} m i x y = fun_ext (λ j. split j (j == i))
  where
    split : (j : ℕ) (b : Bool) → (if b then y else (if b then x else m j)) ≡ (if b then y else m j)
    split j true = refl
    split j false = refl

-- the place that was put
pub put_at : {A : Type 0} (m : ℕ → A) (i : ℕ) (x : A) → put m i x i ≡ x
put_at {A} m i x = ap (λ (b : Bool). if b then x else m i) (eq-eqb i i refl)

-- a slot of which an object is found
found_is : {A : Type 0} (slot : Slot A) (g : ℕ) (t : A) → found g slot ≡ Some t
    → slot ≡ record { generations = g + 1; live = Some t }
found_is {A} slot g t = go (slot.generations == g + 1) refl
  where
    go : (b : Bool) → (slot.generations == g + 1) ≡ b → (if b then slot.live else None) ≡ Some t
        → slot ≡ record { generations = g + 1; live = Some t }
    go true is live =
        let generations = eqb-true slot.generations (g + 1) is in
        λ j. record { generations = generations j; live = live j }
    go false is live = absurd (cc)

-- where no object is found none is changed
none_changed : {A : Type 0} (slot : Slot A) (g : ℕ) (f : A → A) → found g slot ≡ None
    → changed g f slot ≡ slot
none_changed {A} slot g f = go (slot.generations == g + 1)
  where
    go : (b : Bool) → (if b then slot.live else None) ≡ None
        → (if b then record { generations = slot.generations; live = option_map f slot.live } else slot) ≡ slot
    go true none =
        let live : option_map f slot.live ≡ slot.live = ap (option_map f) none ∙ sym none in
        λ j. record { generations = slot.generations; live = live j }
    go false none = refl

-- where no object is found none is gone
none_emptied : {A : Type 0} (slot : Slot A) (g : ℕ) → found g slot ≡ None → emptied g slot ≡ slot
none_emptied {A} slot g = go (slot.generations == g + 1)
  where
    go : (b : Bool) → (if b then slot.live else None) ≡ None
        → (if b then record { generations = slot.generations; live = None } else slot) ≡ slot
    go true none = λ j. record { generations = slot.generations; live = sym none j }
    go false none = refl

pub gone_none : {A : Type 0} (slots : Slots A) (n : Id) → named slots n ≡ None → gone slots n ≡ slots
gone_none {A} slots n none =
    ap (λ (v : Slot A). put slots n.creator (put (slots n.creator) n.slot v))
    (none_emptied (slots n.creator n.slot) n.generation none)
    ∙ ap (put slots n.creator) (put_same (slots n.creator) n.slot)
    ∙ put_same slots n.creator

-- an object that is taken out, where there is one, is gone
pub taken_gone : {A : Type 0} (slots after : List (List (Slot A))) (n : Id) (o : Option A)
    → IfSome o (λ t. named (slots_of slots) n ≡ Some t) → IfSome o (λ t. IsKept slots n)
    → IfSome o (λ t. after ≡ with_slot slots n (record { generations = n.generation + 1; live = None }))
    → IfNone o (named (slots_of slots) n ≡ None) → IfNone o (after ≡ slots)
    → slots_of after ≡ gone (slots_of slots) n
taken_gone {A} slots after n None found kept taken none same =
    ap (slots_of {A = A}) same ∙ sym (gone_none (slots_of slots) n none)
taken_gone {A} slots after n (Some t) found kept taken none same =
    ap (slots_of {A = A}) taken ∙ object_gone slots n t kept found

module _ {A : Type 0} (slots : Slots A) (n : Id) (f : A → A) where
  pub on_none : named slots n ≡ None → on slots n f ≡ slots
  on_none none =
      ap (λ (v : Slot A). put slots n.creator (put (slots n.creator) n.slot v))
      (none_changed (slots n.creator n.slot) n.generation f none)
      ∙ ap (put slots n.creator) (put_same (slots n.creator) n.slot)
      ∙ put_same slots n.creator

  -- the slot of the name, changed
  pub on_at : on slots n f n.creator n.slot ≡ changed n.generation f (slots n.creator n.slot)
  on_at =
      ap (λ (row : ℕ → Slot A). row n.slot)
      (put_at slots n.creator (put (slots n.creator) n.slot (changed n.generation f (slots n.creator n.slot))))
      ∙ put_at (slots n.creator) n.slot (changed n.generation f (slots n.creator n.slot))

  module _ (t : A) (live : named slots n ≡ Some t) where
    changed_is : on slots n f n.creator n.slot ≡ record { generations = n.generation + 1; live = Some (f t) }
    changed_is = on_at ∙ changed_found (slots n.creator n.slot) n.generation f t live

    -- the object that was changed is found
    pub named_on : named (on slots n f) n ≡ Some (f t)
    named_on =
        ap (found n.generation) changed_is
        ∙ ap (λ (b : Bool). if b then Some (f t) else None)
        (eq-eqb (n.generation + 1) (n.generation + 1) refl)

    -- a change that changes nothing
    pub on_same : f t ≡ t → on slots n f ≡ slots
    on_same same =
        let slot : changed n.generation f (slots n.creator n.slot) ≡ slots n.creator n.slot =
        changed_found (slots n.creator n.slot) n.generation f t live
        ∙ ap (λ (x : A). record { generations = n.generation + 1; live = Some x }) same
        ∙ sym (found_is (slots n.creator n.slot) n.generation t live) in
        ap (λ (v : Slot A). put slots n.creator (put (slots n.creator) n.slot v)) slot
        ∙ ap (put slots n.creator) (put_same (slots n.creator) n.slot)
        ∙ put_same slots n.creator

    -- what is changed back
    pub on_back : (g : A → A) → g (f t) ≡ t → on (on slots n f) n g ≡ slots
    on_back g back =
        let v : Slot A = changed n.generation f (slots n.creator n.slot) in
        let row : ℕ → Slot A = put (slots n.creator) n.slot v in
        let again : changed n.generation g (on slots n f n.creator n.slot) ≡ slots n.creator n.slot =
        changed_found (on slots n f n.creator n.slot) n.generation g (f t) named_on
        ∙ ap (λ (x : A). record { generations = n.generation + 1; live = Some x }) back
        ∙ sym (found_is (slots n.creator n.slot) n.generation t live) in
        ap (λ (w : Slot A). put (on slots n f) n.creator (put (on slots n f n.creator) n.slot w)) again
        ∙ ap (λ (r : ℕ → Slot A). put (on slots n f) n.creator (put r n.slot (slots n.creator n.slot)))
        (put_at slots n.creator row)
        ∙ put_put slots n.creator row (put row n.slot (slots n.creator n.slot))
        ∙ ap (put slots n.creator)
        (put_put (slots n.creator) n.slot v (slots n.creator n.slot) ∙ put_same (slots n.creator) n.slot)
        ∙ put_same slots n.creator

-- a thread changed back
pub thread_back : (s : State) (i : ℕ) (f g : Thread → Thread) → g (f (s.threads i)) ≡ s.threads i
    → on_thread (on_thread s i f) i g ≡ s
thread_back s i f g back =
    ap (λ (m : ℕ → Thread). record s { threads = m })
    (ap (λ (h : Thread). put (put s.threads i (f (s.threads i))) i (g h)) (put_at s.threads i (f (s.threads i)))
    ∙ put_put s.threads i (f (s.threads i)) (g (f (s.threads i)))
    ∙ ap (put s.threads i) back
    ∙ put_same s.threads i)

-- the list of a thread without a task, exchanged and exchanged back
pub list_back : (s next : State) (i : ℕ) (frees : Option Freeable) (list old : List Item) → (s.threads i).current ≡ None
    → next ≡ on_thread s i (λ h. record h { list = list })
    → on_thread next i (λ h. record h { list = old }) ≡ s → with_ahead next i frees old ≡ s
list_back s next i frees list old none after back =
    let current : (next.threads i).current ≡ None =
    ap (λ (x : State). (x.threads i).current) after
    ∙ ap (λ (h : Thread). h.current) (put_at s.threads i (record (s.threads i) { list = list }))
    ∙ none in
    ap
    (λ (o : Option Tid). option_map_or (λ (k : Tid). on_task next k (λ t. record t { frees = frees; list = old })) o (on_thread next i (λ h. record h { list = old }))) current
    ∙ back
