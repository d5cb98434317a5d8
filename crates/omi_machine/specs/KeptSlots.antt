-- What is kept of the slots, with the object of one slot exchanged.
use Rattle.std.specs.Prelude.{◌<◌, ℕ, List, [], IfSome, length, get_or, slice_get, slice_set}
use Rattle.omi_model.specs.declared.id.Id.{Id}
use Rattle.omi_model.specs.declared.id.Tid.{Tid}
use Rattle.omi_model.specs.declared.slot.Slot.{Slot}
use Rattle.omi_model.specs.declared.task.Task.{Task}
use Rattle.omi_model.specs.Put.{unused}

-- the slots of a creator, and one of them
abbrev pub row_at : {A : Type 0} → List (List (Slot A)) → ℕ → List (Slot A)
row_at slots c = get_or slots c []

abbrev pub slot_at : {A : Type 0} → List (List (Slot A)) → Id → Slot A
slot_at slots n = get_or (row_at slots n.creator) n.slot unused

-- the slot of a name is kept
pub record IsKept {A : Type 0} (slots : List (List (Slot A))) (n : Id) : Type 0 where
  pub creator : n.creator < length slots
  pub slot : n.slot < length (row_at slots n.creator)

-- the slots with another one in the place of one
abbrev pub with_slot : {A : Type 0} → List (List (Slot A)) → Id → Slot A → List (List (Slot A))
with_slot slots n slot = slice_set slots n.creator (slice_set (row_at slots n.creator) n.slot slot)

-- the slots of a team's tasks are kept
abbrev pub AreKept : List (List (Slot Task)) → List (Tid × ℕ) → Type 0
AreKept slots team = (k : ℕ) → k < length team
    → IfSome (slice_get team k) (λ m. IsKept slots m.0.0)
