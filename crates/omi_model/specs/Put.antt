-- The slots in which objects live, and what changes one of them.
use Rattle.std.specs.Prelude.{◌==◌, ℕ, ◌+◌, ◌&&◌, Option, Some, None, if◌then◌else◌}
use Rattle.std.specs.Option.{option_map}
use Rattle.omi_model.specs.declared.id.Id.{Id}
use Rattle.omi_model.specs.declared.slot.Slot.{Slot}

-- the function with one place replaced
abbrev pub put : {A : Type 0} → (ℕ → A) → ℕ → A → ℕ → A
put m i x = λ j. if j == i then x else m j

-- all slots, by creator and number
abbrev pub Slots : Type 0 → Type 0
Slots A = ℕ → ℕ → Slot A

-- a slot that has had no object
abbrev pub unused : {A : Type 0} → Slot A
unused = record { generations = 0; live = None }

-- one object, in the first slot of thread 0
abbrev pub first_alone : {A : Type 0} → A → Slots A
first_alone x = λ c k. if c == 0 && k == 0 then record { generations = 1; live = Some x }
    else unused

-- the object of a generation, where it is live
abbrev pub found : {A : Type 0} → ℕ → Slot A → Option A
found g slot = if slot.generations == g + 1 then slot.live else None

-- the live object of a name
abbrev pub named : {A : Type 0} → Slots A → Id → Option A
named slots n = found n.generation (slots n.creator n.slot)

-- a slot whose object of a generation is changed. A stale generation changes nothing.
abbrev pub changed : {A : Type 0} → ℕ → (A → A) → Slot A → Slot A
changed g f slot =
    if slot.generations == g + 1
    then record { generations = slot.generations; live = option_map f slot.live }
    else slot

-- the object of a name is changed, and every other slot stays
abbrev pub on : {A : Type 0} → Slots A → Id → (A → A) → Slots A
on slots n f =
    put slots n.creator
    (put (slots n.creator) n.slot (changed n.generation f (slots n.creator n.slot)))

-- an object begins under a name, and every other slot stays
abbrev pub made : {A : Type 0} → Slots A → Id → A → Slots A
made slots n x =
    put slots n.creator
    (put (slots n.creator) n.slot (record { generations = n.generation + 1; live = Some x }))

-- a slot whose object of a generation is gone. A stale generation changes nothing
abbrev pub emptied : {A : Type 0} → ℕ → Slot A → Slot A
emptied g slot =
    if slot.generations == g + 1 then record { generations = slot.generations; live = None } else slot

-- the object of a name is gone, and every other slot stays
abbrev pub gone : {A : Type 0} → Slots A → Id → Slots A
gone slots n =
    put slots n.creator
    (put (slots n.creator) n.slot (emptied n.generation (slots n.creator n.slot)))
