-- How a slab of entries spells what is held. No public clause cites this module.
use Rattle.std.specs.Prelude.{◌≡◌, ℕ, ◌-◌, ◌<◌, map, Option, Some, None}
use Rattle.std.specs.FinMap.{FinMap, empty, from_entries}
use Rattle.slab.specs.Slab.{Slab, get, entries, slab_len}
use Rattle.omi_handle.specs.declared.handle.Held.{Held}
use Rattle.omi_handle.specs.declared.handles.Entry.{Entry}
use Rattle.omi_handle.specs.Ledger.{Ledger, pair_cmp}

-- an entry under its key, as a pair and what is held under it
abbrev pub pair_of : ℕ × Entry → (ℕ × ℕ) × Held
pair_of e = ((e.0, e.1.serial), e.1.held)

-- what the entries hold
abbrev pub held_by : Slab Entry → FinMap pair_cmp Held
held_by s = from_entries (map pair_of (entries s))

-- and for how many more there is room
abbrev pub room_in : Slab Entry → ℕ
room_in s = s.capacity - slab_len s

-- without a slab nothing is held, and there is no room
abbrev pub ledger_of : Option (Slab Entry) → ℕ → Ledger
ledger_of (Some s) made = record { held = held_by s; made = made; room = room_in s }
ledger_of None made = record { held = empty; made = made; room = 0 }

-- each serial in the slab is below this
abbrev pub AreBelow : Slab Entry → ℕ → Type 0
AreBelow s made = (key : ℕ) (e : Entry) → get s key ≡ Some e → e.serial < made

-- where there is one
abbrev pub SerialsBelow : Option (Slab Entry) → ℕ → Type 0
SerialsBelow (Some s) made = AreBelow s made
SerialsBelow None made = Unit {0}
