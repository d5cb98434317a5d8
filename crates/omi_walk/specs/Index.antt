-- The objects that were met, by the slots of their records.
use Rattle.std.specs.Prelude.{◌≡◌, ◌<◌, ◌==◌, ◌+◌, ◌*◌, ℕ, List, find}
use Rattle.std.specs.List.{All}
use Rattle.std.specs.Ordering.{nat_cmp}
use Rattle.std.specs.BTreeMap.{BTreeMap, get}
use Rattle.omi_walk.specs.declared.met.Met.{Met}

-- the key of a slot, whose number is below 65,536
abbrev pub slot_key : ℕ → ℕ → ℕ
slot_key creator slot = creator * 65536 + slot

abbrev pub key_of : Met → ℕ
key_of m = slot_key m.name.creator m.name.slot

-- of each slot the first of these objects
abbrev pub HasFirst : BTreeMap ℕ Met → List Met → Type 0
HasFirst index met = (key : ℕ) → get nat_cmp index key ≡ find (λ m. key_of m == key) met

-- their slots have such numbers
abbrev pub AreSmall : List Met → Type 0
AreSmall met = All (λ m. m.name.slot < 65536) met
