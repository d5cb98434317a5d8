-- An operation of a thread on its word of a table.
use Rattle.std.specs.Prelude.{◌<◌, ◌≤◌, ℕ}
use Rattle.atomic_table.specs.Seated.{TableId}
use Rattle.atomic_table.specs.Table.{Allows, Me, State, Step}
use Rattle.omi_word.specs.declared.limits.TheConstants.{FIRST_ADDRESS}
use Rattle.omi_word.specs.declared.op.Op.{Op}
use Rattle.omi_word.specs.Memory.{address_of, left_of, place_of}

-- A seat may make it: its word is one of the table, and whatever the table is then, the rule is kept, and the seat is told this of it
pub record MayApply {V : Type 0} (holds : State (Unit {0}) V → Type 0) (id : TableId) (seat : ℕ)
    (me : Me (Unit {0}) V) (op : Op)
    (told : Step (Unit {0}) → Me (Unit {0}) V → ℕ → Me (Unit {0}) V → Type 0) : Type 0 where
  pub above : FIRST_ADDRESS ≤ address_of op
  pub inside : place_of (address_of op) < id.words
  pub allows : (st : Step (Unit {0})) → Allows holds id.slots seat me (place_of (address_of op))
      (left_of op) (told st me)

-- it was told this of the word that it found
abbrev pub WasTold : {V : Type 0}
    → (Step (Unit {0}) → Me (Unit {0}) V → ℕ → Me (Unit {0}) V → Type 0)
    → Me (Unit {0}) V → ℕ → Me (Unit {0}) V → Type 0
WasTold told me n after = (st : Step (Unit {0})) × told st me n after
