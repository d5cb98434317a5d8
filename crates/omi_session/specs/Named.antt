-- What a handle may stand for in a layout.
use Rattle.std.specs.Prelude.{◌≡◌, ℕ, ◌≤◌, List, Some, IsTrue, is_some}
use Rattle.std.specs.FinMap.{get}
use Rattle.omi_handle.specs.declared.handle.Kind.{Kind}
use Rattle.omi_handle.specs.declared.handle.Kind.TheVariants.{Thread, Region, Task}
use Rattle.omi_handle.specs.declared.handle.Held.{Held}
use Rattle.omi_handle.specs.Ledger.{Ledger}
use Rattle.omi_layout.specs.declared.limits.TheConstants.{LAST_END}
use Rattle.omi_layout.specs.Field.{threads, regions, tasks}
use Rattle.omi_rep.specs.Look.{slot_at, is_live}

-- the kind of record of a kind of object
abbrev pub record_kind : Kind → ℕ
record_kind Thread = threads
record_kind Region = regions
record_kind Task = tasks

-- a record of this kind begins at the address, and the life word is one of a live record: odd and below 2^33, and 1 for a thread
pub record IsNamed (w : List ℕ) (h : Held) : Type 0 where
  pub place : IsTrue (is_some (slot_at w (record_kind h.kind) h.addr))
  pub live : IsTrue (is_live (record_kind h.kind) h.life)

-- each handle that is held stands for such a record
pub record AreNamed (w : List ℕ) (handles : Ledger) : Type 0 where
  pub each : (pair : ℕ × ℕ) (h : Held) → get handles.held pair ≡ Some h → IsNamed w h

-- an object of this kind, whose address is low, as each record's is
pub record IsOfKind (w : List ℕ) (kind : Kind) (h : Held) : Type 0 where
  pub named : IsNamed w h
  pub is : h.kind ≡ kind
  pub low : h.addr ≤ LAST_END
