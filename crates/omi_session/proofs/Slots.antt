-- A kind of object has a kind of record, and what is held for it a low address.
use Rattle.std.proofs.Common.{◌≡◌, ℕ, ◌≤◌, List, Option, Some, None, sym, arith}
use Rattle.std.specs.Prelude.{IfSome}
use Rattle.std.specs.FinMap.{get}
use Rattle.omi_layout.specs.declared.limits.TheConstants.{LAST_END}
use Rattle.omi_layout.specs.Field.{IsKind}
use Rattle.omi_layout.specs.Valid.{IsValid}
use Rattle.omi_rep.proofs.Slots.{place_low}
use Rattle.omi_handle.specs.declared.handle.Kind.{Kind}
use Rattle.omi_handle.specs.declared.handle.Kind.TheVariants.{Thread, Region, Task}
use Rattle.omi_handle.specs.declared.handle.Held.{Held}
use Rattle.omi_handle.specs.Ledger.{Ledger}
use Rattle.omi_session.specs.Named.{record_kind, IsNamed, AreNamed}

-- a kind of object has a kind of record
pub kind_is : (kind : Kind) → IsKind (record_kind kind)
kind_is Thread = record { from = omega arith; to = omega arith }
kind_is Region = record { from = omega arith; to = omega arith }
kind_is Task = record { from = omega arith; to = omega arith }

-- what may be held has a low address
pub named_low : (w : List ℕ) (h : Held) → IsValid w → IsNamed w h → h.addr ≤ LAST_END
named_low w h v named = place_low w (record_kind h.kind) h.addr v (kind_is h.kind) named.place

-- and so does what is found under a pair
pub found_low : (w : List ℕ) (handles : Ledger) (pair : ℕ × ℕ) (found : Option Held) → IsValid w
    → AreNamed w handles → found ≡ get handles.held pair
    → IfSome found (λ h. h.addr ≤ LAST_END)
found_low w handles pair None v named is = tt
found_low w handles pair (Some h) v named is =
    named_low w h v (named.each pair h (sym is))
