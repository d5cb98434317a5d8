-- What calls on handles alone answer: their order, and the names of their objects. They read no word.
use Rattle.std.specs.Prelude.{◌≡◌, ◌≤◌, ℕ, ◌/◌, List, Option, Some, Result, Ok, Err, OnOk, OnErr}
use Rattle.std.specs.FinMap.{get, remove}
use Rattle.std.specs.Option.{option_map}
use Rattle.std.specs.declared.cmp.Ordering.{Ordering}
use Rattle.std.specs.Ordering.{nat_cmp, on, then_cmp}
use Rattle.omi_handle.specs.declared.handle.Kind.{Kind}
use Rattle.omi_handle.specs.declared.handle.Held.{Held}
use Rattle.omi_model.specs.declared.id.Id.{Id}
use Rattle.omi_rep.specs.Look.{slot_at}
use Rattle.omi_session.specs.declared.rc.Rc.{Rc}
use Rattle.omi_session.specs.Named.{record_kind}
use Rattle.omi_session.specs.Opened.{Opened}
use Rattle.omi_session.specs.Inquiry.{live_handle}

-- objects by address and then by life word
abbrev pub held_cmp : Held → Held → Ordering
held_cmp = then_cmp (on (λ h. h.addr) nat_cmp) (on (λ h. h.life) nat_cmp)

-- the order of two objects, where both are there
abbrev pub both_cmp : Result Held Rc → Result Held Rc → Result Ordering Rc
both_cmp (Ok a) (Ok b) = Ok (held_cmp a b)
both_cmp (Ok a) (Err rc) = Err rc
both_cmp (Err rc) b = Err rc

-- the order of what is held under two pairs for this kind
abbrev pub handle_cmp : Kind → Option Held → Option Held → Result Ordering Rc
handle_cmp kind a b = both_cmp (live_handle kind a) (live_handle kind b)

-- a handle is there to be let go
abbrev pub as_done : Result Held Rc → Result (Unit {0}) Rc
as_done (Ok h) = Ok tt
as_done (Err rc) = Err rc

-- the handle of this kind under this pair is let go. Where none is there, it is refused, and no handle changes
pub record LetsGo {C F : Type 0} (kind : Kind) (pair : ℕ × ℕ) (old new : Opened C F) (result : Result (Unit {0}) Rc) : Type 0 where
  pub answer : result ≡ as_done (live_handle kind (get old.handles.held pair))
  pub removed : OnOk result (new.handles.held ≡ remove old.handles.held pair)
  pub refused : OnErr result (new.handles ≡ old.handles)
  pub made : new.handles.made ≡ old.handles.made
  pub room : old.handles.room ≤ new.handles.room
  pub layout : new.layout ≡ old.layout
  pub table : new.table ≡ old.table

-- the name of a handle's object: the slot whose record it has, and its generation by the life word that the handle keeps
abbrev pub name_of : List ℕ → Held → Option Id
name_of w h =
    option_map (λ at. record { creator = at.0; slot = at.1; generation = h.life / 2 })
    (slot_at w (record_kind h.kind) h.addr)

-- what is answered for the name of what is held for this kind
abbrev pub IsNameOf : List ℕ → Result Held Rc → Result Id Rc → Type 0
IsNameOf w (Ok h) (Ok id) = name_of w h ≡ Some id
IsNameOf w (Ok h) (Err rc) = ⊥
IsNameOf w (Err rc) (Ok id) = ⊥
IsNameOf w (Err rc) (Err why) = why ≡ rc
