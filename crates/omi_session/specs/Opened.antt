-- What contracts see of an open session, and of one that is parted from its callbacks.
use Rattle.std.specs.Prelude.{◌≡◌, ℕ, List, refl}
use Rattle.std.specs.Coded.{Coded, code_by, coded×, coded_ℕ, coded_list}
use Rattle.std.specs.FinMap.{empty}
use Rattle.omi_calls.specs.Told.{Told}
use Rattle.omi_calls.specs.Kept.{Kept}
use Rattle.omi_handle.specs.Ledger.{Ledger, ledger_code}
use Rattle.omi_session.specs.Tells.{KeepsTold}

-- the callbacks, the words of the layout's table, and the handles that are held
pub record Opened (C F : Type 0) : Type 0 where
  pub table : Kept C F
  pub layout : List ℕ
  pub handles : Ledger

-- the same without the callbacks
pub record Apart : Type 0 where
  pub layout : List ℕ
  pub handles : Ledger

-- an open session is stored as the tuple of its parts
abbrev pub opened_code : {C F : Type 0} → Coded C → Coded F → Coded (Opened C F)
opened_code {C} {F} calls to_host =
    code_by
    (C × (ℕ × (F × (List ℕ × Ledger))))
    (coded× calls (coded× coded_ℕ (coded× to_host (coded× (coded_list coded_ℕ) ledger_code))))
    (λ s. (s.table.calls, (s.table.order, (s.table.to_host, (s.layout, s.handles)))))
    (λ p. record {
      table = record { calls = p.0; order = p.1.0; to_host = p.1.1.0 };
      layout = p.1.1.1.0;
      handles = p.1.1.1.1;
    })
    (λ _. refl)

abbrev pub apart_code : Coded Apart
apart_code =
    code_by
    (List ℕ × Ledger)
    (coded× (coded_list coded_ℕ) ledger_code)
    (λ s. (s.layout, s.handles))
    (λ p. record { layout = p.0; handles = p.1 })
    (λ _. refl)

-- no handle is held, and none was made
pub record IsFresh (handles : Ledger) : Type 0 where
  pub none : handles.held ≡ empty
  pub made : handles.made ≡ 0

-- a call left the layout and what is told as they were
pub record Stays {C F : Type 0} (told : C → Told) (old new : Opened C F) : Type 0 where
  pub table : KeepsTold told old.table new.table
  pub layout : new.layout ≡ old.layout

-- and the handles too
pub record StaysWhole {C F : Type 0} (told : C → Told) (old new : Opened C F) : Type 0 where
  pub table : KeepsTold told old.table new.table
  pub layout : new.layout ≡ old.layout
  pub handles : new.handles ≡ old.handles
