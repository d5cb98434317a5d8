-- The number of a thread and the name of a region, by what is held.
use Rattle.std.specs.Prelude.{◌≡◌, ℕ, List, Some, Result, Ok, Err}
use Rattle.omi_handle.specs.declared.handle.Held.{Held}
use Rattle.omi_model.specs.declared.id.Id.{Id}
use Rattle.omi_model.specs.declared.id.Rid.{Rid}
use Rattle.omi_session.specs.declared.rc.Rc.{Rc}
use Rattle.omi_session.specs.Handles.{name_of, IsNameOf}

-- the thread that has the record of what is held
abbrev pub IsNumberOf : List ℕ → Result Held Rc → Result ℕ Rc → Type 0
IsNumberOf w (Ok h) (Ok number) =
    record { id : Id; names : name_of w h ≡ Some id; is : number ≡ id.creator }
IsNumberOf w (Ok h) (Err rc) = ⊥
IsNumberOf w (Err rc) (Ok number) = ⊥
IsNumberOf w (Err rc) (Err why) = why ≡ rc

-- the region that has the record of what is held
abbrev pub IsRegionOf : List ℕ → Result Held Rc → Result Rid Rc → Type 0
IsRegionOf w held (Ok region) = IsNameOf w held (Ok region.0)
IsRegionOf w held (Err rc) = IsNameOf w held (Err rc)
