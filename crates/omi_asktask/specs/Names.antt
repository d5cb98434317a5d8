-- The name of a task, by what is held.
use Rattle.std.specs.Prelude.{ℕ, List, Result, Ok, Err}
use Rattle.omi_handle.specs.declared.handle.Held.{Held}
use Rattle.omi_model.specs.declared.id.Tid.{Tid}
use Rattle.omi_session.specs.declared.rc.Rc.{Rc}
use Rattle.omi_session.specs.Handles.{IsNameOf}

-- the task that has the record of what is held
abbrev pub IsTaskOf : List ℕ → Result Held Rc → Result Tid Rc → Type 0
IsTaskOf w held (Ok task) = IsNameOf w held (Ok task.0)
IsTaskOf w held (Err rc) = IsNameOf w held (Err rc)
