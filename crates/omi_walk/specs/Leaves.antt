-- What a walk leaves: the layout, what the callbacks tell, and all handles as they were.
use Rattle.std.specs.Prelude.{◌≡◌, ◌≤◌, ◌+◌, ℕ}
use Rattle.omi_calls.specs.Told.{Told}
use Rattle.omi_session.specs.Opened.{Opened, Stays}

-- the handles that are held are those which were held before. At most so many were made, and let go again; their count never falls
pub record Leaves {C F : Type 0} (told : C → Told) (most : ℕ) (old new : Opened C F) : Type 0 where
  pub stays : Stays told old new
  pub held : new.handles.held ≡ old.handles.held
  pub later : old.handles.made ≤ new.handles.made
  pub made : new.handles.made ≤ old.handles.made + most
