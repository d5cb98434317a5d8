-- What an opening that is refused leaves of the files.
use Rattle.std.specs.Prelude.{◌≡◌, ℕ, List}
use Rattle.omi_outside.specs.Outside.{HasCause, Told}

-- There are files that tell what these told, of which no more writes failed, and of which more reads failed where this is a failure. No
-- clause can say that they are the ones which were lent, since the loan may go on
pub record LeavesFiles {F : Type 0} (tells : F → List ℕ → Told) (reads writes : F → ℕ) (lent : F) (failure : Type 0) : Type 0 where
  pub left : F
  pub same : tells left ≡ tells lent
  pub unwritten : writes left ≡ writes lent
  pub cause : HasCause (reads lent) (reads left) failure
