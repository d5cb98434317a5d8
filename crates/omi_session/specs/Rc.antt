-- The numbers of the return codes. They are this project's own; OpenMP 5.0 gives the names, but for Incomplete and CallbackError.
use Rattle.std.specs.Prelude.{ℕ}
use Rattle.omi_session.specs.declared.rc.Rc.{Rc}
use Rattle.omi_session.specs.declared.rc.Rc.TheVariants.{Unavailable, StaleHandle, BadInput, Error, Unsupported, NeedsStateTracking, Incompatible, NoMem, Incomplete, CallbackError}

abbrev pub code_of : Rc → ℕ
code_of Unavailable = 1
code_of StaleHandle = 2
code_of BadInput = 3
code_of (Error addr field) = 4
code_of Unsupported = 5
code_of NeedsStateTracking = 6
code_of Incompatible = 7
code_of NoMem = 10
code_of (Incomplete first) = 11
code_of CallbackError = 12
