-- The threads that were found: the current task of each lives.
use Rattle.std.specs.Prelude.{IfSome}
use Rattle.omi_calls.specs.Told.{Told}
use Rattle.omi_handle.specs.declared.handle.Kind.TheVariants.{Task}
use Rattle.omi_session.specs.Opened.{Opened}
use Rattle.omi_walk.specs.declared.found.Found.{Found}
use Rattle.omi_walk.specs.Objects.{IsMet}

pub record IsFound {C F : Type 0} (told : C → Told) (s : Opened C F) (f : Found) : Type 0 where
  pub met : IfSome f.current (IsMet told s Task)
