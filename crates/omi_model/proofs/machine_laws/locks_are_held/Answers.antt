use Rattle.omi_model.proofs.LocksHeld.{locks_held}
use Rattle.omi_model.proofs.machine_laws.locks_are_held.Goals as goal

pub returns : goal.returns
returns c = locks_held
