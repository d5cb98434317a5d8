use Rattle.omi_model.proofs.ReachedWellFormed.{reached_well_formed}
use Rattle.omi_model.proofs.machine_laws.reached_is_well_formed.Goals as goal

pub returns : goal.returns
returns c = reached_well_formed
