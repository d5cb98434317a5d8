use Rattle.omi_model.proofs.BarriersAhead.{barriers_ahead}
use Rattle.omi_model.proofs.machine_laws.barriers_are_left.Goals as goal

pub returns : goal.returns
returns c = barriers_ahead
