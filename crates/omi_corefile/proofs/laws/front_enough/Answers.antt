use Rattle.omi_corefile.proofs.Fronts.{front_enough}
use Rattle.omi_corefile.proofs.laws.front_enough.Goals as goal

pub returns : goal.returns
returns c = front_enough
