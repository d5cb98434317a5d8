use Rattle.omi_model.proofs.RegionEnds.{regions_end}
use Rattle.omi_model.proofs.machine_laws.regions_end_alone.Goals as goal

pub returns : goal.returns
returns c = regions_end
