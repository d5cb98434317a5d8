use Rattle.omi_model.proofs.LevelsCount.{levels_count}
use Rattle.omi_model.proofs.machine_laws.levels_count_regions.Goals as goal

pub returns : goal.returns
returns c = levels_count
