use Rattle.omi_model.proofs.freeing.FreeingLaws.{finished_freed, joined_freed}
use Rattle.omi_model.proofs.freeing.RegionsFreed.{regions_freed}
use Rattle.omi_model.proofs.machine_laws.regions_are_freed.Goals as goal

pub returns-clause-freed : goal.returns-clause-freed
returns-clause-freed c = regions_freed

pub returns-clause-goes_on : goal.returns-clause-goes_on
returns-clause-goes_on c = joined_freed

pub returns-clause-finished : goal.returns-clause-finished
returns-clause-finished c = finished_freed
