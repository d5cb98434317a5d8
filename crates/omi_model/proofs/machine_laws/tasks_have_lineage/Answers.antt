use Rattle.omi_model.proofs.members.Lineages.{have_lineage}
use Rattle.omi_model.proofs.machine_laws.tasks_have_lineage.Goals as goal

pub returns : goal.returns
returns c = have_lineage
