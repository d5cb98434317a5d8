use Rattle.omi_model.proofs.members.BegunChains.{begun_on_chains}
use Rattle.omi_model.proofs.machine_laws.begun_tasks_are_on_chains.Goals as goal

pub returns : goal.returns
returns c = begun_on_chains
