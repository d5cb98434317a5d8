use Rattle.omi_model.proofs.ChainsKept.{have_chains}
use Rattle.omi_model.proofs.machine_laws.threads_have_chains.Goals as goal

pub returns : goal.returns
returns c = have_chains
