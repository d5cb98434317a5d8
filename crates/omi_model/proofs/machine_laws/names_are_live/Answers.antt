use Rattle.omi_model.proofs.NamesLive.{names_live}
use Rattle.omi_model.proofs.machine_laws.names_are_live.Goals as goal

pub returns : goal.returns
returns c = names_live
