use Rattle.omi_model.proofs.JoinsLast.{joins_last}
use Rattle.omi_model.proofs.machine_laws.joins_come_last.Goals as goal

pub returns : goal.returns
returns c = joins_last
