use Rattle.omi_task.proofs.CodesBack.{codes_back, codes_some}
use Rattle.omi_task.proofs.laws.codes_are_read_back.Goals as goal

pub returns : goal.returns
returns c = record { back = codes_back; some = codes_some }
