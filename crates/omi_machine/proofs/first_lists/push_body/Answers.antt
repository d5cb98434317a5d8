use Rattle.std.proofs.Common.{arith}
use Rattle.omi_machine.proofs.KeptLists.{body_more}
use Rattle.omi_machine.proofs.first_lists.push_body.Goals as goal

pub loop-k-preserved : goal.loop-k-preserved
loop-k-preserved c = search (body_more, arith)
