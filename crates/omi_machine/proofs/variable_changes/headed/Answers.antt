use Rattle.std.proofs.Common.{arith}
use Rattle.omi_machine.proofs.KeptLists.{head_more}
use Rattle.omi_machine.proofs.variable_changes.headed.Goals as goal

pub loop-k-preserved : goal.loop-k-preserved
loop-k-preserved c = search (head_more, arith)
