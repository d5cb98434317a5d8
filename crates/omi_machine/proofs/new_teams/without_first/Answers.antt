use Rattle.std.proofs.Common.{arith}
use Rattle.omi_machine.proofs.KeptLists.{rest_more}
use Rattle.omi_machine.proofs.new_teams.without_first.Goals as goal

pub loop-k-preserved : goal.loop-k-preserved
loop-k-preserved c = search (rest_more, arith)
