use Rattle.std.proofs.Common.{arith}
use Rattle.std.proofs.lemmas.Grind.{common_steps}
use Rattle.omi_text.proofs.Joined.{decimals_from_first}
use Rattle.omi_text.proofs.numbers.push_list.Goals as goal

pub returns : goal.returns
returns c = grind (arith, common_steps, decimals_from_first c.args.list.now c.get.result.now c.get.ensures)
