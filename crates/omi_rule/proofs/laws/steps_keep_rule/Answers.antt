use Rattle.omi_rule.proofs.StepsKept.{steps_keep}
use Rattle.omi_rule.proofs.laws.steps_keep_rule.Goals as goal

pub returns : goal.returns
returns c = steps_keep
