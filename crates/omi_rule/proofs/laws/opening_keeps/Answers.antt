use Rattle.omi_rule.proofs.OpenedRule.{opening_keeps}
use Rattle.omi_rule.proofs.laws.opening_keeps.Goals as goal

pub returns : goal.returns
returns c = opening_keeps
