use Rattle.omi_rule.proofs.Descends.{tasks_descend}
use Rattle.omi_rule.proofs.laws.tasks_descend.Goals as goal

pub returns : goal.returns
returns c = tasks_descend
