use Rattle.omi_rule_watch.proofs.Quiets.{quiet_steps_few}
use Rattle.omi_rule_watch.proofs.laws.quiet_steps_are_few.Goals as goal

pub returns : goal.returns
returns c = quiet_steps_few
