use Rattle.omi_rule.proofs.Others.{events_leave_others}
use Rattle.omi_rule.proofs.laws.events_leave_others.Goals as goal

pub returns : goal.returns
returns c = events_leave_others
