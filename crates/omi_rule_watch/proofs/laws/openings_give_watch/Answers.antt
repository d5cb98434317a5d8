use Rattle.omi_rule_watch.proofs.Kept.{openings_given}
use Rattle.omi_rule_watch.proofs.laws.openings_give_watch.Goals as goal

pub returns : goal.returns
returns c = openings_given
