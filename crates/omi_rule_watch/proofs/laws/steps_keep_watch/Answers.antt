use Rattle.omi_rule_watch.proofs.Kept.{watch_kept}
use Rattle.omi_rule_watch.proofs.laws.steps_keep_watch.Goals as goal

pub returns : goal.returns
returns c = watch_kept
