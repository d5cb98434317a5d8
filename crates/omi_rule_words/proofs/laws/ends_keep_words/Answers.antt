use Rattle.omi_rule_words.proofs.TaskEnds.{ends_keep}
use Rattle.omi_rule_words.proofs.laws.ends_keep_words.Goals as goal

pub returns : goal.returns
returns c = ends_keep
