use Rattle.omi_rule_words.proofs.Departs.{leaves_keep}
use Rattle.omi_rule_words.proofs.laws.leaves_keep_words.Goals as goal

pub returns : goal.returns
returns c = leaves_keep
