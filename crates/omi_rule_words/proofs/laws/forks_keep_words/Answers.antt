use Rattle.omi_rule_words.proofs.Forks.{forks_keep}
use Rattle.omi_rule_words.proofs.laws.forks_keep_words.Goals as goal

pub returns : goal.returns
returns c = forks_keep
