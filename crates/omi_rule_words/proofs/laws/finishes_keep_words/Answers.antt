use Rattle.omi_rule_words.proofs.Finishes.{finishes_keep}
use Rattle.omi_rule_words.proofs.laws.finishes_keep_words.Goals as goal

pub returns : goal.returns
returns c = finishes_keep
