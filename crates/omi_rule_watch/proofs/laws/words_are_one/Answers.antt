use Rattle.omi_rule_watch.proofs.SameWords.{words_one}
use Rattle.omi_rule_watch.proofs.laws.words_are_one.Goals as goal

pub returns : goal.returns
returns c = words_one
