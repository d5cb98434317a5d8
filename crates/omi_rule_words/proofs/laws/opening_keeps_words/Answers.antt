use Rattle.omi_rule_words.proofs.Opened.{opening_kept}
use Rattle.omi_rule_words.proofs.laws.opening_keeps_words.Goals as goal

pub returns : goal.returns
returns c = opening_kept
