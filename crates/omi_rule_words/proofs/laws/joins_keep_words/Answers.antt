use Rattle.omi_rule_words.proofs.Joins.{all_have_left, joins_keep}
use Rattle.omi_rule_words.proofs.laws.joins_keep_words.Goals as goal

pub returns : goal.returns
returns c = record { joined = joins_keep; all_left = all_have_left }
