use Rattle.omi_rule_words.proofs.Moves.{moves_keep}
use Rattle.omi_rule_words.proofs.laws.moves_keep_words.Goals as goal

pub returns : goal.returns
returns c = moves_keep
