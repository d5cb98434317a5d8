use Rattle.omi_rule_words.proofs.ListMoves.{list_moves_keep}
use Rattle.omi_rule_words.proofs.laws.lists_keep_words.Goals as goal

pub returns : goal.returns
returns c = list_moves_keep
