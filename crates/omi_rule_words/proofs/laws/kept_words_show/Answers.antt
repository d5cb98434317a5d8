use Rattle.omi_rule_words.proofs.Shown.{kept_words_show}
use Rattle.omi_rule_words.proofs.laws.kept_words_show.Goals as goal

pub returns : goal.returns
returns c = kept_words_show
