use Rattle.omi_rule_words.proofs.RuntimeStores.{runtime_stores_keep}
use Rattle.omi_rule_words.proofs.laws.runtime_stores_keep_words.Goals as goal

pub returns : goal.returns
returns c = runtime_stores_keep
