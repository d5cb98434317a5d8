use Rattle.omi_rule_words.proofs.TaskBegins.{begins_keep}
use Rattle.omi_rule_words.proofs.laws.begins_keep_words.Goals as goal

pub returns : goal.returns
returns c = begins_keep
