use Rattle.omi_rule_words.proofs.TaskStores.{task_stores_keep}
use Rattle.omi_rule_words.proofs.laws.task_stores_keep_words.Goals as goal

pub returns : goal.returns
returns c = task_stores_keep
