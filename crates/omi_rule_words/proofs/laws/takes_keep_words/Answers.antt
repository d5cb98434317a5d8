use Rattle.omi_rule_words.proofs.RegionTakes.{region_takes_keep}
use Rattle.omi_rule_words.proofs.TaskTakes.{task_takes_keep}
use Rattle.omi_rule_words.proofs.laws.takes_keep_words.Goals as goal

pub returns : goal.returns
returns c = record { region = region_takes_keep; task = task_takes_keep }
