use Rattle.omi_rule_words.proofs.Fills.{region_fills_keep, task_fills_keep}
use Rattle.omi_rule_words.proofs.laws.private_stores_keep_words.Goals as goal

pub returns : goal.returns
returns c = record { region = region_fills_keep; task = task_fills_keep }
