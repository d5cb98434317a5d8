use Rattle.omi_rule_words.proofs.CountWords.{count_adds_keep, no_count_keeps}
use Rattle.omi_rule_words.proofs.PendingWords.{pending_adds_keep}
use Rattle.omi_rule_words.proofs.TaskCounts.{children_adds_keep, references_add_keep}
use Rattle.omi_rule_words.proofs.laws.adds_keep_words.Goals as goal

pub returns : goal.returns
returns c = record {
  pending = pending_adds_keep;
  children = children_adds_keep;
  references = references_add_keep;
  count = count_adds_keep;
  no_count = no_count_keeps;
}
