use Rattle.omi_rule_words.proofs.CountWords.{count_subtracts_keep, uncounted_keeps}
use Rattle.omi_rule_words.proofs.PendingWords.{pending_subtracts_keep}
use Rattle.omi_rule_words.proofs.ReferenceCounts.{own_subtracts_keep, returned_subtracts_keep}
use Rattle.omi_rule_words.proofs.TaskCounts.{children_subtracts_keep}
use Rattle.omi_rule_words.proofs.laws.subtracts_keep_words.Goals as goal

pub returns : goal.returns
returns c = record {
  children = children_subtracts_keep;
  count = count_subtracts_keep;
  uncounted = uncounted_keeps;
  own = own_subtracts_keep;
  returned = returned_subtracts_keep;
  pending = pending_subtracts_keep;
}
