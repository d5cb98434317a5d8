use Rattle.omi_rule_words.proofs.GroupStores.{group_stores_keep}
use Rattle.omi_rule_words.proofs.MembersFinished.{all_members_finished}
use Rattle.omi_rule_words.proofs.laws.groups_keep_words.Goals as goal

pub returns : goal.returns
returns c = record { stored = group_stores_keep; finished = all_members_finished }
