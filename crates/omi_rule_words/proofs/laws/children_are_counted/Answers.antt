use Rattle.omi_rule_words.proofs.ChildrenFinished.{all_children_finished}
use Rattle.omi_rule_words.proofs.laws.children_are_counted.Goals as goal

pub returns : goal.returns
returns c = all_children_finished
