use Rattle.omi_rule_words.proofs.TasksGone.{all_tasks_gone, given_have_no_child}
use Rattle.omi_rule_words.proofs.laws.tasks_are_gone.Goals as goal

pub returns : goal.returns
returns c = record { region = all_tasks_gone; children = given_have_no_child }
