use Rattle.omi_text.proofs.Whole.{environment_added, on_ok}
use Rattle.omi_text.proofs.tasks.push_environment.Goals as goal

pub returns : goal.returns
returns c =
    on_ok c.push_task_variables.result
    (environment_added c.args.row.now _ c.in_ok-push_dynamic.ensures
    c.in_ok-push_list_variables.ensures)
    c.push_task_variables.ensures
