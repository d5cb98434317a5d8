use Rattle.omi_text.proofs.Whole.{on_ok, task_added}
use Rattle.omi_text.proofs.tasks.push_task_line.Goals as goal

pub returns : goal.returns
returns c =
    on_ok c.push_frames.result
    (task_added c.args.row.now _ c.in_ok-push_name.ensures c.in_ok-push_task_region.ensures
    c.in_ok-push_ancestors.ensures)
    c.push_frames.ensures
