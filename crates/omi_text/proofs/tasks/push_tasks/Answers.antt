use Rattle.std.specs.Prelude.{string_bytes}
use Rattle.omi_text.specs.Tasks.{task_lines}
use Rattle.omi_text.proofs.Rows.{flat_map_further}
use Rattle.omi_text.proofs.tasks.push_tasks.Goals as goal

pub loop-at-preserved : goal.loop-at-preserved
loop-at-preserved c =
    flat_map_further task_lines
    (string_bytes c.loop-at.text) c.args.rows.now c.loop-at.at c.get.result.now _ _
    c.get.ensures c.in_ok-push_task_lines.ensures c.loop-at.invariant
