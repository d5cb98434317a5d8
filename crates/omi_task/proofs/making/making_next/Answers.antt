use Rattle.std.proofs.Common.{ap, sym, ◌∙◌}
use Rattle.omi_pc.specs.declared.task_counter.TaskCounter.{TaskCounter}
use Rattle.omi_step_words.specs.declared.plan.NewTask.{NewTask}
use Rattle.omi_step_words.specs.Plan.{filling, task_plan}
use Rattle.omi_task.specs.MakingSteps.{making_next}
use Rattle.omi_task.proofs.making.making_next.Goals as goal

-- a word is filled by the plan of the new task
pub returns-in-Fill : goal.returns-in-Fill
returns-in-Fill c =
    let w = c.args.l.now.table in
    c.fill_task.ensures
    ∙ ap (λ (n : NewTask). filling w c.in-Fill.task.0 (task_plan w n c.in-Fill.word)) c.new_task.ensures
    ∙ sym (ap (λ (x : TaskCounter). making_next c.args.p.now w c.args.a.now x) c.in-Fill.is)
