use Rattle.std.proofs.Common.{◌≡◌, ap, sym, subst, ◌∙◌}
use Rattle.omi_pc.specs.declared.team_counter.TeamCounter.{TeamCounter}
use Rattle.omi_step_words.specs.declared.plan.NewTask.{NewTask}
use Rattle.omi_step_words.specs.Plan.{filling, task_plan}
use Rattle.omi_fork.specs.TeamSteps.{team_next}
use Rattle.omi_fork.proofs.team.team_next.Goals as goal

pub returns-in-FillTask : goal.returns-in-FillTask
returns-in-FillTask c =
    let w = c.args.l.now.table in
    subst (λ (d : TeamCounter). c.fill_task.result ≡ team_next c.args.p.now w c.args.a.now d)
    (sym c.in-FillTask.is)
    (c.fill_task.ensures ∙ ap (λ (t : NewTask). filling w c.in-FillTask.task.0 (task_plan w t c.in-FillTask.word)) c.new_member-new.ensures)
