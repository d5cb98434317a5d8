use Rattle.std.proofs.Common.{ℕ, ap, ◌∙◌}
use Rattle.std.specs.FinMap.{remove}
use Rattle.omi_walk.proofs.Names.{restored}
use Rattle.teams.proofs.lines.push_task.Goals as goal

pub returns : goal.returns
returns g c =
    let made = c.in-Ok.ensures.handles in
    let task : ℕ × ℕ = (c.in-Ok.task.key, c.in-Ok.task.serial) in
    c.in_ok-rel_task_handle.ensures.removed
    ∙ ap (λ held. remove held task) (c.in_ok-push_current.ensures ∙ made.adds.added)
    ∙ restored c.args.s.now.handles.held task made.object made.adds.unheld
