use Rattle.std.proofs.Common.{ℕ, ap, ◌∙◌}
use Rattle.std.specs.FinMap.{remove}
use Rattle.omi_walk.proofs.Names.{restored}
use Rattle.teams.proofs.lines.push_thread.Goals as goal

pub returns : goal.returns
returns g c =
    let made = c.in-Ok.ensures.handles in
    let thread : ℕ × ℕ = (c.in-Ok.thread.key, c.in-Ok.thread.serial) in
    c.in_ok-rel_thread_handle.ensures.removed
    ∙ ap (λ held. remove held thread)
    (c.in_ok-push_task.ensures ∙ ap (λ handles. handles.held) c.push_state.ensures ∙ made.adds.added)
    ∙ restored c.args.s.now.handles.held thread made.object made.adds.unheld
