use Rattle.std.proofs.Common.{ℕ, ap, ◌∙◌}
use Rattle.std.specs.FinMap.{remove}
use Rattle.omi_walk.proofs.Names.{restored}
use Rattle.teams.proofs.lines.push_current.Goals as goal

pub returns : goal.returns
returns g c =
    let made = c.in_ok-region.ensures.handles in
    let region : ℕ × ℕ = (c.in_ok-region.region.key, c.in_ok-region.region.serial) in
    c.in_ok-push_regions.ensures
    ∙ ap (λ held. remove held region) made.adds.added
    ∙ restored c.task_id.new.s.handles.held region made.object made.adds.unheld
    ∙ ap (λ s. s.handles.held) c.task_id.ensures.same
    ∙ ap (λ handles. handles.held) c.get_icv_string_from_scope.ensures.same.handles
