use Rattle.std.proofs.Common.{ap, sym, ◌∙◌, length}
use Rattle.omi_model.specs.ColumnLemmas.{length-view}
use Rattle.omi_model.proofs.team.Team.len.Goals as goal

pub returns-clause-value : goal.returns-clause-value
returns-clause-value c =
    sym (length-view c.self.inside.len c.self.inside.tasks c.self.inside.threads c.self.invariant)
    ∙ ap length c.self.view_is
