use Rattle.std.proofs.Common.{◌∙◌}
use Rattle.omi_layout.specs.Valid.{IsValid}
use Rattle.omi_walk.specs.Gives.{Looks}
use Rattle.omi_top.proofs.Opening.{unopened_viewed, walked, walk_viewed}
use Rattle.omi_top.proofs.show.ReportWantedQuestion.ask.Goals as goal

pub returns-in-Err-clause-answered : goal.returns-in-Err-clause-answered
returns-in-Err-clause-answered g c =
    λ core is same. unopened_viewed core c.in-Err.refusal (c.in-Err.ensures.refused core is)

pub returns-clause-answered : goal.returns-clause-answered
unfolding Looks
returns-clause-answered g c = λ core is same.
    let valid : IsValid c.in-Ok.session.layout = c.has_valid_layout.ensures in
    rw c.handed_on-view.ensures
    (walk_viewed core c.walk.result
    (walked core (g.C.Callbacks.told c.in-Ok.session.table.calls) c.in-Ok.session.layout c.args.contexts.now c.walk.result (c.in-Ok.ensures.told ∙ is) same valid (c.in-Ok.ensures.layout core is) c.walk.ensures.look))
