use Rattle.std.proofs.Common.{◌∙◌, ap}
use Rattle.omi_top.proofs.Following.{moved_fates, unmoved_fates}
use Rattle.omi_top.proofs.follow.FatesWantedQuestion.ask.Goals as goal

pub returns-in-Err-clause-answered : goal.returns-in-Err-clause-answered
returns-in-Err-clause-answered g c = λ later is same.
    rw c.refusal_of_code.ensures
    (unmoved_fates c.args.self.kept later (g.C.Callbacks.told c.new.result.calls) c.in-Err.rc
    (ap g.C.Callbacks.told c.new.ensures.calls ∙ is) c.in-Err.ensures.words)

pub returns-clause-answered : goal.returns-clause-answered
returns-clause-answered g c = λ later is same.
    moved_fates c.args.self.kept later (g.C.Callbacks.told c.new.result.calls) (g.C.Callbacks.told c.in-Ok.session.table.calls)
    c.in-Ok.session.layout c.in-Ok.session.handles c.fates-text.result
    (ap g.C.Callbacks.told c.new.ensures.calls ∙ is) c.in-Ok.ensures.same.same c.in-Ok.ensures.layout c.in-Ok.ensures.handles
    c.in-Ok.ensures.words c.fates-text.ensures.fates
