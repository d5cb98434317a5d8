use Rattle.std.proofs.lemmas.Result.{err_from_is_err_and}
use Rattle.omi_top.proofs.Showing.{show_refused, show_reported}
use Rattle.omi_top.proofs.show.show.Goals as goal

pub returns-in_err-view-clause-answer : goal.returns-in_err-view-clause-answer
returns-in_err-view-clause-answer g c = λ old (content, told).
    let p = err_from_is_err_and c.from_residual.result c.from_residual.ensures.1 in
    rw (p.1, p.2)
    (show_refused c.args.core.now (g.F.Files.told c.args.files.now) content told old c.in_err-view.field-0.0 (c.in_err-view.ensures.answered content told))

pub returns-clause-answer : goal.returns-clause-answer
returns-clause-answer g c = λ old (content, told).
    show_reported c.args.core.now
    (g.F.Files.told c.args.files.now) content told old c.in_ok-view.view c.in_ok-text.text
    (c.in_ok-view.ensures.answered content told) c.in_ok-text.ensures
