use Rattle.std.proofs.Common.{ap, ◌∙◌}
use Rattle.std.proofs.lemmas.Result.{err_from_is_err_and}
use Rattle.omi_top.proofs.Asking.{opened_answer, stopped_answer, unopened_answer}
use Rattle.omi_top.proofs.question.ask_file.Goals as goal

pub returns-clause-answered : goal.returns-clause-answered
returns-clause-answered g c = λ content told.
    opened_answer (g.Q.Question.answers c.args.question)
    (g.F.Files.told c.args.files.now c.args.core.now)
    (g.F.Files.told c.of-pages.result.files.now c.of-pages.result.name.now) content c.in_ok-contexts.contexts c.ask_pages-answer.result.0 told
    ((λ i. g.F.Files.told (c.of-pages.ensures.same i) (c.of-pages.ensures.same_name i)) ∙ ap (λ t. t c.args.core.now) c.in-Ok.ensures.same)
    (λ none. let never = c.in-Ok.ensures.missing none in absurd cc)
    c.in-Ok.ensures.core
    (λ bytes core holds is. c.in_ok-contexts.ensures ∙ c.contexts.ensures.contexts ∙ c.in-Ok.ensures.contexts bytes core holds is)
    c.ask_pages-answer.ensures.answered

pub returns-in-Err-clause-answered : goal.returns-in-Err-clause-answered
returns-in-Err-clause-answered g c = λ content told.
    rw c.refusal_of_page.ensures
    (unopened_answer (g.Q.Question.answers c.args.question) _ (g.F.Files.told c.args.files.now c.args.core.now) content c.in-Err.error told
    c.in-Err.ensures.missing c.in-Err.ensures.fault)

pub returns-in_err-contexts-clause-answered : goal.returns-in_err-contexts-clause-answered
returns-in_err-contexts-clause-answered g c = λ content told.
    let p = err_from_is_err_and c.from_residual.result c.from_residual.ensures.1 in
    rw (p.1, p.2) (stopped_answer (g.Q.Question.answers c.args.question) content)
