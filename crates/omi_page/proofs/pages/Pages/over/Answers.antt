use Rattle.std.proofs.Common.{ap, ◌∙◌}
use Rattle.std.proofs.lemmas.Result.{err_from_is_err_and}
use Rattle.omi_page.proofs.OpenedFiles.{refused_for, tells_core}
use Rattle.omi_page.proofs.pages.Pages.over.Goals as goal

pub returns-in_err-opened-clause-accepts : goal.returns-in_err-opened-clause-accepts
returns-in_err-opened-clause-accepts g c = λ bytes core holds is.
    let p = err_from_is_err_and c.from_residual.result c.from_residual.ensures.1 in
    rw (p.1, p.2) (c.in_err-opened.ensures.accepts bytes core holds is)

pub returns-in_err-opened-clause-refuses : goal.returns-in_err-opened-clause-refuses
returns-in_err-opened-clause-refuses g c = λ bytes error holds fault.
    let p = err_from_is_err_and c.from_residual.result c.from_residual.ensures.1 in
    rw (p.1, p.2) (refused_for _ bytes c.in_err-opened.field-0.0 error (c.in_err-opened.ensures.fault bytes holds) fault)

pub returns-clause-contexts : goal.returns-clause-contexts
returns-clause-contexts g c =
    λ bytes core holds is. c.of.ensures.contexts ∙ c.in_ok-opened.ensures.contexts bytes core holds is

pub returns-clause-order : goal.returns-clause-order
returns-clause-order g c =
    λ bytes core holds is. c.of.ensures.order ∙ c.in_ok-opened.ensures.order bytes core holds is

pub returns-clause-told : goal.returns-clause-told
returns-clause-told g c = λ bytes core holds is.
    tells_core _ bytes core
    ((λ i. g.F.Files.told (c.of.ensures.same i) (c.of.ensures.same_name i)) ∙ ap (λ t. t c.args.name.now) c.in_ok-opened.ensures.same ∙ holds)
    (c.in_ok-opened.ensures.core bytes holds) is

pub returns-clause-refuses : goal.returns-clause-refuses
returns-clause-refuses g c = λ bytes error holds fault.
    let never = c.in_ok-opened.ensures.refuses bytes error holds fault in absurd cc
