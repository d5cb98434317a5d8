use Rattle.std.proofs.Common.{sym, ap, subst, ◌∙◌}
use Rattle.std.proofs.lemmas.Result.{err_from_is_err_and}
use Rattle.omi_page.specs.Paging.{AreParts}
use Rattle.omi_page.proofs.OpenedFiles.{core_opens, file_unique, no_fault, refused_for, same_parts}
use Rattle.omi_page.proofs.opened.open.Goals as goal

pub returns-in_err-contents-clause-accepts : goal.returns-in_err-contents-clause-accepts
returns-in_err-contents-clause-accepts g c = λ bytes core holds is.
    let p = err_from_is_err_and c.from_residual.result c.from_residual.ensures.1 in
    rw (p.1, p.2)
    (core_opens c.in_err-contents.field-0.0 bytes core _ (c.in_err-contents.ensures.fault bytes holds) is)

pub returns-in_err-contents-clause-fault : goal.returns-in_err-contents-clause-fault
returns-in_err-contents-clause-fault g c = λ bytes holds.
    let p = err_from_is_err_and c.from_residual.result c.from_residual.ensures.1 in
    rw (p.1, p.2) (c.in_err-contents.ensures.fault bytes holds)

pub returns-in_err-contents-clause-refuses : goal.returns-in_err-contents-clause-refuses
returns-in_err-contents-clause-refuses g c = λ bytes error holds fault.
    let p = err_from_is_err_and c.from_residual.result c.from_residual.ensures.1 in
    rw (p.1, p.2) (refused_for _ bytes c.in_err-contents.field-0.0 error (c.in_err-contents.ensures.fault bytes holds) fault)

pub returns-clause-contexts : goal.returns-clause-contexts
returns-clause-contexts g c = λ bytes core holds is.
    let read = c.in_ok-contents.ensures.contents bytes holds in
    sym read.are.contexts_are ∙ ap (λ d. d.contexts) (file_unique bytes read.core.core core read.core.is is)

pub returns-clause-order : goal.returns-clause-order
returns-clause-order g c = λ bytes core holds is.
    let read = c.in_ok-contents.ensures.contents bytes holds in
    sym read.are.order_is ∙ ap (λ d. d.order) (file_unique bytes read.core.core core read.core.is is)

pub returns-clause-refuses : goal.returns-clause-refuses
returns-clause-refuses g c = λ bytes error holds fault.
    let read = c.in_ok-contents.ensures.contents bytes holds in
    absurd (no_fault bytes read.core.core error read.core.is fault)

pub returns-clause-core : goal.returns-clause-core
returns-clause-core g c = λ bytes holds. (c.in_ok-contents.ensures.contents bytes holds).core

pub returns-clause-opened : goal.returns-clause-opened
returns-clause-opened g c =
    let before = sym (ap (λ t. t c.args.name.now) c.in_ok-contents.ensures.same) in
    let contents = c.in_ok-contents.contents in
    record {
      length = λ content told. c.in_ok-contents.ensures.len content (before ∙ told);
      ends = c.in_ok-contents.ensures.ends;
      parts = λ bytes parts holds read.
          let opened = c.in_ok-contents.ensures.contents bytes (before ∙ holds) in
          subst (λ p. AreParts p contents.order contents.contexts bytes contents.spans) (same_parts bytes _ parts opened.core.read read) opened.are;
    }

pub returns-clause-cause : goal.returns-clause-cause
returns-clause-cause g c = record { later = c.in_ok-contents.ensures.cause.later; failed = λ failed. absurd cc }
