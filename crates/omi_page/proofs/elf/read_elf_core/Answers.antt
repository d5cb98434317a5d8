use Rattle.std.proofs.Common.{length, subst, ap, ◌∙◌, arith}
use Rattle.std.proofs.lemmas.Result.{err_from_is_err_and}
use Rattle.std.proofs.lemmas.List.Elements.{All-same, All-weaker}
use Rattle.omi_elf.specs.Found.{FitsIn}
use Rattle.omi_elf.specs.Segments.{first_overlap}
use Rattle.omi_page.specs.Bounds.{AreBoundsOf, IsSpan}
use Rattle.omi_page.proofs.OpenedFiles.{elf_contents, elf_fault}
use Rattle.omi_page.proofs.elf.read_elf_core.Goals as goal

pub returns-in_err-order-clause-fault : goal.returns-in_err-order-clause-fault
returns-in_err-order-clause-fault g c = λ bytes told begins.
    let p = err_from_is_err_and c.from_residual.result c.from_residual.ensures.1 in
    rw (p.1, p.2) (elf_fault c.in_err-order.field-0.0 bytes begins (c.in_err-order.ensures.rows bytes told))

pub spans_of-requires-clause-fit : goal.spans_of-requires-clause-fit
spans_of-requires-clause-fit g c =
    All-same (IsSpan c.args.len) c.deref.result.now c.in_ok-order.field-0.segments.items c.deref.ensures.value
    (All-weaker (FitsIn c.args.len) (IsSpan c.args.len) (λ h fit. record {
      within = omega (arith, fit.within);
      aligned = fit.aligned;
      low = omega (arith, fit.low);
      few = omega (arith, fit.few);
    }) c.in_ok-order.field-0.segments.items c.in_ok-order.ensures.fit)

pub spans_of-requires-clause-apart : goal.spans_of-requires-clause-apart
spans_of-requires-clause-apart g c = ap first_overlap c.deref.ensures.value ∙ c.in_ok-order.ensures.apart

pub returns-clause-contents : goal.returns-clause-contents
returns-clause-contents g c = λ bytes told begins.
    elf_contents bytes _ (c.requires.bytes bytes told) begins (c.in_ok-order.ensures.rows bytes told)
    (c.in_ok-order.ensures.order bytes told) (c.in_ok-order.ensures.contexts bytes told)
    (subst (λ hs. AreBoundsOf hs c.in_ok-spans.spans) (c.deref.ensures.value ∙ c.in_ok-order.ensures.segments bytes told) c.in_ok-spans.ensures.bounds)

pub invariant_of-result-clause-few_spans : goal.invariant_of-result-clause-few_spans
invariant_of-result-clause-few_spans g c =
    omega (arith, c.in_ok-spans.ensures.few, ap length c.deref.ensures.value, c.in_ok-order.ensures.bounded)
