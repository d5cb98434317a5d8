use Rattle.std.proofs.Common.{◌-◌, sym, ap, ◌∙◌, arith}
use Rattle.std.specs.Option.{is_some}
use Rattle.std.proofs.lemmas.Bool.{le-ltb}
use Rattle.omi_page.proofs.InOrder.{none_below, none_from, one_stands}
use Rattle.omi_page.proofs.Placing.{stands_by_test}
use Rattle.omi_page.proofs.loading.stands.Goals as goal

pub returns-then-count-gt0-clause-stands : goal.returns-then-count-gt0-clause-stands
returns-then-count-gt0-clause-stands c =
    let spans = c.args.spans.now in
    c.stands_in.ensures
    ∙ sym (stands_by_test c.get.result.now c.args.addr)
    ∙ sym (ap is_some
    (one_stands spans (c.started-count.result - 1) c.get.result.now c.args.addr c.requires c.get.ensures
    (c.started-count.ensures.before (c.started-count.result - 1) c.get.result.now (omega (arith, c.if-count-gt0.true)) c.get.ensures)
    (λ k s lt is. c.started-count.ensures.behind k s (omega (arith, lt)) is)))

pub returns-else-count-gt0-clause-stands : goal.returns-else-count-gt0-clause-stands
returns-else-count-gt0-clause-stands c =
    le-ltb 0 c.started-count.result (omega (arith, c.if-count-gt0.false))
    ∙ sym (ap is_some
    (none_from c.args.spans.now 0 c.args.addr
    (λ k s le is. none_below s c.args.addr (c.started-count.ensures.behind k s (omega (arith, c.if-count-gt0.false)) is))))
