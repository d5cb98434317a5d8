use Rattle.std.proofs.Common.{inl, inr, refl, ap, ◌∙◌}
use Rattle.omi_audit.specs.Verdicts.{verdict}
use Rattle.omi_c.specs.Range.{memory_of, told_of_range}
use Rattle.omi_c.proofs.Audited.{verdict_refused, verdict_given}
use Rattle.omi_c.proofs.RangeTells.{range_tells}
use Rattle.omi_c.proofs.auditing.verdict_on.Goals as goal

pub returns-in_err-layout : goal.returns-in_err-layout
returns-in_err-layout g c =
    inl (verdict_refused c.args.table.now (memory_of c.args.range.start c.args.range.words.now)
    c.from_residual.result _ c.from_residual.ensures.1 c.in_err-layout.ensures.refused)

pub returns-in-Ok : goal.returns-in-Ok
returns-in-Ok g c =
    inl (verdict_given c.args.table.now (memory_of c.args.range.start c.args.range.words.now) c.in-Ok.verdict c.in_ok-layout.ensures.code
    (c.in-Ok.ensures.verdict
    (memory_of c.args.range.start c.args.range.words.now)
    (range_tells c.args.range.start c.args.range.words.now (told_of_range c.in_layout-session.result.table.calls)
    (ap (λ t. told_of_range t.calls) c.in_layout-session.ensures.table ∙ ap told_of_range c.new-calls.ensures.calls ∙ c.over.ensures))
    ∙ ap
    (λ w. verdict w (memory_of c.args.range.start c.args.range.words.now))
    (c.in_layout-session.ensures.layout ∙ c.in_ok-layout.ensures.layout)))

pub returns-in-Err-OutOfMemory : goal.returns-in-Err-OutOfMemory
returns-in-Err-OutOfMemory g c = inr (c.in_ok-layout.ensures.code, refl)
