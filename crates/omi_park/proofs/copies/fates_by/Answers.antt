use Rattle.std.proofs.Common.{◌≡◌, ◌≤◌, ◌∙◌, Some, Ok, Err, sym, ap, subst, arith}
use Rattle.omi_calls.specs.CoreCalls.{told_of_core}
use Rattle.omi_calls.specs.Told.{Told}
use Rattle.omi_commands.proofs.Imaged.{core_words}
use Rattle.omi_frame.specs.Refusal.{IsReadFault}
use Rattle.omi_park.proofs.Asking.{fates_free, goes_on, lines_on, names, one_order}
use Rattle.omi_park.proofs.copies.fates_by.Goals as goal

pub new-table-requires-clause-order : goal.new-table-requires-clause-order
new-table-requires-clause-order g c =
    let told : (told_of_core c.over.result).order ≡ Some c.in_ok-core.core.order =
    ap (λ (t : Told). t.order) c.over.ensures in
    record {
      known = omega arith;
      agrees = λ other also. one_order other c.in_ok-core.core.order (sym also ∙ told) ∙ c.in_ok-core.ensures.order;
    }

pub unreachable-requires : goal.unreachable-requires
unreachable-requires g c =
    let (w, names, copy, holds) = c.requires.copy in
    goes_on w c.args.image.now copy c.in_ok-core.core (told_of_core c.new-table.result.calls) c.args.before.parted.layout c.in_default.field-0.0
    (core_words c.args.image.now c.args.contexts.now c.in_ok-core.core copy.shown.some c.in_ok-core.ensures.order c.in_ok-core.ensures.contexts c.in_ok-core.ensures.segments)
    (ap told_of_core c.new-table.ensures.calls ∙ c.over.ensures) holds.layout c.in_default.ensures.words
    (λ failed. let rose : 1 ≤ 0 = c.in_default.ensures.cause.failed failed in omega (arith, rose))

pub returns-in-Ok-fates : goal.returns-in-Ok-fates
returns-in-Ok-fates g c = λ w names copy holds.
    lines_on w c.args.image.now names c.args.before holds c.in_ok-core.core
    (core_words c.args.image.now c.args.contexts.now c.in_ok-core.core copy.shown.some c.in_ok-core.ensures.order c.in_ok-core.ensures.contexts c.in_ok-core.ensures.segments)
    (told_of_core c.new-table.result.calls) (told_of_core c.in-Ok.session.table.calls)
    (ap told_of_core c.new-table.ensures.calls ∙ c.over.ensures) c.in-Ok.ensures.same.same c.in-Ok.session.layout c.in-Ok.session.handles
    c.in-Ok.ensures.layout c.in-Ok.ensures.handles (Ok c.in-Ok-fates.text) c.in-Ok-fates.ensures.fates

pub unreachable-requires-in_default-refusal : goal.unreachable-requires-in_default-refusal
unreachable-requires-in_default-refusal g c =
    let (w, names, copy, holds) = c.requires.copy in
    fates_free w c.args.image.now copy names holds.slots c.in-Err.refusal
    (lines_on w c.args.image.now names c.args.before holds c.in_ok-core.core
    (core_words c.args.image.now c.args.contexts.now c.in_ok-core.core copy.shown.some c.in_ok-core.ensures.order c.in_ok-core.ensures.contexts c.in_ok-core.ensures.segments)
    (told_of_core c.new-table.result.calls) (told_of_core c.in-Ok.session.table.calls)
    (ap told_of_core c.new-table.ensures.calls ∙ c.over.ensures) c.in-Ok.ensures.same.same c.in-Ok.session.layout c.in-Ok.session.handles
    c.in-Ok.ensures.layout c.in-Ok.ensures.handles (Err c.in-Err.refusal) c.in-Err.ensures.fates)
    (λ e. let rose : 1 ≤ 0 = c.in-Err.ensures.cause.failed (subst IsReadFault (sym e) tt) in omega (arith, rose))
    c.in_default-refusal.not-OutOfMemory
