use Rattle.std.proofs.Common.{◌+◌, ℕ}
use Rattle.std.proofs.lemmas.Result.{err_from_is_err_and}
use Rattle.omi_corefile.specs.Limits.{least_after}
use Rattle.omi_corefile.specs.Refusals.{id_at, contexts_at}
use Rattle.omi_corefile.proofs.Rows.{goes_on, row_fails, row_ends}
use Rattle.omi_corefile.proofs.decoding.contexts.Goals as goal

pub returns-in_err-id : goal.returns-in_err-id
returns-in_err-id c =
    let p = err_from_is_err_and c.from_residual.result c.from_residual.ensures.1 in
    rw (p.1, p.2)
    (row_fails c.in_err-id.field-0.0 (id_at c.args.len) (λ (least id : ℕ). id + 1) c.loop.contexts c.args.count c.loop.counter (least_after c.loop.before) c.loop.rest.now (contexts_at c.args.len c.args.count c.args.bytes.now) c.loop-test.true c.in_err-id.ensures c.loop.invariant)

pub loop-preserved : goal.loop-preserved
loop-preserved c =
    rw c.in_ok-push.ensures.added
    (goes_on (id_at c.args.len) (λ (least id : ℕ). id + 1) c.loop.contexts c.args.count c.loop.counter (least_after c.loop.before) c.loop.rest.now c.in_ok-id.id c.in_ok-id.after.now (contexts_at c.args.len c.args.count c.args.bytes.now) c.loop-test.true c.in_ok-id.ensures c.loop.invariant)

pub returns : goal.returns
returns c =
    row_ends (id_at c.args.len) (λ (least id : ℕ). id + 1) c.loop.contexts c.args.count c.loop.counter
    (least_after c.loop.before) c.loop.rest.now
    (contexts_at c.args.len c.args.count c.args.bytes.now) c.loop-test.false c.loop.invariant
