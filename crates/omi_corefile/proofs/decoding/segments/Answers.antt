use Rattle.std.proofs.Common.{arith}
use Rattle.std.proofs.lemmas.Result.{err_from_is_err_and}
use Rattle.omi_corefile.specs.Refusals.{segment_at, left_after, segments_at}
use Rattle.omi_corefile.proofs.Rows.{goes_on, row_fails, row_ends}
use Rattle.omi_corefile.proofs.decoding.segments.Goals as goal

pub returns-in_err-segment : goal.returns-in_err-segment
returns-in_err-segment c =
    let p = err_from_is_err_and c.from_residual.result c.from_residual.ensures.1 in
    rw (p.1, p.2)
    (row_fails c.in_err-segment.field-0.0 (segment_at c.args.len c.args.order) left_after c.loop.segments c.args.count c.loop.counter (c.loop.least, c.loop.room) c.loop.rest.now (segments_at c.args.len c.args.order c.args.count c.args.bytes.now) c.loop-test.true c.in_err-segment.ensures.read c.loop.invariant.read)

pub loop-preserved : goal.loop-preserved
loop-preserved c =
    record {
      read = rw (c.in_ok-push.ensures.added, c.len-words.ensures) (goes_on (segment_at c.args.len c.args.order) left_after c.loop.segments c.args.count c.loop.counter (c.loop.least, c.loop.room) c.loop.rest.now c.in_ok-segment.segment c.in_ok-segment.after.now (segments_at c.args.len c.args.order c.args.count c.args.bytes.now) c.loop-test.true c.in_ok-segment.ensures.read c.loop.invariant.read);
      room_is_left = omega (arith, c.loop.invariant.room_is_left);
    }

pub returns : goal.returns
returns c =
    row_ends (segment_at c.args.len c.args.order) left_after c.loop.segments c.args.count c.loop.counter
    (c.loop.least, c.loop.room) c.loop.rest.now
    (segments_at c.args.len c.args.order c.args.count c.args.bytes.now) c.loop-test.false c.loop.invariant.read
