use Rattle.std.proofs.Common.{arith}
use Rattle.std.proofs.lemmas.Result.{err_from_is_err_and}
use Rattle.omi_core.proofs.Judging.{before_all, ends, ends_with_all, goes_on, thread_there, too_few, wants}
use Rattle.omi_core.proofs.stepper.run_by.Goals as goal

pub loop-step-init : goal.loop-step-init
loop-step-init g c a stands =
    before_all a c.args.how.now c.args.stop _ c.requires.count stands c.first_draw-draw.result c.first_draw-draw.ensures

pub make_one-requires-clause-stands : goal.make_one-requires-clause-stands
make_one-requires-clause-stands g c =
    let a = c.requires.listed.0 in
    let u = c.loop-step.invariant a c.requires.listed.1 in (
      u.new,
      u.now,
      thread_there a c.args.how.now c.args.stop _ _ _ _ u c.requires.listed.2 c.loop-step-test.true c.thread_at-thread.result
          c.thread_count-threads.result (c.thread_count-threads.ensures a c.requires.listed.1) c.thread_at-thread.ensures,
    )

pub make_one-requires-clause-below : goal.make_one-requires-clause-below
make_one-requires-clause-below g c =
    too_few c.requires.listed.0 c.args.how.now c.args.stop _ _ _ _ (c.loop-step.invariant c.requires.listed.0 c.requires.listed.1)

pub returns-in_err-judged : goal.returns-in_err-judged
returns-in_err-judged g c a stands =
    let u = c.loop-step.invariant a stands in
    let p = err_from_is_err_and c.from_residual.result c.from_residual.ensures.1 in
    rw (p.1) (wants a c.args.how.now c.args.stop _ _ _ _ u _ _ p.0 (c.in_err-judged.ensures.wanting u.new u.now))

pub returns-in-Some : goal.returns-in-Some
returns-in-Some g c a stands =
    let u = c.loop-step.invariant a stands in
    ends a c.args.how.now c.args.stop _ _ _ _ u c.loop-step-test.true c.thread_at-thread.result c.thread_count-threads.result
    (c.thread_count-threads.ensures a stands) c.thread_at-thread.ensures _ c.in_ok-judged.judged
    (c.in_ok-judged.ensures.made u.new u.now) _ c.in-Some.end c.in-Some.is

pub loop-step-preserved : goal.loop-step-preserved
loop-step-preserved g c a stands =
    let u = c.loop-step.invariant a stands in
    goes_on a c.args.how.now c.args.stop _ _ _ _ u c.loop-step-test.true c.thread_at-thread.result c.thread_count-threads.result
    (c.thread_count-threads.ensures a stands) c.thread_at-thread.ensures _ c.in_ok-judged.judged
    (c.in_ok-judged.ensures.made u.new u.now) c.in_default.is c.next_draw-draw.result c.next_draw-draw.ensures

pub returns : goal.returns
returns g c a stands =
    let stopped = c.loop-step-test.false in
    let within = c.loop-step.auto.step-end in
    ends_with_all a c.args.how.now c.args.stop _ _ _ _ (c.loop-step.invariant a stands) _ (omega (arith, stopped, within))
