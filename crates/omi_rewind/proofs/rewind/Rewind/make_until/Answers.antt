use Rattle.std.proofs.Common.{arith}
use Rattle.omi_rewind.proofs.Searched.{goes_none, goes_one}
use Rattle.omi_rewind.proofs.Stays.{later_self, later_two}
use Rattle.omi_rewind.proofs.rewind.Rewind.make_until.Goals as goal

pub more-init : goal.more-init
more-init c = goes_none c.args.self.now c.args.step (later_self c.args.self.now)

pub more-preserved : goal.more-preserved
more-preserved c =
    let less = c.more-test.true in
    let count = c.made.ensures.count in
    goes_one c.args.self.now c.more.self c.advance.new.self c.args.step c.more.invariant (omega (arith, less, count))
    c.in_ok-advance.ensures.later c.in_ok-advance.ensures.one c.in_ok-advance.ensures.at

pub returns-in_err-advance-clause-later : goal.returns-in_err-advance-clause-later
returns-in_err-advance-clause-later c =
    later_two c.args.self.now c.more.self c.advance.new.self c.more.invariant.later c.in_err-advance.ensures.later
