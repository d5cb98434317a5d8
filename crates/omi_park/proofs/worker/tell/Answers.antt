-- A worker says that it runs where that is due, which it is before its first step: so it has begun behind it.
use Rattle.std.proofs.Common.{ap, subst, arith}
use Rattle.omi_park.specs.Acknowledged.{running}
use Rattle.omi_park.specs.Plays.{says}
use Rattle.omi_park.specs.Work.{IsSeatOf, tells}
use Rattle.omi_park.proofs.Going.{loose_before, told_before, told_now}
use Rattle.omi_park.proofs.worker.tell.Goals as goal

pub say-requires-clause-may : goal.say-requires-clause-may
say-requires-clause-may c =
    let x = c.requires.before.0 in
    let pausing = c.requires.before.1 in (
      x,
      record {
        with_it = pausing.with_it;
        loose = loose_before x pausing.before;
        may = tells pausing.before.loaded (ap running pausing.with_it.count);
      },
    )

pub returns-then-steps-eq0-clause-told : goal.returns-then-steps-eq0-clause-told
returns-then-steps-eq0-clause-told c x pausing =
    told_now pausing c.say.ensures.same
    (subst (λ n. IsSeatOf (says (running n) x) c.say.new.worker.seat.me)
    pausing.with_it.count (c.say.ensures.said x pausing.with_it.knows))

pub returns-else-steps-eq0-clause-told : goal.returns-else-steps-eq0-clause-told
returns-else-steps-eq0-clause-told c x pausing =
    told_before x c.args.worker.now pausing
    (λ none. let due = c.if-steps-eq0.false in let count = pausing.with_it.count in omega (arith, due, count, none))
