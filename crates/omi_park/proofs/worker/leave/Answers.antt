use Rattle.std.proofs.Common.{ap, subst}
use Rattle.omi_park.specs.Acknowledged.{farewell}
use Rattle.omi_park.specs.Plays.{says}
use Rattle.omi_park.specs.Work.{IsSeatOf, leaves}
use Rattle.omi_park.proofs.Going.{loose_before}
use Rattle.omi_park.proofs.worker.leave.Goals as goal

pub say-requires-clause-may : goal.say-requires-clause-may
say-requires-clause-may c =
    let x = c.requires.before.0 in
    let before = c.requires.before.1 in (
      x,
      record {
        with_it = before.with_it;
        loose = loose_before x before.before;
        may = leaves before.before.loaded (ap farewell before.with_it.count);
      },
    )

pub returns-clause-left : goal.returns-clause-left
returns-clause-left c x before =
    subst (λ n. IsSeatOf (says (farewell n) x) c.say.new.worker.seat.me)
    before.with_it.count (c.say.ensures.said x before.with_it.knows)
