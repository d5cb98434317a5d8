use Rattle.std.proofs.Common.{ap, subst}
use Rattle.omi_park.specs.Acknowledged.{IsParkedIn, acknowledgement}
use Rattle.omi_park.specs.Plays.{says}
use Rattle.omi_park.specs.Work.{IsSeatOf, parks}
use Rattle.omi_list.proofs.Places.{one_value}
use Rattle.omi_park.proofs.worker.park.Goals as goal

pub say-requires-clause-may : goal.say-requires-clause-may
say-requires-clause-may c =
    let x = c.requires.may.0 in
    let may = c.requires.may.1 in (
      x,
      record {
        with_it = may.with_it;
        loose = record {
          stays = may.stays;
          runs = λ epoch loaded parked.
              may.runs (subst (λ e. IsParkedIn e x.said) (one_value x.loaded epoch c.args.epoch loaded may.loaded) parked);
        };
        may = parks c.args.epoch may.loaded may.odd may.last
            (ap (λ n. acknowledgement c.args.epoch n) may.with_it.count);
      },
    )

pub returns-clause-parked : goal.returns-clause-parked
returns-clause-parked c x may =
    subst (λ n. IsSeatOf (says (acknowledgement c.args.epoch n) x) c.say.new.worker.seat.me)
    may.with_it.count (c.say.ensures.said x may.with_it.knows)
