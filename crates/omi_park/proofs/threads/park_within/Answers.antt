use Rattle.std.proofs.Common.{List, subst}
use Rattle.omi_core.specs.declared.thread_run.ThreadRun.{ThreadRun}
use Rattle.omi_seat.proofs.Joined.{same_runs}
use Rattle.omi_park.specs.Parked.{IsParked}
use Rattle.omi_park.proofs.threads.park_within.Goals as goal

pub returns-clause-parked : goal.returns-clause-parked
returns-clause-parked g c =
    let end = c.in_ok-end.ensures.parked in
    subst (λ (rs : List ThreadRun). IsParked c.args.p.now c.args.l.now c.args.budget c.in_ok-end.end.image rs c.in_ok-end.end.stops)
    (same_runs end.whole c.in_ok-end.end.runs end.are) end.parked
