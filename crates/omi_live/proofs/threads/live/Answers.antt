use Rattle.std.proofs.Common.{List, subst}
use Rattle.omi_core.specs.declared.thread_run.ThreadRun.{ThreadRun}
use Rattle.omi_seat.proofs.Joined.{same_runs}
use Rattle.omi_live.specs.Live.{IsLive}
use Rattle.omi_live.proofs.threads.live.Goals as goal

pub returns : goal.returns
returns g c =
    let end = c.in_ok-end.ensures in
    subst (λ (rs : List ThreadRun). IsLive c.args.p.now c.args.l.now c.args.budget c.args.on c.in_ok-end.end.image rs)
    (same_runs end.whole c.in_ok-end.end.runs end.are) end.live
