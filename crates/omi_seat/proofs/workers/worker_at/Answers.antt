use Rattle.std.proofs.Common.{sym, subst}
use Rattle.omi_seat.specs.Known.{untouched}
use Rattle.omi_seat.specs.StepLog.{HasRoom, IsLogOf}
use Rattle.omi_seat.proofs.workers.worker_at.Goals as goal

pub returns-clause-ready : goal.returns-clause-ready
returns-clause-ready g c l =
    let own = sym c.in_ok-log.ensures.thread in
    record {
      log_of = subst (λ n. IsLogOf c.args.p.now l (untouched c.args.p.now l n) c.in_ok-log.log) own (c.in_ok-log.ensures.begins l);
      room = subst (λ n. HasRoom c.args.budget (untouched c.args.p.now l n) c.in_ok-log.log) own (c.in_ok-log.ensures.room l);
      kept = c.in_ok-log.ensures.kept;
    }
