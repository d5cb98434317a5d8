use Rattle.std.proofs.Common.{sym, ◌∙◌}
use Rattle.omi_park.proofs.threads.fn.all_worked.run.Goals as goal

pub work-runner-requires-clause-start : goal.work-runner-requires-clause-start
work-runner-requires-clause-start g c κs held =
    let begin = c.requires.3 in
    record { log = begin.ready.log_of; table = begin.table; knows = begin.knows }

pub work-runner-requires-clause-room : goal.work-runner-requires-clause-room
work-runner-requires-clause-room g c κs held = c.requires.3.ready.room

pub returns : goal.returns
returns g c =
    let worked = c.work-runner.ensures.worked in
    record {
      part = worked.0;
      own = sym worked.1.log.thread ∙ c.work-runner.ensures.thread;
      kept = c.work-runner.ensures.kept;
      work = worked.1;
      worked = worked.2;
    }
