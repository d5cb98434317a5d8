use Rattle.omi_live.proofs.Going.{IsWorking}
use Rattle.omi_live.proofs.worker.work.Given as goal

-- so many steps were made, and the thread goes on
abbrev pub invariant-loop-step : goal.invariant-loop-step
invariant-loop-step g l =
    IsWorking l.fn.p l.fn.l l.fn.words.table_id l.fn.on l.fn.budget l.step l.fn.worker.log l.worker
