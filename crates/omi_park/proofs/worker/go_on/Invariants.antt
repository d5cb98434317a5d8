use Rattle.omi_park.specs.declared.known.WorkerPart.{WorkerPart}
use Rattle.omi_park.specs.Work.{IsSameBut, IsToGoOn, IsWaiting}
use Rattle.omi_park.proofs.worker.go_on.Given as goal

-- the worker waits, and has parked in the epoch that it loaded last
abbrev pub invariant-loop : goal.invariant-loop
invariant-loop g l = record {
  same : IsSameBut l.fn.worker l.worker;
  waits : (x : WorkerPart) → IsToGoOn x l.fn.worker → IsWaiting x l.parked l.worker;
}
