use Rattle.std.proofs.Common.{◌≡◌, ◌≤◌, vec_capacity, vec_len}
use Rattle.omi_park.specs.declared.known.InspectorPart.{InspectorPart}
use Rattle.omi_park.specs.Inspecting.{HasSeenAll, IsSeeing}
use Rattle.omi_park.proofs.inspector.await_all.Given as goal

-- so many were seen
abbrev pub invariant-loop-thread : goal.invariant-loop-thread
invariant-loop-thread g l = record {
  seated : l.seat.table_id ≡ l.fn.seat.table_id;
  count : vec_len l.steps ≡ l.thread;
  room : l.p.threads ≤ vec_capacity l.steps;
  seen : (i : InspectorPart) → IsSeeing l.epoch 0 i l.fn.seat.me
      → HasSeenAll i l.thread l.steps.items l.seat.me;
}
