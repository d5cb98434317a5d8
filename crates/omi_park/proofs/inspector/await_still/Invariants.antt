use Rattle.std.proofs.Common.{◌≡◌}
use Rattle.omi_park.proofs.inspector.await_still.Given as goal

-- a word that does not say so changes nothing of what the seat knows
abbrev pub invariant-loop : goal.invariant-loop
invariant-loop g l = record {
  seated : l.seat.table_id ≡ l.fn.seat.table_id;
  same : l.seat.me ≡ l.fn.seat.me;
}
