use Rattle.std.proofs.Common.{◌≡◌, ◌≤◌, ℕ, length}
use Rattle.std.specs.Prelude.{slice_get, unwrap_or}
use Rattle.omi_model.specs.Put.{unused}
use Rattle.omi_machine.proofs.slot_changes.keep_row.Given as goal

-- the slots mean what they meant
abbrev pub invariant-loop : goal.invariant-loop
invariant-loop g l = record {
  same : (k : ℕ) → unwrap_or (slice_get l.row k) unused ≡ unwrap_or (slice_get l.fn.row k) unused;
  more : length l.fn.row ≤ length l.row;
  count : length l.row ≡ l.counter;
}
