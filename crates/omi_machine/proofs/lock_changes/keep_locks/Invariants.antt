use Rattle.std.proofs.Common.{◌≡◌, ℕ, length, None}
use Rattle.std.specs.Prelude.{slice_get, unwrap_or}
use Rattle.omi_machine.proofs.lock_changes.keep_locks.Given as goal

-- the locks mean what they meant
abbrev pub invariant-loop : goal.invariant-loop
invariant-loop l = record {
  same : (k : ℕ) → unwrap_or (slice_get l.locks k) None ≡ unwrap_or (slice_get l.fn.locks k) None;
  count : length l.locks ≡ l.counter;
}
