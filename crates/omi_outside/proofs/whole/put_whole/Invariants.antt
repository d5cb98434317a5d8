use Rattle.std.proofs.Common.{length, min, ◌*◌, ℕ, ◌-◌, ◌≡◌, ◌≤◌, take}
use Rattle.omi_outside.specs.declared.limits.TheConstants.{PIECE}
use Rattle.omi_outside.specs.Outside.{put_on}
use Rattle.omi_outside.proofs.whole.put_whole.Given as goal

abbrev pub invariant-loop-at : goal.invariant-loop-at
invariant-loop-at g l = record {
  so_far : g.K.Sink.told l.out ≡ put_on (g.K.Sink.told l.fn.out) (take l.at l.bytes);
  faults : g.K.Sink.faults l.out ≡ g.K.Sink.faults l.fn.out;
  wants : g.K.Sink.wants l.out ≡ g.K.Sink.wants l.fn.out;
  within : l.at ≤ length l.bytes;
  pieces : (count : ℕ) × (l.at ≡ min (length l.bytes) (count * PIECE));
}

abbrev pub decreases-loop-at : goal.decreases-loop-at
decreases-loop-at g l = length l.bytes - l.at
