use Rattle.std.proofs.Common.{◌≡◌, ◌+◌, ◌≤◌, ℕ, [], slice_get, vec_capacity, vec_len, Some}
use Rattle.omi_seat.specs.Workers.{AreJoined}
use Rattle.omi_seat.specs.declared.workers.Runner.{Runner}
use Rattle.omi_seat.proofs.workers.all_joined.Given as goal

-- the workers that are left, and what the others left
abbrev pub invariant-loop-ended : goal.invariant-loop-ended
invariant-loop-ended g l = record {
  seated : l.seat.table_id ≡ l.words.table_id;
  none : l.seat.me.1 ≡ [];
  room : vec_len l.all + vec_len l.runs ≤ vec_capacity l.runs;
  count : vec_len l.all + vec_len l.runs ≡ vec_len l.fn.all;
  left : (i : ℕ) (e : Runner _) → slice_get l.all.items i ≡ Some e → slice_get l.fn.all.items i ≡ Some e;
  joined : AreJoined (vec_len l.fn.all) l.fn.all.items l.fn.seat.me.0 l.seat.me.0 l.runs.items;
}

abbrev pub decreases-loop-ended : goal.decreases-loop-ended
decreases-loop-ended g l = vec_len l.all
