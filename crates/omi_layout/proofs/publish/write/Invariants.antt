use Rattle.std.proofs.Common.{◌≡◌, ℕ, ◌+◌, ◌<◌, ◌≤◌, length}
use Rattle.std.specs.Prelude.{slice_index}
use Rattle.omi_layout.proofs.publish.write.Given as goal

abbrev pub invariant-loop-at : goal.invariant-loop-at
invariant-loop-at l = record {
  count : length l.image ≡ length l.fn.image;
  inside : (i : ℕ) → i < l.at → slice_index l.image (l.first + i) ≡ slice_index l.words i;
  below : (i : ℕ) → i < l.first → slice_index l.image i ≡ slice_index l.fn.image i;
  behind : (i : ℕ) → l.first + l.at ≤ i → slice_index l.image i ≡ slice_index l.fn.image i;
}
