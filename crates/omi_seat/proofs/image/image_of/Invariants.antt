use Rattle.std.proofs.Common.{◌≡◌, ◌<◌, ℕ, length, slice_index}
use Rattle.std.specs.Mem.Slots.{slots_items}
use Rattle.omi_seat.proofs.image.image_of.Given as goal

-- the first words are those of the table
abbrev pub invariant-loop-at : goal.invariant-loop-at
invariant-loop-at g = record {
  long : length g.image ≡ length g.fn.image;
  same : (k : ℕ) → k < g.at → slice_index g.image k ≡ slice_index (slots_items g.closed.words) k;
}
