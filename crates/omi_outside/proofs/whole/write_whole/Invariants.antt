use Rattle.std.proofs.Common.{length, min, ◌*◌, ℕ, ◌-◌, ◌≡◌, ◌≢◌, ◌≤◌, List, take}
use Rattle.omi_outside.specs.declared.limits.TheConstants.{PIECE}
use Rattle.omi_outside.specs.Outside.{holding}
use Rattle.omi_outside.proofs.whole.write_whole.Given as goal

abbrev pub invariant-loop-at : goal.invariant-loop-at
invariant-loop-at g l = record {
  so_far : g.F.Files.told l.files l.name ≡ holding (g.F.Files.told l.fn.files l.name) (take l.at l.bytes);
  others : (other : List ℕ) → other ≢ l.name → g.F.Files.told l.files other ≡ g.F.Files.told l.fn.files other;
  later : g.F.Files.writes l.fn.files ≤ g.F.Files.writes l.files;
  reads : g.F.Files.reads l.files ≡ g.F.Files.reads l.fn.files;
  within : l.at ≤ length l.bytes;
  pieces : (count : ℕ) × (l.at ≡ min (length l.bytes) (count * PIECE));
}

abbrev pub decreases-loop-at : goal.decreases-loop-at
decreases-loop-at g l = length l.bytes - l.at
