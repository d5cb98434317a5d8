use Rattle.std.proofs.Common.{◌-◌, ◌≡◌, ◌≤◌, List, ℕ, length, take, drop}
use Rattle.omi_read.specs.Holding.{Holds}
use Rattle.omi_read.proofs.pieces.fill.Given as goal

abbrev pub invariant-loop-done : goal.invariant-loop-done
invariant-loop-done g l = record {
  so_far : (bytes : List ℕ) → Holds (g.F.Files.told l.fn.files l.name) bytes
      → take l.done l.to ≡ take l.done (drop l.at bytes);
  as_long : length l.to ≡ length l.fn.to;
  within : l.done ≤ length l.fn.to;
  same : g.F.Files.told l.files ≡ g.F.Files.told l.fn.files;
  later : g.F.Files.reads l.fn.files ≤ g.F.Files.reads l.files;
  writes : g.F.Files.writes l.files ≡ g.F.Files.writes l.fn.files;
}

abbrev pub decreases-loop-done : goal.decreases-loop-done
decreases-loop-done g l = length l.fn.to - l.done
