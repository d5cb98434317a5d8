use Rattle.std.proofs.Common.{◌-◌, ◌≡◌, ◌≢◌, ◌≤◌, ℕ, List, length}
use Rattle.omi_commands.proofs.CorePieces.{IsUnderWay}
use Rattle.omi_commands.proofs.cores.write_core.Given as goal

abbrev pub invariant-loop-at : goal.invariant-loop-at
invariant-loop-at g l = record {
  way : IsUnderWay l.contexts l.image (g.F.Files.told l.fn.files l.name) (g.F.Files.told l.files l.name) l.piece.items l.at;
  others : (other : List ℕ) → other ≢ l.name → g.F.Files.told l.files other ≡ g.F.Files.told l.fn.files other;
  later : g.F.Files.writes l.fn.files ≤ g.F.Files.writes l.files;
  reads : g.F.Files.reads l.files ≡ g.F.Files.reads l.fn.files;
}

abbrev pub decreases-loop-at : goal.decreases-loop-at
decreases-loop-at g l = length l.image - l.at
