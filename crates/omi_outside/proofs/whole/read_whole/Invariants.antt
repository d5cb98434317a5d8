use Rattle.std.proofs.Common.{◌-◌, ◌≡◌, ◌≤◌, List, ℕ, take, Some, vec_len}
use Rattle.omi_outside.proofs.whole.read_whole.Given as goal

abbrev pub invariant-loop-at : goal.invariant-loop-at
invariant-loop-at g l = record {
  so_far : (bytes : List ℕ) → g.F.Files.told l.fn.files l.name ≡ Some (Some bytes)
      → l.whole.items ≡ take l.at bytes;
  same : g.F.Files.told l.files ≡ g.F.Files.told l.fn.files;
  later : g.F.Files.reads l.fn.files ≤ g.F.Files.reads l.files;
  writes : g.F.Files.writes l.files ≡ g.F.Files.writes l.fn.files;
  length : vec_len l.whole ≡ l.at;
  within : l.at ≤ l.wanted;
}

abbrev pub decreases-loop-at : goal.decreases-loop-at
decreases-loop-at g l = l.wanted - l.at
