use Rattle.std.proofs.Common.{◌≡◌, ℕ, ◌<◌, ◌≤◌}
use Rattle.omi_layout.specs.Memory.{memory_of}
use Rattle.omi_layout.specs.OpeningWords.{OpensThread}
use Rattle.omi_layout.specs.Plan.{KeepsAll}
use Rattle.omi_layout.proofs.layout.Layout.open_threads.Given as goal

-- the threads so far are opened, and the records of the others are as they were
abbrev pub invariant-loop-i : goal.invariant-loop-i
invariant-loop-i l = record {
  opens : (j : ℕ) → j < l.i → OpensThread l.self.table j (memory_of l.self.table l.image j 2 0);
  rest : (j : ℕ) → l.i ≤ j → memory_of l.self.table l.image j 2 0 ≡ memory_of l.self.table l.fn.image j 2 0;
  keeps : KeepsAll l.self.table l.fn.image l.image 2;
}
