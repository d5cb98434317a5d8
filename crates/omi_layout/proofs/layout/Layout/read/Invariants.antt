use Rattle.std.proofs.Common.{◌≡◌, ℕ, ◌<◌, length, Some}
use Rattle.std.specs.Prelude.{slice_index}
use Rattle.omi_layout.specs.declared.limits.TheConstants.{TABLE_WORDS}
use Rattle.omi_layout.specs.NoLayout.{table_address}
use Rattle.omi_layout.proofs.layout.Layout.read.Given as goal

abbrev pub invariant-loop-at : goal.invariant-loop-at
invariant-loop-at g l = record {
  words : length l.table ≡ TABLE_WORDS;
  read : (j : ℕ) → j < l.at
      → g.M.WordMemory.words l.memory (table_address l.address j) ≡ Some (slice_index l.table j);
}
