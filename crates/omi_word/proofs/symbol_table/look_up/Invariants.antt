use Rattle.std.proofs.Common.{◌≤◌, ◌+◌, ◌*◌, ◌-◌}
use Rattle.omi_word.proofs.Symbols.{Reads}
use Rattle.omi_word.proofs.symbol_table.look_up.Given as goal

abbrev pub invariant-loop-left : goal.invariant-loop-left
invariant-loop-left g l = record {
  within : l.left ≤ l.count;
  read : Reads (g.M.WordMemory.words l.memory) l.name (65544 + 40 * l.left) (l.count - l.left) l.found;
}

abbrev pub decreases-loop-left : goal.decreases-loop-left
decreases-loop-left g l = l.left
