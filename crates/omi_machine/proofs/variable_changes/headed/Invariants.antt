use Rattle.std.proofs.Common.{◌≡◌, take}
use Rattle.omi_model.specs.Settings.{with_head}
use Rattle.omi_machine.proofs.variable_changes.headed.Given as goal

-- the elements so far
abbrev pub invariant-loop-k : goal.invariant-loop-k
invariant-loop-k l = l.new ≡ take l.k (with_head l.x l.list)
