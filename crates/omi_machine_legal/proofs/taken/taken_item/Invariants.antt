use Rattle.std.proofs.Common.{◌≡◌, drop}
use Rattle.omi_script.specs.declared.program.Program.{Program}
use Rattle.omi_model.specs.Lists.{take_item}
use Rattle.omi_machine_legal.proofs.taken.taken_item.Given as goal

-- the items so far were passed over
abbrev pub invariant-loop-k : goal.invariant-loop-k
invariant-loop-k l = (p : Program) → take_item p l.at l.e (drop l.k l.list) ≡ take_item p l.at l.e l.list
