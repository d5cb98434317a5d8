use Rattle.std.proofs.Common.{◌≡◌, drop}
use Rattle.omi_model.specs.Lists.{take_item}
use Rattle.omi_machine.proofs.moved_list.moved_list.Given as goal

-- the items so far were passed over
abbrev pub invariant-loop-k : goal.invariant-loop-k
invariant-loop-k l = take_item l.p l.at l.e (drop l.k l.list) ≡ take_item l.p l.at l.e l.list
