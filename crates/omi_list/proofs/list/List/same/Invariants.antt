use Rattle.std.proofs.Common.{◌≡◌, take}
use Rattle.omi_list.proofs.list.List.same.Given as goal

abbrev pub invariant-loop-e : goal.invariant-loop-e
invariant-loop-e g l = l.items.items ≡ take l.e-index l.e-items
