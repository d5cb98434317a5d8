use Rattle.std.proofs.Common.{◌≡◌, take, map}
use Rattle.omi_script.specs.Reach.{group_depth_of, greatest}
use Rattle.omi_script.proofs.reach.greatest_group_depth.Given as goal

abbrev pub invariant-loop-statement : goal.invariant-loop-statement
invariant-loop-statement l = l.greatest ≡ greatest (map (group_depth_of l.above) (take l.statement-index l.body))
