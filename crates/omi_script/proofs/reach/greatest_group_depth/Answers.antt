use Rattle.std.proofs.Common.{arith, None}
use Rattle.omi_script.specs.Reach.{group_depth_of}
use Rattle.omi_script.specs.declared.statement.Stmt.TheVariants.{Parallel}
use Rattle.omi_script.proofs.ReachLemmas.{greatest_more}
use Rattle.omi_script.proofs.reach.greatest_group_depth.Goals as goal
use Rattle.omi_script.proofs.reach.greatest_group_depth.Goals.{then-greatest-depth, else-greatest-depth}

pub loop-statement-preserved : goal.loop-statement-preserved
loop-statement-preserved c =
    let more =
    greatest_more (group_depth_of c.args.above.now) c.args.body.now c.loop-statement.statement-index
    (Parallel 0 None) c.loop-statement-test.true in
    elim c.if-greatest-depth.branch [ then-greatest-depth w ↦ omega arith | else-greatest-depth w ↦ omega arith ]
