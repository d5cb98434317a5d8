use Rattle.std.proofs.Common.{sym, subst}
use Rattle.omi_pc.specs.declared.actor.Actor.{Actor}
use Rattle.omi_pc.specs.OpenBodies.{AreOpen}
use Rattle.omi_pc.proofs.Moved.{working_open}
use Rattle.omi_test_steps.proofs.actor_tests.work.Goals as goal

pub returns : goal.returns
returns c =
    subst (λ (b : Actor). AreOpen c.args.p.now b.context b.stack) (sym c.work.ensures)
    (working_open c.args.p.now c.args.a.now c.requires)
