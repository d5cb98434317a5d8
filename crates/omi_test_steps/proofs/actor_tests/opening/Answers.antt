use Rattle.std.proofs.Common.{◌≡◌, ◌<◌, sym, subst}
use Rattle.std.specs.Prelude.{IfOk, Result, Ok, Err}
use Rattle.omi_script.specs.declared.program.Program.{Program}
use Rattle.omi_pc.specs.declared.actor.Actor.{Actor}
use Rattle.omi_pc.specs.Opening.{opening_actor}
use Rattle.omi_pc.specs.OpenBodies.{AreOpen}
use Rattle.omi_pc.proofs.OpeningActors.{opened_fits}
use Rattle.omi_test_steps.proofs.actor_tests.opening.Goals as goal

bodies : {E : Type 0} (p : Program) (r : Result Actor E) → 0 < p.threads → IfOk r (λ a. a ≡ opening_actor p 0)
    → IfOk r (λ a. AreOpen p a.context a.stack)
bodies p (Ok a) some is =
    subst (λ (b : Actor). AreOpen p b.context b.stack) (sym is) (opened_fits p 0 some).bodies
bodies p (Err e) some is = is

pub returns : goal.returns
returns c = bodies c.args.p.now c.opening.result c.requires c.opening.ensures
