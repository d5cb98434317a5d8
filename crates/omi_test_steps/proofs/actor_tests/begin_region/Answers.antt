use Rattle.std.proofs.Common.{◌≡◌, refl, sym, subst, arith}
use Rattle.omi_script.specs.declared.statement.Stmt.TheVariants.{Parallel}
use Rattle.omi_pc.specs.declared.actor.Actor.{Actor}
use Rattle.omi_pc.specs.declared.frame.Opened.TheVariants.{Master}
use Rattle.omi_pc.specs.OpenBodies.{AreOpen, IsAt}
use Rattle.omi_pc.proofs.Moved.{body_opens}
use Rattle.omi_pc.proofs.Settled.{named_there}
use Rattle.omi_test_steps.proofs.actor_tests.begin_region.Goals as goal

pub returns-then-a-lt10 : goal.returns-then-a-lt10
returns-then-a-lt10 c =
    let p = c.args.p.now in
    let a = c.args.a.now in
    let f = c.in-Some-Parallel.f in
    let two : p.threads ≡ 2 = c.requires.threads in
    let at : IsAt p a.stack (Parallel f c.in-Some-Parallel.field-0-1) = cc in
    subst (λ (b : Actor). AreOpen p b.context b.stack) (sym c.begin_master.ensures)
    (body_opens p _ f (Master a.context) a.stack (named_there p a.context a.stack (Parallel f c.in-Some-Parallel.field-0-1) f c.requires.bodies at refl)
    (record { size = (omega arith, omega (arith, two)); number = omega arith; arrivals = omega arith; groups = omega arith; task = omega (arith, two); region = omega (arith, two); row = omega (arith, two); implicit = λ is. refl })
    (c.in-Some-Parallel.field-0-1, at, record { implicit = refl; number = refl; depth = refl }) c.requires.bodies)
