use Rattle.std.proofs.Common.{refl, sym, subst}
use Rattle.omi_script.specs.declared.statement.Stmt.TheVariants.{Critical}
use Rattle.omi_pc.specs.declared.actor.Actor.{Actor}
use Rattle.omi_pc.specs.declared.frame.Opened.TheVariants as opened
use Rattle.omi_pc.specs.OpenBodies.{AreOpen, IsAt}
use Rattle.omi_pc.proofs.Settled.{call_opens}
use Rattle.omi_test_steps.proofs.actor_tests.enter_critical.Goals as goal

pub returns-then-len-lt-STACK_ROOM : goal.returns-then-len-lt-STACK_ROOM
returns-then-len-lt-STACK_ROOM c =
    let p = c.args.p.now in
    let a = c.args.a.now in
    let k = c.in-Some-Critical.k in
    let f = c.in-Some-Critical.f in
    let at : IsAt p a.stack (Critical k f) = cc in
    subst (λ (b : Actor). AreOpen p b.context b.stack) (sym c.call.ensures)
    (call_opens p a.context a.stack (Critical k f) f (opened.Critical k) c.requires at refl at refl)
