use Rattle.std.proofs.Common.{sym, subst, arith}
use Rattle.omi_pc.specs.declared.actor.Actor.{Actor}
use Rattle.omi_pc.specs.OpenBodies.{AreOpen}
use Rattle.omi_task.proofs.StartedBodies.{some_at, start_now_opens}
use Rattle.omi_task.proofs.making_moves.start_now.Goals as goal

pub task_context-context-requires : goal.task_context-context-requires
task_context-context-requires c =
    let p = c.args.p.now in
    let a = c.args.a.now in
    let bodies = c.requires.fits.bodies in
    let (s, at, is) = c.requires.got.0.0 in
    omega (
      arith,
      c.stacks_have_room.ensures.room p a.context a.stack bodies,
      (c.stacks_have_room.ensures.depth p a.context a.stack bodies (some_at p a.stack s at)).1,
    )

pub begin_explicit-requires : goal.begin_explicit-requires
begin_explicit-requires c =
    let a = c.args.a.now in
    omega (arith, c.stacks_have_room.ensures.room c.args.p.now a.context a.stack c.requires.fits.bodies)

pub settle-requires : goal.settle-requires
settle-requires c =
    let p = c.args.p.now in
    let a = c.args.a.now in
    subst (λ (b : Actor). AreOpen p b.context b.stack) (sym c.begin_explicit.ensures)
    (rw (c.made_function-f.ensures, c.task_context-context.ensures, c.makes_final-is_final.ensures)
    (start_now_opens p a c.args.task c.bodies_stand.ensures.opened c.requires.fits c.requires.got))
