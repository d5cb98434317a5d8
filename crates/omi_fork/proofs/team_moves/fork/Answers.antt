use Rattle.std.proofs.Common.{sym, subst, arith}
use Rattle.omi_pc.specs.declared.actor.Actor.{Actor}
use Rattle.omi_pc.specs.OpenBodies.{AreOpen}
use Rattle.omi_fork.proofs.Forks.{body_at_fork, fork_opens}
use Rattle.omi_fork.proofs.team_moves.fork.Goals as goal

pub master_context-context-requires-clause-depth :
    goal.master_context-context-requires-clause-depth
master_context-context-requires-clause-depth c =
    let p = c.args.p.now in
    let a = c.args.a.now in
    let bodies = c.requires.fits.bodies in
    omega (
      arith,
      c.stacks_have_room.ensures.room p a.context a.stack bodies,
      (c.stacks_have_room.ensures.depth p a.context a.stack bodies (body_at_fork p a c.args.region c.requires.fits c.requires.at)).1,
    )

pub begin_master-requires : goal.begin_master-requires
begin_master-requires c =
    let a = c.args.a.now in
    omega (arith, c.stacks_have_room.ensures.room c.args.p.now a.context a.stack c.requires.fits.bodies)

pub assign_from-requires : goal.assign_from-requires
assign_from-requires c =
    let p = c.args.p.now in
    let a = c.args.a.now in
    subst (λ (b : Actor). AreOpen p b.context b.stack) (sym c.begin_master.ensures)
    (rw (c.region_function-f.ensures, c.master_context-context.ensures)
    (fork_opens p c.args.l.now.table a c.args.region c.requires.threads c.bodies_stand.ensures.opened c.requires.fits c.requires.placed c.requires.at))
