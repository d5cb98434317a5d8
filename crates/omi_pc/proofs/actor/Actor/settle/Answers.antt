use Rattle.std.proofs.Common.{◌∙◌, ◌<◌, List, length, sym, subst, arith}
use Rattle.omi_pc.specs.declared.frame.Frame.{Frame}
use Rattle.omi_pc.specs.declared.limits.TheConstants.{STACK_ROOM}
use Rattle.omi_pc.proofs.Positions.{position_of_top, room_with_top}
use Rattle.omi_pc.proofs.actor.Actor.settle.Goals as goal

pub overflow_add-top : goal.overflow_add-top
overflow_add-top c =
    let fits =
    position_of_top c.args.p.now c.args.self.now.context c.args.self.now.stack c.in-Some.top
    (sym c.top.ensures ∙ c.in-Some.is) c.requires in
    grind (arith)

pub begin-requires : goal.begin-requires
begin-requires c =
    subst (λ (s : List Frame). length s < STACK_ROOM) (sym c.set_top.ensures)
    (room_with_top c.args.p.now c.args.self.now.context _ c.args.self.now.stack c.requires)
