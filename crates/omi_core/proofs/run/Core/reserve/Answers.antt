use Rattle.std.proofs.Common.{refl}
use Rattle.omi_script.proofs.RuleLemmas.{Rules-from_accepted}
use Rattle.omi_core.specs.Runs.{Run}
use Rattle.omi_core.proofs.Stepping.{other_room, spare_kept}
use Rattle.omi_core.proofs.run.Core.reserve.Goals as goal

-- the lists keep their elements, where they got their room and where they did not
pub invariant_of-self : goal.invariant_of-self
invariant_of-self c =
    other_room
    (record { program = c.self.inside.program; table = c.self.inside.layout.table; words = c.self.inside.image; actors = c.self.inside.actors.items; events = c.self.inside.events; made = c.self.inside.made })
    c.self.invariant c.self.inside.events c.reserve.new.self refl c.reserve.ensures.items

pub invariant_of-self-in_err-reserve-2 : goal.invariant_of-self-in_err-reserve-2
invariant_of-self-in_err-reserve-2 c =
    other_room
    (record { program = c.self.inside.program; table = c.self.inside.layout.table; words = c.self.inside.image; actors = c.self.inside.actors.items; events = c.self.inside.events; made = c.self.inside.made })
    c.self.invariant c.reserve-2.new.self c.reserve.new.self c.reserve-2.ensures.items c.reserve.ensures.items

pub invariant_of-self-2 : goal.invariant_of-self-2
invariant_of-self-2 c =
    other_room
    (record { program = c.self.inside.program; table = c.self.inside.layout.table; words = c.self.inside.image; actors = c.self.inside.actors.items; events = c.self.inside.events; made = c.self.inside.made })
    c.self.invariant c.reserve-2.new.self c.reserve.new.self c.reserve-2.ensures.items c.reserve.ensures.items

-- and no room gets less
pub returns-in_err-reserve-2-clause-no_fewer : goal.returns-in_err-reserve-2-clause-no_fewer
returns-in_err-reserve-2-clause-no_fewer c =
    let before : Run = record { program = c.self.inside.program; table = c.self.inside.layout.table; words = c.self.inside.image; actors = c.self.inside.actors.items; events = c.self.inside.events; made = c.self.inside.made } in
    spare_kept before c.args.self.now c.self.view_is c.reserve-2.new.self c.reserve.new.self
    (Rules-from_accepted c.self.inside.program).threads.0 c.reserve.ensures.no_fewer_spare c.reserve-2.ensures.no_fewer_spare c.reserve-2.ensures.no_fewer_seats c.reserve.ensures.items

pub returns-clause-no_fewer : goal.returns-clause-no_fewer
returns-clause-no_fewer c =
    let before : Run = record { program = c.self.inside.program; table = c.self.inside.layout.table; words = c.self.inside.image; actors = c.self.inside.actors.items; events = c.self.inside.events; made = c.self.inside.made } in
    spare_kept before c.args.self.now c.self.view_is c.reserve-2.new.self c.reserve.new.self
    (Rules-from_accepted c.self.inside.program).threads.0 c.reserve.ensures.no_fewer_spare c.reserve-2.ensures.no_fewer_spare c.reserve-2.ensures.no_fewer_seats c.reserve.ensures.items
