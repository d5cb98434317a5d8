use Rattle.omi_machine.proofs.ChangesBack.{taken_gone}
use Rattle.omi_machine.proofs.slot_changes.take_away.Goals as goal

pub returns : goal.returns
returns g c =
    let took = c.take_live.ensures in
    taken_gone c.args.slots.now c.take_live.new.slots c.args.n c.take_live.result took.found took.kept took.taken took.none took.same
