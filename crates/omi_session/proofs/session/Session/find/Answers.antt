use Rattle.omi_session.proofs.Slots.{found_low}
use Rattle.omi_session.proofs.session.Session.find.Goals as goal

pub returns-clause-low : goal.returns-clause-low
returns-clause-low g c =
    found_low c.self.inside.layout.table c.self.inside.handles
    (c.args.key, c.args.serial) c.find.result c.self.inside.layout.valid c.self.invariant c.find.ensures
