use Rattle.omi_session.proofs.StillNamed.{same_named}
use Rattle.omi_session.proofs.session.Session.reserve.Goals as goal

pub invariant_of-self : goal.invariant_of-self
invariant_of-self g c = same_named _ _ _ c.self.invariant c.reserve.ensures.held
