use Rattle.omi_session.proofs.StillNamed.{released_named}
use Rattle.omi_session.proofs.session.Session.release.Goals as goal

pub invariant_of-self : goal.invariant_of-self
invariant_of-self g c = released_named _ _ _ _ c.self.invariant c.release.ensures.removed
