use Rattle.std.proofs.Common.{sym, subst}
use Rattle.omi_session.specs.Named.{IsNamed}
use Rattle.omi_session.proofs.StillNamed.{made_named}
use Rattle.omi_session.proofs.session.Session.make.Goals as goal

pub invariant_of-self : goal.invariant_of-self
invariant_of-self g c =
    made_named _ _ _ c.args.h c.make.result c.self.invariant
    (subst (λ s. IsNamed s.layout c.args.h) (sym c.self.view_is) c.requires.named) c.make.ensures.added c.make.ensures.refused_held
