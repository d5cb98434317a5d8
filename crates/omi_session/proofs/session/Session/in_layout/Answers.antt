use Rattle.omi_session.proofs.StillNamed.{none_named}
use Rattle.omi_session.proofs.session.Session.in_layout.Goals as goal

pub over-requires : goal.over-requires
over-requires g c = none_named _ _ c.new.ensures.held
