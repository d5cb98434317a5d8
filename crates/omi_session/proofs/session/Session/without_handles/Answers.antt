use Rattle.omi_session.proofs.StillNamed.{none_named}
use Rattle.omi_session.proofs.session.Session.without_handles.Goals as goal

pub over-requires : goal.over-requires
over-requires g c = none_named _ _ c.without_memory.ensures.held
