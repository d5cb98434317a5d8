use Rattle.omi_session.proofs.NamesReached.{reached_are_names}
use Rattle.omi_session.proofs.laws.reached_names_fit.Goals as goal

pub returns : goal.returns
returns c = reached_are_names
