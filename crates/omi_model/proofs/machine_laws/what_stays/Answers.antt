use Rattle.omi_model.proofs.StaysLater.{stay, stay_over_an_event}
use Rattle.omi_model.proofs.machine_laws.what_stays.Goals as goal

pub returns-clause-event : goal.returns-clause-event
returns-clause-event c = stay_over_an_event

pub returns-clause-later : goal.returns-clause-later
returns-clause-later c = stay
