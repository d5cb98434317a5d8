use Rattle.omi_session.proofs.LookedLaws.{word_is_looked, lead_is_looked, object_is_looked, optional_is_looked}
use Rattle.omi_session.proofs.laws.inquiries_look.Goals as goal

pub returns : goal.returns
returns c = record { word = word_is_looked; lead = lead_is_looked; object = object_is_looked; optional = optional_is_looked }
