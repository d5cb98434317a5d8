use Rattle.omi_audit.proofs.Verdicts.{gives_state, refuses_no_reached}
use Rattle.omi_audit.proofs.laws.verdicts_give.Goals as goal

pub returns : goal.returns
returns c = record { states = gives_state; reached = refuses_no_reached }
