use Rattle.omi_model.proofs.ReleaseAmong.{arrivals_near, pass_follows}
use Rattle.omi_model.proofs.machine_laws.barriers_hold.Goals as goal

pub returns-clause-near : goal.returns-clause-near
returns-clause-near c = arrivals_near

pub returns-clause-released : goal.returns-clause-released
returns-clause-released c = pass_follows
