use Rattle.omi_core.proofs.RecordedRuns.{opened_machine}
use Rattle.omi_core.proofs.recorded.opening.Goals as goal

pub returns-clause-opened : goal.returns-clause-opened
returns-clause-opened c = opened_machine _ c.args.l.valid c.requires c.in_ok-image.ensures c.in_ok-actors.ensures
