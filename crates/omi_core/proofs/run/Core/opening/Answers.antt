use Rattle.omi_core.proofs.Opened.{opened_run}
use Rattle.omi_core.proofs.run.Core.opening.Goals as goal

pub invariant_of-result : goal.invariant_of-result
invariant_of-result c =
    opened_run _ c.args.l.valid c.requires c.in_ok-image.ensures c.in_ok-actors.ensures c.new.ensures c.new-2.ensures
