use Rattle.omi_machine_legal.specs.Decided.{AreLive}
use Rattle.omi_machine_legal.proofs.KeptSlots.{decided_of}
use Rattle.omi_machine_legal.proofs.live.tasks_pass.Goals as goal

pub returns : goal.returns
returns g c =
    decided_of (AreLive (g.Q.Test.Passes c.args.test.now)) _ _ _ c.tasks.ensures c.pass.ensures
