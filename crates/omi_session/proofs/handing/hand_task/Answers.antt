use Rattle.omi_handle.specs.declared.handle.Kind.TheVariants.{Task}
use Rattle.omi_session.proofs.Handed.{handed_makes}
use Rattle.omi_session.proofs.handing.hand_task.Goals as goal

pub returns-in-Ok-clause-handles : goal.returns-in-Ok-clause-handles
returns-in-Ok-clause-handles g c =
    handed_makes c.args.s.now.layout Task _ _ c.args.found _ c.requires.memory c.requires.named c.in-Ok.ensures.handed

pub returns-in-Err-clause-handles : goal.returns-in-Err-clause-handles
returns-in-Err-clause-handles g c =
    handed_makes c.args.s.now.layout Task _ _ c.args.found _ c.requires.memory c.requires.named c.in-Err.ensures.handed
