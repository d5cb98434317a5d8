use Rattle.omi_machine_legal.proofs.KeptSlots.{live_from_kept, kept_from_live}
use Rattle.omi_machine_legal.proofs.live.pass.Goals as goal

pub returns : goal.returns
returns g c = (
  λ is. live_from_kept _ c.args.slots.now (c.pass_kept.ensures.0 is),
  λ each. c.pass_kept.ensures.1 (kept_from_live _ c.args.slots.now each),
)
