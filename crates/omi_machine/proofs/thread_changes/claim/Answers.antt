use Rattle.omi_model.specs.declared.claim.Claim.TheVariants.{By}
use Rattle.omi_machine.proofs.StateChanges.{thread_changed}
use Rattle.omi_machine.proofs.thread_changes.claim.Goals as goal

pub returns : goal.returns
returns c =
    thread_changed c.args.s.now _ _ c.args.w _ _
    (λ h. record h { claim = By c.args.thread }) c.requires c.exchange-h.ensures.before c.exchange-h.ensures.after c.exchange.ensures.after
