use Rattle.omi_machine.proofs.StateChanges.{thread_changed}
use Rattle.omi_machine.proofs.thread_changes.show_state.Goals as goal

pub returns : goal.returns
returns c =
    thread_changed c.args.s.now _ _ c.args.i _ _
    (λ h. record h { state = c.args.state; wait = c.args.wait }) c.requires c.exchange-h.ensures.before c.exchange-h.ensures.after c.exchange.ensures.after
