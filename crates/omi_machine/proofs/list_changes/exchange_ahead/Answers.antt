use Rattle.std.proofs.Common.{◌∙◌, None, ap, sym}
use Rattle.omi_model.specs.declared.thread.Thread.{Thread}
use Rattle.omi_machine.specs.Kept.{state_of}
use Rattle.omi_machine.proofs.ChangesBack.{list_back}
use Rattle.omi_machine.proofs.list_changes.exchange_ahead.Goals as goal

pub returns-in-None-clause-back : goal.returns-in-None-clause-back
returns-in-None-clause-back c =
    list_back (state_of c.args.s.now) _ c.args.i None c.args.list _
    (ap (λ (h : Thread). h.current) (sym c.thread.ensures) ∙ c.in-None.is) c.exchange_in_thread.ensures.after c.exchange_in_thread.ensures.back
