use Rattle.omi_machine.proofs.KeptSlotLemmas.{slot_exchanged}
use Rattle.omi_machine.proofs.slot_changes.exchange_slot.Goals as goal

pub returns-clause-after : goal.returns-clause-after
returns-clause-after g c =
    slot_exchanged c.args.slots.now _ _ c.args.n c.args.slot _ _ _ c.exchange-row.ensures.before c.exchange-row.ensures.after c.exchange-old.ensures.after c.exchange.ensures.after
