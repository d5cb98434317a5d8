use Rattle.std.proofs.Common.{◌+◌, ◌∙◌, ap, List, Option, ℕ, Some}
use Rattle.omi_model.specs.Put.{on}
use Rattle.omi_model.specs.declared.freeable.Freeable.{Freeable}
use Rattle.omi_model.specs.declared.item.Item.{Item}
use Rattle.omi_model.specs.declared.slot.Slot.{Slot}
use Rattle.omi_model.specs.declared.task.Task.{Task}
use Rattle.omi_machine.specs.Kept.{slots_of}
use Rattle.omi_machine.specs.KeptSlots.{with_slot}
use Rattle.omi_machine.proofs.ChangesBack.{on_back}
use Rattle.omi_machine.proofs.StateChanges.{slots_changed}
use Rattle.omi_machine.proofs.list_changes.exchange_in_task.Goals as goal

pub returns-clause-after : goal.returns-clause-after
returns-clause-after c =
    let t : Task = c.in-Some.t in
    let took = c.in-Some.ensures in
    let back =
    c.put_live.ensures
    ∙ ap
    (λ (frees : Option Freeable). with_slot c.take_live.new.slots c.args.k.0 (record { generations = c.args.k.0.generation + 1; live = Some (record t { frees = frees; list = c.replace-old.new.dest }) })) c.replace-old_frees.ensures.after
    ∙ ap
    (λ (list : List Item). with_slot c.take_live.new.slots c.args.k.0 (record { generations = c.args.k.0.generation + 1; live = Some (record t { frees = c.args.frees; list = list }) })) c.replace-old.ensures.after in
    slots_changed c.args.tasks.now c.take_live.new.slots c.put_live.new.slots c.args.k.0 _
    (λ t. record t { frees = c.args.frees; list = c.args.list }) t took.kept took.found took.taken back

pub returns-clause-back : goal.returns-clause-back
returns-clause-back c =
    let t : Task = c.in-Some.t in
    ap (λ (m : ℕ → ℕ → Slot Task). on m c.args.k.0 (λ t. record t { frees = c.replace-old_frees.result; list = c.replace-old.result }))
    (returns-clause-after c)
    ∙ on_back (slots_of c.args.tasks.now) c.args.k.0
    (λ t. record t { frees = c.args.frees; list = c.args.list }) t c.in-Some.ensures.found
    (λ t. record t { frees = c.replace-old_frees.result; list = c.replace-old.result })
    (ap (λ (old : Option Freeable). record t { frees = old; list = c.replace-old.result }) c.replace-old_frees.ensures.value
    ∙ ap (λ (old : List Item). record t { list = old }) c.replace-old.ensures.value)
