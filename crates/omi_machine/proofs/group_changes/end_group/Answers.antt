use Rattle.std.proofs.Common.{◌≡◌, ◌-◌, ◌+◌, ◌∙◌, ap, sym, Some, ℕ, arith}
use Rattle.omi_machine.specs.KeptSlots.{with_slot}
use Rattle.omi_model.specs.declared.task.Task.{Task}
use Rattle.omi_model.specs.declared.thread.Thread.{Thread}
use Rattle.omi_machine.proofs.StateChanges.{current_changed}
use Rattle.omi_machine.proofs.group_changes.end_group.Goals as goal

pub returns : goal.returns
returns c =
    let k = c.in-Some.k in
    let t : Task = c.in-Some-take_live.t in
    let name = ap (λ (h : Thread). h.current) (sym c.thread.ensures) ∙ c.in-Some.is in
    let less : c.saturating_sub-open_groups.result ≡ t.open_groups - 1 = omega (arith, c.saturating_sub-open_groups.ensures) in
    let back =
    c.put_live.ensures
    ∙ ap
    (λ (n : ℕ). with_slot c.take_live.new.slots k.0 (record { generations = k.0.generation + 1; live = Some (record t { open_groups = n }) })) less in
    current_changed c.args.s.now c.take_live.new.slots c.put_live.new.slots c.args.i k _
    (λ k t u. record u { open_groups = t.open_groups - 1 }) t name c.in-Some-take_live.ensures.kept c.in-Some-take_live.ensures.found c.in-Some-take_live.ensures.taken back
