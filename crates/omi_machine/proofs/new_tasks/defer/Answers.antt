use Rattle.std.proofs.Common.{ℕ, ap, sym, ◌∙◌, Some}
use Rattle.omi_model.specs.Put.{made}
use Rattle.omi_model.specs.State.{State}
use Rattle.omi_model.specs.Tasking.{deferred}
use Rattle.omi_model.specs.declared.slot.Slot.{Slot}
use Rattle.omi_model.specs.declared.task.Task.{Task}
use Rattle.omi_machine.specs.Kept.{slots_of, state_of}
use Rattle.omi_machine.proofs.StateChanges.{by_current_is}
use Rattle.omi_machine.proofs.new_tasks.defer.Goals as goal

pub returns-clause-done : goal.returns-clause-done
returns-clause-done c =
    let s : State = state_of c.args.s.now in
    let task = c.args.task in
    let makes =
    c.make.ensures.made
    ∙ ap (λ (m : ℕ → ℕ → Slot Task). made m task.0 c.in_ok-new.new) c.in_ok-keep_slot.ensures.same
    ∙ ap (made (slots_of c.args.s.now.tasks) task.0) c.in_ok-new.ensures in
    by_current_is s c.args.i c.in-Some.k c.in-Some.t.now
    (deferred c.args.p.now s task c.args.f c.args.is_final c.args.place) c.in-Some.ensures.found
    ∙ ap (λ (m : ℕ → ℕ → Slot Task). Some (record s { tasks = m })) (sym makes)
