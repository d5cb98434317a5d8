use Rattle.std.proofs.Common.{ℕ, ap, sym, ◌∙◌, Some}
use Rattle.omi_model.specs.Changes.{with_current}
use Rattle.omi_model.specs.Put.{made}
use Rattle.omi_model.specs.State.{State}
use Rattle.omi_model.specs.Tasking.{scheduled, started_now}
use Rattle.omi_model.specs.declared.slot.Slot.{Slot}
use Rattle.omi_model.specs.declared.task.Task.{Task}
use Rattle.omi_machine.specs.Kept.{slots_of, state_of}
use Rattle.omi_machine.proofs.StateChanges.{by_current_is}
use Rattle.omi_machine.proofs.new_tasks.start_now.Goals as goal

pub returns-clause-done : goal.returns-clause-done
returns-clause-done c =
    let s : State = state_of c.args.s.now in
    let i = c.args.i in
    let k = c.in-Some.k in
    let t : Task = c.in-Some.t.now in
    let task = c.args.task in
    let makes =
    c.make.ensures.made
    ∙ ap (λ (m : ℕ → ℕ → Slot Task). made m task.0 c.scheduled_from-new.result) c.in_ok-keep_slot.ensures.same
    ∙ ap (made (slots_of c.args.s.now.tasks) task.0)
    (c.scheduled_from-new.ensures ∙ ap (scheduled i k t) c.in_ok-deferred.ensures) in
    by_current_is s i k t (started_now c.args.p.now s i task c.args.f c.args.is_final) c.in-Some.ensures.found
    ∙ ap (λ (x : State). Some x)
    (sym (c.set_current.ensures ∙ ap (λ (m : ℕ → ℕ → Slot Task). with_current (record s { tasks = m }) i (Some task)) makes))
