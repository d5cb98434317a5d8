use Rattle.std.proofs.Common.{◌∙◌, ap, sym, ℕ, Some}
use Rattle.omi_model.specs.Changes.{with_current}
use Rattle.omi_machine.specs.Kept.{state_of}
use Rattle.omi_model.specs.State.{State}
use Rattle.omi_model.specs.Freeing.{freeing}
use Rattle.omi_model.specs.Tasking.{finished}
use Rattle.omi_model.specs.declared.freeable.Freeable.TheVariants as freeable
use Rattle.omi_model.specs.declared.progress.Progress.TheVariants.{Finished}
use Rattle.omi_model.specs.declared.slot.Slot.{Slot}
use Rattle.omi_model.specs.declared.task.Task.{Task}
use Rattle.omi_model.specs.declared.thread.Thread.{Thread}
use Rattle.omi_machine.proofs.StateChanges.{by_current_is, task_changed}
use Rattle.omi_machine.proofs.task_changes.finish.Goals as goal

pub returns : goal.returns
returns c =
    let s = c.args.s.now in
    let i = c.args.i in
    let k = c.in-Some.k in
    let t : Task = c.in-Some-take_live.t in
    let took = c.in-Some-take_live.ensures in
    let name = ap (λ (h : Thread). h.current) (sym c.thread.ensures) ∙ c.in-Some.is in
    let ended =
    task_changed s c.take_live.new.slots c.put_live.new.slots k _
    (λ u. record u { progress = Finished }) t took.kept took.found took.taken c.put_live.ensures in
    let slots =
    c.free_next.ensures
    ∙ ap (λ (x : State). freeing (Some (freeable.Finished k)) t.scheduling x.tasks) ended in
    let whole =
    c.set_current.ensures
    ∙ ap (λ (m : ℕ → ℕ → Slot Task). with_current (record (state_of s) { tasks = m }) i t.scheduling) slots in
    by_current_is (state_of s) i k t (finished (state_of s) i) (record { name = name; live = took.found })
    ∙ ap (λ (x : State). Some x) (sym whole)
