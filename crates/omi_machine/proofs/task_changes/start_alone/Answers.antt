use Rattle.std.proofs.Common.{◌+◌, ◌∙◌, ℕ, ap, sym, Some}
use Rattle.omi_model.specs.Changes.{with_current}
use Rattle.omi_machine.specs.Kept.{state_of}
use Rattle.omi_machine.specs.KeptSlots.{with_slot}
use Rattle.omi_model.specs.State.{State}
use Rattle.omi_model.specs.Tasking.{scheduled, started_alone}
use Rattle.omi_model.specs.declared.task.Task.{Task}
use Rattle.omi_machine.proofs.StateChanges.{by_current_is, task_changed}
use Rattle.omi_machine.proofs.task_changes.start_alone.Goals as goal

pub returns : goal.returns
returns c =
    let s = c.args.s.now in
    let i = c.args.i in
    let task = c.args.task in
    let k = c.in-Some.k in
    let t : Task = c.in-Some.t.now in
    let u : Task = c.in-Some-take_live.u in
    let took = c.in-Some-take_live.ensures in
    let back =
    c.put_live.ensures
    ∙ ap
    (λ (e : ℕ). with_slot c.take_live.new.slots task.0 (record { generations = task.0.generation + 1; live = Some (record (scheduled i k t u) { exit = e }) })) c.exit_below-exit.ensures in
    let started =
    task_changed s c.take_live.new.slots c.put_live.new.slots task _
    (scheduled i k t) u took.kept took.found took.taken back in
    let whole = c.set_current.ensures ∙ ap (λ (x : State). with_current x i (Some task)) started in
    by_current_is (state_of s) i k t (started_alone (state_of s) i task) c.in-Some.ensures.found
    ∙ ap (λ (x : State). Some x) (sym whole)
