use Rattle.std.proofs.Common.{◌∙◌, ap, Some}
use Rattle.omi_model.specs.Changes.{with_current}
use Rattle.omi_model.specs.State.{State}
use Rattle.omi_model.specs.declared.progress.Progress.TheVariants.{Begun}
use Rattle.omi_machine.proofs.StateChanges.{task_changed}
use Rattle.omi_machine.proofs.task_changes.begin_task.Goals as goal

pub returns : goal.returns
returns c =
    let task = c.args.task in
    let took = c.in-Some.ensures in
    let begun =
    task_changed c.args.s.now c.take_live.new.slots c.put_live.new.slots task _
    (λ u. record u { progress = Begun }) c.in-Some.t took.kept took.found took.taken c.put_live.ensures in
    c.set_current.ensures ∙ ap (λ (x : State). with_current x c.args.i (Some task)) begun
