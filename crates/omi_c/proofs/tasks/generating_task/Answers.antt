use Rattle.std.proofs.Common.{◌∙◌}
use Rattle.omi_asktask.specs.Tasks as tasks
use Rattle.omi_handle.specs.declared.handle.Kind.TheVariants as object
use Rattle.omi_c.specs.Objects as objects
use Rattle.omi_c.proofs.Asked.{asked_of_object, refused_in}
use Rattle.omi_c.proofs.tasks.generating_task.Goals as goal

pub returns-in_err-s : goal.returns-in_err-s
returns-in_err-s g c =
    refused_in c.args.table.now c.args.known.now (λ w. tasks.generating_task w (objects.held_in w object.Task c.args.task))
    c.from_residual.result _ c.from_residual.ensures.1 c.in_err-s.ensures.refused

pub returns : goal.returns
returns g c =
    c.replied.ensures
    ∙ asked_of_object c.args.table.now c.args.known.now c.in_ok-s.s _ c.in_ok-s.ensures.opened object.Task c.args.task
    tasks.generating_task c.held_in-task.result c.generating_task_of-generating.result c.held_in-task.ensures.value c.generating_task_of-generating.ensures.answer
