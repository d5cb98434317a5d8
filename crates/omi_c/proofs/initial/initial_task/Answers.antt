use Rattle.std.proofs.Common.{◌∙◌}
use Rattle.omi_c.specs.Initial as initial
use Rattle.omi_c.proofs.Asked.{asked_reads, refused_in}
use Rattle.omi_c.proofs.initial.initial_task.Goals as goal

pub returns-in_err-s : goal.returns-in_err-s
returns-in_err-s g c =
    refused_in c.args.table.now c.args.known.now initial.initial_task
    c.from_residual.result _ c.from_residual.ensures.1 c.in_err-s.ensures.refused

pub returns : goal.returns
returns g c =
    c.replied.ensures
    ∙ asked_reads c.args.table.now c.args.known.now c.in_ok-s.s _ c.in_ok-s.ensures.opened
    initial.initial_task c.first_task-task.result c.first_task-task.ensures
