use Rattle.omi_handle.specs.declared.handle.Kind.TheVariants.{Region}
use Rattle.omi_layout.specs.declared.field.Field.TheVariants.{TaskRegion}
use Rattle.omi_session.specs.Inquiry.{follow}
use Rattle.omi_session.proofs.Asked.{asked_on, refused_then}
use Rattle.omi_ask.specs.Regions.{region_of_task}
use Rattle.omi_ask.proofs.regions.region_of_task_of.Goals as goal

pub returns-in_err-task-clause-answer : goal.returns-in_err-task-clause-answer
unfolding region_of_task
returns-in_err-task-clause-answer g c = refused_then _ c.in_err-task.ensures.answer c.from_residual.ensures.1

pub returns-clause-answer : goal.returns-clause-answer
unfolding region_of_task
returns-clause-answer g c =
    asked_on _
    (λ w task. follow w Region task.addr TaskRegion 0) c.in_ok-task.task c.object_of.ensures.same.table.same c.object_of.ensures.same.layout
    c.in_ok-task.ensures.answer c.follow.ensures.answer
