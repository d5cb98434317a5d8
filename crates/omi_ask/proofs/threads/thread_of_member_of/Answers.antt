use Rattle.omi_handle.specs.declared.handle.Kind.TheVariants.{Thread}
use Rattle.omi_layout.specs.declared.field.Field.TheVariants.{TaskThread}
use Rattle.omi_session.specs.Inquiry.{follow}
use Rattle.omi_session.proofs.Asked.{asked_on, refused_then}
use Rattle.omi_ask.specs.Threads.{thread_of_member}
use Rattle.omi_ask.proofs.threads.thread_of_member_of.Goals as goal

pub returns-in_err-task-clause-answer : goal.returns-in_err-task-clause-answer
unfolding thread_of_member
returns-in_err-task-clause-answer g c = refused_then _ c.in_err-task.ensures.answer c.from_residual.ensures.1

pub returns-clause-answer : goal.returns-clause-answer
unfolding thread_of_member
returns-clause-answer g c =
    asked_on _
    (λ w task. follow w Thread task.addr TaskThread 0) c.in_ok-task.task c.member_of.ensures.same.table.same c.member_of.ensures.same.layout
    c.in_ok-task.ensures.answer c.follow.ensures.answer
