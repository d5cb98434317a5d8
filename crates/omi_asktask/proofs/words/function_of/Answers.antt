use Rattle.omi_layout.specs.declared.field.Field.TheVariants.{TaskFunction}
use Rattle.omi_session.specs.Inquiry.{word_of}
use Rattle.omi_session.proofs.Asked.{asked_on, refused_then}
use Rattle.omi_asktask.specs.TaskWords.{function}
use Rattle.omi_asktask.proofs.words.function_of.Goals as goal

pub returns-in_err-task-clause-answer : goal.returns-in_err-task-clause-answer
unfolding function
returns-in_err-task-clause-answer g c = refused_then _ c.in_err-task.ensures.answer c.from_residual.ensures.1

pub returns-clause-answer : goal.returns-clause-answer
unfolding function
returns-clause-answer g c =
    asked_on _
    (λ w task. word_of w task.addr TaskFunction 0) c.in_ok-task.task c.object_of.ensures.same.table.same c.object_of.ensures.same.layout
    c.in_ok-task.ensures.answer c.word.ensures.answer
