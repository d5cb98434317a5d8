use Rattle.omi_session.specs.Made.{as_pair, task_pair}
use Rattle.omi_asktask.specs.Tasks.{generating_task}
use Rattle.omi_session.proofs.Asked.{asked_found}
use Rattle.omi_session.proofs.ShownAnswers.{given_handle}
use Rattle.omi_asktask.proofs.ShownTasks.{generating_told}
use Rattle.omi_asktask.proofs.tasks.get_generating_task_handle.Goals as goal

pub returns-clause-shown : goal.returns-clause-shown
returns-clause-shown g c = λ s shown x.
    given_handle _ c.hand_task.new.s.handles (as_pair task_pair c.hand_task.result) c.generating_task_of-found.ensures.memory
    (asked_found (generating_task c.args.s.now.layout) c.find-held.ensures.value c.generating_task_of-found.ensures.answer)
    c.hand_task.ensures.handed shown (generating_told _ _ s shown _ x)
