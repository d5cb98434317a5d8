use Rattle.omi_session.proofs.Asked.{answers_is, asked_found}
use Rattle.omi_session.proofs.ShownAnswers.{given_value}
use Rattle.omi_asktask.specs.TaskWords.{frames}
use Rattle.omi_asktask.proofs.ShownTasks.{frames_told}
use Rattle.omi_asktask.proofs.words.get_task_frame.Goals as goal

pub returns-clause-answer : goal.returns-clause-answer
returns-clause-answer g c =
    asked_found (frames c.args.s.now.layout) c.find-found.ensures.value c.frames_of.ensures.answer

pub returns-clause-shown : goal.returns-clause-shown
returns-clause-shown g c = λ s shown t.
    given_value (g.C.Callbacks.told c.args.s.now.table.calls) c.args.s.now.layout s shown _
    (frames c.args.s.now.layout _) _ (answers_is (returns-clause-answer g c))
    (frames_told (g.C.Callbacks.told c.args.s.now.table.calls) c.args.s.now.layout s shown _ t)
