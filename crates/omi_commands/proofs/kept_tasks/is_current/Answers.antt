use Rattle.omi_commands.proofs.FateLines.{fate_failed, fate_is, fate_of_words}
use Rattle.omi_session.proofs.Asked.{answers_is}
use Rattle.omi_commands.proofs.kept_tasks.is_current.Goals as goal

pub returns-clause-fate : goal.returns-clause-fate
returns-clause-fate g c = λ memory k tells held.
    rw c.fate_of.ensures
    (fate_is c.args.session.now.layout memory k (g.C.Callbacks.told c.args.session.now.table.calls) _ c.get_task_function.result
    tells held (answers_is c.get_task_function.ensures.answer))

pub returns-clause-words : goal.returns-clause-words
returns-clause-words g c = rw c.fate_of.ensures (fate_of_words c.get_task_function.result)

pub returns-clause-cause : goal.returns-clause-cause
returns-clause-cause g c =
    let cause = c.get_task_function.ensures.cause in
    rw c.fate_of.ensures
    (record { later = cause.later; failed = λ read. cause.failed (fate_failed c.get_task_function.result read) })
