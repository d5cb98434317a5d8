use Rattle.omi_session.proofs.Asked.{answers_is, asked_found}
use Rattle.omi_session.proofs.ShownAnswers.{given_value}
use Rattle.omi_ask.specs.Threads.{native_id}
use Rattle.omi_ask.proofs.ShownThreads.{native_id_told}
use Rattle.omi_ask.proofs.threads.get_thread_id.Goals as goal

pub returns-clause-answer : goal.returns-clause-answer
returns-clause-answer g c =
    asked_found (native_id c.args.s.now.layout c.args.kind) c.find-found.ensures.value c.native_id_of.ensures.answer

pub returns-clause-shown : goal.returns-clause-shown
returns-clause-shown g c = λ s shown t.
    given_value (g.C.Callbacks.told c.args.s.now.table.calls) c.args.s.now.layout s shown _
    (native_id c.args.s.now.layout c.args.kind _) _ (answers_is (returns-clause-answer g c))
    (native_id_told (g.C.Callbacks.told c.args.s.now.table.calls) c.args.s.now.layout s shown c.args.kind _ t)
