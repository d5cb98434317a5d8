use Rattle.std.specs.FinMap.{get}
use Rattle.omi_session.proofs.Asked.{answers_is, asked_found}
use Rattle.omi_icv.specs.StateWords.{state}
use Rattle.omi_icv.proofs.ShownInquiries.{state_given}
use Rattle.omi_icv.proofs.state.get_state.Goals as goal

pub returns-clause-answer : goal.returns-clause-answer
returns-clause-answer g c =
    asked_found (state c.args.s.now.layout) c.find-found.ensures.value c.state_of_thread.ensures.answer

pub returns-clause-shown : goal.returns-clause-shown
returns-clause-shown g c =
    let now = c.args.s.now in
    state_given (g.C.Callbacks.told now.table.calls) now.layout (get now.handles.held) _ _
    (answers_is (returns-clause-answer g c))
