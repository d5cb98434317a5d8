use Rattle.omi_session.specs.Made.{as_pair, thread_pair}
use Rattle.omi_session.proofs.ShownAnswers.{given_handle}
use Rattle.omi_ask.proofs.ShownThreads.{thread_with_told}
use Rattle.omi_ask.proofs.threads.get_thread_handle.Goals as goal

pub returns-clause-shown : goal.returns-clause-shown
returns-clause-shown g c = λ s shown.
    given_handle _ c.hand_thread.new.s.handles (as_pair thread_pair c.hand_thread.result) c.thread_with-found.ensures.memory
    c.thread_with-found.ensures.answer c.hand_thread.ensures.handed shown
    (thread_with_told _ _ s shown c.args.kind c.args.native)
