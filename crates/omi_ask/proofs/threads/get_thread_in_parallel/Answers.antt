use Rattle.omi_session.specs.Made.{as_pair, thread_pair}
use Rattle.omi_ask.specs.Threads.{thread_of_member}
use Rattle.omi_session.proofs.Asked.{asked_found}
use Rattle.omi_session.proofs.ShownAnswers.{given_handle}
use Rattle.omi_ask.proofs.ShownThreads.{thread_of_member_told}
use Rattle.omi_ask.proofs.threads.get_thread_in_parallel.Goals as goal

pub returns-clause-shown : goal.returns-clause-shown
returns-clause-shown g c = λ s shown x.
    given_handle _ c.hand_thread.new.s.handles (as_pair thread_pair c.hand_thread.result) c.thread_of_member_of-found.ensures.memory
    (asked_found (λ f. thread_of_member c.args.s.now.layout f c.args.num) c.find-held.ensures.value c.thread_of_member_of-found.ensures.answer)
    c.hand_thread.ensures.handed shown (thread_of_member_told _ _ s shown _ x c.args.num)
