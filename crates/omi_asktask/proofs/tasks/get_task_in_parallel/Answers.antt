use Rattle.omi_session.specs.Made.{as_pair, task_pair}
use Rattle.omi_session.specs.Inquiry.{member}
use Rattle.omi_session.proofs.Asked.{asked_found}
use Rattle.omi_session.proofs.ShownAnswers.{given_handle, region_member}
use Rattle.omi_asktask.proofs.tasks.get_task_in_parallel.Goals as goal

pub returns-clause-shown : goal.returns-clause-shown
returns-clause-shown g c = λ s shown x.
    given_handle _ c.hand_task.new.s.handles (as_pair task_pair c.hand_task.result) c.member_of-found.ensures.memory
    (asked_found (λ f. member c.args.s.now.layout f c.args.num) c.find-held.ensures.value c.member_of-found.ensures.answer)
    c.hand_task.ensures.handed shown (region_member _ _ s shown _ x c.args.num)
