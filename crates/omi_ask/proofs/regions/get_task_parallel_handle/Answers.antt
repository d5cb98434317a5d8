use Rattle.omi_session.specs.Made.{as_pair, region_pair}
use Rattle.omi_ask.specs.Regions.{region_of_task}
use Rattle.omi_session.proofs.Asked.{asked_found}
use Rattle.omi_session.proofs.ShownAnswers.{given_handle}
use Rattle.omi_ask.proofs.ShownRegions.{region_of_task_told}
use Rattle.omi_ask.proofs.regions.get_task_parallel_handle.Goals as goal

pub returns-clause-shown : goal.returns-clause-shown
returns-clause-shown g c = λ s shown x.
    given_handle _ c.hand_region.new.s.handles (as_pair region_pair c.hand_region.result) c.region_of_task_of-found.ensures.memory
    (asked_found (region_of_task c.args.s.now.layout) c.find-held.ensures.value c.region_of_task_of-found.ensures.answer)
    c.hand_region.ensures.handed shown (region_of_task_told _ _ s shown _ x)
