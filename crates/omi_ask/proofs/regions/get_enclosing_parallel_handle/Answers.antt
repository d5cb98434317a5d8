use Rattle.omi_session.specs.Made.{as_pair, region_pair}
use Rattle.omi_ask.specs.Regions.{enclosing_region}
use Rattle.omi_session.proofs.Asked.{asked_found}
use Rattle.omi_session.proofs.ShownAnswers.{given_handle}
use Rattle.omi_ask.proofs.ShownRegions.{enclosing_told}
use Rattle.omi_ask.proofs.regions.get_enclosing_parallel_handle.Goals as goal

pub returns-clause-shown : goal.returns-clause-shown
returns-clause-shown g c = λ s shown x.
    given_handle _ c.hand_region.new.s.handles (as_pair region_pair c.hand_region.result) c.enclosing_region_of-found.ensures.memory
    (asked_found (enclosing_region c.args.s.now.layout) c.find-held.ensures.value c.enclosing_region_of-found.ensures.answer)
    c.hand_region.ensures.handed shown (enclosing_told _ _ s shown _ x)
