use Rattle.omi_session.proofs.Asked.{asked_on, refused_then}
use Rattle.omi_icv.specs.Values.{elements, first_elements}
use Rattle.omi_icv.proofs.value.elements.Goals as goal

pub returns-in_err-count-clause-answer : goal.returns-in_err-count-clause-answer
unfolding elements
returns-in_err-count-clause-answer g c =
    refused_then _ c.in_err-count.ensures.answer c.from_residual.ensures.1

pub returns-clause-answer : goal.returns-clause-answer
unfolding elements
returns-clause-answer g c =
    asked_on _
    (λ w count. first_elements w c.args.address count) c.in_ok-count.count c.list_length.ensures.same.table.same c.list_length.ensures.same.layout
    c.in_ok-count.ensures.answer c.first_elements.ensures.answer
