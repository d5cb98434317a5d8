use Rattle.omi_session.specs.Inquiry.{follow, lead}
use Rattle.omi_session.proofs.Asked.{asked_on, refused_then}
use Rattle.omi_session.proofs.asking.follow.Goals as goal

pub returns-in_err-pointer-clause-answer : goal.returns-in_err-pointer-clause-answer
unfolding follow
returns-in_err-pointer-clause-answer g c =
    refused_then _ c.in_err-pointer.ensures.answer c.from_residual.ensures.1

pub returns-clause-answer : goal.returns-clause-answer
unfolding follow
returns-clause-answer g c =
    asked_on _
    (λ w pointer. lead w c.args.kind c.args.field pointer) c.in_ok-pointer.pointer c.word.ensures.same.table.same c.word.ensures.same.layout
    c.in_ok-pointer.ensures.answer c.lead.ensures.answer
