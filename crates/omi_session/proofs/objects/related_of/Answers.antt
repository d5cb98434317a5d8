use Rattle.omi_session.specs.Inquiry.{follow_some}
use Rattle.omi_session.proofs.Asked.{asked_on, refused_then}
use Rattle.omi_session.proofs.objects.related_of.Goals as goal

pub returns-in_err-from-clause-answer : goal.returns-in_err-from-clause-answer
returns-in_err-from-clause-answer g c = refused_then _ c.in_err-from.ensures.answer c.from_residual.ensures.1

pub returns-clause-answer : goal.returns-clause-answer
returns-clause-answer g c =
    asked_on _
    (λ w from. follow_some w c.args.other from.addr c.args.field) c.in_ok-from.from c.object_of.ensures.same.table.same c.object_of.ensures.same.layout
    c.in_ok-from.ensures.answer c.follow_some.ensures.answer
