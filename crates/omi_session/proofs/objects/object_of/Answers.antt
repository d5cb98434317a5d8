use Rattle.std.proofs.Common.{refl}
use Rattle.omi_session.specs.Inquiry.{object_of}
use Rattle.omi_session.proofs.Asked.{asked_then, refused_then, asked_answer}
use Rattle.omi_session.proofs.objects.object_of.Goals as goal

pub returns-in_err-held-clause-answer : goal.returns-in_err-held-clause-answer
unfolding object_of
returns-in_err-held-clause-answer g c =
    refused_then _ (asked_answer c.in_err-held.ensures.value) c.from_residual.ensures.1

pub returns-clause-answer : goal.returns-clause-answer
unfolding object_of
returns-clause-answer g c =
    asked_then c.args.s.now _ c.in_ok-held.held refl
    (asked_answer c.in_ok-held.ensures.value) c.unchanged.ensures.answer
