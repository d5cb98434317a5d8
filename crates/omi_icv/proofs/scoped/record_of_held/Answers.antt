use Rattle.std.proofs.Common.{refl}
use Rattle.omi_session.proofs.Asked.{asked_then, asked_answer, refused_then}
use Rattle.omi_icv.specs.Records.{record_of_handle}
use Rattle.omi_icv.proofs.scoped.record_of_held.Goals as goal

pub returns-in_err-held-clause-answer : goal.returns-in_err-held-clause-answer
unfolding record_of_handle
returns-in_err-held-clause-answer g c = refused_then _ c.in_err-held.ensures.answer c.from_residual.ensures.1

pub returns-clause-answer : goal.returns-clause-answer
unfolding record_of_handle
returns-clause-answer g c =
    asked_then c.object_of.new.s _ c.in_ok-held.held c.object_of.ensures.same.table.same c.in_ok-held.ensures.answer
    (asked_answer refl)
