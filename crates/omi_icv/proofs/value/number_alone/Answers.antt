use Rattle.std.proofs.Common.{ap}
use Rattle.std.specs.Prelude.{Ok}
use Rattle.omi_session.proofs.Asked.{asked_then, asked_answer, refused_then}
use Rattle.omi_icv.specs.Values.{alone}
use Rattle.omi_icv.proofs.value.number_alone.Goals as goal

pub returns-in_err-number-clause-answer : goal.returns-in_err-number-clause-answer
unfolding alone
returns-in_err-number-clause-answer g c =
    refused_then _ c.in_err-number.ensures.answer c.from_residual.ensures.1

pub returns-clause-answer : goal.returns-clause-answer
unfolding alone
returns-clause-answer g c =
    asked_then c.number.new.s _ c.in_ok-number.number c.number.ensures.same.table.same c.in_ok-number.ensures.answer
    (asked_answer (ap Ok c.one.ensures))
