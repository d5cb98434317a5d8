use Rattle.std.proofs.Common.{subst}
use Rattle.omi_session.specs.Reads.{Answers}
use Rattle.omi_session.proofs.Asked.{refused_then}
use Rattle.omi_icv.specs.Icvs.{icv_from_scope}
use Rattle.omi_icv.specs.Values.{number_in}
use Rattle.omi_icv.proofs.Scoping.{with_variable, without_variable}
use Rattle.omi_icv.proofs.icv.icv_number_of.Goals as goal

pub returns-in_err-address-clause-answer : goal.returns-in_err-address-clause-answer
unfolding icv_from_scope
returns-in_err-address-clause-answer g c =
    refused_then _ c.in_err-address.ensures.answer c.from_residual.ensures.1

pub returns-in_err-variable-clause-answer : goal.returns-in_err-variable-clause-answer
unfolding icv_from_scope
returns-in_err-variable-clause-answer g c =
    without_variable c.args.scope c.args.icv c.in_ok-address.address _ c.record_of.ensures.same.table.same
    c.in_ok-address.ensures.answer c.in_err-variable.ensures c.from_residual-in_err-variable.ensures.1

pub returns-clause-answer : goal.returns-clause-answer
unfolding icv_from_scope
returns-clause-answer g c =
    with_variable c.args.scope c.args.icv c.in_ok-address.address _ c.in_ok-variable.variable c.record_of.ensures.same.table.same
    c.in_ok-address.ensures.answer c.in_ok-variable.ensures
    (subst (λ w. Answers g.C.Callbacks.told g.C.Callbacks.asked c.record_of.new.s c.number.new.s c.number.result (number_in w c.in_ok-variable.variable.source c.in_ok-address.address)) c.record_of.ensures.same.layout c.number.ensures.answer)
