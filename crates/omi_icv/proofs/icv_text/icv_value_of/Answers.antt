use Rattle.std.proofs.Common.{refl, subst}
use Rattle.std.specs.Prelude.{Ok, Err}
use Rattle.omi_session.specs.Reads.{Answers}
use Rattle.omi_session.proofs.Asked.{asked_then, asked_answer, refused_then}
use Rattle.omi_icv.specs.Icvs.{icv_value}
use Rattle.omi_icv.specs.Values.{numbers_in}
use Rattle.omi_icv.proofs.Scoping.{with_variable, without_variable}
use Rattle.omi_icv.proofs.icv_text.icv_value_of.Goals as goal

pub returns-in_err-address-clause-answer : goal.returns-in_err-address-clause-answer
unfolding icv_value
returns-in_err-address-clause-answer g c =
    refused_then _ c.in_err-address.ensures.answer c.from_residual.ensures.1

pub returns-in_err-variable-clause-answer : goal.returns-in_err-variable-clause-answer
unfolding icv_value
returns-in_err-variable-clause-answer g c =
    without_variable c.args.scope c.args.icv c.in_ok-address.address _ c.record_of.ensures.same.table.same
    c.in_ok-address.ensures.answer c.in_err-variable.ensures c.from_residual-in_err-variable.ensures.1

pub returns-in_err-numbers-clause-answer : goal.returns-in_err-numbers-clause-answer
unfolding icv_value
returns-in_err-numbers-clause-answer g c =
    let numbers =
    subst
    (λ w. Answers g.C.Callbacks.told g.C.Callbacks.asked c.record_of.new.s c.numbers.new.s (Err c.in_err-numbers.field-0.0) (numbers_in w c.in_ok-variable.variable.source c.in_ok-address.address)) c.record_of.ensures.same.layout c.in_err-numbers.ensures.answer in
    with_variable c.args.scope c.args.icv c.in_ok-address.address _ c.in_ok-variable.variable c.record_of.ensures.same.table.same
    c.in_ok-address.ensures.answer c.in_ok-variable.ensures (refused_then _ numbers c.from_residual-in_err-numbers.ensures.1)

pub returns-clause-answer : goal.returns-clause-answer
unfolding icv_value
returns-clause-answer g c =
    let numbers =
    subst
    (λ w. Answers g.C.Callbacks.told g.C.Callbacks.asked c.record_of.new.s c.numbers.new.s (Ok c.in_ok-numbers.numbers) (numbers_in w c.in_ok-variable.variable.source c.in_ok-address.address)) c.record_of.ensures.same.layout c.in_ok-numbers.ensures.answer in
    with_variable c.args.scope c.args.icv c.in_ok-address.address _ c.in_ok-variable.variable c.record_of.ensures.same.table.same
    c.in_ok-address.ensures.answer c.in_ok-variable.ensures
    (asked_then c.numbers.new.s _ c.in_ok-numbers.numbers c.numbers.ensures.same.table.same numbers
    (asked_answer refl))
