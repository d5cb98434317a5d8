use Rattle.std.proofs.Common.{◌∙◌, ap}
use Rattle.std.specs.Prelude.{Ok}
use Rattle.omi_session.specs.Reads.{Answer}
use Rattle.omi_session.proofs.Asked.{asked_then, asked_answer, refused_then}
use Rattle.omi_icv.specs.Icvs.{icv_string_from_scope}
use Rattle.omi_icv.specs.Spellings.{value_text}
use Rattle.omi_icv.proofs.icv_text.icv_text_of.Goals as goal

pub returns-in_err-value-clause-answer : goal.returns-in_err-value-clause-answer
unfolding icv_string_from_scope
returns-in_err-value-clause-answer g c =
    refused_then (λ value. Answer (Ok (value_text value.spelling value.numbers))) c.in_err-value.ensures.answer c.from_residual.ensures.1

pub returns-clause-answer : goal.returns-clause-answer
unfolding icv_string_from_scope
returns-clause-answer g c =
    asked_then c.icv_value_of.new.s _ c.in_ok-value.value c.icv_value_of.ensures.same.table.same c.in_ok-value.ensures.answer
    (asked_answer (ap Ok (c.value_text.ensures ∙ ap (value_text c.in_ok-value.value.spelling) c.as_slice.ensures.numbers)))
