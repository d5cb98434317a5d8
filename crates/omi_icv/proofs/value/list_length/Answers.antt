use Rattle.std.proofs.Common.{◌≡◌, ◌&&◌, refl, arith, true, false, nat_le}
use Rattle.std.proofs.lemmas.Bool.Decides.{nat_tests}
use Rattle.omi_session.proofs.Asked.{asked_then, asked_answer, refused_then}
use Rattle.omi_icv.specs.Values.{list_length}
use Rattle.omi_icv.proofs.value.list_length.Goals as goal

pub returns-in_err-count-clause-answer : goal.returns-in_err-count-clause-answer
unfolding list_length
returns-in_err-count-clause-answer g c =
    refused_then _ c.in_err-count.ensures.answer c.from_residual.ensures.1

pub returns-then-count-clause-answer : goal.returns-then-count-clause-answer
unfolding list_length
returns-then-count-clause-answer g c =
    let within : nat_le 1 c.in_ok-count.count && nat_le c.in_ok-count.count 4 ≡ true =
    grind (arith, nat_tests, c.if-count.true, c.if-count-ge1.true) in
    asked_then c.word.new.s _ c.in_ok-count.count c.word.ensures.same.table.same c.in_ok-count.ensures.answer
    (asked_answer (rw within refl))

pub returns-else-count-ge1-clause-answer : goal.returns-else-count-ge1-clause-answer
unfolding list_length
returns-else-count-ge1-clause-answer g c =
    let past : nat_le 1 c.in_ok-count.count && nat_le c.in_ok-count.count 4 ≡ false =
    grind (arith, nat_tests, c.else-count-ge1.either) in
    asked_then c.word.new.s _ c.in_ok-count.count c.word.ensures.same.table.same c.in_ok-count.ensures.answer
    (asked_answer (rw (c.number.ensures.value, past) refl))
