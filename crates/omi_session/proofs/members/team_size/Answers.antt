use Rattle.std.proofs.Common.{◌≡◌, ◌&&◌, ◌∙◌, refl, ap, arith, true, false, nat_le}
use Rattle.std.proofs.lemmas.Bool.Decides.{nat_tests}
use Rattle.omi_layout.specs.Table.{thread_count}
use Rattle.omi_layout.proofs.Arenas.{threads_of_valid}
use Rattle.omi_session.specs.Inquiry.{team_size}
use Rattle.omi_session.proofs.Asked.{asked_then, asked_answer, refused_then}
use Rattle.omi_session.proofs.members.team_size.Goals as goal

pub returns-in_err-size-clause-answer : goal.returns-in_err-size-clause-answer
unfolding team_size
returns-in_err-size-clause-answer g c = refused_then _ c.in_err-size.ensures.answer c.from_residual.ensures.1

pub returns-then-size-most-clause-answer : goal.returns-then-size-most-clause-answer
unfolding team_size
returns-then-size-most-clause-answer g c =
    let most : c.from-most.result ≡ thread_count c.args.s.now.layout =
    c.from-most.ensures ∙ c.threads.ensures ∙ ap thread_count (c.layout.ensures ∙ c.word.ensures.same.layout) in
    let within : nat_le 1 c.in_ok-size.size && nat_le c.in_ok-size.size (thread_count c.args.s.now.layout) ≡ true =
    grind (arith, nat_tests, most, c.if-size-most.true, c.if-size-ge1.true) in
    asked_then c.word.new.s _ c.in_ok-size.size c.word.ensures.same.table.same c.in_ok-size.ensures.answer
    (asked_answer (rw within refl))

pub returns-then-size-most-clause-few : goal.returns-then-size-most-clause-few
returns-then-size-most-clause-few g c =
    omega
    (arith, c.if-size-most.true, c.from-most.ensures, c.threads.ensures, threads_of_valid c.layout.result.now.table c.layout.result.now.valid)

pub returns-else-size-ge1-clause-answer : goal.returns-else-size-ge1-clause-answer
unfolding team_size
returns-else-size-ge1-clause-answer g c =
    let most : c.from-most.result ≡ thread_count c.args.s.now.layout =
    c.from-most.ensures ∙ c.threads.ensures ∙ ap thread_count (c.layout.ensures ∙ c.word.ensures.same.layout) in
    let past : nat_le 1 c.in_ok-size.size && nat_le c.in_ok-size.size (thread_count c.args.s.now.layout) ≡ false =
    grind (arith, nat_tests, most, c.else-size-ge1.either) in
    asked_then c.word.new.s _ c.in_ok-size.size c.word.ensures.same.table.same c.in_ok-size.ensures.answer
    (asked_answer (rw (c.number.ensures.value, past) refl))
