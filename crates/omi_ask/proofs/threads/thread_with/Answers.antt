use Rattle.std.proofs.Common.{◌≡◌, ◌==◌, false, refl, eq-eqb, arith}
use Rattle.std.proofs.lemmas.Bool.Decides.{nat_tests}
use Rattle.omi_session.proofs.Asked.{asked_true, asked_false, asked_answer}
use Rattle.omi_ask.specs.Threads.{thread_with}
use Rattle.omi_ask.proofs.threads.thread_with.Goals as goal

pub returns-then-kind-eq0-clause-answer : goal.returns-then-kind-eq0-clause-answer
unfolding thread_with
returns-then-kind-eq0-clause-answer g c =
    asked_true _ (eq-eqb _ _ c.if-kind-eq0.true) c.first_with.ensures.answer

pub returns-else-kind-eq0-clause-answer : goal.returns-else-kind-eq0-clause-answer
unfolding thread_with
returns-else-kind-eq0-clause-answer g c =
    let other : c.args.kind == 0 ≡ false = grind (arith, nat_tests, c.if-kind-eq0.false) in
    asked_false _ other (asked_answer refl)
