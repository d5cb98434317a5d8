use Rattle.std.proofs.Common.{◌≡◌, ◌==◌, subst, refl, eq-eqb, arith, false, true}
use Rattle.std.specs.Prelude.{Ok, Err}
use Rattle.std.proofs.lemmas.Bool.Decides.{nat_tests}
use Rattle.omi_session.specs.Reads.{Answers}
use Rattle.omi_session.specs.Inquiry.{word_of, unchanged}
use Rattle.omi_session.proofs.Asked.{asked_then, asked_answer, refused_then}
use Rattle.omi_session.proofs.asking.unchanged.Goals as goal

pub returns-in_err-life-clause-answer : goal.returns-in_err-life-clause-answer
unfolding unchanged
returns-in_err-life-clause-answer g c =
    let life =
    subst
    (λ f. Answers g.C.Callbacks.told g.C.Callbacks.asked c.args.s.now c.word.new.s (Err c.in_err-life.field-0.0) (word_of c.args.s.now.layout c.args.held.addr f 0)) c.life_field.ensures c.in_err-life.ensures.answer in
    refused_then _ life c.from_residual.ensures.1

pub returns-then-life-held-clause-answer : goal.returns-then-life-held-clause-answer
unfolding unchanged
returns-then-life-held-clause-answer g c =
    let life =
    subst
    (λ f. Answers g.C.Callbacks.told g.C.Callbacks.asked c.args.s.now c.word.new.s (Ok c.in_ok-life.life) (word_of c.args.s.now.layout c.args.held.addr f 0)) c.life_field.ensures c.in_ok-life.ensures.answer in
    asked_then c.word.new.s _ c.in_ok-life.life c.word.ensures.same.table.same life
    (asked_answer (let same : c.in_ok-life.life == c.args.held.life ≡ true = eq-eqb _ _ c.if-life-held.true in rw same refl))

pub returns-else-life-held-clause-answer : goal.returns-else-life-held-clause-answer
unfolding unchanged
returns-else-life-held-clause-answer g c =
    let life =
    subst
    (λ f. Answers g.C.Callbacks.told g.C.Callbacks.asked c.args.s.now c.word.new.s (Ok c.in_ok-life.life) (word_of c.args.s.now.layout c.args.held.addr f 0)) c.life_field.ensures c.in_ok-life.ensures.answer in
    asked_then c.word.new.s _ c.in_ok-life.life c.word.ensures.same.table.same life
    (asked_answer (let other : c.in_ok-life.life == c.args.held.life ≡ false = grind (arith, nat_tests, c.if-life-held.false) in rw other refl))
