use Rattle.std.proofs.Common.{◌≡◌, ◌==◌, false, refl, subst, eq-eqb, arith}
use Rattle.std.proofs.lemmas.Bool.Decides.{nat_tests}
use Rattle.omi_session.specs.Reads.{Answers}
use Rattle.omi_session.specs.Inquiry.{follow_some, lead}
use Rattle.omi_session.proofs.Asked.{asked_then, asked_true, asked_false, asked_answer, refused_then}
use Rattle.omi_session.proofs.asking.follow_some.Goals as goal

pub returns-in_err-pointer-clause-answer : goal.returns-in_err-pointer-clause-answer
unfolding follow_some
returns-in_err-pointer-clause-answer g c =
    refused_then _ c.in_err-pointer.ensures.answer c.from_residual.ensures.1

pub returns-then-pointer-eq0-clause-answer : goal.returns-then-pointer-eq0-clause-answer
unfolding follow_some
returns-then-pointer-eq0-clause-answer g c =
    asked_then c.word.new.s _ c.in_ok-pointer.pointer c.word.ensures.same.table.same c.in_ok-pointer.ensures.answer
    (asked_true _ (eq-eqb _ _ c.if-pointer-eq0.true) (asked_answer refl))

pub returns-clause-answer : goal.returns-clause-answer
unfolding follow_some
returns-clause-answer g c =
    asked_then c.word.new.s _ c.in_ok-pointer.pointer c.word.ensures.same.table.same c.in_ok-pointer.ensures.answer
    (asked_false _ (let other : c.in_ok-pointer.pointer == 0 ≡ false = grind (arith, nat_tests, c.if-pointer-eq0.false) in other)
    (subst (λ w. Answers g.C.Callbacks.told g.C.Callbacks.asked c.word.new.s c.lead.new.s c.lead.result (lead w c.args.kind c.args.field c.in_ok-pointer.pointer)) c.word.ensures.same.layout c.lead.ensures.answer))
