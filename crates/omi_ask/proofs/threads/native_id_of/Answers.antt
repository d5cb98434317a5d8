use Rattle.std.proofs.Common.{◌≡◌, ◌==◌, false, refl, subst, eq-eqb, arith}
use Rattle.std.proofs.lemmas.Bool.Decides.{nat_tests}
use Rattle.omi_layout.specs.declared.field.Field.TheVariants.{ThreadNative}
use Rattle.omi_session.specs.Reads.{Answers}
use Rattle.omi_session.specs.Inquiry.{word_of}
use Rattle.omi_session.proofs.Asked.{asked_then, asked_true, asked_false, asked_answer, refused_then}
use Rattle.omi_ask.specs.Threads.{native_id}
use Rattle.omi_ask.proofs.threads.native_id_of.Goals as goal

pub returns-in_err-thread-clause-answer : goal.returns-in_err-thread-clause-answer
unfolding native_id
returns-in_err-thread-clause-answer g c =
    refused_then _ (asked_answer c.in_err-thread.ensures.value) c.from_residual.ensures.1

pub returns-then-kind-ne0-clause-answer : goal.returns-then-kind-ne0-clause-answer
unfolding native_id
returns-then-kind-ne0-clause-answer g c =
    let other : c.args.kind == 0 ≡ false = grind (arith, nat_tests, c.if-kind-ne0.true) in
    asked_then c.args.s.now _ c.in_ok-thread.thread refl (asked_answer c.in_ok-thread.ensures.value)
    (asked_false _ other (asked_answer refl))

pub returns-in_err-thread-2-clause-answer : goal.returns-in_err-thread-2-clause-answer
unfolding native_id
returns-in_err-thread-2-clause-answer g c =
    asked_then c.args.s.now _ c.in_ok-thread.thread refl (asked_answer c.in_ok-thread.ensures.value)
    (asked_true _ (eq-eqb _ _ c.if-kind-ne0.false) (refused_then _ c.in_err-thread-2.ensures.answer c.from_residual-in_err-thread-2.ensures.1))

pub returns-clause-answer : goal.returns-clause-answer
unfolding native_id
returns-clause-answer g c =
    asked_then c.args.s.now _ c.in_ok-thread.thread refl (asked_answer c.in_ok-thread.ensures.value)
    (asked_true _ (eq-eqb _ _ c.if-kind-ne0.false)
    (asked_then c.unchanged.new.s _ c.in_ok-thread-2.thread c.unchanged.ensures.same.table.same c.in_ok-thread-2.ensures.answer
    (subst (λ w. Answers g.C.Callbacks.told g.C.Callbacks.asked c.unchanged.new.s c.word.new.s c.word.result (word_of w c.in_ok-thread-2.thread.addr ThreadNative 0)) c.unchanged.ensures.same.layout c.word.ensures.answer)))
