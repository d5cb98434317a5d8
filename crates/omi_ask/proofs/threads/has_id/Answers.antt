use Rattle.std.proofs.Common.{◌≡◌, ◌==◌, false, refl, ap, subst, ◌∙◌, eq-eqb, arith}
use Rattle.std.specs.Prelude.{Ok, Err}
use Rattle.std.proofs.lemmas.Bool.Decides.{nat_tests}
use Rattle.omi_layout.specs.declared.field.Field.TheVariants.{ThreadLife, ThreadNative}
use Rattle.omi_rep.specs.Records.{thread_address}
use Rattle.omi_session.specs.Reads.{Answers}
use Rattle.omi_session.specs.Inquiry.{word_of}
use Rattle.omi_session.proofs.Asked.{asked_then, asked_true, asked_false, asked_answer, refused_then}
use Rattle.omi_ask.specs.Threads.{has_id}
use Rattle.omi_ask.proofs.threads.has_id.Goals as goal

pub returns-in_err-life-clause-answer : goal.returns-in_err-life-clause-answer
unfolding has_id
returns-in_err-life-clause-answer g c =
    let at : c.thread_at-addr.result ≡ thread_address c.args.s.now.layout c.args.i =
    c.thread_at-addr.ensures.address ∙ ap (λ w. thread_address w c.args.i) c.layout.ensures in
    let life =
    subst
    (λ a. Answers g.C.Callbacks.told g.C.Callbacks.asked c.args.s.now c.word.new.s (Err c.in_err-life.field-0.0) (word_of c.args.s.now.layout a ThreadLife 0)) at c.in_err-life.ensures.answer in
    refused_then _ life c.from_residual.ensures.1

pub returns-then-life-ne1-clause-answer : goal.returns-then-life-ne1-clause-answer
unfolding has_id
returns-then-life-ne1-clause-answer g c =
    let at : c.thread_at-addr.result ≡ thread_address c.args.s.now.layout c.args.i =
    c.thread_at-addr.ensures.address ∙ ap (λ w. thread_address w c.args.i) c.layout.ensures in
    let life =
    subst
    (λ a. Answers g.C.Callbacks.told g.C.Callbacks.asked c.args.s.now c.word.new.s (Ok c.in_ok-life.life) (word_of c.args.s.now.layout a ThreadLife 0)) at c.in_ok-life.ensures.answer in
    let other : c.in_ok-life.life == 1 ≡ false = grind (arith, nat_tests, c.if-life-ne1.true) in
    asked_then c.word.new.s _ c.in_ok-life.life c.word.ensures.same.table.same life
    (asked_false _ other (asked_answer refl))

pub returns-in_err-id-clause-answer : goal.returns-in_err-id-clause-answer
unfolding has_id
returns-in_err-id-clause-answer g c =
    let at : c.thread_at-addr.result ≡ thread_address c.args.s.now.layout c.args.i =
    c.thread_at-addr.ensures.address ∙ ap (λ w. thread_address w c.args.i) c.layout.ensures in
    let life =
    subst
    (λ a. Answers g.C.Callbacks.told g.C.Callbacks.asked c.args.s.now c.word.new.s (Ok c.in_ok-life.life) (word_of c.args.s.now.layout a ThreadLife 0)) at c.in_ok-life.ensures.answer in
    let id = subst (λ a. Answers g.C.Callbacks.told g.C.Callbacks.asked c.word.new.s c.word-2.new.s (Err c.in_err-id.field-0.0) (word_of c.args.s.now.layout a ThreadNative 0)) at
    (subst (λ w. Answers g.C.Callbacks.told g.C.Callbacks.asked c.word.new.s c.word-2.new.s (Err c.in_err-id.field-0.0) (word_of w c.thread_at-addr.result ThreadNative 0)) c.word.ensures.same.layout c.in_err-id.ensures.answer) in
    asked_then c.word.new.s _ c.in_ok-life.life c.word.ensures.same.table.same life
    (asked_true _ (eq-eqb _ _ c.if-life-ne1.false) (refused_then _ id c.from_residual-in_err-id.ensures.1))

pub returns-clause-answer : goal.returns-clause-answer
unfolding has_id
returns-clause-answer g c =
    let at : c.thread_at-addr.result ≡ thread_address c.args.s.now.layout c.args.i =
    c.thread_at-addr.ensures.address ∙ ap (λ w. thread_address w c.args.i) c.layout.ensures in
    let life =
    subst
    (λ a. Answers g.C.Callbacks.told g.C.Callbacks.asked c.args.s.now c.word.new.s (Ok c.in_ok-life.life) (word_of c.args.s.now.layout a ThreadLife 0)) at c.in_ok-life.ensures.answer in
    let id = subst (λ a. Answers g.C.Callbacks.told g.C.Callbacks.asked c.word.new.s c.word-2.new.s (Ok c.in_ok-id.id) (word_of c.args.s.now.layout a ThreadNative 0)) at
    (subst (λ w. Answers g.C.Callbacks.told g.C.Callbacks.asked c.word.new.s c.word-2.new.s (Ok c.in_ok-id.id) (word_of w c.thread_at-addr.result ThreadNative 0)) c.word.ensures.same.layout c.in_ok-id.ensures.answer) in
    asked_then c.word.new.s _ c.in_ok-life.life c.word.ensures.same.table.same life
    (asked_true _ (eq-eqb _ _ c.if-life-ne1.false)
    (asked_then c.word-2.new.s _ c.in_ok-id.id c.word-2.ensures.same.table.same id (asked_answer refl)))
