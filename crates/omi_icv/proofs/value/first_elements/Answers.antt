use Rattle.std.proofs.Common.{◌+◌, refl, subst, sym, ap, arith}
use Rattle.std.specs.Prelude.{Ok, Err}
use Rattle.std.proofs.lemmas.Grind.{common_steps}
use Rattle.std.proofs.lemmas.Result.{err_from_is_err_and}
use Rattle.omi_layout.specs.declared.field.Field.TheVariants.{TaskNthreads}
use Rattle.omi_session.specs.Reads.{Answers}
use Rattle.omi_session.specs.Inquiry.{word_of}
use Rattle.omi_session.proofs.Asked.{asked_answer}
use Rattle.omi_icv.specs.Values.{first_elements}
use Rattle.omi_icv.proofs.Elements.{one_more, refused_there}
use Rattle.omi_session.proofs.Told.{stays_then}
use Rattle.omi_icv.proofs.value.first_elements.Goals as goal

pub loop-at-init : goal.loop-at-init
unfolding first_elements
loop-at-init g c = record {
  same = record { table = record { same = refl; order = refl; to_host = refl }; layout = refl; handles = refl };
  later = omega arith;
  many = grind (arith, common_steps, c.new-numbers.ensures);
  read = asked_answer (ap Ok c.new-numbers.ensures);
}

pub returns-in_err-element-clause-answer : goal.returns-in_err-element-clause-answer
returns-in_err-element-clause-answer g c =
    let p = err_from_is_err_and c.from_residual.result c.from_residual.ensures.1 in
    rw (p.1, p.2) (refused_there _ _ c.args.s.now c.loop-at.s _ c.args.s.now.layout c.args.address c.loop-at.at c.args.count c.loop-at.numbers c.in_err-element.field-0.0
    c.loop-at.invariant.same.table.same (omega (arith, c.loop-at-test.true)) c.loop-at.invariant.read
    (subst (λ w. Answers g.C.Callbacks.told g.C.Callbacks.asked c.loop-at.s c.word.new.s (Err c.in_err-element.field-0.0) (word_of w c.args.address TaskNthreads c.loop-at.at)) c.loop-at.invariant.same.layout c.in_err-element.ensures.answer))

pub loop-at-preserved : goal.loop-at-preserved
loop-at-preserved g c = record {
  same = stays_then _ _ _ _ c.loop-at.invariant.same c.word.ensures.same;
  later = omega (arith, c.loop-at.invariant.later, c.word.ensures.cause.later);
  many = grind (arith, common_steps, c.push.ensures, c.loop-at.invariant.many);
  read =
      let element =
      subst
      (λ w. Answers g.C.Callbacks.told g.C.Callbacks.asked c.loop-at.s c.word.new.s (Ok c.in_ok-element.element) (word_of w c.args.address TaskNthreads c.loop-at.at)) c.loop-at.invariant.same.layout c.in_ok-element.ensures.answer in
      let more = one_more _ _ c.args.s.now c.loop-at.s _ c.args.s.now.layout c.args.address c.loop-at.at c.loop-at.numbers c.in_ok-element.element
      c.loop-at.invariant.same.table.same c.word.ensures.same.table.same c.loop-at.invariant.read element in
      subst (λ ns. Answers g.C.Callbacks.told g.C.Callbacks.asked c.args.s.now c.word.new.s (Ok ns) (first_elements c.args.s.now.layout c.args.address (c.loop-at.at + 1))) (sym c.push.ensures) more;
}
