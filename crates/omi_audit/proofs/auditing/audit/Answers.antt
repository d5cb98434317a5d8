use Rattle.std.proofs.Common.{◌≡◌, ◌∙◌, sym, subst}
use Rattle.std.specs.Prelude.{IfOk}
use Rattle.omi_audit.specs.InOrder.{AsksInOrder}
use Rattle.omi_audit.specs.Listed.{asked_words}
use Rattle.omi_audit.specs.Promise.{GivesState, RefusesNoReached}
use Rattle.omi_audit.specs.Verdicts.{verdict}
use Rattle.omi_audit.proofs.Answered.{answer_faults, answers_asked, answers_verdict, answers_state, answers_reached}
use Rattle.omi_audit.proofs.auditing.audit.Goals as goal

pub returns : goal.returns
returns g c = record {
  verdict = λ memory tells.
      subst (λ r. IfOk r (λ v. v ≡ verdict c.args.s.now.layout memory)) (sym c.answer_of.ensures)
      (answers_verdict c.args.s.now.layout memory c.judge_all.result (c.judge_all.ensures.judged memory tells));
  shown = λ memory tells.
      subst (λ r. IfOk r (GivesState c.args.s.now.layout memory)) (sym c.answer_of.ensures)
      (answers_state c.args.s.now.layout memory c.judge_all.ensures.valid c.judge_all.result (c.judge_all.ensures.judged memory tells));
  reached = λ memory tells.
      subst (λ r. IfOk r (RefusesNoReached c.args.s.now.layout memory)) (sym c.answer_of.ensures)
      (answers_reached c.args.s.now.layout memory c.judge_all.ensures.valid c.judge_all.result (c.judge_all.ensures.judged memory tells));
  reads = λ memory tells.
      let w = c.args.s.now.layout in
      let before = g.C.Callbacks.asked c.args.s.now.table.calls in
      let now = g.C.Callbacks.asked c.judge_all.new.s.table.calls in
      let told = g.C.Callbacks.told c.args.s.now.table.calls in
      subst (λ r. AsksInOrder told memory (asked_words w memory) (verdict w memory) before now r) (sym c.answer_of.ensures)
      (answers_asked told memory (asked_words w memory) before now (verdict w memory) c.judge_all.result
      (answers_verdict w memory c.judge_all.result (c.judge_all.ensures.judged memory tells)) (c.judge_all.ensures.reads memory tells));
  same = c.judge_all.ensures.same;
  cause = record {
    later = c.judge_all.ensures.cause.later;
    failed = λ is. c.judge_all.ensures.cause.failed (answer_faults c.judge_all.result (sym c.answer_of.ensures ∙ is));
  };
}
