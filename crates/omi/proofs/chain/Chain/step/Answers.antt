use Rattle.std.proofs.Common.{inl, inr, refl, sym, ap, subst, ◌∙◌}
use Rattle.std.specs.Prelude.{Err}
use Rattle.std.proofs.lemmas.Result.{err_from_is_err_and}
use Rattle.std.specs.FinMap.{get}
use Rattle.omi_session.specs.Made.{IsMade, Makes, StandsFor}
use Rattle.omi_session.specs.Reads.{answer_on}
use Rattle.omi_session.proofs.Handed.{answered_is}
use Rattle.omi.specs.Chains.{as_step}
use Rattle.omi.proofs.chain.Chain.step.Goals as goal

pub returns-in_err-next-clause-handles : goal.returns-in_err-next-clause-handles
returns-in_err-next-clause-handles g c =
    let makes = subst (λ made. Makes g.W.Way.kind c.args.s.now.handles c.next.new.s.handles made) (sym c.pair_made-made.ensures) c.next.ensures.handles in
    let p = err_from_is_err_and c.from_residual-in_err-next.result c.from_residual-in_err-next.ensures.1 in
    rw p.1 (c.in_err-next.ensures.handles g.W.Way.kind c.args.s.now.handles makes)

pub returns-clause-handles : goal.returns-clause-handles
returns-clause-handles g c =
    let makes = subst (λ made. Makes g.W.Way.kind c.args.s.now.handles c.next.new.s.handles made) (sym c.pair_made-made.ensures) c.next.ensures.handles in
    rw c.handle_at.ensures (c.in_ok-next.ensures.handles g.W.Way.kind c.args.s.now.handles makes)

pub returns-in_err-next-clause-answer : goal.returns-in_err-next-clause-answer
returns-in_err-next-clause-answer g c = λ memory tells.
    let made = subst (λ made. IsMade c.next.new.s.handles made (answer_on memory (g.W.Way.reads c.args.s.now.layout (get c.args.s.now.handles.held (g.W.Way.pair c.args.handle))))) (sym c.pair_made-made.ensures) (answered_is c.next.ensures.answer memory tells) in
    let p = err_from_is_err_and c.from_residual-in_err-next.result c.from_residual-in_err-next.ensures.1 in
    rw (p.1, p.2) (c.in_err-next.ensures.answer (answer_on memory (g.W.Way.reads c.args.s.now.layout (get c.args.s.now.handles.held (g.W.Way.pair c.args.handle)))) made)

pub returns-clause-answer : goal.returns-clause-answer
returns-clause-answer g c = λ memory tells.
    let made = subst (λ made. IsMade c.next.new.s.handles made (answer_on memory (g.W.Way.reads c.args.s.now.layout (get c.args.s.now.handles.held (g.W.Way.pair c.args.handle))))) (sym c.pair_made-made.ensures) (answered_is c.next.ensures.answer memory tells) in
    rw c.handle_at.ensures (c.in_ok-next.ensures.answer (answer_on memory (g.W.Way.reads c.args.s.now.layout (get c.args.s.now.handles.held (g.W.Way.pair c.args.handle)))) made)

pub returns-in_err-add-clause-reads : goal.returns-in_err-add-clause-reads
returns-in_err-add-clause-reads g c = λ memory tells.
    let p = err_from_is_err_and c.from_residual.result c.from_residual.ensures.1 in
    inr (ap (as_step g.W.Way.pair) (p.1 ∙ ap Err (p.2 ∙ c.in_err-add.ensures.memory)), refl)

pub returns-in_err-next-clause-reads : goal.returns-in_err-next-clause-reads
returns-in_err-next-clause-reads g c = λ memory tells.
    let by = c.next.ensures.answer.ran memory tells in
    let stands = subst (λ made. StandsFor c.next.new.s.handles made by.found) (sym c.pair_made-made.ensures) by.stands in
    let p = err_from_is_err_and c.from_residual-in_err-next.result c.from_residual-in_err-next.ensures.1 in
    inl (record {
      found = by.found;
      ran = rw (ap (λ k. g.C.Callbacks.asked k.calls) c.judged.ensures.table) by.ran;
      step = rw (p.1, p.2) (c.in_err-next.ensures.step by.found stands);
    })

pub returns-clause-reads : goal.returns-clause-reads
returns-clause-reads g c = λ memory tells.
    let by = c.next.ensures.answer.ran memory tells in
    let stands = subst (λ made. StandsFor c.next.new.s.handles made by.found) (sym c.pair_made-made.ensures) by.stands in
    inl (record {
      found = by.found;
      ran = rw (ap (λ k. g.C.Callbacks.asked k.calls) c.judged.ensures.table) by.ran;
      step = rw c.handle_at.ensures (c.in_ok-next.ensures.step by.found stands);
    })
