use Rattle.std.proofs.Common.{◌≡◌, ◌<◌, ◌+◌, ◌-◌, ℕ, suc, List, ◌∷◌, cond, refl, sym, ap, subst, ◌∙◌, arith}
use Rattle.std.specs.Prelude.{Result, Ok, Err}
use Rattle.std.specs.List.{range_with_len}
use Rattle.std.proofs.lemmas.Result.{err_from_is_err_and}
use Rattle.omi_calls.specs.Asked.{Asked}
use Rattle.omi_calls.specs.Told.{Told}
use Rattle.omi_handle.specs.declared.handle.Held.{Held}
use Rattle.omi_layout.specs.Table.{thread_count}
use Rattle.omi_session.specs.declared.rc.Rc.{Rc}
use Rattle.omi_session.specs.declared.rc.Rc.TheVariants.{Unavailable}
use Rattle.omi_session.specs.Opened.{Opened}
use Rattle.omi_session.specs.Reads.{Answer, Answers, then_reads}
use Rattle.omi_session.proofs.Told.{stays_then}
use Rattle.omi_session.proofs.Asked.{asked_then, asked_refused, asked_true, asked_false, asked_answer}
use Rattle.omi_ask.specs.Threads.{begun, has_id, first_with}
use Rattle.omi_ask.proofs.threads.first_with.Goals as goal

-- the threads that are left begin with the next
next_range : (i n : ℕ) → i < n → range_with_len i (n - i) ≡ i ∷ range_with_len (i + 1) (n - (i + 1))
next_range i n below = let one : n - i ≡ suc (n - (i + 1)) = omega (arith, below) in ap (range_with_len i) one

-- what the next thread and those after it answer is what the threads that are left answer
more : {C F : Type 0} (told : C → Told) (asked : C → Asked) (s last : Opened C F) (w : List ℕ) (native i n : ℕ) (result : Result Held Rc)
    → i < n
    → Answers told asked s last result
    (then_reads (has_id w native i) (λ is. cond is (Answer (Ok (begun w i))) (first_with w native (range_with_len (i + 1) (n - (i + 1))))))
    → Answers told asked s last result (first_with w native (range_with_len i (n - i)))
unfolding first_with
more told asked s last w native i n result below h =
    subst (λ list. Answers told asked s last result (first_with w native list)) (sym (next_range i n below)) h

pub loop-i-init : goal.loop-i-init
loop-i-init g c = record {
  same = record { table = record { same = refl; order = refl; to_host = refl }; layout = refl; handles = refl };
  later = omega arith;
  bound = c.threads-i-end.ensures ∙ ap thread_count c.layout.ensures;
  rest = λ last result h.
      let all : thread_count c.args.s.now.layout - 0 ≡ thread_count c.args.s.now.layout = omega arith in
      subst (λ n. Answers g.C.Callbacks.told g.C.Callbacks.asked c.args.s.now last result (first_with c.args.s.now.layout c.args.native (range_with_len 0 n))) all h;
}

pub returns-in_err-has_id-clause-answer : goal.returns-in_err-has_id-clause-answer
returns-in_err-has_id-clause-answer g c =
    let p = err_from_is_err_and c.from_residual.result c.from_residual.ensures.1 in
    rw (p.1, p.2) (c.loop-i.invariant.rest _ (Err c.in_err-has_id.field-0.0)
    (more g.C.Callbacks.told g.C.Callbacks.asked c.loop-i.s _ c.args.s.now.layout c.args.native c.loop-i.i
    (thread_count c.args.s.now.layout) (Err c.in_err-has_id.field-0.0) (omega (arith, c.loop-i.invariant.bound, c.loop-i-test.true))
    (asked_refused _ (subst
    (λ w. Answers g.C.Callbacks.told g.C.Callbacks.asked c.loop-i.s c.has_id.new.s (Err c.in_err-has_id.field-0.0)
    (has_id w c.args.native c.loop-i.i))
    c.loop-i.invariant.same.layout c.in_err-has_id.ensures.answer))))

pub returns-then-branch-clause-answer : goal.returns-then-branch-clause-answer
returns-then-branch-clause-answer g c =
    c.loop-i.invariant.rest _ (Ok c.begun.result)
    (more g.C.Callbacks.told g.C.Callbacks.asked c.loop-i.s _ c.args.s.now.layout c.args.native c.loop-i.i
    (thread_count c.args.s.now.layout) (Ok c.begun.result) (omega (arith, c.loop-i.invariant.bound, c.loop-i-test.true))
    (asked_then c.has_id.new.s _ c.in_ok-has_id.field-0 c.has_id.ensures.same.table.same
    (subst
    (λ w. Answers g.C.Callbacks.told g.C.Callbacks.asked c.loop-i.s c.has_id.new.s (Ok c.in_ok-has_id.field-0)
    (has_id w c.args.native c.loop-i.i))
    c.loop-i.invariant.same.layout c.in_ok-has_id.ensures.answer)
    (asked_true _ c.if-branch.true (asked_answer
    (ap Ok (c.begun.ensures.value
    ∙ ap (λ w. begun w c.loop-i.i)
    (c.layout-then-branch.ensures ∙ c.has_id.ensures.same.layout ∙ c.loop-i.invariant.same.layout)))))))

pub loop-i-preserved : goal.loop-i-preserved
loop-i-preserved g c = record {
  same = stays_then _ _ _ _ c.loop-i.invariant.same c.has_id.ensures.same;
  later = omega (arith, c.loop-i.invariant.later, c.has_id.ensures.cause.later);
  bound = c.loop-i.invariant.bound;
  rest = λ last result h. c.loop-i.invariant.rest last result
      (more g.C.Callbacks.told g.C.Callbacks.asked c.loop-i.s _ c.args.s.now.layout c.args.native c.loop-i.i
      (thread_count c.args.s.now.layout) result (omega (arith, c.loop-i.invariant.bound, c.loop-i-test.true))
      (asked_then c.has_id.new.s _ c.in_ok-has_id.field-0 c.has_id.ensures.same.table.same
      (subst
      (λ w. Answers g.C.Callbacks.told g.C.Callbacks.asked c.loop-i.s c.has_id.new.s (Ok c.in_ok-has_id.field-0)
      (has_id w c.args.native c.loop-i.i))
      c.loop-i.invariant.same.layout c.in_ok-has_id.ensures.answer)
      (asked_false _ c.if-branch.false h)));
}

pub returns-clause-answer : goal.returns-clause-answer
unfolding first_with
returns-clause-answer g c =
    let none : thread_count c.args.s.now.layout - c.loop-i.i ≡ 0 =
    omega (arith, c.loop-i.invariant.bound, c.loop-i-test.false) in
    c.loop-i.invariant.rest _ (Err Unavailable)
    (subst
    (λ n. Answers g.C.Callbacks.told g.C.Callbacks.asked c.loop-i.s c.loop-i.s (Err Unavailable)
    (first_with c.args.s.now.layout c.args.native (range_with_len c.loop-i.i n)))
    (sym none) (asked_answer refl))
