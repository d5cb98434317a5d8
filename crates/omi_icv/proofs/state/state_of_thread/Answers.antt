-- The state of a thread: what each way through the calls answers.
use Rattle.std.proofs.Common.{◌≡◌, ◌==◌, ◌∙◌, ℕ, List, true, false, refl, subst, arith}
use Rattle.std.specs.Prelude.{Result, Ok}
use Rattle.std.proofs.lemmas.Bool.Decides.{nat_tests}
use Rattle.omi_layout.specs.declared.field.Field.TheVariants.{RuntimeDebug, ThreadState}
use Rattle.omi_rep.specs.Records.{runtime_address}
use Rattle.omi_calls.specs.Asked.{Asked}
use Rattle.omi_calls.specs.Told.{Told}
use Rattle.omi_session.specs.declared.rc.Rc.{Rc}
use Rattle.omi_session.specs.Opened.{Opened}
use Rattle.omi_session.specs.Reads.{Answers}
use Rattle.omi_session.specs.Inquiry.{word_of}
use Rattle.omi_session.proofs.Asked.{asked_then, asked_true, asked_false, asked_answer, refused_then}
use Rattle.omi_icv.specs.StateWords.{state}
use Rattle.omi_icv.proofs.state.state_of_thread.Goals as goal

-- what was read of the runtime record and of a thread's, in the layout before the reads
module _ {C F : Type 0} {told : C → Told} {asked : C → Asked} {s t : Opened C F} {v w : List ℕ}
    (same : v ≡ w) {result : Result ℕ Rc} where
  debug_there : Answers told asked s t result (word_of v (runtime_address v) RuntimeDebug 0)
      → Answers told asked s t result (word_of w (runtime_address w) RuntimeDebug 0)
  debug_there read =
      subst (λ w. Answers told asked s t result (word_of w (runtime_address w) RuntimeDebug 0)) same
      read

  state_there : (address : ℕ) → Answers told asked s t result (word_of v address ThreadState 0)
      → Answers told asked s t result (word_of w address ThreadState 0)
  state_there address read =
      subst (λ w. Answers told asked s t result (word_of w address ThreadState 0)) same read

pub returns-in_err-thread-clause-answer : goal.returns-in_err-thread-clause-answer
unfolding state
returns-in_err-thread-clause-answer g c =
    refused_then _ c.in_err-thread.ensures.answer c.from_residual.ensures.1

pub returns-in_err-debug-clause-answer : goal.returns-in_err-debug-clause-answer
unfolding state
returns-in_err-debug-clause-answer g c =
    let found = c.object_of.ensures.same in
    let debug = debug_there found.layout c.in_err-debug.ensures.answer in
    asked_then c.object_of.new.s _ c.in_ok-thread.thread found.table.same c.in_ok-thread.ensures.answer
    (refused_then _ debug c.from_residual-in_err-debug.ensures.1)

pub returns-then-debug-eq0-clause-answer : goal.returns-then-debug-eq0-clause-answer
unfolding state
returns-then-debug-eq0-clause-answer g c =
    let found = c.object_of.ensures.same in
    let read = c.runtime_word.ensures.same in
    let debug = debug_there found.layout c.in_ok-debug.ensures.answer in
    let off : c.in_ok-debug.debug == 0 ≡ true = grind (arith, nat_tests, c.if-debug-eq0.true) in
    asked_then c.object_of.new.s _ c.in_ok-thread.thread found.table.same c.in_ok-thread.ensures.answer
    (asked_then c.runtime_word.new.s _ c.in_ok-debug.debug read.table.same debug
    (asked_true _ off (asked_answer refl)))

pub returns-in_err-state-clause-answer : goal.returns-in_err-state-clause-answer
unfolding state
returns-in_err-state-clause-answer g c =
    let found = c.object_of.ensures.same in
    let read = c.runtime_word.ensures.same in
    let debug = debug_there found.layout c.in_ok-debug.ensures.answer in
    let kept =
    state_there (read.layout ∙ found.layout) c.in_ok-thread.thread.addr
    c.in_err-state.ensures.answer in
    let on : c.in_ok-debug.debug == 0 ≡ false = grind (arith, nat_tests, c.if-debug-eq0.false) in
    asked_then c.object_of.new.s _ c.in_ok-thread.thread found.table.same c.in_ok-thread.ensures.answer
    (asked_then c.runtime_word.new.s _ c.in_ok-debug.debug read.table.same debug
    (asked_false _ on (refused_then _ kept c.from_residual-in_err-state.ensures.1)))

pub returns-clause-answer : goal.returns-clause-answer
unfolding state
returns-clause-answer g c =
    let found = c.object_of.ensures.same in
    let read = c.runtime_word.ensures.same in
    let debug = debug_there found.layout c.in_ok-debug.ensures.answer in
    let kept =
    state_there (read.layout ∙ found.layout) c.in_ok-thread.thread.addr c.in_ok-state.ensures.answer in
    let on : c.in_ok-debug.debug == 0 ≡ false = grind (arith, nat_tests, c.if-debug-eq0.false) in
    asked_then c.object_of.new.s _ c.in_ok-thread.thread found.table.same c.in_ok-thread.ensures.answer
    (asked_then c.runtime_word.new.s _ c.in_ok-debug.debug read.table.same debug
    (asked_false _ on
    (asked_then c.word.new.s _ c.in_ok-state.state c.word.ensures.same.table.same kept
    (asked_answer (λ i. Ok (c.state_of.ensures i, c.wait_of.ensures i))))))
