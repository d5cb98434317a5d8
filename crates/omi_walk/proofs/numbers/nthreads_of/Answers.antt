use Rattle.std.proofs.Common.{refl, ap, ◌∙◌}
use Rattle.std.specs.Prelude.{Ok, Err}
use Rattle.std.specs.FinMap.{get}
use Rattle.omi_session.specs.Made.{task_pair}
use Rattle.omi_handle.specs.Ledger.{Ledger}
use Rattle.omi_icv.specs.declared.icv_text.Value.{Value}
use Rattle.omi_icv.specs.Icvs.{icv_value}
use Rattle.omi_icv.specs.declared.scoped.Scoped.TheVariants as scoped
use Rattle.omi_walk.specs.Fault.{walked, fault_of}
use Rattle.omi_walk.specs.AskWords.{ask_nthreads}
use Rattle.omi_walk.proofs.Goes.{of_answers, walks_ok, walks_err, walks_unsaid}
use Rattle.omi_numbers.specs.declared.variables.TheConstants.{NTHREADS_VAR}
use Rattle.omi_walk.proofs.numbers.nthreads_of.Goals as goal

-- reads: what was asked

pub returns-in_err-list_of-in-Ok-clause-reads : goal.returns-in_err-list_of-in-Ok-clause-reads
unfolding ask_nthreads icv_value
returns-in_err-list_of-in-Ok-clause-reads g c =
    let told = g.C.Callbacks.told in
    let asked = g.C.Callbacks.asked in
    let s = c.args.s.now in
    let pair = task_pair c.args.k in
    walks_unsaid told asked s _ (λ (v : Value). v.numbers) (Ok c.in-Ok.value) _ _ (λ e. (cc))
    (of_answers told asked s _ (Ok c.in-Ok.value) (Ok c.in-Ok.value) (walked (get s.handles.held pair)) (icv_value s.layout (get s.handles.held) (scoped.Task c.args.k) NTHREADS_VAR) refl refl c.in-Ok.ensures.answer)
    c.from_residual.ensures.1

pub returns-in_ok-list_of-in-Ok-clause-reads : goal.returns-in_ok-list_of-in-Ok-clause-reads
unfolding ask_nthreads icv_value
returns-in_ok-list_of-in-Ok-clause-reads g c =
    let told = g.C.Callbacks.told in
    let asked = g.C.Callbacks.asked in
    let s = c.args.s.now in
    let pair = task_pair c.args.k in
    walks_ok told asked s _ (λ (v : Value). v.numbers) c.in-Ok.value _ _
    (c.in_ok-list_of-in-Ok.ensures ∙ c.as_slice.ensures.numbers)
    (of_answers told asked s _ (Ok c.in-Ok.value) (Ok c.in-Ok.value) (walked (get s.handles.held pair)) (icv_value s.layout (get s.handles.held) (scoped.Task c.args.k) NTHREADS_VAR) refl refl c.in-Ok.ensures.answer)

pub returns-in-Err-clause-reads : goal.returns-in-Err-clause-reads
unfolding ask_nthreads icv_value
returns-in-Err-clause-reads g c =
    let told = g.C.Callbacks.told in
    let asked = g.C.Callbacks.asked in
    let s = c.args.s.now in
    let pair = task_pair c.args.k in
    walks_err told asked s _ (λ (v : Value). v.numbers) c.fault_of.result _
    (of_answers told asked s _ (Err c.in-Err.rc) (Err c.fault_of.result) (walked (get s.handles.held pair)) (icv_value s.layout (get s.handles.held) (scoped.Task c.args.k) NTHREADS_VAR) refl
    (ap Err (c.fault_of.ensures ∙ ap (λ (l : Ledger). fault_of (get l.held pair) c.in-Err.rc) c.icv_value.ensures.same.handles)) c.in-Err.ensures.answer)
