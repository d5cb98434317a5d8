use Rattle.std.specs.FinMap.{get}
use Rattle.omi_session.specs.Made.{thread_pair}
use Rattle.std.proofs.Common.{Some, refl, ap, ◌∙◌}
use Rattle.std.specs.Prelude.{Ok, Err}
use Rattle.omi_handle.specs.Ledger.{Ledger}
use Rattle.omi_walk.proofs.Goes.{of_answers}
use Rattle.omi_icv.specs.StateWords.{state}
use Rattle.omi_walk.specs.Asking.{maybe_untracked}
use Rattle.omi_walk.specs.Fault.{untracked}
use Rattle.omi_walk.specs.AskThreads.{ask_state}
use Rattle.omi_walk.proofs.threads.state_of.Goals as goal

-- reads: what was asked

pub returns-in-Ok-clause-reads : goal.returns-in-Ok-clause-reads
unfolding ask_state
returns-in-Ok-clause-reads g c =
    let told = g.C.Callbacks.told in
    let asked = g.C.Callbacks.asked in
    let s = c.args.s.now in
    let pair = thread_pair c.args.t in
    of_answers told asked s _ (Ok c.in-Ok.state) (Ok (Some c.in-Ok.state))
    (maybe_untracked (get s.handles.held pair))
    (state s.layout (get s.handles.held pair)) refl refl c.in-Ok.ensures.answer

pub returns-in-Err-clause-reads : goal.returns-in-Err-clause-reads
unfolding ask_state
returns-in-Err-clause-reads g c =
    let told = g.C.Callbacks.told in
    let asked = g.C.Callbacks.asked in
    let s = c.args.s.now in
    let pair = thread_pair c.args.t in
    of_answers told asked s _ (Err c.in-Err.rc) _ (maybe_untracked (get s.handles.held pair))
    (state s.layout (get s.handles.held pair)) refl
    (c.untracked.ensures ∙ ap (λ (l : Ledger). untracked (get l.held pair) c.in-Err.rc) c.get_state.ensures.same.handles) c.in-Err.ensures.answer
