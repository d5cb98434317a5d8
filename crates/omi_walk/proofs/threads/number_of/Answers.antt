use Rattle.std.proofs.Common.{refl, Some, ap, ◌∙◌}
use Rattle.std.specs.FinMap.{get}
use Rattle.omi_session.specs.Made.{thread_pair}
use Rattle.std.specs.Prelude.{Ok, Err}
use Rattle.omi_handle.specs.Ledger.{Ledger}
use Rattle.omi_walk.proofs.Goes.{of_answers}
use Rattle.omi_icv.specs.declared.scoped.Scoped.TheVariants as scoped
use Rattle.omi_icv.specs.Icvs.{icv_from_scope}
use Rattle.omi_walk.specs.Asking.{maybe_absent}
use Rattle.omi_walk.specs.Fault.{absent}
use Rattle.omi_walk.specs.AskThreads.{ask_number}
use Rattle.omi_numbers.specs.declared.variables.TheConstants.{THREAD_NUM_VAR}
use Rattle.omi_walk.proofs.threads.number_of.Goals as goal

-- reads: what was asked

pub returns-in-Ok-clause-reads : goal.returns-in-Ok-clause-reads
unfolding ask_number icv_from_scope
returns-in-Ok-clause-reads g c =
    let told = g.C.Callbacks.told in
    let asked = g.C.Callbacks.asked in
    let s = c.args.s.now in
    let pair = thread_pair c.args.t in
    of_answers told asked s _ (Ok c.in-Ok.number) (Ok (Some c.in-Ok.number))
    (maybe_absent (get s.handles.held pair))
    (icv_from_scope s.layout (get s.handles.held) (scoped.Thread c.args.t) THREAD_NUM_VAR) refl refl c.in-Ok.ensures.answer

pub returns-in-Err-clause-reads : goal.returns-in-Err-clause-reads
unfolding ask_number icv_from_scope
returns-in-Err-clause-reads g c =
    let told = g.C.Callbacks.told in
    let asked = g.C.Callbacks.asked in
    let s = c.args.s.now in
    let pair = thread_pair c.args.t in
    of_answers told asked s _ (Err c.in-Err.rc) _ (maybe_absent (get s.handles.held pair))
    (icv_from_scope s.layout (get s.handles.held) (scoped.Thread c.args.t) THREAD_NUM_VAR) refl
    (c.absent.ensures ∙ ap (λ (l : Ledger). absent (get l.held pair) c.in-Err.rc) c.get_icv_from_scope.ensures.same.handles) c.in-Err.ensures.answer
