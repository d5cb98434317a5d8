use Rattle.std.specs.FinMap.{get}
use Rattle.omi_icv.specs.declared.scoped.Scoped.TheVariants as scoped
use Rattle.omi_icv.specs.Icvs.{icv_from_scope}
use Rattle.std.proofs.Common.{refl, ap, ◌∙◌}
use Rattle.omi_handle.specs.Ledger.{Ledger}
use Rattle.omi_session.specs.Made.{region_pair}
use Rattle.omi_walk.specs.Fault.{walked}
use Rattle.omi_walk.proofs.Goes.{of_answers}
use Rattle.omi_walk.specs.AskWords.{ask_region_variable}
use Rattle.omi_numbers.specs.declared.variables.TheConstants.{TEAM_SIZE_VAR}
use Rattle.omi_walk.proofs.words.size_of.Goals as goal

-- reads: what was asked

pub returns-clause-reads : goal.returns-clause-reads
unfolding ask_region_variable icv_from_scope
returns-clause-reads g c =
    let told = g.C.Callbacks.told in
    let asked = g.C.Callbacks.asked in
    let s = c.args.s.now in
    let pair = region_pair c.args.r in
    of_answers told asked s _ c.get_icv_from_scope-answer.result _ (walked (get s.handles.held pair))
    (icv_from_scope s.layout (get s.handles.held) (scoped.Parallel c.args.r) TEAM_SIZE_VAR)
    refl
    (c.walked.ensures ∙ ap (λ (l : Ledger). walked (get l.held pair) c.get_icv_from_scope-answer.result) c.get_icv_from_scope-answer.ensures.same.handles) c.get_icv_from_scope-answer.ensures.answer
