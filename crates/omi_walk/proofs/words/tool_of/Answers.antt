use Rattle.std.specs.FinMap.{get}
use Rattle.omi_icv.specs.declared.scoped.Scoped.TheVariants as scoped
use Rattle.omi_icv.specs.StateWords.{tool_data}
use Rattle.std.proofs.Common.{refl, ap, ◌∙◌}
use Rattle.omi_handle.specs.Ledger.{Ledger}
use Rattle.omi_session.specs.Made.{task_pair}
use Rattle.omi_walk.specs.Fault.{walked}
use Rattle.omi_walk.proofs.Goes.{of_answers}
use Rattle.omi_walk.specs.AskWords.{ask_tool}
use Rattle.omi_walk.proofs.words.tool_of.Goals as goal

-- reads: what was asked

pub returns-clause-reads : goal.returns-clause-reads
unfolding ask_tool tool_data
returns-clause-reads g c =
    let told = g.C.Callbacks.told in
    let asked = g.C.Callbacks.asked in
    let s = c.args.s.now in
    let pair = task_pair c.args.k in
    of_answers told asked s _ c.get_tool_data-answer.result _ (walked (get s.handles.held pair))
    (tool_data s.layout (get s.handles.held) (scoped.Task c.args.k))
    refl
    (c.walked.ensures ∙ ap (λ (l : Ledger). walked (get l.held pair) c.get_tool_data-answer.result) c.get_tool_data-answer.ensures.same.handles) c.get_tool_data-answer.ensures.answer
