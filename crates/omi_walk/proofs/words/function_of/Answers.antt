use Rattle.std.specs.FinMap.{get}
use Rattle.omi_session.specs.Made.{task_pair}
use Rattle.omi_asktask.specs.TaskWords.{function}
use Rattle.std.proofs.Common.{refl, ap, ◌∙◌}
use Rattle.omi_handle.specs.Ledger.{Ledger}
use Rattle.omi_walk.specs.Fault.{walked}
use Rattle.omi_walk.proofs.Goes.{of_answers}
use Rattle.omi_walk.specs.AskWords.{ask_function}
use Rattle.omi_walk.proofs.words.function_of.Goals as goal

-- reads: what was asked

pub returns-clause-reads : goal.returns-clause-reads
unfolding ask_function
returns-clause-reads g c =
    let told = g.C.Callbacks.told in
    let asked = g.C.Callbacks.asked in
    let s = c.args.s.now in
    let pair = task_pair c.args.k in
    of_answers told asked s _ c.get_task_function-answer.result _ (walked (get s.handles.held pair))
    (function s.layout (get s.handles.held pair))
    refl
    (c.walked.ensures ∙ ap (λ (l : Ledger). walked (get l.held pair) c.get_task_function-answer.result) c.get_task_function-answer.ensures.same.handles) c.get_task_function-answer.ensures.answer
