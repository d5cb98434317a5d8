use Rattle.std.proofs.Common.{ap, refl, ◌∙◌}
use Rattle.std.specs.Prelude.{Ok, Err}
use Rattle.std.specs.FinMap.{get}
use Rattle.omi_session.specs.Made.{task_pair}
use Rattle.omi_handle.specs.Ledger.{Ledger}
use Rattle.omi_asktask.specs.declared.words.Frames.{Frames}
use Rattle.omi_asktask.specs.TaskWords.{frames}
use Rattle.omi_walk.specs.Fault.{walked, fault_of}
use Rattle.omi_walk.specs.AskWords.{ask_frames}
use Rattle.omi_walk.proofs.Goes.{of_answers, walks_ok, walks_err}
use Rattle.omi_walk.proofs.words.frames_of.Goals as goal

-- reads: what was asked

pub returns-in-Ok-clause-reads : goal.returns-in-Ok-clause-reads
unfolding ask_frames
returns-in-Ok-clause-reads g c =
    let told = g.C.Callbacks.told in
    let asked = g.C.Callbacks.asked in
    let s = c.args.s.now in
    let pair = task_pair c.args.k in
    walks_ok told asked s _ (λ (f : Frames). (f.exit, f.enter)) c.in-Ok.frames _ _ refl
    (of_answers told asked s _ (Ok c.in-Ok.frames) (Ok c.in-Ok.frames) (walked (get s.handles.held pair)) (frames s.layout (get s.handles.held pair)) refl refl c.in-Ok.ensures.answer)

pub returns-in-Err-clause-reads : goal.returns-in-Err-clause-reads
unfolding ask_frames
returns-in-Err-clause-reads g c =
    let told = g.C.Callbacks.told in
    let asked = g.C.Callbacks.asked in
    let s = c.args.s.now in
    let pair = task_pair c.args.k in
    walks_err told asked s _ (λ (f : Frames). (f.exit, f.enter)) c.fault_of.result _
    (of_answers told asked s _ (Err c.in-Err.rc) (Err c.fault_of.result) (walked (get s.handles.held pair)) (frames s.layout (get s.handles.held pair)) refl
    (ap Err (c.fault_of.ensures ∙ ap (λ (l : Ledger). fault_of (get l.held pair) c.in-Err.rc) c.get_task_frame-answer.ensures.same.handles)) c.in-Err.ensures.answer)
