use Rattle.std.proofs.Common.{◌≡◌, Some, sym, ap, subst, ◌∙◌, None, Option, refl}
use Rattle.omi_handle.specs.declared.handle.Held.{Held}
use Rattle.omi_layout.specs.declared.field.Field.TheVariants.{RegionFunction}
use Rattle.omi_session.specs.Inquiry.{word_of}
use Rattle.omi_session.specs.Made.{region_pair}
use Rattle.omi_session.specs.Reads.{Answer, then_reads}
use Rattle.std.specs.FinMap.{get}
use Rattle.omi_handle.specs.Ledger.{Ledger}
use Rattle.std.specs.Prelude.{Err}
use Rattle.omi_session.specs.declared.rc.Rc.TheVariants.{BadInput}
use Rattle.omi_walk.specs.AskWords.{ask_entry}
use Rattle.omi_walk.specs.Fault.{walked, fault_of}
use Rattle.omi_walk.specs.Walks.{Walks}
use Rattle.omi_session.proofs.Asked.{asked_answer}
use Rattle.omi_walk.proofs.Goes.{of_answers}
use Rattle.omi_walk.proofs.regions.entry_of.Goals as goal

-- reads: what was asked

pub returns-in_default-clause-reads : goal.returns-in_default-clause-reads
unfolding ask_entry then_reads
returns-in_default-clause-reads g c =
    let told = g.C.Callbacks.told in
    let asked = g.C.Callbacks.asked in
    let s = c.args.s.now in
    let pair = region_pair c.args.r in
    let none : get s.handles.held pair ≡ None = sym c.find.ensures.value ∙ c.in_default.is in
    subst (λ o. Walks told asked s s (Err c.fault_of.result) (ask_entry s.layout o)) (sym none)
    (of_answers told asked s s (Err BadInput) (Err c.fault_of.result) (walked None) (Answer (Err BadInput)) refl
    (ap Err (c.fault_of.ensures ∙ ap (λ (o : Option Held). fault_of o BadInput) none)) (asked_answer refl))

pub returns-clause-reads : goal.returns-clause-reads
unfolding ask_entry then_reads
returns-clause-reads g c =
    let told = g.C.Callbacks.told in
    let asked = g.C.Callbacks.asked in
    let s = c.args.s.now in
    let pair = region_pair c.args.r in
    let some : get s.handles.held pair ≡ Some c.in-Some.held = sym c.find.ensures.value ∙ c.in-Some.is in
    subst (λ o. Walks told asked s c.word-answer.new.s c.walked.result (ask_entry s.layout o)) (sym some)
    (of_answers told asked s c.word-answer.new.s c.word-answer.result c.walked.result (walked (Some c.in-Some.held)) (word_of s.layout c.in-Some.held.addr RegionFunction 0) refl
    (c.walked.ensures ∙ ap (λ (l : Ledger). walked (get l.held pair) c.word-answer.result) c.word-answer.ensures.same.handles ∙ ap (λ (o : Option Held). walked o c.word-answer.result) some) c.word-answer.ensures.answer)
