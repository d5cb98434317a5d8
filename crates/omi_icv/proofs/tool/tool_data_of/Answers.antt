use Rattle.std.proofs.Common.{◌≡◌, ℕ, List, refl, sym, subst}
use Rattle.std.specs.Prelude.{Err}
use Rattle.omi_layout.specs.declared.field.Field.TheVariants.{TaskTool}
use Rattle.omi_session.specs.declared.rc.Rc.TheVariants.{Unsupported}
use Rattle.omi_session.specs.Reads.{Answer, Answers}
use Rattle.omi_session.specs.Inquiry.{word_of}
use Rattle.omi_session.proofs.Asked.{asked_then, asked_answer, refused_then}
use Rattle.omi_icv.specs.declared.scoped.Scope.{Scope}
use Rattle.omi_icv.specs.declared.scoped.Scope.TheVariants.{AddressSpace, Thread, Parallel, Task}
use Rattle.omi_icv.specs.Scopes.{any_of}
use Rattle.omi_icv.specs.StateWords.{tool_word, tool_data}
use Rattle.omi_icv.proofs.tool.tool_data_of.Goals as goal

pub returns-in_err-address-clause-answer : goal.returns-in_err-address-clause-answer
unfolding tool_data
returns-in_err-address-clause-answer g c =
    refused_then _ c.in_err-address.ensures.answer c.from_residual.ensures.1

pub returns-in-Task-clause-answer : goal.returns-in-Task-clause-answer
unfolding tool_data
returns-in-Task-clause-answer g c =
    let tool =
    subst
    (λ w. Answers g.C.Callbacks.told g.C.Callbacks.asked c.record_of.new.s c.word.new.s c.word.result (word_of w c.in_ok-address.address TaskTool 0)) c.record_of.ensures.same.layout c.word.ensures.answer in
    asked_then c.record_of.new.s _ c.in_ok-address.address c.record_of.ensures.same.table.same c.in_ok-address.ensures.answer
    (subst (λ scope. Answers g.C.Callbacks.told g.C.Callbacks.asked c.record_of.new.s c.word.new.s c.word.result (tool_word c.args.s.now.layout (any_of scope) c.in_ok-address.address)) (sym c.in-Task.is) tool)

-- nothing else has a tool word
none_unless : (w : List ℕ) (address : ℕ) (scope : Scope) → (scope ≡ Task → ⊥)
    → Answer (Err Unsupported) ≡ tool_word w (any_of scope) address
none_unless w address AddressSpace other = refl
none_unless w address Thread other = refl
none_unless w address Parallel other = refl
none_unless w address Task other = absurd (other refl)

pub returns-in_default-clause-answer : goal.returns-in_default-clause-answer
unfolding tool_data
returns-in_default-clause-answer g c =
    asked_then c.record_of.new.s _ c.in_ok-address.address c.record_of.ensures.same.table.same c.in_ok-address.ensures.answer
    (subst (Answers g.C.Callbacks.told g.C.Callbacks.asked c.record_of.new.s c.record_of.new.s (Err Unsupported))
    (none_unless c.args.s.now.layout c.in_ok-address.address c.args.scope c.in_default.not-Task) (asked_answer refl))
