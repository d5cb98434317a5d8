use Rattle.std.proofs.Common.{◌∙◌, refl, subst}
use Rattle.std.specs.Prelude.{Ok, Err}
use Rattle.omi_layout.specs.declared.field.Field.TheVariants.{RuntimeProcs, RuntimeMaxActive}
use Rattle.omi_rep.specs.Records.{runtime_address}
use Rattle.omi_session.specs.Reads.{Answers}
use Rattle.omi_session.specs.Inquiry.{word_of}
use Rattle.omi_session.proofs.Asked.{asked_then, asked_answer, refused_then}
use Rattle.omi_icv.specs.Display.{space_words}
use Rattle.omi_icv.proofs.display.space_words.Goals as goal

pub returns-in_err-debug-clause-answer : goal.returns-in_err-debug-clause-answer
unfolding space_words
returns-in_err-debug-clause-answer g c =
    refused_then _ c.in_err-debug.ensures.answer c.from_residual.ensures.1

pub returns-in_err-procs-clause-answer : goal.returns-in_err-procs-clause-answer
unfolding space_words
returns-in_err-procs-clause-answer g c =
    let procs =
    subst
    (λ w. Answers g.C.Callbacks.told g.C.Callbacks.asked c.runtime_word.new.s c.runtime_word-2.new.s (Err c.in_err-procs.field-0.0) (word_of w (runtime_address w) RuntimeProcs 0)) c.runtime_word.ensures.same.layout c.in_err-procs.ensures.answer in
    asked_then c.runtime_word.new.s _ c.in_ok-debug.debug c.runtime_word.ensures.same.table.same c.in_ok-debug.ensures.answer
    (refused_then _ procs c.from_residual-in_err-procs.ensures.1)

pub returns-in_err-max_active-clause-answer : goal.returns-in_err-max_active-clause-answer
unfolding space_words
returns-in_err-max_active-clause-answer g c =
    let procs =
    subst
    (λ w. Answers g.C.Callbacks.told g.C.Callbacks.asked c.runtime_word.new.s c.runtime_word-2.new.s (Ok c.in_ok-procs.procs) (word_of w (runtime_address w) RuntimeProcs 0)) c.runtime_word.ensures.same.layout c.in_ok-procs.ensures.answer in
    let most =
    subst
    (λ w. Answers g.C.Callbacks.told g.C.Callbacks.asked c.runtime_word-2.new.s c.runtime_word-3.new.s (Err c.in_err-max_active.field-0.0) (word_of w (runtime_address w) RuntimeMaxActive 0))
    (c.runtime_word-2.ensures.same.layout ∙ c.runtime_word.ensures.same.layout) c.in_err-max_active.ensures.answer in
    asked_then c.runtime_word.new.s _ c.in_ok-debug.debug c.runtime_word.ensures.same.table.same c.in_ok-debug.ensures.answer
    (asked_then c.runtime_word-2.new.s _ c.in_ok-procs.procs c.runtime_word-2.ensures.same.table.same procs
    (refused_then _ most c.from_residual-in_err-max_active.ensures.1))

pub returns-clause-answer : goal.returns-clause-answer
unfolding space_words
returns-clause-answer g c =
    let procs =
    subst
    (λ w. Answers g.C.Callbacks.told g.C.Callbacks.asked c.runtime_word.new.s c.runtime_word-2.new.s (Ok c.in_ok-procs.procs) (word_of w (runtime_address w) RuntimeProcs 0)) c.runtime_word.ensures.same.layout c.in_ok-procs.ensures.answer in
    let most =
    subst
    (λ w. Answers g.C.Callbacks.told g.C.Callbacks.asked c.runtime_word-2.new.s c.runtime_word-3.new.s (Ok c.in_ok-max_active.max_active) (word_of w (runtime_address w) RuntimeMaxActive 0))
    (c.runtime_word-2.ensures.same.layout ∙ c.runtime_word.ensures.same.layout) c.in_ok-max_active.ensures.answer in
    asked_then c.runtime_word.new.s _ c.in_ok-debug.debug c.runtime_word.ensures.same.table.same c.in_ok-debug.ensures.answer
    (asked_then c.runtime_word-2.new.s _ c.in_ok-procs.procs c.runtime_word-2.ensures.same.table.same procs
    (asked_then c.runtime_word-3.new.s _ c.in_ok-max_active.max_active c.runtime_word-3.ensures.same.table.same most
    (asked_answer refl)))
