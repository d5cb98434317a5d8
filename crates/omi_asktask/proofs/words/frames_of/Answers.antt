use Rattle.std.proofs.Common.{subst, ◌∙◌}
use Rattle.std.specs.Prelude.{Ok, Err}
use Rattle.omi_layout.specs.declared.field.Field.TheVariants.{TaskExit, TaskEnter}
use Rattle.omi_session.specs.Reads.{Answers}
use Rattle.omi_session.specs.Inquiry.{word_of}
use Rattle.omi_session.proofs.Asked.{asked_then, asked_answer, refused_then}
use Rattle.omi_asktask.specs.TaskWords.{frames}
use Rattle.omi_asktask.proofs.words.frames_of.Goals as goal

pub returns-in_err-task-clause-answer : goal.returns-in_err-task-clause-answer
unfolding frames
returns-in_err-task-clause-answer g c = refused_then _ c.in_err-task.ensures.answer c.from_residual.ensures.1

pub returns-in_err-exit-clause-answer : goal.returns-in_err-exit-clause-answer
unfolding frames
returns-in_err-exit-clause-answer g c =
    let exit =
    subst
    (λ w. Answers g.C.Callbacks.told g.C.Callbacks.asked c.object_of.new.s c.word.new.s (Err c.in_err-exit.field-0.0) (word_of w c.in_ok-task.task.addr TaskExit 0)) c.object_of.ensures.same.layout c.in_err-exit.ensures.answer in
    asked_then c.object_of.new.s _ c.in_ok-task.task c.object_of.ensures.same.table.same c.in_ok-task.ensures.answer
    (refused_then _ exit c.from_residual-in_err-exit.ensures.1)

pub returns-in_err-enter-clause-answer : goal.returns-in_err-enter-clause-answer
unfolding frames
returns-in_err-enter-clause-answer g c =
    let exit =
    subst
    (λ w. Answers g.C.Callbacks.told g.C.Callbacks.asked c.object_of.new.s c.word.new.s (Ok c.in_ok-exit.exit) (word_of w c.in_ok-task.task.addr TaskExit 0)) c.object_of.ensures.same.layout c.in_ok-exit.ensures.answer in
    let enter =
    subst
    (λ w. Answers g.C.Callbacks.told g.C.Callbacks.asked c.word.new.s c.word-2.new.s (Err c.in_err-enter.field-0.0) (word_of w c.in_ok-task.task.addr TaskEnter 0))
    (c.word.ensures.same.layout ∙ c.object_of.ensures.same.layout) c.in_err-enter.ensures.answer in
    asked_then c.object_of.new.s _ c.in_ok-task.task c.object_of.ensures.same.table.same c.in_ok-task.ensures.answer
    (asked_then c.word.new.s _ c.in_ok-exit.exit c.word.ensures.same.table.same exit
    (refused_then _ enter c.from_residual-in_err-enter.ensures.1))

pub returns-clause-answer : goal.returns-clause-answer
unfolding frames
returns-clause-answer g c =
    let exit =
    subst
    (λ w. Answers g.C.Callbacks.told g.C.Callbacks.asked c.object_of.new.s c.word.new.s (Ok c.in_ok-exit.exit) (word_of w c.in_ok-task.task.addr TaskExit 0)) c.object_of.ensures.same.layout c.in_ok-exit.ensures.answer in
    let enter =
    subst
    (λ w. Answers g.C.Callbacks.told g.C.Callbacks.asked c.word.new.s c.word-2.new.s (Ok c.in_ok-enter.enter) (word_of w c.in_ok-task.task.addr TaskEnter 0))
    (c.word.ensures.same.layout ∙ c.object_of.ensures.same.layout) c.in_ok-enter.ensures.answer in
    asked_then c.object_of.new.s _ c.in_ok-task.task c.object_of.ensures.same.table.same c.in_ok-task.ensures.answer
    (asked_then c.word.new.s _ c.in_ok-exit.exit c.word.ensures.same.table.same exit
    (asked_then c.word-2.new.s _ c.in_ok-enter.enter c.word-2.ensures.same.table.same enter
    (asked_answer (λ i. Ok (record { exit = c.in_ok-exit.exit; exit_flag = c.flag.ensures i; enter = c.in_ok-enter.enter; enter_flag = c.flag-2.ensures i })))))
