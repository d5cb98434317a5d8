use Rattle.std.proofs.Common.{◌≡◌, refl, ap}
use Rattle.std.specs.Prelude.{Ok, Err, map, string_bytes}
use Rattle.std.proofs.lemmas.Result.{err_from_is_err_and}
use Rattle.omi_session.specs.declared.rc.Rc.TheVariants.{NoMem}
use Rattle.omi_session.specs.Reads.{Answer}
use Rattle.omi_session.proofs.Asked.{asked_then, asked_refused, asked_answer}
use Rattle.omi_icv.specs.Display.{display, display_texts}
use Rattle.omi_icv.proofs.Written.{written_refused, written_text, written_full}
use Rattle.omi_icv.proofs.ShownInquiries.{display_given}
use Rattle.omi_icv.proofs.Written.{written_is}
use Rattle.omi_icv.proofs.display.get_display_control_vars.Goals as goal

pub returns-in_err-words-clause-answer : goal.returns-in_err-words-clause-answer
unfolding display
returns-in_err-words-clause-answer g c =
    let p = err_from_is_err_and c.from_residual.result c.from_residual.ensures.1 in
    let free = λ (e : c.in_err-words.field-0.0 ≡ NoMem). c.in_err-words.ensures.memory (ap Err e) in
    rw (p.1, p.2) (written_refused _ _ _ _ c.in_err-words.field-0.0 (display c.args.s.now.layout) free
    (asked_refused (λ words. Answer (Ok (display_texts words))) c.in_err-words.ensures.answer))

pub returns-in-Ok-clause-answer : goal.returns-in-Ok-clause-answer
unfolding display
returns-in-Ok-clause-answer g c =
    written_text _ _ _ _ (map string_bytes c.in-Ok.texts.items) (display c.args.s.now.layout)
    (asked_then c.space_words.new.s _ c.in_ok-words.words c.space_words.ensures.same.table.same c.in_ok-words.ensures.answer
    (asked_answer (ap Ok c.in-Ok.ensures)))

pub returns-in-Err-clause-answer : goal.returns-in-Err-clause-answer
unfolding display
returns-in-Err-clause-answer g c =
    written_full _ _ _ _ (display_texts c.in_ok-words.words) (display c.args.s.now.layout)
    (asked_then c.space_words.new.s _ c.in_ok-words.words c.space_words.ensures.same.table.same c.in_ok-words.ensures.answer
    (asked_answer refl))

pub returns-in_err-words-clause-shown : goal.returns-in_err-words-clause-shown
returns-in_err-words-clause-shown g c = λ s shown.
    display_given (g.C.Callbacks.told c.args.s.now.table.calls) c.args.s.now.layout s shown _
    (written_is (returns-in_err-words-clause-answer g c))

pub returns-in-Ok-clause-shown : goal.returns-in-Ok-clause-shown
returns-in-Ok-clause-shown g c = λ s shown.
    display_given (g.C.Callbacks.told c.args.s.now.table.calls) c.args.s.now.layout s shown
    (Ok (map string_bytes c.in-Ok.texts.items)) (written_is (returns-in-Ok-clause-answer g c))

pub returns-in-Err-clause-shown : goal.returns-in-Err-clause-shown
returns-in-Err-clause-shown g c = λ s shown.
    display_given (g.C.Callbacks.told c.args.s.now.table.calls) c.args.s.now.layout s shown (Err NoMem)
    (written_is (returns-in-Err-clause-answer g c))
