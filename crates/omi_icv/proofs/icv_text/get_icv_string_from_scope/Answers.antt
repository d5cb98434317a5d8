use Rattle.std.proofs.Common.{◌≡◌, ◌∙◌, ℕ, List, sym, ap, subst}
use Rattle.std.specs.Prelude.{Ok, Err, string_bytes}
use Rattle.std.specs.FinMap.{get}
use Rattle.std.proofs.lemmas.Result.{err_from_is_err_and}
use Rattle.omi_session.specs.declared.rc.Rc.TheVariants.{NoMem}
use Rattle.omi_session.specs.Reads.{Reads, Answers}
use Rattle.omi_icv.specs.declared.scoped.Scoped.{Scoped}
use Rattle.omi_icv.specs.Records.{Handles}
use Rattle.omi_icv.specs.Icvs.{icv_string_from_scope}
use Rattle.omi_icv.proofs.Scoping.{by_handle, text_scoped}
use Rattle.omi_icv.proofs.Written.{written_refused, written_text, written_full, written_is}
use Rattle.omi_icv.proofs.ShownInquiries.{text_given}
use Rattle.omi_icv.proofs.icv_text.get_icv_string_from_scope.Goals as goal

pub returns-in_err-text-clause-answer : goal.returns-in_err-text-clause-answer
returns-in_err-text-clause-answer g c =
    let p = err_from_is_err_and c.from_residual.result c.from_residual.ensures.1 in
    let free = λ (e : c.in_err-text.field-0.0 ≡ NoMem). c.in_err-text.ensures.memory (ap Err e) in
    let inquiry : Handles → Scoped → Reads (List ℕ) = λ held of. icv_string_from_scope c.args.s.now.layout held of c.args.icv in
    rw (p.1, p.2) (written_refused _ _ _ _ c.in_err-text.field-0.0 (inquiry (get c.args.s.now.handles.held) c.args.of) free
    (by_handle inquiry (text_scoped c.args.s.now.layout c.args.icv) (get c.args.s.now.handles.held) c.args.of
    c.found_of-found.ensures.value c.scope.ensures c.in_err-text.ensures.answer))

pub returns-in-Ok-clause-answer : goal.returns-in-Ok-clause-answer
returns-in-Ok-clause-answer g c =
    let inquiry : Handles → Scoped → Reads (List ℕ) = λ held of. icv_string_from_scope c.args.s.now.layout held of c.args.icv in
    let answer =
    by_handle inquiry (text_scoped c.args.s.now.layout c.args.icv) (get c.args.s.now.handles.held) c.args.of
    c.found_of-found.ensures.value c.scope.ensures c.in_ok-text.ensures.answer in
    let text : c.in_ok-text.text ≡ string_bytes c.in-Ok.text = sym (c.in-Ok.ensures.ok ∙ c.as_str.ensures.text) in
    written_text _ _ _ _ (string_bytes c.in-Ok.text) (inquiry (get c.args.s.now.handles.held) c.args.of)
    (subst (λ x. Answers g.C.Callbacks.told g.C.Callbacks.asked c.args.s.now c.icv_text_of.new.s (Ok x)
    (inquiry (get c.args.s.now.handles.held) c.args.of)) text answer)

pub returns-in-Err-clause-answer : goal.returns-in-Err-clause-answer
returns-in-Err-clause-answer g c =
    let inquiry : Handles → Scoped → Reads (List ℕ) = λ held of. icv_string_from_scope c.args.s.now.layout held of c.args.icv in
    written_full _ _ _ _ c.in_ok-text.text (inquiry (get c.args.s.now.handles.held) c.args.of)
    (by_handle inquiry (text_scoped c.args.s.now.layout c.args.icv) (get c.args.s.now.handles.held) c.args.of
    c.found_of-found.ensures.value c.scope.ensures c.in_ok-text.ensures.answer)

pub returns-in_err-text-clause-shown : goal.returns-in_err-text-clause-shown
returns-in_err-text-clause-shown g c =
    text_given (g.C.Callbacks.told c.args.s.now.table.calls) c.args.s.now.layout
    (get c.args.s.now.handles.held) c.args.of c.args.icv _ (written_is (returns-in_err-text-clause-answer g c))

pub returns-in-Ok-clause-shown : goal.returns-in-Ok-clause-shown
returns-in-Ok-clause-shown g c =
    text_given (g.C.Callbacks.told c.args.s.now.table.calls) c.args.s.now.layout
    (get c.args.s.now.handles.held) c.args.of c.args.icv (Ok (string_bytes c.in-Ok.text))
    (written_is (returns-in-Ok-clause-answer g c))

pub returns-in-Err-clause-shown : goal.returns-in-Err-clause-shown
returns-in-Err-clause-shown g c =
    text_given (g.C.Callbacks.told c.args.s.now.table.calls) c.args.s.now.layout
    (get c.args.s.now.handles.held) c.args.of c.args.icv (Err NoMem) (written_is (returns-in-Err-clause-answer g c))
