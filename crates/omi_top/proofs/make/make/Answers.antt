use Rattle.std.proofs.Common.{ℕ, List, Err, ap, subst, string_bytes}
use Rattle.omi_script.specs.Grammar.{Grammar}
use Rattle.omi_script.specs.declared.program.Program.{Program}
use Rattle.std.specs.Global.{Vec}
use Rattle.std.proofs.lemmas.Result.{err_from_is_err_and}
use Rattle.omi_outside.specs.Outside.{Told}
use Rattle.omi_top.specs.Make.{IsMade}
use Rattle.omi_top.proofs.Making.{partly_answered, done_answered}
use Rattle.omi_frame.proofs.Elsewhere.{late, write_failed}
use Rattle.omi_top.proofs.make.make.Goals as goal

pub returns-in_err-write_whole-clause-answer : goal.returns-in_err-write_whole-clause-answer
returns-in_err-write_whole-clause-answer g c = λ (told : List ℕ → Told).
    let p = err_from_is_err_and c.from_residual-in_err-write_whole.result c.from_residual-in_err-write_whole.ensures.1 in
    rw (p.1, p.2) (partly_answered c.args.nodes c.args.script.now told (string_bytes c.in_ok-text.text) (string_bytes c.in_ok-line.line) c.in_ok-text.ensures
    (subst (λ (bytes : List ℕ). (q : Program) × Grammar bytes q × IsMade c.args.nodes q (string_bytes c.in_ok-line.line)) c.as_bytes.ensures.value c.in_ok-line.ensures)
    c.in_err-write_whole.field-0.0 _ _ (rw (← c.as_bytes-2.ensures.value) c.in_err-write_whole.ensures.cut))

pub returns-in_err-write_whole-clause-late : goal.returns-in_err-write_whole-clause-late
returns-in_err-write_whole-clause-late g c =
    let p = err_from_is_err_and c.from_residual-in_err-write_whole.result c.from_residual-in_err-write_whole.ensures.1 in
    rw (p.1, p.2) (late c.in_err-write_whole.field-0.0)

pub returns-in_err-write_whole-clause-write : goal.returns-in_err-write_whole-clause-write
returns-in_err-write_whole-clause-write g c =
    let p = err_from_is_err_and c.from_residual-in_err-write_whole.result c.from_residual-in_err-write_whole.ensures.1 in
    record {
      later = c.in_err-write_whole.ensures.cause.later;
      failed = rw (p.1, p.2) (λ is. c.in_err-write_whole.ensures.cause.failed (ap Err (write_failed c.in_err-write_whole.field-0.0 is)));
    }

pub returns-clause-answer : goal.returns-clause-answer
returns-clause-answer g c = λ (told : List ℕ → Told).
    done_answered c.args.nodes c.args.script.now told (string_bytes c.in_ok-text.text)
    (string_bytes c.in_ok-line.line) c.in_ok-text.ensures
    (subst (λ (bytes : List ℕ). (q : Program) × Grammar bytes q × IsMade c.args.nodes q (string_bytes c.in_ok-line.line)) c.as_bytes.ensures.value c.in_ok-line.ensures)
    c.into_bytes.result _ _ (ap (λ (v : Vec ℕ). v.items) c.into_bytes.ensures.value)
    (rw (← c.as_bytes-2.ensures.value) c.in_ok-write_whole.ensures.written)

pub returns-clause-write : goal.returns-clause-write
returns-clause-write g c = record { later = c.in_ok-write_whole.ensures.cause.later; failed = λ is. cc }
