use Rattle.std.proofs.Common.{◌++◌, ℕ, List, Ok, Err, arith, ap, refl, subst, ◌∙◌}
use Rattle.omi_frame.specs.Refusal.{status_of}
use Rattle.std.proofs.lemmas.Result.{err_from_is_err_and}
use Rattle.omi_outside.specs.Outside.{Told}
use Rattle.omi_frame.specs.Left.{IsAnswered}
use Rattle.omi_top.specs.Command.{Show}
use Rattle.omi_top.specs.CommandVerbs.{AreTold, verb_of}
use Rattle.omi_top.proofs.RunAnswers.{no_memory, run_unwritten, show_failed, shown_behind, shows_last}
use Rattle.omi_frame.proofs.Behind.{rose_later}
use Rattle.omi_top.proofs.run_and_show.run_and_show.Goals as goal

-- ---- the core is not written

pub returns-in_err-text-clause-unwritten : goal.returns-in_err-text-clause-unwritten
returns-in_err-text-clause-unwritten g c =
    let p = err_from_is_err_and c.from_residual.result c.from_residual.ensures.1 in
    rw (p.1, p.2) (λ is.
    c.in_err-text.ensures.performed.unwritten (status_of c.in_err-text.field-0.0) refl
    (run_unwritten c.args.plan c.args.script.now c.args.core.now (status_of c.in_err-text.field-0.0) is))

-- ---- the core is written, and then its report is refused

pub returns-in_err-report-clause-answer : goal.returns-in_err-report-clause-answer
returns-in_err-report-clause-answer g c =
    let p = err_from_is_err_and c.from_residual-in_err-report.result c.from_residual-in_err-report.ensures.1 in
    let before : Told = g.W.Files.told c.args.dest.now c.args.core.now in
    let stopped = c.in_ok-text.ensures.performed in
    rw (p.1, p.2)
    (λ ((text, told), (content, back)).
    let shown : IsAnswered (verb_of (Show c.args.core.now)) (g.F.Files.told c.args.files.now) (Err c.in_err-report.field-0.0) before before =
    subst
    (λ (t : List ℕ → Told). AreTold (Show c.args.core.now) t → IsAnswered (verb_of (Show c.args.core.now)) t (Err c.in_err-report.field-0.0) before before) c.in_ok-text.ensures.apart.files_told
    (c.in_err-report.ensures.answer before) (content, back) in
    show_failed c.args.plan c.args.script.now c.args.core.now
    (g.F.Files.told c.args.files.now) content back c.in_ok-text.text before
    (g.W.Files.told c.stop.new.dest c.args.core.now)
    c.in_err-report.field-0.0 before before (stopped.answer (text, told)) shown)

pub returns-in_err-report-clause-read : goal.returns-in_err-report-clause-read
returns-in_err-report-clause-read g c =
    let p = err_from_is_err_and c.from_residual-in_err-report.result c.from_residual-in_err-report.ensures.1 in
    let stopped = c.in_ok-text.ensures.performed in
    rw (p.1, p.2)
    (record {
      later = omega (arith, stopped.read.later, c.in_err-report.ensures.read.later);
      failed = λ is. rose_later _ _ _ stopped.read.later (c.in_err-report.ensures.read.failed is);
    })

pub returns-in_err-report-clause-write : goal.returns-in_err-report-clause-write
returns-in_err-report-clause-write g c =
    let p = err_from_is_err_and c.from_residual-in_err-report.result c.from_residual-in_err-report.ensures.1 in
    rw (p.1, p.2)
    (record { later = c.in_ok-text.ensures.performed.write.later; failed = λ is. absurd (c.in_err-report.ensures.write is) })

pub returns-in_err-report-clause-unwritten : goal.returns-in_err-report-clause-unwritten
returns-in_err-report-clause-unwritten g c =
    let p = err_from_is_err_and c.from_residual-in_err-report.result c.from_residual-in_err-report.ensures.1 in
    rw (p.1, p.2)
    (λ is. absurd (shows_last c.args.plan c.args.script.now c.args.core.now c.in_err-report.field-0.0 c.in_err-report.ensures.usage c.in_err-report.ensures.script is))

pub returns-in_err-report-clause-apart : goal.returns-in_err-report-clause-apart
returns-in_err-report-clause-apart g c =
    let apart = c.in_ok-text.ensures.apart in
    record {
      files_told = c.in_err-report.ensures.files_told ∙ apart.files_told;
      files_writes = c.in_err-report.ensures.files_writes ∙ apart.files_writes;
      dest_reads = apart.dest_reads;
    }

-- ---- or memory runs out

pub returns-in_err-extend_from_slice-clause-answer : goal.returns-in_err-extend_from_slice-clause-answer
returns-in_err-extend_from_slice-clause-answer g c =
    let p = err_from_is_err_and c.from_residual-in_err-extend_from_slice.result c.from_residual-in_err-extend_from_slice.ensures.1 in
    rw (p.1, p.2)
    (λ ((text, told), (content, back)).
    no_memory c.args.plan c.args.script.now c.args.core.now
    (g.F.Files.told c.args.files.now) content back c.in_ok-text.text
    (g.W.Files.told c.args.dest.now c.args.core.now)
    (g.W.Files.told c.stop.new.dest c.args.core.now) (c.in_ok-text.ensures.performed.answer (text, told)))

pub returns-in_err-extend_from_slice-clause-read : goal.returns-in_err-extend_from_slice-clause-read
returns-in_err-extend_from_slice-clause-read g c =
    let p = err_from_is_err_and c.from_residual-in_err-extend_from_slice.result c.from_residual-in_err-extend_from_slice.ensures.1 in
    rw (p.1, p.2)
    (record { later = omega (arith, c.in_ok-text.ensures.performed.read.later, c.in_ok-report.ensures.read.later); failed = λ is. absurd is })

pub returns-in_err-extend_from_slice-clause-write : goal.returns-in_err-extend_from_slice-clause-write
returns-in_err-extend_from_slice-clause-write g c =
    let p = err_from_is_err_and c.from_residual-in_err-extend_from_slice.result c.from_residual-in_err-extend_from_slice.ensures.1 in
    rw (p.1, p.2)
    (record { later = c.in_ok-text.ensures.performed.write.later; failed = λ is. absurd (cc) })

pub returns-in_err-extend_from_slice-clause-unwritten : goal.returns-in_err-extend_from_slice-clause-unwritten
returns-in_err-extend_from_slice-clause-unwritten g c =
    let p = err_from_is_err_and c.from_residual-in_err-extend_from_slice.result c.from_residual-in_err-extend_from_slice.ensures.1 in
    rw (p.1, p.2) (λ is. absurd is)

pub returns-in_err-extend_from_slice-clause-apart : goal.returns-in_err-extend_from_slice-clause-apart
returns-in_err-extend_from_slice-clause-apart g c =
    let apart = c.in_ok-text.ensures.apart in
    record {
      files_told = c.in_ok-report.ensures.files_told ∙ apart.files_told;
      files_writes = c.in_ok-report.ensures.files_writes ∙ apart.files_writes;
      dest_reads = apart.dest_reads;
    }

-- ---- or it stands behind the lines of the run

pub returns-clause-answer : goal.returns-clause-answer
returns-clause-answer g c =
    let before : Told = g.W.Files.told c.args.dest.now c.args.core.now in
    let stopped = c.in_ok-text.ensures.performed in
    λ ((text, told), (content, back)).
    let shown : IsAnswered (verb_of (Show c.args.core.now)) (g.F.Files.told c.args.files.now) (Ok c.in_ok-report.report) before before =
    subst
    (λ (t : List ℕ → Told). AreTold (Show c.args.core.now) t → IsAnswered (verb_of (Show c.args.core.now)) t (Ok c.in_ok-report.report) before before) c.in_ok-text.ensures.apart.files_told
    (c.in_ok-report.ensures.answer before) (content, back) in
    shown_behind c.args.plan c.args.script.now c.args.core.now
    (g.F.Files.told c.args.files.now) content back c.in_ok-text.text before
    (g.W.Files.told c.stop.new.dest c.args.core.now)
    c.in_ok-report.report c.extend_from_slice.new.self before before
    (c.in_ok-extend_from_slice.ensures.items ∙ ap (λ (xs : List ℕ). c.in_ok-text.text.items ++ xs) c.deref.ensures.value)
    (stopped.answer (text, told)) shown

pub returns-clause-read : goal.returns-clause-read
returns-clause-read g c = record { later = omega (arith, c.in_ok-text.ensures.performed.read.later, c.in_ok-report.ensures.read.later); failed = λ is. absurd is }

pub returns-clause-write : goal.returns-clause-write
returns-clause-write g c = record { later = c.in_ok-text.ensures.performed.write.later; failed = λ is. absurd (cc) }

pub returns-clause-apart : goal.returns-clause-apart
returns-clause-apart g c =
    let apart = c.in_ok-text.ensures.apart in
    record {
      files_told = c.in_ok-report.ensures.files_told ∙ apart.files_told;
      files_writes = c.in_ok-report.ensures.files_writes ∙ apart.files_writes;
      dest_reads = apart.dest_reads;
    }
