use Rattle.std.proofs.Common.{sym, ap, ◌∙◌, get_or, arith}
use Rattle.std.proofs.lemmas.Result.{err_from_is_err_and}
use Rattle.omi_elf.proofs.NoteSegments.{no_header, last_of, ends_at, goes_on_at, passes_over_at, found_failed, found_here, found_none}
use Rattle.omi_elf.proofs.notes.first_note.Goals as goal
use Rattle.omi_elf.proofs.notes.first_note.Goals.{then-is_note_segment+in_ok-found+else-is_some, else-is_note_segment}

pub returns-in_err-found-clause-found : goal.returns-in_err-found-clause-found
returns-in_err-found-clause-found g c = λ bytes told.
    let now = ap (λ t. t c.args.name.now) c.loop-header.invariant.same ∙ told in
    let p = err_from_is_err_and c.from_residual.result c.from_residual.ensures.1 in
    rw (p.1, p.2)
    (found_failed bytes c.in_err-found.field-0.0 (last_of c.args.order bytes (get_or c.args.headers.now c.loop-header.header-index no_header)) _
    (λ x e. sym (c.loop-header.invariant.sought bytes told) ∙ ends_at c.args.order bytes c.args.headers.now c.loop-header.header-index x c.loop-header-test.true
    (sym c.is_note_segment.ensures ∙ c.if-is_note_segment.true) e) (c.in_err-found.ensures.found bytes now))

pub returns-then-is_some-clause-found : goal.returns-then-is_some-clause-found
returns-then-is_some-clause-found g c = λ bytes told.
    let now = ap (λ t. t c.args.name.now) c.loop-header.invariant.same ∙ told in
    found_here bytes c.in_ok-found.found (last_of c.args.order bytes (get_or c.args.headers.now c.loop-header.header-index no_header)) _
    (sym c.is_some.ensures ∙ c.if-is_some.true)
    (λ x e. sym (c.loop-header.invariant.sought bytes told) ∙ ends_at c.args.order bytes c.args.headers.now c.loop-header.header-index x c.loop-header-test.true
    (sym c.is_note_segment.ensures ∙ c.if-is_note_segment.true) e) (c.in_ok-found.ensures.found bytes now)

pub loop-header-preserved : goal.loop-header-preserved
loop-header-preserved g c =
    elim c.if-is_note_segment.branch [
      | then-is_note_segment+in_ok-found+else-is_some w ↦ record {
        sought = λ bytes told.
            let now = ap (λ t. t c.args.name.now) c.loop-header.invariant.same ∙ told in
            goes_on_at c.args.order bytes c.args.headers.now c.loop-header.header-index c.loop-header-test.true (sym c.is_note_segment.ensures ∙ w.if-is_note_segment.true)
            (found_none bytes w.in_ok-found.found _ (sym w.is_some.ensures ∙ w.if-is_some.false) (w.in_ok-found.ensures.found bytes now))
            ∙ c.loop-header.invariant.sought bytes told;
        same = ap g.F.Files.told w.files-is ∙ w.first_in.ensures.same ∙ c.loop-header.invariant.same;
        later = omega (arith, ap g.F.Files.reads w.files-is, w.first_in.ensures.cause.later, c.loop-header.invariant.later);
        writes = ap g.F.Files.writes w.files-is ∙ w.first_in.ensures.writes ∙ c.loop-header.invariant.writes;
      }
      | else-is_note_segment w ↦ record {
        sought = λ bytes told.
            passes_over_at c.args.order bytes c.args.headers.now c.loop-header.header-index c.loop-header-test.true (sym c.is_note_segment.ensures ∙ w.if-is_note_segment.false)
            ∙ c.loop-header.invariant.sought bytes told;
        same = ap g.F.Files.told w.files-is ∙ c.loop-header.invariant.same;
        later = omega (arith, ap g.F.Files.reads w.files-is, c.loop-header.invariant.later);
        writes = ap g.F.Files.writes w.files-is ∙ c.loop-header.invariant.writes;
      }
    ]
