use Rattle.std.proofs.Common.{◌+◌, drop, sym, ap, ◌∙◌, arith}
use Rattle.std.proofs.lemmas.Result.{err_from_is_err_and}
use Rattle.omi_process.specs.Reading.{notes_of}
use Rattle.omi_process.proofs.AlongNotes.{onward, in_others, in_segment, refused_in}
use Rattle.omi_process.proofs.threads.add_threads.Goals as goal
use Rattle.omi_process.proofs.threads.add_threads.Goals.{then-is_note_segment+in_ok-add_from, else-is_note_segment}

pub returns-in_err-add_from-clause-gathered : goal.returns-in_err-add_from-clause-gathered
returns-in_err-add_from-clause-gathered g c = λ bytes told.
    let now = ap (λ t. t c.args.name.now) c.loop-header.invariant.same ∙ told in
    let p = err_from_is_err_and c.from_residual.result c.from_residual.ensures.1 in
    rw (p.1, p.2)
    (refused_in c.args.order bytes c.in_err-add_from.field-0.0 c.add_from.new.ids _ _ _
    (sym (in_segment c.args.order bytes c.args.headers.now c.loop-header.header-index c.loop-header-test.true c.loop-header.ids
    (sym c.is_note_segment.ensures ∙ c.if-is_note_segment.true))
    ∙ c.loop-header.invariant.sought bytes told)
    (c.in_err-add_from.ensures.gathered bytes now))

pub loop-header-preserved : goal.loop-header-preserved
loop-header-preserved g c =
    elim c.if-is_note_segment.branch [
      | then-is_note_segment+in_ok-add_from w ↦ record {
        sought = λ bytes told.
            let now = ap (λ t. t c.args.name.now) c.loop-header.invariant.same ∙ told in
            rw w.ids-is
            (sym (ap (λ x. onward c.args.order bytes x (notes_of c.args.order bytes (drop (c.loop-header.header-index + 1) c.args.headers.now))) (w.in_ok-add_from.ensures.gathered bytes now))
            ∙ sym (in_segment c.args.order bytes c.args.headers.now c.loop-header.header-index c.loop-header-test.true c.loop-header.ids
            (sym c.is_note_segment.ensures ∙ w.if-is_note_segment.true))
            ∙ c.loop-header.invariant.sought bytes told);
        same = ap g.F.Files.told w.files-is ∙ w.add_from.ensures.same ∙ c.loop-header.invariant.same;
        later = omega (arith, ap g.F.Files.reads w.files-is, w.add_from.ensures.cause.later, c.loop-header.invariant.later);
        writes = ap g.F.Files.writes w.files-is ∙ w.add_from.ensures.writes ∙ c.loop-header.invariant.writes;
      }
      | else-is_note_segment w ↦ record {
        sought = λ bytes told.
            rw w.ids-is
            (in_others c.args.order bytes c.args.headers.now c.loop-header.header-index c.loop-header-test.true c.loop-header.ids
            (sym c.is_note_segment.ensures ∙ w.if-is_note_segment.false)
            ∙ c.loop-header.invariant.sought bytes told);
        same = ap g.F.Files.told w.files-is ∙ c.loop-header.invariant.same;
        later = omega (arith, ap g.F.Files.reads w.files-is, c.loop-header.invariant.later);
        writes = ap g.F.Files.writes w.files-is ∙ c.loop-header.invariant.writes;
      }
    ]
