use Rattle.std.proofs.Common.{ℕ, Some, ap, sym, arith}
use Rattle.std.proofs.lemmas.Result.{err_from_is_err_and}
use Rattle.omi_elf.specs.declared.fault.ElfFault.TheVariants.{Short}
use Rattle.omi_elf.proofs.NoteSteps.{no_front, cut_front}
use Rattle.omi_elf.proofs.NoteSegments.{read_place}
use Rattle.omi_elf.proofs.Within.{front_piece}
use Rattle.omi_elf.proofs.notes.note_at.Goals.{then-len-at-via-then-len-at, then-len-at-via-else-len-at+then-len-at-lt-NOTE_FRONT_BYTES}
use Rattle.omi_elf.proofs.notes.note_at.Goals as goal

pub returns-then-left-lt-NOTE_FRONT_BYTES-clause-place : goal.returns-then-left-lt-NOTE_FRONT_BYTES-clause-place
returns-then-left-lt-NOTE_FRONT_BYTES-clause-place g c = λ bytes told most.
    no_front c.args.order bytes c.args.at c.args.left most c.if-left-lt-NOTE_FRONT_BYTES.true

pub returns-then-len-at-clause-place : goal.returns-then-len-at-clause-place
returns-then-len-at-clause-place g c = λ bytes told.
    let long = c.requires.len (Some bytes) told in
    rw (c.into.ensures, c.short.ensures) (
      record { place = sym long; fault = ap (λ (n : ℕ). Short n) (sym long) },
      λ most. cut_front c.args.order bytes c.args.at c.args.left most (omega arith)
          (elim c.then-len-at.branch [ then-len-at-via-then-len-at w ↦ omega (arith, long) | then-len-at-via-else-len-at+then-len-at-lt-NOTE_FRONT_BYTES w ↦ omega (arith, long) ]),
    )

pub returns-in_err-place-clause-place : goal.returns-in_err-place-clause-place
returns-in_err-place-clause-place g c = λ bytes told.
    let long = c.requires.len (Some bytes) told in
    let piece = front_piece bytes c.front.new.to c.args.at c.in_ok-count.count (omega (arith, c.in_ok-count.ensures.count, c.in_ok-count.ensures.length)) (c.in_ok-count.ensures.bytes bytes told) in
    let p = err_from_is_err_and c.from_residual-in_err-place.result c.from_residual-in_err-place.ensures.1 in
    rw (p.1, p.2) (read_place c.args.order bytes c.args.at c.args.left c.in_err-place.field-0.0 (c.in_err-place.ensures.place bytes long piece))

pub returns-clause-place : goal.returns-clause-place
returns-clause-place g c = λ bytes told.
    let long = c.requires.len (Some bytes) told in
    let piece = front_piece bytes c.front.new.to c.args.at c.in_ok-count.count (omega (arith, c.in_ok-count.ensures.count, c.in_ok-count.ensures.length)) (c.in_ok-count.ensures.bytes bytes told) in
    c.in_ok-place.ensures.place bytes long piece
