use Rattle.std.proofs.Common.{◌≡◌, ℕ, ◌+◌, arith, refl, ap, sym, ◌∙◌}
use Rattle.omi_elf.specs.declared.fault.ElfFault.TheVariants.{Short}
use Rattle.omi_elf.specs.Notes.{padded, to_next, is_ours, is_status}
use Rattle.omi_elf.proofs.NoteBeginnings.{Begins, description_is, size_is, ours_is, status_is}
use Rattle.omi_elf.proofs.NoteSteps.{no_rest, cut_rest, whole_there}
use Rattle.omi_elf.proofs.notes.note_of.Goals as goal

pub returns-then-left-end-clause-place : goal.returns-then-left-end-clause-place
returns-then-left-end-clause-place c = λ bytes long is most.
    let order = c.args.order in let at = c.args.at in let piece = c.args.beginning.now in
    let b : Begins bytes at piece = record { is = is; counted = omega (arith, c.requires.beginning, long); room = omega (arith, c.requires.within, long) } in
    no_rest order bytes at c.args.left most (omega arith) b.room
    (omega (arith, c.to_description-front.ensures.value, c.description_size-size.ensures, description_is order bytes piece at b, size_is order bytes piece at b))

pub returns-then-len-at-clause-place : goal.returns-then-len-at-clause-place
returns-then-len-at-clause-place c = λ bytes long is.
    let order = c.args.order in let at = c.args.at in let piece = c.args.beginning.now in
    let b : Begins bytes at piece = record { is = is; counted = omega (arith, c.requires.beginning, long); room = omega (arith, c.requires.within, long) } in
    let d = description_is order bytes piece at b in let s = size_is order bytes piece at b in
    rw c.short.ensures (
      record { place = sym long; fault = ap (λ (n : ℕ). Short n) (sym long) },
      λ most. cut_rest order bytes at c.args.left most (omega arith) b.room
          (omega (arith, c.to_description-front.ensures.value, c.description_size-size.ensures, d, s))
          (omega (arith, c.to_description-front.ensures.value, c.description_size-size.ensures, d, s, long)),
    )

pub returns-clause-place : goal.returns-clause-place
unfolding is_ours is_status
returns-clause-place c = λ bytes long is.
    let order = c.args.order in let at = c.args.at in let piece = c.args.beginning.now in
    let b : Begins bytes at piece = record { is = is; counted = omega (arith, c.requires.beginning, long); room = omega (arith, c.requires.within, long) } in
    let d = description_is order bytes piece at b in let s = size_is order bytes piece at b in
    let step : c.to_description-front.result + c.padded.result ≡ to_next order bytes at =
    omega (arith, c.to_description-front.ensures.value, d, c.padded.ensures, ap padded (c.description_size-size.ensures ∙ s)) in (
      record {
        at_is = refl;
        ours = c.is_named-ours.ensures ∙ ours_is order bytes piece at b;
        status = c.is_named-status.ensures ∙ status_is order bytes piece at b;
        description = omega (arith, c.to_description-front.ensures.value, d);
        size = c.description_size-size.ensures ∙ s;
      },
      λ most.
          rw step
          (whole_there order bytes at c.args.left most (omega arith) b.room
          (omega (arith, c.to_description-front.ensures.value, c.description_size-size.ensures, d, s))
          (omega (arith, c.to_description-front.ensures.value, c.description_size-size.ensures, d, s, long))),
    )
