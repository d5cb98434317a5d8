use Rattle.std.proofs.Common.{◌≡◌, true, [], ◌∷◌, Some, refl, ap, sym, subst, ◌∙◌}
use Rattle.std.specs.Prelude.{filter, nat_lt}
use Rattle.std.specs.List.{list_any}
use Rattle.std.proofs.lemmas.Result.{err_from_is_err_and}
use Rattle.std.proofs.lemmas.List.Elements.{All-same}
use Rattle.omi_elf.specs.Segments.{by_start}
use Rattle.omi_elf.specs.Segments as elf
use Rattle.omi_elf.specs.Table.{notes_row}
use Rattle.omi_elf.specs.declared.fault.ElfFault.TheVariants.{Overlap}
use Rattle.omi_elf.proofs.SegmentRows.{note_is, notes_failed, notes_passed}
use Rattle.omi_process.specs.Words.{first_overlap, is_looked_at, place_of, segments_of, words_to}
use Rattle.omi_process.specs.Reading.{IsSpelledIn, parts_in}
use Rattle.omi_process.specs.Table.{ids, overlap, overlap_of, whole_notes}
use Rattle.omi_process.specs.declared.fault.ProcessError.TheVariants.{Fault}
use Rattle.omi_process.specs.declared.fault.ProcessFault.TheVariants.{Elf}
use Rattle.omi_process.proofs.PartWords.{parts_apart, spelled_word, word_spelled}
use Rattle.omi_process.proofs.Rows.{elf_passes, elf_tells, first_tells, next_tells, next_passes}
use Rattle.omi_process.proofs.contents.contents.Goals as goal

pub returns-in_err-note-clause-rows : goal.returns-in_err-note-clause-rows
returns-in_err-note-clause-rows g c = λ bytes told.
    let p = err_from_is_err_and c.from_residual.result c.from_residual.ensures.1 in
    rw (p.1, p.2)
    (first_tells _ _ _
    (elf_tells c.in_err-note.field-0.0 (notes_row bytes)
    (notes_failed bytes c.args.order c.args.headers.now c.in_err-note.field-0.0 (c.requires.order bytes told) (c.requires.headers bytes told) (c.in_err-note.ensures.found bytes told))))

pub returns-in-Some-clause-rows : goal.returns-in-Some-clause-rows
returns-in-Some-clause-rows g c = λ bytes told.
    let found = note_is bytes c.args.order c.args.headers.now c.in_ok-note.note (c.requires.order bytes told) (c.requires.headers bytes told) (c.in_ok-note.ensures.found bytes told) in
    let whole = c.in_ok-whole.ensures.segments ∙ ap (λ hs. by_start (filter is_looked_at hs)) (c.requires.headers bytes told) in
    let one = sym (ap first_overlap (c.deref.ensures.value ∙ whole)) ∙ sym c.overlapping.ensures ∙ c.in-Some.is in
    next_tells (Fault c.in-Some.h.start_place (Elf (Overlap c.in-Some.h.p_vaddr))) (whole_notes bytes) (overlap bytes ∷ ids bytes ∷ [])
    (elf_passes (notes_row bytes) (notes_passed bytes c.in_ok-note.note found))
    (first_tells (Fault c.in-Some.h.start_place (Elf (Overlap c.in-Some.h.p_vaddr))) (overlap bytes) (ids bytes ∷ []) (ap overlap_of one))

pub listed-requires-clause-note : goal.listed-requires-clause-note
listed-requires-clause-note g c = λ bytes then.
    let told = sym (ap (λ t. t c.args.name.now) c.first_note.ensures.same) ∙ then in
    note_is bytes c.args.order c.args.headers.now c.in_ok-note.note (c.requires.order bytes told) (c.requires.headers bytes told) (c.in_ok-note.ensures.found bytes told)

pub returns-in_err-ids-clause-rows : goal.returns-in_err-ids-clause-rows
returns-in_err-ids-clause-rows g c = λ bytes told.
    let then = ap (λ t. t c.args.name.now) c.first_note.ensures.same ∙ told in
    let found = note_is bytes c.args.order c.args.headers.now c.in_ok-note.note (c.requires.order bytes told) (c.requires.headers bytes told) (c.in_ok-note.ensures.found bytes told) in
    let whole = c.in_ok-whole.ensures.segments ∙ ap (λ hs. by_start (filter is_looked_at hs)) (c.requires.headers bytes told) in
    let none = sym (ap first_overlap (c.deref.ensures.value ∙ whole)) ∙ sym c.overlapping.ensures ∙ c.in_default.is in
    let p = err_from_is_err_and c.from_residual-in_err-ids.result c.from_residual-in_err-ids.ensures.1 in
    rw (p.1, p.2)
    (next_tells c.in_err-ids.field-0.0 (whole_notes bytes) (overlap bytes ∷ ids bytes ∷ [])
    (elf_passes (notes_row bytes) (notes_passed bytes c.in_ok-note.note found))
    (next_tells c.in_err-ids.field-0.0 (overlap bytes) (ids bytes ∷ []) (ap overlap_of none)
    (first_tells c.in_err-ids.field-0.0 (ids bytes) [] (c.in_err-ids.ensures.row bytes then))))

pub returns-clause-rows : goal.returns-clause-rows
returns-clause-rows g c = λ bytes told.
    let then = ap (λ t. t c.args.name.now) c.first_note.ensures.same ∙ told in
    let found = note_is bytes c.args.order c.args.headers.now c.in_ok-note.note (c.requires.order bytes told) (c.requires.headers bytes told) (c.in_ok-note.ensures.found bytes told) in
    let whole = c.in_ok-whole.ensures.segments ∙ ap (λ hs. by_start (filter is_looked_at hs)) (c.requires.headers bytes told) in
    let none = sym (ap first_overlap (c.deref.ensures.value ∙ whole)) ∙ sym c.overlapping.ensures ∙ c.in_default.is in
    next_passes (whole_notes bytes) (overlap bytes ∷ ids bytes ∷ []) (elf_passes (notes_row bytes) (notes_passed bytes c.in_ok-note.note found))
    (next_passes (overlap bytes) (ids bytes ∷ []) (ap overlap_of none)
    (next_passes (ids bytes) [] (c.in_ok-ids.ensures.row bytes then) refl))

pub returns-clause-words : goal.returns-clause-words
returns-clause-words g c = λ bytes told address word.
    let long = c.requires.len (Some bytes) told in
    let whole = c.in_ok-whole.ensures.segments ∙ ap (λ hs. by_start (filter is_looked_at hs)) (c.requires.headers bytes told) in
    let all = All-same (λ h. is_looked_at h ≡ true) (segments_of bytes) c.in_ok-whole.whole.items (sym whole) c.in_ok-whole.ensures.looked in
    let parts = c.in_ok-segments.ensures.parts ∙ ap (parts_in c.args.len) (c.deref-2.ensures.value ∙ whole) in (
      λ s. spelled_word bytes c.args.len long address word all (subst (λ hs. IsSpelledIn bytes hs address word) parts s),
      λ has. subst (λ hs. IsSpelledIn bytes hs address word) (sym parts) (word_spelled bytes c.args.len long address word has),
    )

pub returns-clause-apart : goal.returns-clause-apart
returns-clause-apart g c =
    ap elf.first_overlap c.in_ok-segments.ensures.parts
    ∙ parts_apart c.args.len c.deref-2.result.now
    (All-same (λ h. is_looked_at h ≡ true) c.deref-2.result.now c.in_ok-whole.whole.items c.deref-2.ensures.value c.in_ok-whole.ensures.looked)
    (ap first_overlap (c.deref-2.ensures.value ∙ sym c.deref.ensures.value) ∙ sym c.overlapping.ensures ∙ c.in_default.is)

pub returns-clause-end : goal.returns-clause-end
returns-clause-end g c = λ bytes told.
    let long = c.requires.len (Some bytes) told in
    let whole = c.in_ok-whole.ensures.segments ∙ ap (λ hs. by_start (filter is_looked_at hs)) (c.requires.headers bytes told) in
    c.is_cut_off.ensures
    ∙ (λ i. list_any (λ h. nat_lt (sym long i) (place_of h (words_to h))) ((c.deref-3.ensures.value ∙ whole) i))
