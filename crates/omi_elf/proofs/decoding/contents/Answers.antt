use Rattle.std.proofs.Common.{◌≡◌, ◌%◌, ◌≤◌, length, sym, ap, ◌∙◌, Some, arith}
use Rattle.std.specs.Prelude.{filter}
use Rattle.std.proofs.lemmas.Result.{err_from_is_err_and}
use Rattle.std.proofs.lemmas.List.Elements.{All-same}
use Rattle.std.proofs.lemmas.List.Sorted.{All-permutation, length_permutation}
use Rattle.omi_elf.specs.Header.{is_kept, kept_segments, word_count}
use Rattle.omi_elf.specs.declared.program_header.ProgramHeader.{ProgramHeader}
use Rattle.omi_corefile.specs.declared.limits.TheConstants.{MOST_SEGMENT_WORDS}
use Rattle.omi_elf.specs.Segments.{by_start, first_overlap}
use Rattle.omi_elf.specs.declared.fault.ElfFault.TheVariants.{Overlap}
use Rattle.omi_elf.specs.Notes.{ids_found}
use Rattle.omi_elf.specs.Found.{IsReadable, IsBounded, FitsIn}
use Rattle.omi_elf.proofs.SegmentRows.{filter_shorter, segments_is, unaligned_is, words_is, overlap_is, count_is, note_is, notes_passed, notes_failed}
use Rattle.omi_elf.proofs.SegmentRows.{contexts_is, read_along, fails_along, fails_1, fails_2, fails_3, fails_4, fails_5, fails_6, fails_7, all_pass}
use Rattle.omi_elf.proofs.Passed.{none_of}
use Rattle.omi_elf.proofs.decoding.contents.Goals as goal

pub returns-in_err-judge_segments-clause-rows : goal.returns-in_err-judge_segments-clause-rows
returns-in_err-judge_segments-clause-rows g c = λ bytes told.
    let kept : c.in_ok-kept.kept.items ≡ kept_segments bytes = c.in_ok-kept.ensures ∙ ap (filter is_kept) (c.requires.headers bytes told) in
    let long = c.requires.len (Some bytes) told in
    let p = err_from_is_err_and c.from_residual-in_err-judge_segments.result c.from_residual-in_err-judge_segments.ensures.1 in
    rw (p.1, p.2)
    (fails_1 _ bytes
    (read_along c.in_err-judge_segments.field-0.0 _ _ (segments_is bytes c.args.len c.deref.result.now long (c.deref.ensures.value ∙ kept)) c.in_err-judge_segments.ensures.row))

pub returns-in_err-note-clause-rows : goal.returns-in_err-note-clause-rows
returns-in_err-note-clause-rows g c = λ bytes told.
    let kept : c.in_ok-kept.kept.items ≡ kept_segments bytes = c.in_ok-kept.ensures ∙ ap (filter is_kept) (c.requires.headers bytes told) in
    let long = c.requires.len (Some bytes) told in
    let segments = sym (segments_is bytes c.args.len c.deref.result.now long (c.deref.ensures.value ∙ kept)) ∙ c.in_ok-judge_segments.ensures.row in
    let p = err_from_is_err_and c.from_residual-in_err-note.result c.from_residual-in_err-note.ensures.1 in
    rw (p.1, p.2)
    (fails_2 c.in_err-note.field-0.0 bytes segments
    (notes_failed bytes c.args.order c.args.headers.now c.in_err-note.field-0.0 (c.requires.order bytes told) (c.requires.headers bytes told) (c.in_err-note.ensures.found bytes told)))

pub returns-in_err-judge_starts-clause-rows : goal.returns-in_err-judge_starts-clause-rows
returns-in_err-judge_starts-clause-rows g c = λ bytes told.
    let kept : c.in_ok-kept.kept.items ≡ kept_segments bytes = c.in_ok-kept.ensures ∙ ap (filter is_kept) (c.requires.headers bytes told) in
    let long = c.requires.len (Some bytes) told in
    let segments = sym (segments_is bytes c.args.len c.deref.result.now long (c.deref.ensures.value ∙ kept)) ∙ c.in_ok-judge_segments.ensures.row in
    let found = note_is bytes c.args.order c.args.headers.now c.in_ok-note.note (c.requires.order bytes told) (c.requires.headers bytes told) (c.in_ok-note.ensures.found bytes told) in
    let notes = notes_passed bytes c.in_ok-note.note found in
    let p = err_from_is_err_and c.from_residual-in_err-judge_starts.result c.from_residual-in_err-judge_starts.ensures.1 in
    rw (p.1, p.2)
    (fails_3 _ bytes segments notes
    (read_along c.in_err-judge_starts.field-0.0 _ _ (unaligned_is bytes c.deref-2.result.now (c.deref-2.ensures.value ∙ kept)) c.in_err-judge_starts.ensures.row))

pub judge_words-requires-clause-few : goal.judge_words-requires-clause-few
judge_words-requires-clause-few g c =
    omega (arith, ap length c.deref-3.ensures.value, ap length c.in_ok-kept.ensures, filter_shorter is_kept c.args.headers.now, c.requires.few)

pub returns-in_err-judge_words-clause-rows : goal.returns-in_err-judge_words-clause-rows
returns-in_err-judge_words-clause-rows g c = λ bytes told.
    let kept : c.in_ok-kept.kept.items ≡ kept_segments bytes = c.in_ok-kept.ensures ∙ ap (filter is_kept) (c.requires.headers bytes told) in
    let long = c.requires.len (Some bytes) told in
    let segments = sym (segments_is bytes c.args.len c.deref.result.now long (c.deref.ensures.value ∙ kept)) ∙ c.in_ok-judge_segments.ensures.row in
    let found = note_is bytes c.args.order c.args.headers.now c.in_ok-note.note (c.requires.order bytes told) (c.requires.headers bytes told) (c.in_ok-note.ensures.found bytes told) in
    let notes = notes_passed bytes c.in_ok-note.note found in
    let aligned = sym (unaligned_is bytes c.deref-2.result.now (c.deref-2.ensures.value ∙ kept)) ∙ c.in_ok-judge_starts.ensures.row in
    let p = err_from_is_err_and c.from_residual-in_err-judge_words.result c.from_residual-in_err-judge_words.ensures.1 in
    rw (p.1, p.2)
    (fails_4 _ bytes (segments, notes, aligned)
    (read_along c.in_err-judge_words.field-0.0 _ _ (words_is bytes c.deref-3.result.now (c.deref-3.ensures.value ∙ kept)) c.in_err-judge_words.ensures.row))

pub judge_overlap-requires : goal.judge_overlap-requires
judge_overlap-requires g c =
    All-same IsBounded c.deref-4.result.now c.sort_by_start.new.kept.items c.deref-4.ensures.value
    (All-permutation IsBounded c.in_ok-kept.kept.items c.sort_by_start.new.kept.items c.in_ok-sort_by_start.ensures.same
    (All-same IsBounded c.in_ok-kept.kept.items c.deref.result.now (sym c.deref.ensures.value) c.in_ok-judge_segments.ensures.bounded))

pub judge_count-requires : goal.judge_count-requires
judge_count-requires g c =
    All-same IsBounded c.deref-5.result.now c.sort_by_start.new.kept.items c.deref-5.ensures.value
    (All-permutation IsBounded c.in_ok-kept.kept.items c.sort_by_start.new.kept.items c.in_ok-sort_by_start.ensures.same
    (All-same IsBounded c.in_ok-kept.kept.items c.deref.result.now (sym c.deref.ensures.value) c.in_ok-judge_segments.ensures.bounded))

pub returns-in_err-judge_overlap-clause-rows : goal.returns-in_err-judge_overlap-clause-rows
returns-in_err-judge_overlap-clause-rows g c = λ bytes told.
    let kept : c.in_ok-kept.kept.items ≡ kept_segments bytes = c.in_ok-kept.ensures ∙ ap (filter is_kept) (c.requires.headers bytes told) in
    let long = c.requires.len (Some bytes) told in
    let segments = sym (segments_is bytes c.args.len c.deref.result.now long (c.deref.ensures.value ∙ kept)) ∙ c.in_ok-judge_segments.ensures.row in
    let found = note_is bytes c.args.order c.args.headers.now c.in_ok-note.note (c.requires.order bytes told) (c.requires.headers bytes told) (c.in_ok-note.ensures.found bytes told) in
    let notes = notes_passed bytes c.in_ok-note.note found in
    let aligned = sym (unaligned_is bytes c.deref-2.result.now (c.deref-2.ensures.value ∙ kept)) ∙ c.in_ok-judge_starts.ensures.row in
    let words = sym (words_is bytes c.deref-3.result.now (c.deref-3.ensures.value ∙ kept)) ∙ c.in_ok-judge_words.ensures.row in
    let sorted : c.sort_by_start.new.kept.items ≡ by_start (kept_segments bytes) = c.in_ok-sort_by_start.ensures.ordered ∙ ap by_start kept in
    let p = err_from_is_err_and c.from_residual-in_err-judge_overlap.result c.from_residual-in_err-judge_overlap.ensures.1 in
    rw (p.1, p.2)
    (fails_5 _ bytes (segments, notes, aligned) words
    (read_along c.in_err-judge_overlap.field-0.0 _ _ (overlap_is bytes c.deref-4.result.now (c.deref-4.ensures.value ∙ sorted)) c.in_err-judge_overlap.ensures))

pub returns-in_err-judge_count-clause-rows : goal.returns-in_err-judge_count-clause-rows
returns-in_err-judge_count-clause-rows g c = λ bytes told.
    let kept : c.in_ok-kept.kept.items ≡ kept_segments bytes = c.in_ok-kept.ensures ∙ ap (filter is_kept) (c.requires.headers bytes told) in
    let long = c.requires.len (Some bytes) told in
    let segments = sym (segments_is bytes c.args.len c.deref.result.now long (c.deref.ensures.value ∙ kept)) ∙ c.in_ok-judge_segments.ensures.row in
    let found = note_is bytes c.args.order c.args.headers.now c.in_ok-note.note (c.requires.order bytes told) (c.requires.headers bytes told) (c.in_ok-note.ensures.found bytes told) in
    let notes = notes_passed bytes c.in_ok-note.note found in
    let aligned = sym (unaligned_is bytes c.deref-2.result.now (c.deref-2.ensures.value ∙ kept)) ∙ c.in_ok-judge_starts.ensures.row in
    let words = sym (words_is bytes c.deref-3.result.now (c.deref-3.ensures.value ∙ kept)) ∙ c.in_ok-judge_words.ensures.row in
    let sorted : c.sort_by_start.new.kept.items ≡ by_start (kept_segments bytes) = c.in_ok-sort_by_start.ensures.ordered ∙ ap by_start kept in
    let apart = sym (overlap_is bytes c.deref-4.result.now (c.deref-4.ensures.value ∙ sorted)) ∙ c.in_ok-judge_overlap.ensures in
    let p = err_from_is_err_and c.from_residual-in_err-judge_count.result c.from_residual-in_err-judge_count.ensures.1 in
    rw (p.1, p.2)
    (fails_6 _ bytes (segments, notes, aligned) words apart
    (read_along c.in_err-judge_count.field-0.0 _ _ (count_is bytes c.deref-5.result.now (c.deref-5.ensures.value ∙ sorted)) c.in_err-judge_count.ensures))

pub returns-in_err-contexts-clause-rows : goal.returns-in_err-contexts-clause-rows
returns-in_err-contexts-clause-rows g c = λ bytes told.
    let kept : c.in_ok-kept.kept.items ≡ kept_segments bytes = c.in_ok-kept.ensures ∙ ap (filter is_kept) (c.requires.headers bytes told) in
    let long = c.requires.len (Some bytes) told in
    let segments = sym (segments_is bytes c.args.len c.deref.result.now long (c.deref.ensures.value ∙ kept)) ∙ c.in_ok-judge_segments.ensures.row in
    let found = note_is bytes c.args.order c.args.headers.now c.in_ok-note.note (c.requires.order bytes told) (c.requires.headers bytes told) (c.in_ok-note.ensures.found bytes told) in
    let notes = notes_passed bytes c.in_ok-note.note found in
    let aligned = sym (unaligned_is bytes c.deref-2.result.now (c.deref-2.ensures.value ∙ kept)) ∙ c.in_ok-judge_starts.ensures.row in
    let words = sym (words_is bytes c.deref-3.result.now (c.deref-3.ensures.value ∙ kept)) ∙ c.in_ok-judge_words.ensures.row in
    let sorted : c.sort_by_start.new.kept.items ≡ by_start (kept_segments bytes) = c.in_ok-sort_by_start.ensures.ordered ∙ ap by_start kept in
    let apart = sym (overlap_is bytes c.deref-4.result.now (c.deref-4.ensures.value ∙ sorted)) ∙ c.in_ok-judge_overlap.ensures in
    let few = sym (count_is bytes c.deref-5.result.now (c.deref-5.ensures.value ∙ sorted)) ∙ c.in_ok-judge_count.ensures in
    let now = ap (λ t. t c.args.name.now) c.first_note.ensures.same ∙ told in
    let p = err_from_is_err_and c.from_residual-in_err-contexts.result c.from_residual-in_err-contexts.ensures.1 in
    rw (p.1, p.2)
    (fails_7 c.in_err-contexts.field-0.0 bytes (segments, notes, aligned) (words, apart, few)
    (fails_along c.in_err-contexts.field-0.0 _ _ (contexts_is bytes c.in_ok-note.note found)
    (c.in_err-contexts.ensures.row bytes now (c.requires.order bytes told) (c.in_ok-note.ensures.described bytes told))))

pub returns-clause-rows : goal.returns-clause-rows
returns-clause-rows g c = λ bytes told.
    let kept : c.in_ok-kept.kept.items ≡ kept_segments bytes = c.in_ok-kept.ensures ∙ ap (filter is_kept) (c.requires.headers bytes told) in
    let long = c.requires.len (Some bytes) told in
    let segments = sym (segments_is bytes c.args.len c.deref.result.now long (c.deref.ensures.value ∙ kept)) ∙ c.in_ok-judge_segments.ensures.row in
    let found = note_is bytes c.args.order c.args.headers.now c.in_ok-note.note (c.requires.order bytes told) (c.requires.headers bytes told) (c.in_ok-note.ensures.found bytes told) in
    let notes = notes_passed bytes c.in_ok-note.note found in
    let aligned = sym (unaligned_is bytes c.deref-2.result.now (c.deref-2.ensures.value ∙ kept)) ∙ c.in_ok-judge_starts.ensures.row in
    let words = sym (words_is bytes c.deref-3.result.now (c.deref-3.ensures.value ∙ kept)) ∙ c.in_ok-judge_words.ensures.row in
    let sorted : c.sort_by_start.new.kept.items ≡ by_start (kept_segments bytes) = c.in_ok-sort_by_start.ensures.ordered ∙ ap by_start kept in
    let apart = sym (overlap_is bytes c.deref-4.result.now (c.deref-4.ensures.value ∙ sorted)) ∙ c.in_ok-judge_overlap.ensures in
    let few = sym (count_is bytes c.deref-5.result.now (c.deref-5.ensures.value ∙ sorted)) ∙ c.in_ok-judge_count.ensures in
    let now = ap (λ t. t c.args.name.now) c.first_note.ensures.same ∙ told in
    all_pass bytes (segments, notes, aligned) (words, apart, few)
    (sym (contexts_is bytes c.in_ok-note.note found) ∙ c.in_ok-contexts.ensures.row bytes now (c.requires.order bytes told) (c.in_ok-note.ensures.described bytes told))

pub returns-clause-contexts : goal.returns-clause-contexts
returns-clause-contexts g c = λ bytes told.
    let found = note_is bytes c.args.order c.args.headers.now c.in_ok-note.note (c.requires.order bytes told) (c.requires.headers bytes told) (c.in_ok-note.ensures.found bytes told) in
    let now = ap (λ t. t c.args.name.now) c.first_note.ensures.same ∙ told in
    c.in_ok-contexts.ensures.ids bytes now (c.in_ok-note.ensures.described bytes told)
    ∙ (λ i. ids_found (c.requires.order bytes told i) bytes (sym found i))

pub returns-clause-segments : goal.returns-clause-segments
returns-clause-segments g c = λ bytes told.
    let kept : c.in_ok-kept.kept.items ≡ kept_segments bytes = c.in_ok-kept.ensures ∙ ap (filter is_kept) (c.requires.headers bytes told) in
    c.in_ok-sort_by_start.ensures.ordered ∙ ap by_start kept

pub returns-clause-fit : goal.returns-clause-fit
returns-clause-fit g c =
    let items = c.in_ok-kept.kept.items in
    let within = All-same (IsReadable c.args.len) items c.deref.result.now (sym c.deref.ensures.value) c.in_ok-judge_segments.ensures.readable in
    let bounded = All-same IsBounded items c.deref.result.now (sym c.deref.ensures.value) c.in_ok-judge_segments.ensures.bounded in
    let aligned = All-same (λ (h : ProgramHeader). h.p_vaddr % 8 ≡ 0) items c.deref-2.result.now (sym c.deref-2.ensures.value) c.in_ok-judge_starts.ensures.aligned in
    let few = All-same (λ (h : ProgramHeader). word_count h ≤ MOST_SEGMENT_WORDS) items c.deref-3.result.now (sym c.deref-3.ensures.value) c.in_ok-judge_words.ensures.few in
    All-permutation (FitsIn c.args.len) items c.sort_by_start.new.kept.items c.in_ok-sort_by_start.ensures.same
    (λ k d lt. record {
      within = (within k d lt).within;
      aligned = aligned k d lt;
      low = (bounded k d lt).low;
      few = few k d lt;
    })

pub returns-clause-apart : goal.returns-clause-apart
returns-clause-apart g c =
    ap first_overlap (sym c.deref-4.ensures.value) ∙ none_of Overlap (first_overlap c.deref-4.result.now) c.in_ok-judge_overlap.ensures

pub returns-clause-bounded : goal.returns-clause-bounded
returns-clause-bounded g c =
    omega (arith, length_permutation _ _ c.in_ok-sort_by_start.ensures.same, ap length c.in_ok-kept.ensures, filter_shorter is_kept c.args.headers.now, c.requires.few)
