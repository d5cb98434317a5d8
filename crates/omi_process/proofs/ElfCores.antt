-- An ELF core file is the core of a process, with the same words and ids.
use Rattle.std.proofs.Common.{◌≡◌, ℕ, ◌+◌, ◌-◌, ◌*◌, ◌/◌, ◌%◌, ◌≤◌, Bool, true, false, List, [], ◌∷◌, length, Option, Some, None, Ok, refl, ap, sym, subst, ◌∙◌, inl, inr, arith}
use Rattle.std.specs.Prelude.{All, Contains, filter, find, ◌&&◌, ◌==◌, nat_le, nat_lt}
use Rattle.std.specs.List.{list_all, list_any}
use Rattle.std.proofs.lemmas.Bool.{cases_Bool, eqb-true, le-ltb, leb-false, leb-true, lt-ltb, ltb-false, not-false}
use Rattle.std.proofs.lemmas.List.Elements.{All-cons, All-contains, All-contains_itself, All-head, All-nil, All-tail, All-weaker}
use Rattle.std.proofs.lemmas.List.Folds.{list_any_none}
use Rattle.omi_word.specs.declared.limits.TheConstants.{FIRST_ADDRESS, MEMORY_END}
use Rattle.omi_elf.specs.declared.limits.TheConstants.{LOAD_SEGMENT, MOST_ELF_BYTES}
use Rattle.omi_elf.specs.declared.fault.ElfFault.TheVariants.{Unaligned, Overlap, TooLarge}
use Rattle.omi_elf.specs.declared.program_header.ProgramHeader.{ProgramHeader}
use Rattle.omi_elf.specs.Header.{begins_as_elf, is_kept, kept_segments, order_of, program_headers, rounded_size, segment_end}
use Rattle.omi_elf.specs.Notes.{NotePlace, ids_found, note_found}
use Rattle.omi_elf.specs.Segments as elf
use Rattle.omi_elf.specs.Table.{contexts_row, count_row, header_rows, is_unaligned, judged_note, judgement, length_row, lies_within, notes_row, overlap_row, program_headers_row, segment_rows, segments_row, unaligned_row, words_row}
use Rattle.omi_elf.proofs.Joined.{All-sorted}
use Rattle.omi_elf.proofs.Kept.{all_passes}
use Rattle.omi_elf.proofs.Passed.{both, no_fault, none_found, none_of}
use Rattle.omi_process.specs.Ids.{listed}
use Rattle.omi_process.specs.ProcessCore.{AcceptsElfCores}
use Rattle.omi_process.specs.Table.{front, headers, ids, many_headers, overlap, overlap_of, whole_notes}
use Rattle.omi_process.specs.Words.{HasWord, first_overlap, is_looked_at, overlap_behind, place_of, segments_of, words_from, words_to}
use Rattle.omi_process.specs.declared.limits.TheConstants.{MOST_BYTES}
use Rattle.omi_process.specs.declared.listed.Listed.TheVariants.{Contexts}
use Rattle.omi_process.proofs.Rows.{elf_passes, next_passes, not_many}

-- ---- the rows that pass

record Rows (bytes : List ℕ) : Type 0 where
  front_is : header_rows MOST_BYTES bytes (length bytes) ≡ Ok tt
  headers_are : program_headers_row bytes ≡ Ok tt
  segments_are : segments_row bytes ≡ Ok tt
  notes_are : notes_row bytes ≡ Ok tt
  aligned : unaligned_row bytes ≡ Ok tt
  apart : overlap_row bytes ≡ Ok tt
  contexts : contexts_row bytes ≡ Ok tt

-- a file that isn't too long for an ELF core isn't too long for the core of a process
longer : (begins : Bool) (len : ℕ) → (begins && nat_lt MOST_ELF_BYTES len) ≡ false → (begins && nat_lt MOST_BYTES len) ≡ false
longer false len e = refl
longer true len e = le-ltb MOST_BYTES len (omega (arith, ltb-false MOST_ELF_BYTES len e))

rows_of : (bytes : List ℕ) → judgement bytes ≡ Ok tt → Rows bytes
unfolding judgement header_rows segment_rows
rows_of bytes e =
    let a = both (header_rows MOST_ELF_BYTES bytes (length bytes)) _ e in
    let b = both (length_row MOST_ELF_BYTES bytes (length bytes)) _ a.0 in
    let few = longer (begins_as_elf bytes) (length bytes) (no_fault (begins_as_elf bytes && nat_lt MOST_ELF_BYTES (length bytes)) 0 (TooLarge (length bytes)) b.0) in
    let c = both (program_headers_row bytes) _ a.1 in
    let d = both (segments_row bytes) _ c.1 in
    let f = both (notes_row bytes) _ d.1 in
    let g = both (unaligned_row bytes) _ f.1 in
    let h = both (words_row bytes) _ g.1 in
    let i = both (overlap_row bytes) _ h.1 in
    let j = both (count_row bytes) _ i.1 in
    record {
      front_is = rw few b.1;
      headers_are = c.0;
      segments_are = d.0;
      notes_are = f.0;
      aligned = g.0;
      apart = i.0;
      contexts = j.1;
    }

-- ---- the segments that are looked at are those that are kept

aligned_kept : (bytes : List ℕ) → unaligned_row bytes ≡ Ok tt → All (λ h. is_unaligned h ≡ false) (kept_segments bytes)
unfolding unaligned_row
aligned_kept bytes e = none_found is_unaligned (kept_segments bytes) (none_of Unaligned (find is_unaligned (kept_segments bytes)) e)

-- what holds of those that pass a test holds of each, if it passes
where_passed : {X : Type 0} (P : X → Type 0) (p : X → Bool) (xs : List X) → All P (filter p xs) → All (λ x. p x ≡ true → P x) xs
where_passed P p [] all = All-nil (λ x. p x ≡ true → P x)
where_passed P p (x ∷ xs) all =
    elim (cases_Bool (p x)) [
      | inl t ↦
          let kept = rw t at all in
          All-cons (λ y. p y ≡ true → P y) x xs (λ passed. All-head P x (filter p xs) kept) (where_passed P p xs (All-tail P x (filter p xs) kept))
      | inr f ↦
          let rest = rw f at all in
          All-cons (λ y. p y ≡ true → P y) x xs (λ passed. absurd (let both_ways = sym f ∙ passed in cc)) (where_passed P p xs rest)
    ]

-- a segment of a program's memory is looked at exactly where it is kept, if that one would be aligned
same_test : (mine : Bool) (h : ProgramHeader) → ((mine && nat_le 8 (rounded_size h)) ≡ true → is_unaligned h ≡ false)
    → (mine && nat_lt (words_from h) (words_to h)) ≡ (mine && nat_le 8 (rounded_size h))
same_test false h aligned = refl
same_test true h aligned =
    elim (cases_Bool (nat_le 8 (rounded_size h))) [
      | inl t ↦
          let at : h.p_vaddr % 8 ≡ 0 = eqb-true (h.p_vaddr % 8) 0 (not-false (h.p_vaddr % 8 == 0) (aligned t)) in
          let size = leb-true 8 (rounded_size h) t in
          lt-ltb (words_from h) (words_to h) (omega (arith, at, size)) ∙ sym t
      | inr f ↦
          let size = leb-false 8 (rounded_size h) f in
          le-ltb (words_from h) (words_to h) (omega (arith, size)) ∙ sym f
    ]

same_filter : (p q : ProgramHeader → Bool) (hs : List ProgramHeader) → All (λ h. p h ≡ q h) hs → filter p hs ≡ filter q hs
same_filter p q [] all = refl
same_filter p q (h ∷ hs) all =
    let one = All-head (λ x. p x ≡ q x) h hs all in let rest = same_filter p q hs (All-tail (λ x. p x ≡ q x) h hs all) in
    rw (one, rest) refl

segments_are_kept : (bytes : List ℕ) → unaligned_row bytes ≡ Ok tt → segments_of bytes ≡ elf.by_start (kept_segments bytes)
segments_are_kept bytes e =
    ap elf.by_start
    (same_filter is_looked_at is_kept (program_headers bytes)
    (All-weaker (λ h. is_kept h ≡ true → is_unaligned h ≡ false) (λ h. is_looked_at h ≡ is_kept h)
    (λ h aligned. same_test (h.p_type == LOAD_SEGMENT && nat_le FIRST_ADDRESS h.p_vaddr && nat_lt h.p_vaddr MEMORY_END) h aligned)
    (program_headers bytes)
    (where_passed (λ h. is_unaligned h ≡ false) is_kept (program_headers bytes) (aligned_kept bytes e))))

-- ---- what is known of each of them

record Fitting (len : ℕ) (h : ProgramHeader) : Type 0 where
  at : h.p_vaddr % 8 ≡ 0
  within : h.p_offset + rounded_size h ≤ len

fitting : (len : ℕ) (hs : List ProgramHeader) → All (λ h. is_unaligned h ≡ false) hs → All (λ h. lies_within len h ≡ true) hs → All (Fitting len) hs
fitting len [] a w = All-nil (Fitting len)
fitting len (h ∷ hs) a w =
    All-cons (Fitting len) h hs
    (record {
      at = eqb-true (h.p_vaddr % 8) 0 (not-false (h.p_vaddr % 8 == 0) (All-head (λ x. is_unaligned x ≡ false) h hs a));
      within = leb-true (h.p_offset + rounded_size h) len (All-head (λ x. lies_within len x ≡ true) h hs w);
    })
    (fitting len hs (All-tail (λ x. is_unaligned x ≡ false) h hs a) (All-tail (λ x. lies_within len x ≡ true) h hs w))

kept_fit : (bytes : List ℕ) → Rows bytes → All (Fitting (length bytes)) (kept_segments bytes)
unfolding segments_row
kept_fit bytes r =
    fitting (length bytes) (kept_segments bytes) (aligned_kept bytes r.aligned)
    (all_passes (lies_within (length bytes)) (kept_segments bytes)
    (not-false (list_all (lies_within (length bytes)) (kept_segments bytes)) (no_fault _ _ _ r.segments_are)))

-- their words end where the segments of an ELF core do
ends_same : (len : ℕ) (h : ProgramHeader) → Fitting len h → words_to h ≡ segment_end h
ends_same len h f = omega (arith, f.at)

none_behind : (len : ℕ) (h : ProgramHeader) (hs : List ProgramHeader) → All (Fitting len) (h ∷ hs) → elf.overlap_behind h hs ≡ None → overlap_behind h hs ≡ None
none_behind len h [] all e = refl
none_behind len h (g ∷ gs) all e =
    let fh = All-head (Fitting len) h (g ∷ gs) all in
    let rest = All-tail (Fitting len) h (g ∷ gs) all in
    let fg = All-head (Fitting len) g gs rest in
    elim (cases_Bool (nat_lt g.p_vaddr (segment_end h))) [
      | inl t ↦ absurd (let q = rw t at e in cc)
      | inr f ↦
          let q = rw f at e in
          let le = ltb-false g.p_vaddr (segment_end h) f in
          let test = le-ltb (words_from g) (words_to h) (omega (arith, le, fg.at, ends_same len h fh)) in
          rw test (none_behind len g gs rest q)
    ]

none_overlaps : (len : ℕ) (hs : List ProgramHeader) → All (Fitting len) hs → elf.first_overlap hs ≡ None → first_overlap hs ≡ None
none_overlaps len [] all e = refl
none_overlaps len (h ∷ hs) all e = none_behind len h hs all e

none_cut : (len : ℕ) (hs : List ProgramHeader) → All (Fitting len) hs → All (λ h. nat_lt len (place_of h (words_to h)) ≡ false) hs
none_cut len [] all = All-nil (λ h. nat_lt len (place_of h (words_to h)) ≡ false)
none_cut len (h ∷ hs) all =
    let f = All-head (Fitting len) h hs all in
    All-cons (λ x. nat_lt len (place_of x (words_to x)) ≡ false) h hs
    (le-ltb len (place_of h (words_to h)) (omega (arith, ends_same len h f, f.within)))
    (none_cut len hs (All-tail (Fitting len) h hs all))

-- ---- an element of a list is one of it in order of start, and the other way round

unplaced : (P : ProgramHeader → Type 0) (h : ProgramHeader) (hs : List ProgramHeader) → All P (elf.in_place h hs) → P h × All P hs
unplaced P h [] all = (All-head P h [] all, All-tail P h [] all)
unplaced P h (g ∷ gs) all =
    elim (cases_Bool (nat_le h.p_vaddr g.p_vaddr)) [
      | inl t ↦ let whole = rw t at all in (All-head P h (g ∷ gs) whole, All-tail P h (g ∷ gs) whole)
      | inr f ↦
          let whole = rw f at all in
          let rest = unplaced P h gs (All-tail P g (elf.in_place h gs) whole) in
          (rest.0, All-cons P g gs (All-head P g (elf.in_place h gs) whole) rest.1)
    ]

unsorted : (P : ProgramHeader → Type 0) (hs : List ProgramHeader) → All P (elf.by_start hs) → All P hs
unsorted P [] all = all
unsorted P (h ∷ hs) all = let one = unplaced P h (elf.by_start hs) all in All-cons P h hs one.0 (unsorted P hs one.1)

in_sorted : (hs : List ProgramHeader) (h : ProgramHeader) → Contains hs h → Contains (elf.by_start hs) h
in_sorted hs h c = All-contains (Contains (elf.by_start hs)) hs h (unsorted (Contains (elf.by_start hs)) hs (All-contains_itself (elf.by_start hs))) c

of_sorted : (hs : List ProgramHeader) (h : ProgramHeader) → Contains (elf.by_start hs) h → Contains hs h
of_sorted hs h c = All-contains (Contains hs) (elf.by_start hs) h (All-sorted (Contains hs) hs (All-contains_itself hs)) c

-- ---- words

module _ (bytes : List ℕ) (r : Rows bytes) (address word : ℕ) where
  has_spelled : elf.IsSpelledAt bytes address word → HasWord bytes address word
  has_spelled s =
      let fit = All-contains (Fitting (length bytes)) (kept_segments bytes) s.segment (kept_fit bytes r) s.kept in
      let place : place_of s.segment address ≡ s.segment.p_offset + 8 * s.index = omega (arith, s.address_is) in
      record {
        segment = s.segment;
        among = subst (λ hs. Contains hs s.segment) (sym (segments_are_kept bytes r.aligned)) (in_sorted (kept_segments bytes) s.segment s.kept);
        aligned = omega (arith, s.address_is, fit.at);
        from = omega (arith, s.address_is);
        to = omega (arith, s.address_is, s.inside);
        there = omega (arith, place, s.inside, fit.within);
        word_is = s.word_is ∙ ap (elf.word_in_file bytes) (sym place);
      }

  spelled_has : HasWord bytes address word → elf.IsSpelledAt bytes address word
  spelled_has has =
      let kept = of_sorted (kept_segments bytes) has.segment (subst (λ hs. Contains hs has.segment) (segments_are_kept bytes r.aligned) has.among) in
      let fit = All-contains (Fitting (length bytes)) (kept_segments bytes) has.segment (kept_fit bytes r) kept in
      let index : ℕ = (address - has.segment.p_vaddr) / 8 in
      let at : address ≡ has.segment.p_vaddr + 8 * index = omega (arith, has.aligned, has.from, fit.at) in
      let place : place_of has.segment address ≡ has.segment.p_offset + 8 * index = omega (arith, at) in
      record {
        segment = has.segment;
        kept = kept;
        index = index;
        inside = omega (arith, at, has.to);
        address_is = at;
        word_is = has.word_is ∙ ap (elf.word_in_file bytes) place;
      }

-- ---- ids

note_judged : (bytes : List ℕ) → contexts_row bytes ≡ Ok tt → judged_note bytes (note_found bytes) ≡ Ok tt
unfolding contexts_row
note_judged bytes e = e

ids_are : (bytes : List ℕ) → contexts_row bytes ≡ Ok tt → (ids bytes ≡ None) × (listed bytes ≡ Contexts (ids_found (order_of bytes) bytes (note_found bytes)))
ids_are bytes e = go (note_found bytes) refl (note_judged bytes e)
  where
    go : (note : Option NotePlace) → note_found bytes ≡ note → judged_note bytes note ≡ Ok tt
        → (ids bytes ≡ None) × (listed bytes ≡ Contexts (ids_found (order_of bytes) bytes (note_found bytes)))
    go None found judged = absurd cc
    go (Some note) found judged = rw found (elf_passes (judged_note bytes (Some note)) judged, refl)

overlap_passes : (bytes : List ℕ) → overlap_row bytes ≡ Ok tt → elf.first_overlap (elf.by_start (kept_segments bytes)) ≡ None
unfolding overlap_row
overlap_passes bytes e = none_of Overlap (elf.first_overlap (elf.by_start (kept_segments bytes))) e

-- ---- the law

pub elf_cores_accepted : AcceptsElfCores
elf_cores_accepted bytes c is counted words told =
    let r = rows_of bytes is.faultless in
    let same = segments_are_kept bytes r.aligned in
    let fit : All (Fitting (length bytes)) (elf.by_start (kept_segments bytes)) = All-sorted (Fitting (length bytes)) (kept_segments bytes) (kept_fit bytes r) in
    let listed_ids = ids_are bytes r.contexts in
    record {
      faultless =
          next_passes (front bytes) _ (elf_passes (header_rows MOST_BYTES bytes (length bytes)) r.front_is)
          (next_passes (many_headers bytes) _ (not_many bytes counted)
          (next_passes (headers bytes) _ (elf_passes (program_headers_row bytes) r.headers_are)
          (next_passes (whole_notes bytes) _ (elf_passes (notes_row bytes) r.notes_are)
          (next_passes (overlap bytes) _ (ap overlap_of (ap first_overlap same ∙ none_overlaps (length bytes) (elf.by_start (kept_segments bytes)) fit (overlap_passes bytes r.apart)))
          (next_passes (ids bytes) [] listed_ids.0 refl)))));
      order_is = is.order;
      words_are = λ address word. (
        λ told_word. has_spelled bytes r address word ((is.words address word).0 ((told address word).0 told_word)),
        λ has. (told address word).1 ((is.words address word).1 (spelled_has bytes r address word has)),
      );
      ids_are = ap Contexts is.contexts_are ∙ sym listed_ids.1;
      end_is = sym (ap (list_any (λ h. nat_lt (length bytes) (place_of h (words_to h)))) same
          ∙ list_any_none (λ h. nat_lt (length bytes) (place_of h (words_to h))) (elf.by_start (kept_segments bytes)) (none_cut (length bytes) (elf.by_start (kept_segments bytes)) fit));
    }
