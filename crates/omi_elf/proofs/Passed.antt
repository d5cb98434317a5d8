-- What a file is like in which no row of the table tells a fault.
use Rattle.std.proofs.Common.{◌≡◌, ℕ, ◌≤◌, Bool, true, false, cond, List, [], ◌∷◌, length, Option, Some, None, Ok, Err, refl, inl, inr, arith}
use Rattle.std.specs.Prelude.{All, find, not, ◌&&◌, ◌||◌, ◌==◌, nat_le, nat_lt, ◌%◌}
use Rattle.std.proofs.lemmas.Bool.{ltb-false, leb-true, eqb-true, and_parts, or_cases, not-false}
use Rattle.std.proofs.lemmas.List.Elements.{All-nil, All-cons}
use Rattle.omi_corefile.specs.Limits.{rises_from}
use Rattle.omi_corefile.specs.declared.limits.TheConstants.{MOST_SEGMENTS, MOST_SEGMENT_WORDS}
use Rattle.omi_elf.specs.declared.fault.ElfFault.{ElfFault}
use Rattle.omi_elf.specs.declared.fault.ElfFault.TheVariants.{Unaligned, Overlap}
use Rattle.omi_elf.specs.declared.limits.TheConstants.{MOST_ELF_BYTES, MOST_ID_BYTES}
use Rattle.omi_elf.specs.declared.program_header.ProgramHeader.{ProgramHeader}
use Rattle.omi_elf.specs.Header.{ei_data, order_of, kept_segments}
use Rattle.omi_elf.specs.Notes.{NotePlace, note_found, n_descsz, ids_of}
use Rattle.omi_elf.specs.Segments.{by_start, first_overlap, count_apart}
use Rattle.omi_elf.specs.Table.{Judged, ◌>>=◌, fault_if, short_if, fault_of, length_row, magic_row, class_row, data_row, program_headers_row, segments_row, notes_row, unaligned_row}
use Rattle.omi_elf.specs.Table.{words_row, overlap_row, count_row, contexts_row, front_rows, header_rows, segment_rows, judgement, is_unaligned, words_of_all, is_cut, judged_note, lists_ids}

-- a row that tells no fault lets the next be judged
pub both : (a : Judged) (f : Unit {0} → Judged) → (a >>= f) ≡ Ok tt → (a ≡ Ok tt) × (f tt ≡ Ok tt)
both (Ok u) f e = (refl, e)
both (Err r) f e = absurd cc

pub no_fault : (b : Bool) (at : ℕ) (why : ElfFault) → fault_if b at why ≡ Ok tt → b ≡ false
no_fault true at why e = absurd cc
no_fault false at why e = refl

pub none_of : (why : ℕ → ElfFault) (o : Option ProgramHeader) → fault_of why o ≡ Ok tt → o ≡ None
none_of why None e = refl
none_of why (Some h) e = absurd cc

-- no element passes a test for which none is found
cond_none : {X : Type 0} (b : Bool) (x : X) (o : Option X) → cond b (Some x) o ≡ None → (b ≡ false) × (o ≡ None)
cond_none true x o e = absurd cc
cond_none false x o e = (refl, e)

pub none_found : {X : Type 0} (p : X → Bool) (xs : List X) → find p xs ≡ None → All (λ x. p x ≡ false) xs
none_found p [] e = All-nil (λ x. p x ≡ false)
none_found p (x ∷ xs) e =
    let q = cond_none (p x) x (find p xs) e in All-cons (λ y. p y ≡ false) x xs q.0 (none_found p xs q.1)

pub record PassedNote (bytes : List ℕ) : Type 0 where
  pub at : ℕ
  pub found : note_found bytes ≡ Some (Some at)
  pub whole : n_descsz (order_of bytes) bytes at % 8 ≡ 0
  pub few : n_descsz (order_of bytes) bytes at ≤ MOST_ID_BYTES
  pub rise : rises_from 0 (ids_of (order_of bytes) bytes at) ≡ true

pub record Passed (bytes : List ℕ) : Type 0 where
  pub order : order_of bytes ≤ 1
  pub aligned : All (λ h. is_unaligned h ≡ false) (kept_segments bytes)
  pub few_words : words_of_all (kept_segments bytes) ≤ MOST_SEGMENT_WORDS
  pub no_overlap : first_overlap (by_start (kept_segments bytes)) ≡ None
  pub few : count_apart (by_start (kept_segments bytes)) ≤ MOST_SEGMENTS
  pub note : PassedNote bytes

order_passed : (bytes : List ℕ) → data_row bytes (length bytes) ≡ Ok tt → order_of bytes ≤ 1
unfolding data_row
order_passed bytes e =
    let a = both (short_if (length bytes) (nat_lt (length bytes) 6)) (λ u. fault_if (not (ei_data bytes == 1 || ei_data bytes == 2)) 5 (ElfFault.Order (ei_data bytes))) e in
    let b = no_fault (not (ei_data bytes == 1 || ei_data bytes == 2)) 5 (ElfFault.Order (ei_data bytes)) a.1 in
    let c = or_cases (ei_data bytes == 1) (ei_data bytes == 2) (not-false (ei_data bytes == 1 || ei_data bytes == 2) b) in
    elim c [
      | inl one ↦ let d = eqb-true (ei_data bytes) 1 one in omega (arith, d)
      | inr two ↦ let d = eqb-true (ei_data bytes) 2 two in omega (arith, d)
    ]

note_passed : (bytes : List ℕ) (f : Option NotePlace) → note_found bytes ≡ f → is_cut f ≡ false
    → judged_note bytes f ≡ Ok tt → PassedNote bytes
note_passed bytes None e cut row = absurd cc
note_passed bytes (Some None) e cut row = absurd cc
note_passed bytes (Some (Some at)) e cut row =
    let good = not-false (lists_ids bytes at) (no_fault (not (lists_ids bytes at)) _ _ row) in
    let a = and_parts (n_descsz (order_of bytes) bytes at % 8 == 0 && nat_le (n_descsz (order_of bytes) bytes at) MOST_ID_BYTES) (rises_from 0 (ids_of (order_of bytes) bytes at)) good in
    let b = and_parts (n_descsz (order_of bytes) bytes at % 8 == 0) (nat_le (n_descsz (order_of bytes) bytes at) MOST_ID_BYTES) a.0 in
    record {
      at = at;
      found = e;
      whole = eqb-true (n_descsz (order_of bytes) bytes at % 8) 0 b.0;
      few = leb-true (n_descsz (order_of bytes) bytes at) MOST_ID_BYTES b.1;
      rise = a.1;
    }

data_passed : (bytes : List ℕ) → header_rows MOST_ELF_BYTES bytes (length bytes) ≡ Ok tt → data_row bytes (length bytes) ≡ Ok tt
unfolding header_rows front_rows
data_passed bytes e =
    let a = both (length_row MOST_ELF_BYTES bytes (length bytes)) _ e in
    let b = both (magic_row bytes) _ a.1 in
    let c = both (class_row bytes (length bytes)) _ b.1 in
    (both (data_row bytes (length bytes)) _ c.1).0

pub record SegmentRows (bytes : List ℕ) : Type 0 where
  pub notes : notes_row bytes ≡ Ok tt
  pub aligned : unaligned_row bytes ≡ Ok tt
  pub words : words_row bytes ≡ Ok tt
  pub apart : overlap_row bytes ≡ Ok tt
  pub few : count_row bytes ≡ Ok tt
  pub contexts : contexts_row bytes ≡ Ok tt

segment_rows_passed : (bytes : List ℕ) → segment_rows bytes ≡ Ok tt → SegmentRows bytes
unfolding segment_rows
segment_rows_passed bytes e =
    let a = both (segments_row bytes) _ e in
    let b = both (notes_row bytes) _ a.1 in
    let c = both (unaligned_row bytes) _ b.1 in
    let d = both (words_row bytes) _ c.1 in
    let f = both (overlap_row bytes) _ d.1 in
    let g = both (count_row bytes) _ f.1 in
    record { notes = b.0; aligned = c.0; words = d.0; apart = f.0; few = g.0; contexts = g.1 }

rows_passed : (bytes : List ℕ) → judgement bytes ≡ Ok tt → (header_rows MOST_ELF_BYTES bytes (length bytes) ≡ Ok tt) × (segment_rows bytes ≡ Ok tt)
unfolding judgement
rows_passed bytes e =
    let a = both (header_rows MOST_ELF_BYTES bytes (length bytes)) _ e in
    let b = both (program_headers_row bytes) _ a.1 in
    (a.0, b.1)

aligned_passed : (bytes : List ℕ) → unaligned_row bytes ≡ Ok tt → All (λ h. is_unaligned h ≡ false) (kept_segments bytes)
unfolding unaligned_row
aligned_passed bytes e = none_found is_unaligned (kept_segments bytes) (none_of Unaligned (find is_unaligned (kept_segments bytes)) e)

words_passed : (bytes : List ℕ) → words_row bytes ≡ Ok tt → words_of_all (kept_segments bytes) ≤ MOST_SEGMENT_WORDS
unfolding words_row
words_passed bytes e = ltb-false MOST_SEGMENT_WORDS (words_of_all (kept_segments bytes)) (no_fault _ _ _ e)

apart_passed : (bytes : List ℕ) → overlap_row bytes ≡ Ok tt → first_overlap (by_start (kept_segments bytes)) ≡ None
unfolding overlap_row
apart_passed bytes e = none_of Overlap (first_overlap (by_start (kept_segments bytes))) e

few_passed : (bytes : List ℕ) → count_row bytes ≡ Ok tt → count_apart (by_start (kept_segments bytes)) ≤ MOST_SEGMENTS
unfolding count_row
few_passed bytes e = ltb-false MOST_SEGMENTS (count_apart (by_start (kept_segments bytes))) (no_fault _ _ _ e)

cut_passed : (bytes : List ℕ) → notes_row bytes ≡ Ok tt → is_cut (note_found bytes) ≡ false
unfolding notes_row
cut_passed bytes e = no_fault (is_cut (note_found bytes)) _ _ e

contexts_passed : (bytes : List ℕ) → contexts_row bytes ≡ Ok tt → judged_note bytes (note_found bytes) ≡ Ok tt
unfolding contexts_row
contexts_passed bytes e = e

pub passed : (bytes : List ℕ) → judgement bytes ≡ Ok tt → Passed bytes
passed bytes e =
    let rows = rows_passed bytes e in
    let segments = segment_rows_passed bytes rows.1 in
    record {
      order = order_passed bytes (data_passed bytes rows.0);
      aligned = aligned_passed bytes segments.aligned;
      few_words = words_passed bytes segments.words;
      no_overlap = apart_passed bytes segments.apart;
      few = few_passed bytes segments.few;
      note = note_passed bytes (note_found bytes) refl (cut_passed bytes segments.notes) (contexts_passed bytes segments.contexts);
    }
