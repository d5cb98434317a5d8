-- The file that is written of a core stands for it.
use Rattle.std.proofs.Common.{◌≡◌, ℕ, suc, ◌+◌, ◌*◌, ◌≤◌, true, false, List, ◌∷◌, ◌++◌, length, map, Some, Ok, refl, sym, ap, subst, ◌∙◌, arith, length-append}
use Rattle.std.specs.Prelude.{filter, not, nat_lt}
use Rattle.std.specs.List.{list_all, range_with_len}
use Rattle.std.proofs.lemmas.Bool.{le-ltb}
use Rattle.omi_word.specs.declared.limits.TheConstants.{FIRST_ADDRESS}
use Rattle.omi_corefile.specs.declared.limits.TheConstants.{MOST_SEGMENTS, MOST_SEGMENT_WORDS}
use Rattle.omi_corefile.specs.declared.segment.Segment.{Segment}
use Rattle.omi_corefile.specs.declared.core_image.CoreImage.{CoreImage}
use Rattle.omi_corefile.specs.Limits.{total_words}
use Rattle.omi_corefile.proofs.Bounds.{bounds, order_known}
use Rattle.omi_elf.specs.declared.fault.ElfFault.TheVariants.{Short, Unaligned, TooLarge, Overlap, TooMany}
use Rattle.omi_elf.specs.declared.limits.TheConstants.{HEADER_BYTES, MOST_ELF_BYTES, NOTE_SEGMENT, PROGRAM_HEADER_BYTES}
use Rattle.omi_elf.specs.declared.notes.Note.{Note}
use Rattle.omi_elf.specs.declared.program_header.ProgramHeader.{ProgramHeader}
use Rattle.omi_elf.specs.Header.{e_phoff, e_phnum, program_header, headers_from, program_headers, is_kept, kept_segments}
use Rattle.omi_elf.specs.Notes.{note_found, ids_found, contexts_of}
use Rattle.omi_elf.specs.Segments.{by_start, count_apart, IsWordAt, IsSpelledAt}
use Rattle.omi_elf.specs.Table.{fault_of, header_rows, program_headers_row}
use Rattle.omi_elf.specs.Table.{segment_rows, judgement, lies_within, words_of_all}
use Rattle.omi_elf.specs.Spelling.{elf_header, header_bytes, segment_headers, note_bytes, note_size, note_place, elf_bytes}
use Rattle.omi_elf.specs.ElfCore.{ElfCore}
use Rattle.omi_elf.specs.Found.{last_in}
use Rattle.omi_elf.specs.Gathered.{gathered}
use Rattle.omi_elf.specs.ElfParts.{segments_in}
use Rattle.omi_elf.proofs.FileLaws.{word_spelled, spelled_word}
use Rattle.omi_elf.proofs.SegmentRows.{segments_is, unaligned_is, words_is, overlap_is, count_is, notes_passed, contexts_is, all_pass}
use Rattle.omi_elf.proofs.Placed.{Has, has_all, has_first, has_next, has_same, from_first_5}
use Rattle.omi_elf.proofs.WrittenHeader.{SaysHeader, length-elf_header, header_said, passes, not_told, header_passes, headers_pass}
use Rattle.omi_elf.proofs.WrittenHeaders.{header_of, length-header_bytes, header_read, length-segment_headers, load_headers, headers_read}
use Rattle.omi_elf.proofs.WrittenNote.{SaysNote, length-note_bytes, note_said, found_first, ids_read, note_passes}
use Rattle.omi_elf.proofs.WrittenSegments.{words_of_segments, length-words_of_segments, all_kept, in_order, all_within, none_unaligned, words_are, none_overlaps, few_apart, gathered_are}

-- ---- where its parts stand

abbrev pub note_at : CoreImage → ℕ
note_at c = note_place (length c.segments)

-- the place of the words of the first segment
abbrev pub words_at : CoreImage → ℕ
words_at c = note_at c + note_size (length c.contexts)

abbrev pub note_header : CoreImage → List ℕ
note_header c = header_bytes c.order NOTE_SEGMENT (note_at c) 0 (note_size (length c.contexts))

pub record IsWritten (c : CoreImage) (bytes : List ℕ) : Type 0 where
  pub header : Has bytes 0 (elf_header c.order (length c.segments + 1))
  pub first : Has bytes 64 (note_header c)
  pub headers : Has bytes 120 (segment_headers c.order (words_at c) c.segments)
  pub note : Has bytes (note_at c) (note_bytes c.order c.contexts)
  pub words : Has bytes (words_at c) (words_of_segments c.order c.segments)
  pub few : length bytes ≤ MOST_ELF_BYTES

pub is_written : (c : CoreImage) → IsWritten c (elf_bytes c)
is_written c =
    let bytes = elf_bytes c in
    let k = bounds c in
    let a = elf_header c.order (length c.segments + 1) in
    let b = note_header c in
    let d = segment_headers c.order (words_at c) c.segments in
    let e = note_bytes c.order c.contexts in
    let f = words_of_segments c.order c.segments in
    let la = length-elf_header c.order (length c.segments + 1) in
    let lb = length-header_bytes c.order NOTE_SEGMENT (note_at c) 0 (note_size (length c.contexts)) in
    let ld = length-segment_headers c.order (words_at c) c.segments in
    let le = length-note_bytes c.order c.contexts in
    let lf = length-words_of_segments c.order c.segments in
    let all = has_same bytes 0 bytes (a ++ (b ++ (d ++ (e ++ f)))) (from_first_5 a b d e f) (has_all bytes) in
    let at64 = has_next bytes 0 64 a (b ++ (d ++ (e ++ f))) (omega (arith, la)) all in
    let at120 = has_next bytes 64 120 b (d ++ (e ++ f)) (omega (arith, lb)) at64 in
    let at_note = has_next bytes 120 (note_at c) d (e ++ f) (omega (arith, ld)) at120 in
    let at_words = has_next bytes (note_at c) (words_at c) e f (omega (arith, le)) at_note in
    let len : length bytes ≡ words_at c + 8 * total_words c.segments =
    ap length (from_first_5 a b d e f)
    ∙ omega (arith, la, lb, ld, le, lf, length-append a (b ++ (d ++ (e ++ f))), length-append b (d ++ (e ++ f)), length-append d (e ++ f), length-append e f) in
    record {
      header = has_first bytes 0 a (b ++ (d ++ (e ++ f))) all;
      first = has_first bytes 64 b (d ++ (e ++ f)) at64;
      headers = has_first bytes 120 d (e ++ f) at120;
      note = has_first bytes (note_at c) e f at_note;
      words = at_words;
      few = omega (arith, len, k.few_segments, k.few_contexts, k.few_words);
    }

-- ---- what is read of it

-- the program headers, of which the first is the note's
abbrev pub note_head : CoreImage → ProgramHeader
note_head c = header_of 64 NOTE_SEGMENT (note_at c) 0 (note_size (length c.contexts))

abbrev pub loads : CoreImage → List ProgramHeader
loads c = load_headers 120 (words_at c) c.segments

first_and_rest : (order : ℕ) (bytes : List ℕ) (n m : ℕ) → n ≡ suc m
    → headers_from order bytes 64 n
    ≡ program_header order bytes 64 ∷ map (λ (i : ℕ). program_header order bytes (64 + PROGRAM_HEADER_BYTES * i)) (range_with_len 1 m)
unfolding headers_from
first_and_rest order bytes n m e = rw e refl

pub record IsRead (c : CoreImage) (bytes : List ℕ) : Type 0 where
  pub says : SaysHeader c.order (length c.segments + 1) bytes
  pub note : SaysNote c.order bytes (note_at c) c.contexts
  pub headers : program_headers bytes ≡ note_head c ∷ loads c
  pub kept : kept_segments bytes ≡ loads c
  pub sorted : by_start (kept_segments bytes) ≡ loads c
  pub found : note_found bytes ≡ Some (Some (note_at c))

pub is_read : (c : CoreImage) (bytes : List ℕ) → IsWritten c bytes → IsRead c bytes
is_read c bytes w =
    let k = bounds c in
    let order = c.order in
    let says = header_said order (length c.segments + 1) bytes (omega (arith, k.few_segments)) w.header in
    let note = note_said order bytes (note_at c) c.contexts k.few_contexts k.contexts_are_words w.note in
    let f = λ (i : ℕ). program_header order bytes (64 + PROGRAM_HEADER_BYTES * i) in
    let first : program_header order bytes 64 ≡ note_head c =
    header_read order bytes 64 NOTE_SEGMENT (note_at c) 0 (note_size (length c.contexts)) (omega arith) (omega (arith, k.few_segments)) (omega arith) (omega (arith, k.few_contexts)) w.first in
    let rest : map f (range_with_len 1 (length c.segments)) ≡ loads c =
    headers_read order bytes 64 1 c.segments FIRST_ADDRESS 120 (words_at c) (omega arith) k.segments_rise (omega (arith, k.few_segments, k.few_contexts, k.few_words)) w.headers in
    let headers : program_headers bytes ≡ note_head c ∷ loads c =
    ap (λ (o : ℕ). headers_from o bytes (e_phoff bytes) (e_phnum bytes)) says.order_is
    ∙ ap (λ (p : ℕ). headers_from order bytes p (e_phnum bytes)) says.headers
    ∙ ap (headers_from order bytes 64) says.count_is
    ∙ first_and_rest order bytes (length c.segments + 1) (length c.segments) (omega arith)
    ∙ ap (λ (h : ProgramHeader). h ∷ map f (range_with_len 1 (length c.segments))) first
    ∙ ap (λ (hs : List ProgramHeader). note_head c ∷ hs) rest in
    let kept : kept_segments bytes ≡ loads c =
    ap (filter is_kept) headers ∙ all_kept 120 (words_at c) FIRST_ADDRESS c.segments (omega arith) k.segments_rise in
    let found : note_found bytes ≡ Some (Some (note_at c)) =
    ap (λ (o : ℕ). last_in o bytes (program_headers bytes)) says.order_is
    ∙ ap (last_in order bytes) headers ∙ found_first order bytes 64 (note_at c) c.contexts (loads c) note in
    record {
      says = says;
      note = note;
      headers = headers;
      kept = kept;
      sorted = ap by_start kept ∙ in_order 120 (words_at c) FIRST_ADDRESS c.segments k.segments_rise;
      found = found;
    }

-- ---- no row tells a fault

-- the note, by its place
abbrev written_note : CoreImage → Note
written_note c = record { at = note_at c; ours = true; status = false; description = note_at c + 20; size = 8 * length c.contexts }

rows_pass : (c : CoreImage) (bytes : List ℕ) → IsWritten c bytes → IsRead c bytes → segment_rows bytes ≡ Ok tt
rows_pass c bytes w r =
    let k = bounds c in
    let hs = loads c in
    let within = sym (segments_is bytes (length bytes) hs refl (sym r.kept))
    ∙ not_told (not (list_all (lies_within (length bytes)) hs)) (length bytes) (Short (length bytes)) (ap not (all_within c.order bytes 120 (words_at c) c.segments w.words)) in
    let aligned = sym (unaligned_is bytes hs (sym r.kept))
    ∙ ap (fault_of Unaligned) (none_unaligned 120 (words_at c) FIRST_ADDRESS c.segments k.segments_rise) in
    let words = sym (words_is bytes hs (sym r.kept))
    ∙ not_told (nat_lt MOST_SEGMENT_WORDS (words_of_all hs)) 0 (TooLarge (words_of_all hs))
    (le-ltb MOST_SEGMENT_WORDS (words_of_all hs) (omega (arith, words_are 120 (words_at c) c.segments, k.few_words))) in
    let apart = sym (overlap_is bytes hs (sym r.sorted))
    ∙ ap (fault_of Overlap) (none_overlaps 120 (words_at c) FIRST_ADDRESS c.segments k.segments_rise) in
    let few = sym (count_is bytes hs (sym r.sorted))
    ∙ not_told (nat_lt MOST_SEGMENTS (count_apart hs)) 0 (TooMany (count_apart hs)) (le-ltb MOST_SEGMENTS (count_apart hs) (omega (arith, few_apart 120 (words_at c) c.segments, k.few_segments))) in
    let contexts = sym (contexts_is bytes (Some (written_note c)) r.found)
    ∙ note_passes c.order bytes (note_at c) c.contexts r.says.order_is k.few_contexts k.contexts_rise r.note in
    all_pass bytes (within, notes_passed bytes (Some (written_note c)) r.found, aligned) (words, apart, few) contexts

faultless_is : (c : CoreImage) (bytes : List ℕ) → IsWritten c bytes → IsRead c bytes → judgement bytes ≡ Ok tt
unfolding judgement
faultless_is c bytes w r =
    let room : HEADER_BYTES + PROGRAM_HEADER_BYTES * (length c.segments + 1) ≤ length bytes = omega (arith, r.note.room) in
    passes (header_rows MOST_ELF_BYTES bytes (length bytes)) _ (header_passes c.order (length c.segments + 1) bytes (order_known c) w.few r.says)
    (passes (program_headers_row bytes) _ (headers_pass c.order (length c.segments + 1) bytes room r.says) (rows_pass c bytes w r))

-- ---- the core

segments_are : (c : CoreImage) (bytes : List ℕ) → IsWritten c bytes → IsRead c bytes → segments_in bytes ≡ c.segments
segments_are c bytes w r =
    ap (λ (o : ℕ). gathered o bytes (by_start (kept_segments bytes))) r.says.order_is
    ∙ ap (gathered c.order bytes) r.sorted
    ∙ gathered_are c.order bytes 120 (words_at c) FIRST_ADDRESS c.segments (bounds c).segments_rise w.words

contexts_read : (c : CoreImage) (bytes : List ℕ) → IsRead c bytes → contexts_of bytes ≡ c.contexts
contexts_read c bytes r =
    ap (λ (o : ℕ). ids_found o bytes (note_found bytes)) r.says.order_is
    ∙ ap (ids_found c.order bytes) r.found ∙ ids_read c.order bytes (note_at c) c.contexts r.note

stands_for : (c : CoreImage) (bytes : List ℕ) → IsWritten c bytes → ElfCore bytes c
stands_for c bytes w =
    let r = is_read c bytes w in
    let segments = segments_are c bytes w r in
    record {
      faultless = faultless_is c bytes w r;
      order = sym r.says.order_is;
      contexts_are = sym (contexts_read c bytes r);
      words = λ a x. subst (λ (ss : List Segment). (IsWordAt ss a x → IsSpelledAt bytes a x) × (IsSpelledAt bytes a x → IsWordAt ss a x)) segments
          (word_spelled bytes a x, spelled_word bytes a x);
    }

-- the one file that is written of a core stands for it
pub written_core : (c : CoreImage) → ElfCore (elf_bytes c) c
written_core c = stands_for c (elf_bytes c) (is_written c)
