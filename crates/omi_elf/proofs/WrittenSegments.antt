-- The segments that are written of a core pass the table, and what is gathered of them are the core's segments.
use Rattle.std.proofs.Common.{◌≡◌, ℕ, ◌+◌, ◌*◌, ◌/◌, ◌%◌, ◌<◌, ◌≤◌, Bool, true, false, cond, eqb, List, [], ◌∷◌, length, None, refl, ap, ◌∙◌, arith, length-append}
use Rattle.std.specs.Prelude.{filter, find}
use Rattle.std.specs.List.{flat_map, list_all}
use Rattle.std.proofs.lemmas.Bool.{eq-eqb, ne_eqb, lt-ltb, le-ltb, le-leb}
use Rattle.std.proofs.lemmas.List.Sums.{sum_by-cons}
use Rattle.omi_word.specs.declared.limits.TheConstants.{FIRST_ADDRESS, MEMORY_END}
use Rattle.omi_corefile.specs.declared.segment.Segment.{Segment}
use Rattle.omi_corefile.specs.Limits.{rise_apart_from, end_of, total_words}
use Rattle.omi_corefile.specs.Spelling.{words_in}
use Rattle.omi_corefile.proofs.Lengths.{length-words_in}
use Rattle.omi_elf.specs.declared.limits.TheConstants.{PROGRAM_HEADER_BYTES}
use Rattle.omi_elf.specs.declared.program_header.ProgramHeader.{ProgramHeader}
use Rattle.omi_elf.specs.Header.{numbers_from, word_count, rounded_size, segment_end, is_kept}
use Rattle.omi_elf.specs.Segments.{in_place, by_start, overlap_behind, first_overlap, count_behind, count_apart}
use Rattle.omi_elf.specs.Table.{lies_within, is_unaligned, words_of_all}
use Rattle.omi_elf.specs.Gathered.{segment_of, gathered_behind, gathered}
use Rattle.omi_elf.proofs.Placed.{Has, has_first, has_next, has_room, numbers_read}
use Rattle.omi_elf.proofs.WrittenHeaders.{FitsFrom, first_fits, load_header, load_headers}

-- the words of segments, one behind the other
abbrev pub words_of_segments : ℕ → List Segment → List ℕ
words_of_segments order ss = flat_map (λ s. words_in order s.words) ss

whole_words : (n : ℕ) → 8 * n / 8 ≡ n
whole_words n = omega arith

-- ---- all are kept, in the order in which they stand

kept_one : (place offset least : ℕ) (s : Segment) → FIRST_ADDRESS ≤ least → FitsFrom least s
    → is_kept (load_header place offset s) ≡ true
kept_one place offset least s le fits =
    let h = load_header place offset s in
    let a = le-leb FIRST_ADDRESS h.p_vaddr (omega (arith, fits.high, le)) in
    let b = lt-ltb h.p_vaddr MEMORY_END fits.low in
    let c = le-leb 8 (rounded_size h) (omega (arith, fits.some)) in
    rw (a, b, c) refl

pub all_kept : (place offset least : ℕ) (ss : List Segment) → FIRST_ADDRESS ≤ least → rise_apart_from least ss ≡ true
    → filter is_kept (load_headers place offset ss) ≡ load_headers place offset ss
all_kept place offset least [] le rise = refl
all_kept place offset least (s ∷ ss) le rise =
    let fits = first_fits least s ss rise in
    let h = load_header place offset s in
    let hs = load_headers (place + PROGRAM_HEADER_BYTES) (offset + 8 * length s.words) ss in
    let rest = all_kept (place + PROGRAM_HEADER_BYTES) (offset + 8 * length s.words) (end_of s.start (length s.words) + 1) ss (omega (arith, le, fits.0.high)) fits.1 in
    ap (λ (b : Bool). cond b (h ∷ filter is_kept hs) (filter is_kept hs)) (kept_one place offset least s le fits.0)
    ∙ ap (λ (gs : List ProgramHeader). h ∷ gs) rest

in_front : (h : ProgramHeader) (place offset least : ℕ) (ss : List Segment) → h.p_vaddr ≤ least → rise_apart_from least ss ≡ true
    → in_place h (load_headers place offset ss) ≡ h ∷ load_headers place offset ss
in_front h place offset least [] le rise = refl
in_front h place offset least (s ∷ ss) le rise =
    let fits = first_fits least s ss rise in
    let e = le-leb h.p_vaddr s.start (omega (arith, le, fits.0.high)) in
    rw e refl

pub in_order : (place offset least : ℕ) (ss : List Segment) → rise_apart_from least ss ≡ true
    → by_start (load_headers place offset ss) ≡ load_headers place offset ss
in_order place offset least [] rise = refl
in_order place offset least (s ∷ ss) rise =
    let fits = first_fits least s ss rise in
    let h = load_header place offset s in
    ap (in_place h) (in_order (place + PROGRAM_HEADER_BYTES) (offset + 8 * length s.words) (end_of s.start (length s.words) + 1) ss fits.1)
    ∙ in_front h (place + PROGRAM_HEADER_BYTES) (offset + 8 * length s.words) (end_of s.start (length s.words) + 1) ss (omega arith) fits.1

-- ---- the rows

pub length-words_of_segments : (order : ℕ) (ss : List Segment) → length (words_of_segments order ss) ≡ 8 * total_words ss
length-words_of_segments order [] = refl
length-words_of_segments order (s ∷ ss) =
    omega (
      arith,
      length-append (words_in order s.words) (words_of_segments order ss),
      length-words_in order s.words,
      length-words_of_segments order ss,
      sum_by-cons (λ (t : Segment). length t.words) s ss,
    )

-- the words of the first segment stand at the offset, and those of the others behind them
others_there : (order : ℕ) (bytes : List ℕ) (offset : ℕ) (s : Segment) (ss : List Segment) → Has bytes offset (words_of_segments order (s ∷ ss))
    → Has bytes offset (words_in order s.words) × Has bytes (offset + 8 * length s.words) (words_of_segments order ss)
others_there order bytes offset s ss has = (
  has_first bytes offset (words_in order s.words) (words_of_segments order ss) has,
  has_next bytes offset (offset + 8 * length s.words) (words_in order s.words) (words_of_segments order ss) (omega (arith, length-words_in order s.words)) has,
)

pub all_within : (order : ℕ) (bytes : List ℕ) (place offset : ℕ) (ss : List Segment) → Has bytes offset (words_of_segments order ss)
    → list_all (lies_within (length bytes)) (load_headers place offset ss) ≡ true
all_within order bytes place offset [] has = refl
all_within order bytes place offset (s ∷ ss) has =
    let there = others_there order bytes offset s ss has in
    let room = has_room bytes offset (words_in order s.words) there.0 in
    let this = le-leb (offset + rounded_size (load_header place offset s)) (length bytes) (omega (arith, room, length-words_in order s.words, whole_words (length s.words))) in
    let rest = all_within order bytes (place + PROGRAM_HEADER_BYTES) (offset + 8 * length s.words) ss there.1 in
    rw (this, rest) refl

pub none_unaligned : (place offset least : ℕ) (ss : List Segment) → rise_apart_from least ss ≡ true
    → find is_unaligned (load_headers place offset ss) ≡ None
none_unaligned place offset least [] rise = refl
none_unaligned place offset least (s ∷ ss) rise =
    let fits = first_fits least s ss rise in
    let this = eq-eqb (s.start % 8) 0 fits.0.aligned in
    let rest = none_unaligned (place + PROGRAM_HEADER_BYTES) (offset + 8 * length s.words) (end_of s.start (length s.words) + 1) ss fits.1 in
    rw this rest

pub words_are : (place offset : ℕ) (ss : List Segment) → words_of_all (load_headers place offset ss) ≡ total_words ss
words_are place offset [] = refl
words_are place offset (s ∷ ss) =
    omega (
      arith,
      sum_by-cons word_count (load_header place offset s) (load_headers (place + PROGRAM_HEADER_BYTES) (offset + 8 * length s.words) ss),
      sum_by-cons (λ (t : Segment). length t.words) s ss,
      whole_words (length s.words),
      words_are (place + PROGRAM_HEADER_BYTES) (offset + 8 * length s.words) ss,
    )

-- a segment ends where the next may not begin yet
end_is : (place offset : ℕ) (s : Segment) → segment_end (load_header place offset s) ≡ end_of s.start (length s.words)
end_is place offset s = omega (arith, whole_words (length s.words))

none_behind : (h : ProgramHeader) (place offset least : ℕ) (ss : List Segment) → segment_end h ≤ least → rise_apart_from least ss ≡ true
    → overlap_behind h (load_headers place offset ss) ≡ None
none_behind h place offset least [] le rise = refl
none_behind h place offset least (s ∷ ss) le rise =
    let fits = first_fits least s ss rise in
    let this = le-ltb s.start (segment_end h) (omega (arith, le, fits.0.high)) in
    let rest = none_behind (load_header place offset s) (place + PROGRAM_HEADER_BYTES) (offset + 8 * length s.words) (end_of s.start (length s.words) + 1) ss
    (omega (arith, end_is place offset s)) fits.1 in
    rw this rest

pub none_overlaps : (place offset least : ℕ) (ss : List Segment) → rise_apart_from least ss ≡ true
    → first_overlap (load_headers place offset ss) ≡ None
none_overlaps place offset least [] rise = refl
none_overlaps place offset least (s ∷ ss) rise =
    none_behind (load_header place offset s) (place + PROGRAM_HEADER_BYTES) (offset + 8 * length s.words) (end_of s.start (length s.words) + 1) ss
    (omega (arith, end_is place offset s)) (first_fits least s ss rise).1

at_most_one : (b : Bool) (n m : ℕ) → n ≤ m → cond b 0 1 + n ≤ 1 + m
at_most_one true n m le = omega (arith, le)
at_most_one false n m le = omega (arith, le)

few_behind : (h : ProgramHeader) (place offset : ℕ) (ss : List Segment) → count_behind h (load_headers place offset ss) ≤ length ss
few_behind h place offset [] = omega arith
few_behind h place offset (s ∷ ss) =
    let g = load_header place offset s in
    let hs = load_headers (place + PROGRAM_HEADER_BYTES) (offset + 8 * length s.words) ss in
    omega (arith, at_most_one (eqb (segment_end h) s.start) (count_behind g hs) (length ss) (few_behind g (place + PROGRAM_HEADER_BYTES) (offset + 8 * length s.words) ss))

pub few_apart : (place offset : ℕ) (ss : List Segment) → count_apart (load_headers place offset ss) ≤ length ss
few_apart place offset [] = omega arith
few_apart place offset (s ∷ ss) =
    omega (arith, few_behind (load_header place offset s) (place + PROGRAM_HEADER_BYTES) (offset + 8 * length s.words) ss)

-- ---- what is gathered

segment_read : (order : ℕ) (bytes : List ℕ) (place offset least : ℕ) (s : Segment) → FitsFrom least s → Has bytes offset (words_in order s.words)
    → segment_of order bytes (load_header place offset s) ≡ s
segment_read order bytes place offset least s fits has =
    let words : numbers_from order bytes offset (8 * length s.words / 8) ≡ s.words =
    ap (numbers_from order bytes offset) (whole_words (length s.words)) ∙ numbers_read order bytes offset s.words fits.words has in
    ap (λ (ws : List ℕ). let t : Segment = record { start = s.start; words = ws } in t) words

gathered_after : (order : ℕ) (bytes : List ℕ) (before : Segment) (place offset least : ℕ) (ss : List Segment)
    → end_of before.start (length before.words) < least → rise_apart_from least ss ≡ true → Has bytes offset (words_of_segments order ss)
    → gathered_behind order bytes before (load_headers place offset ss) ≡ before ∷ ss
gathered_after order bytes before place offset least [] lt rise has = refl
gathered_after order bytes before place offset least (s ∷ ss) lt rise has =
    let fits = first_fits least s ss rise in
    let there = others_there order bytes offset s ss has in
    let h = load_header place offset s in
    let hs = load_headers (place + PROGRAM_HEADER_BYTES) (offset + 8 * length s.words) ss in
    let apart = ne_eqb (before.start + 8 * length before.words) s.start (λ e. omega (arith, e, lt, fits.0.high)) in
    let one = ap (λ (t : Segment). before ∷ gathered_behind order bytes t hs) (segment_read order bytes place offset least s fits.0 there.0) in
    let rest = gathered_after order bytes s (place + PROGRAM_HEADER_BYTES) (offset + 8 * length s.words) (end_of s.start (length s.words) + 1) ss (omega arith) fits.1 there.1 in
    rw apart (one ∙ ap (λ (ts : List Segment). before ∷ ts) rest)

pub gathered_are : (order : ℕ) (bytes : List ℕ) (place offset least : ℕ) (ss : List Segment)
    → rise_apart_from least ss ≡ true → Has bytes offset (words_of_segments order ss)
    → gathered order bytes (load_headers place offset ss) ≡ ss
gathered_are order bytes place offset least [] rise has = refl
gathered_are order bytes place offset least (s ∷ ss) rise has =
    let fits = first_fits least s ss rise in
    let there = others_there order bytes offset s ss has in
    let hs = load_headers (place + PROGRAM_HEADER_BYTES) (offset + 8 * length s.words) ss in
    ap (λ (t : Segment). gathered_behind order bytes t hs) (segment_read order bytes place offset least s fits.0 there.0)
    ∙ gathered_after order bytes s (place + PROGRAM_HEADER_BYTES) (offset + 8 * length s.words) (end_of s.start (length s.words) + 1) ss (omega arith) fits.1 there.1
