-- A file in which no row of the table tells a fault stands for one core.
use Rattle.std.proofs.Common.{◌≡◌, ℕ, ◌+◌, ◌*◌, ◌/◌, ◌<◌, true, false, List, [], ◌∷◌, length, map, Option, Some, None, Result, Ok, Err, refl, sym, ap, subst, ◌∙◌, inl, inr, arith}
use Rattle.std.specs.Prelude.{IsTrue, slice_get, All}
use Rattle.std.specs.List.{range_with_len}
use Rattle.std.specs.Option.{option_map}
use Rattle.std.specs.Int.{w64}
use Rattle.std.proofs.lemmas.Bool.{le-leb, not-false, eqb-true}
use Rattle.std.proofs.lemmas.List.FromFn.{length-map-range_with_len, get_or-map-range_with_len}
use Rattle.std.proofs.lemmas.List.Elements.{All-head, All-tail}
use Rattle.std.proofs.lemmas.List.Sums.{sum_by-cons}
use Rattle.std.proofs.lemmas.Option.{slice_get-map, slice_get_within, slice_get-get_or, get_or_from_slice_get}
use Rattle.omi_corefile.specs.declared.segment.Segment.{Segment}
use Rattle.omi_corefile.specs.declared.core_image.CoreImage.{CoreImage}
use Rattle.omi_corefile.specs.declared.limits.TheConstants.{MOST_CONTEXTS, MOST_SEGMENTS, MOST_SEGMENT_WORDS}
use Rattle.omi_corefile.specs.Limits.{rise_apart_from, total_words, are_contexts, are_segments, within_limits}
use Rattle.omi_corefile.specs.ByteOrder.{is_order}
use Rattle.omi_corefile.specs.Refusals.{AreBytes, Parts}
use Rattle.omi_corefile.proofs.Bounds.{bounds}
use Rattle.omi_corefile.proofs.FileLaws.{core_is, core_with}
use Rattle.omi_word.specs.declared.limits.TheConstants.{FIRST_ADDRESS}
use Rattle.omi_elf.specs.declared.fault.ElfError.{ElfError}
use Rattle.omi_elf.specs.declared.fault.ElfError.TheVariants.{Fault, OutOfMemory}
use Rattle.omi_elf.specs.declared.program_header.ProgramHeader.{ProgramHeader}
use Rattle.omi_elf.specs.Header.{field, numbers_from, order_of, word_count, program_headers, kept_segments}
use Rattle.omi_elf.specs.Notes.{ids_of, n_descsz, description_place, ids_found, contexts_of}
use Rattle.omi_elf.specs.Segments.{by_start, first_overlap, count_apart, word_in_file, IsSpelledAt, IsWordAt}
use Rattle.omi_elf.specs.Table.{judgement, is_unaligned, words_of_all}
use Rattle.omi_elf.specs.Gathered.{words_of, segment_of, gathered}
use Rattle.omi_elf.specs.ElfCore.{ElfCore}
use Rattle.omi_elf.specs.ElfParts.{segments_in}
use Rattle.omi_elf.specs.Outcomes.{Fails, UnlessMemory}
use Rattle.omi_elf.proofs.Kept.{all_kept}
use Rattle.omi_elf.proofs.Tables.{length-numbers_from}
use Rattle.omi_elf.proofs.Gathers.{length-words_of}
use Rattle.omi_elf.proofs.Words.{WordIn, AnyWord, any_from_at, at_from_any, any_from_word, word_from_any, one_by_words}
use Rattle.omi_elf.proofs.Joined.{in_file, Good, gathered_has, gathered_front, gathered_rest, sorted_has, has_sorted}
use Rattle.omi_elf.proofs.Joined.{words_sorted, All-sorted, length-gathered, total-gathered, numbers_fit, start_there, rise_gathered}
use Rattle.omi_elf.proofs.Passed.{PassedNote, passed}

-- ---- the words of the file

number_there : (order : ℕ) (bytes : List ℕ) (at n k : ℕ) → k < n
    → slice_get (numbers_from order bytes at n) k ≡ Some (field w64 order bytes (at + 8 * k))
unfolding numbers_from
number_there order bytes at n k lt =
    let f = λ (i : ℕ). field w64 order bytes (at + 8 * i) in
    slice_get-get_or (map f (range_with_len 0 n)) k 0 (omega (arith, length-map-range_with_len f 0 n, lt))
    ∙ ap (λ (x : ℕ). Some x) (get_or-map-range_with_len f 0 n k k 0 lt (omega arith))

field_is_word : (bytes : List ℕ) (at : ℕ) → field w64 (order_of bytes) bytes at ≡ word_in_file bytes at
unfolding field
field_is_word bytes at = refl

spelled_any : (bytes : List ℕ) (address word : ℕ) → IsSpelledAt bytes address word
    → AnyWord (in_file (order_of bytes) bytes (kept_segments bytes)) address word
spelled_any bytes address word h =
    let order = order_of bytes in let kept = kept_segments bytes in
    let k = h.kept.0 in
    let there : slice_get kept k ≡ Some h.segment =
    slice_get-get_or kept k h.segment h.kept.1 ∙ ap (λ (s : ProgramHeader). Some s) h.kept.2 in
    any_from_at (in_file order bytes kept) k (segment_of order bytes h.segment) address word
    (slice_get-map (segment_of order bytes) kept k ∙ ap (option_map (segment_of order bytes)) there)
    (record {
      index = h.index;
      address_is = h.address_is;
      word_is = number_there order bytes h.segment.p_offset (word_count h.segment) h.index h.inside
          ∙ ap (λ (x : ℕ). Some x) (field_is_word bytes (h.segment.p_offset + 8 * h.index) ∙ sym h.word_is);
    })

pub record Mapped (order : ℕ) (bytes : List ℕ) (o : Option ProgramHeader) (s : Segment) : Type 0 where
  pub header : ProgramHeader
  pub is : o ≡ Some header
  pub gives : segment_of order bytes header ≡ s

mapped : (order : ℕ) (bytes : List ℕ) (o : Option ProgramHeader) (s : Segment)
    → option_map (segment_of order bytes) o ≡ Some s → Mapped order bytes o s
mapped order bytes None s e = absurd cc
mapped order bytes (Some h) s e = record { header = h; is = refl; gives = cc }

any_spelled : (bytes : List ℕ) (address word : ℕ)
    → AnyWord (in_file (order_of bytes) bytes (kept_segments bytes)) address word → IsSpelledAt bytes address word
any_spelled bytes address word has =
    let order = order_of bytes in let kept = kept_segments bytes in
    let a = at_from_any (in_file order bytes kept) address word has in
    let m = mapped order bytes (slice_get kept a.place) a.segment (sym (slice_get-map (segment_of order bytes) kept a.place) ∙ a.there) in
    let mine : WordIn (segment_of order bytes m.header) address word = subst (λ (s : Segment). WordIn s address word) (sym m.gives) a.has in
    let lt = slice_get_within (words_of order bytes m.header) mine.index word mine.word_is in
    let inside : mine.index < word_count m.header = omega (arith, lt, length-words_of order bytes m.header) in
    let is : Some (field w64 order bytes (m.header.p_offset + 8 * mine.index)) ≡ Some word =
    sym (number_there order bytes m.header.p_offset (word_count m.header) mine.index inside) ∙ mine.word_is in
    let same : field w64 order bytes (m.header.p_offset + 8 * mine.index) ≡ word = cc in
    record {
      segment = m.header;
      kept = (a.place, slice_get_within kept a.place m.header m.is, get_or_from_slice_get kept a.place m.header m.header m.is);
      index = mine.index;
      inside = inside;
      address_is = mine.address_is;
      word_is = sym same ∙ field_is_word bytes (m.header.p_offset + 8 * mine.index);
    }

-- ---- the segments that are gathered

gathered_any : (order : ℕ) (bytes : List ℕ) (hs : List ProgramHeader) (address word : ℕ)
    → AnyWord (gathered order bytes hs) address word → AnyWord (in_file order bytes hs) address word
gathered_any order bytes [] address word has = has
gathered_any order bytes (h ∷ hs) address word has = gathered_has order bytes (segment_of order bytes h) hs address word has

any_gathered : (order : ℕ) (bytes : List ℕ) (hs : List ProgramHeader) (address word : ℕ)
    → AnyWord (in_file order bytes hs) address word → AnyWord (gathered order bytes hs) address word
any_gathered order bytes [] address word has = has
any_gathered order bytes (h ∷ hs) address word (inl one) = gathered_front order bytes (segment_of order bytes h) hs address word one
any_gathered order bytes (h ∷ hs) address word (inr rest) = gathered_rest order bytes (segment_of order bytes h) hs address word rest

pub word_spelled : (bytes : List ℕ) (address word : ℕ) → IsWordAt (segments_in bytes) address word → IsSpelledAt bytes address word
word_spelled bytes address word h =
    any_spelled bytes address word
    (sorted_has (order_of bytes) bytes (kept_segments bytes) address word
    (gathered_any (order_of bytes) bytes (by_start (kept_segments bytes)) address word
    (any_from_word (segments_in bytes) address word h)))

pub spelled_word : (bytes : List ℕ) (address word : ℕ) → IsSpelledAt bytes address word → IsWordAt (segments_in bytes) address word
spelled_word bytes address word h =
    word_from_any (segments_in bytes) address word
    (any_gathered (order_of bytes) bytes (by_start (kept_segments bytes)) address word
    (has_sorted (order_of bytes) bytes (kept_segments bytes) address word (spelled_any bytes address word h)))

length_of : (order : ℕ) (bytes : List ℕ) (hs : List ProgramHeader) → length (gathered order bytes hs) ≡ count_apart hs
length_of order bytes [] = refl
length_of order bytes (h ∷ hs) = length-gathered order bytes (segment_of order bytes h) h hs (omega (arith, length-words_of order bytes h))

total_of : (order : ℕ) (bytes : List ℕ) (hs : List ProgramHeader) → total_words (gathered order bytes hs) ≡ words_of_all hs
total_of order bytes [] = refl
total_of order bytes (h ∷ hs) =
    omega (arith, sum_by-cons word_count h hs, total-gathered order bytes (segment_of order bytes h) hs, length-words_of order bytes h)

rises_of : (order : ℕ) (bytes : List ℕ) (hs : List ProgramHeader) → AreBytes bytes → All Good hs → first_overlap hs ≡ None
    → rise_apart_from FIRST_ADDRESS (gathered order bytes hs) ≡ true
rises_of order bytes [] are good over = refl
rises_of order bytes (h ∷ hs) are good over =
    let this = All-head Good h hs good in
    rise_gathered order bytes FIRST_ADDRESS (segment_of order bytes h) h hs are
    (start_there FIRST_ADDRESS h this this.kept.high)
    (omega (arith, length-words_of order bytes h, this.kept.some)) (numbers_fit order bytes h.p_offset (word_count h) are)
    (omega (arith, length-words_of order bytes h)) over (All-tail Good h hs good)

all_good : (bytes : List ℕ) → All (λ h. is_unaligned h ≡ false) (kept_segments bytes) → All Good (kept_segments bytes)
all_good bytes aligned = λ k d lt. record {
  kept = all_kept (program_headers bytes) k d lt;
  aligned = eqb-true _ 0 (not-false _ (aligned k d lt));
}

contexts_are : (bytes : List ℕ) (note : PassedNote bytes) → contexts_of bytes ≡ ids_of (order_of bytes) bytes note.at
contexts_are bytes note = ap (ids_found (order_of bytes) bytes) note.found

-- what the file says keeps the limits of a core
pub limits_kept : (bytes : List ℕ) → AreBytes bytes → judgement bytes ≡ Ok tt
    → within_limits (order_of bytes) (contexts_of bytes) (segments_in bytes) ≡ true
limits_kept bytes are e =
    let p = passed bytes e in
    let order = order_of bytes in
    let hs = by_start (kept_segments bytes) in
    let good = All-sorted Good (kept_segments bytes) (all_good bytes p.aligned) in
    let ids = ids_of order bytes p.note.at in
    let count : length ids ≡ n_descsz order bytes p.note.at / 8 =
    length-numbers_from order bytes (description_place order bytes p.note.at) (n_descsz order bytes p.note.at / 8) in
    let contexts : are_contexts ids ≡ true =
    let a = le-leb (length ids) MOST_CONTEXTS (omega (arith, count, p.note.few)) in
    let b = numbers_fit order bytes (description_place order bytes p.note.at) (n_descsz order bytes p.note.at / 8) are in
    let c = p.note.rise in
    rw (a, c, b) refl in
    let segments : are_segments (segments_in bytes) ≡ true =
    let a = le-leb (length (segments_in bytes)) MOST_SEGMENTS (omega (arith, length_of order bytes hs, p.few)) in
    let b = rises_of order bytes hs are good p.no_overlap in
    let c = le-leb (total_words (segments_in bytes)) MOST_SEGMENT_WORDS (omega (arith, total_of order bytes hs, words_sorted (kept_segments bytes), p.few_words)) in
    rw (a, b, c) refl in
    let is : is_order order ≡ true = le-leb order 1 p.order in
    let known : are_contexts (contexts_of bytes) ≡ true = rw (contexts_are bytes p.note) contexts in
    rw (is, known, segments) refl

-- a core that the file stands for has these parts
pub core_has : (bytes : List ℕ) (c : CoreImage) → AreBytes bytes → ElfCore bytes c → c.segments ≡ segments_in bytes
core_has bytes c are is =
    let p = passed bytes is.faultless in
    let hs = by_start (kept_segments bytes) in
    let good = All-sorted Good (kept_segments bytes) (all_good bytes p.aligned) in
    one_by_words FIRST_ADDRESS FIRST_ADDRESS c.segments (segments_in bytes) (bounds c).segments_rise (rises_of (order_of bytes) bytes hs are good p.no_overlap)
    (λ a w. (
      λ h. any_from_word (segments_in bytes) a w (spelled_word bytes a w ((is.words a w).0 (word_from_any c.segments a w h))),
      λ h. any_from_word c.segments a w ((is.words a w).1 (word_spelled bytes a w (word_from_any (segments_in bytes) a w h))),
    ))

-- no fault is told of a core
pub error_at_core : (e : ElfError) (bytes : List ℕ) (c : CoreImage) (P : Type 0) → Fails e (judgement bytes) → ElfCore bytes c
    → (let answer : Result CoreImage ElfError = Err e in UnlessMemory answer P)
error_at_core OutOfMemory bytes c P failed is = tt
error_at_core (Fault at why) bytes c P failed is = let f = is.faultless in absurd cc

-- parts with the same fields
abbrev pub made : ℕ → List ℕ → List Segment → Parts
made order contexts segments = record { order = order; contexts = contexts; segments = segments }

same_parts : (o p : ℕ) (x y : List ℕ) (s t : List Segment) → o ≡ p → x ≡ y → s ≡ t → made o x s ≡ made p y t
same_parts o p x y s t a b c =
    ap (λ (q : ℕ). made q x s) a ∙ ap (λ (q : List ℕ). made p q s) b ∙ ap (λ (q : List Segment). made p y q) c

-- a core that the file stands for is the one with what was read
pub core_read : (bytes : List ℕ) (c : CoreImage) (order : ℕ) (contexts : List ℕ) (segments : List Segment)
    (keeps : IsTrue (within_limits order contexts segments)) → AreBytes bytes → ElfCore bytes c
    → order ≡ order_of bytes → contexts ≡ contexts_of bytes → segments ≡ segments_in bytes
    → core_with (made order contexts segments) keeps ≡ c
core_read bytes c order contexts segments keeps are is a b d =
    sym (core_is c (made order contexts segments) keeps
    (same_parts c.order order c.contexts contexts c.segments segments (is.order ∙ sym a) (is.contexts_are ∙ sym b) (core_has bytes c are is ∙ sym d)))
