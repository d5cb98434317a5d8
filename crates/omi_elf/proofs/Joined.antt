-- The segments that are gathered: their words are those of the kept segments, and they keep the rules of a core.
use Rattle.std.proofs.Common.{◌≡◌, ℕ, zero, suc, ◌+◌, ◌-◌, ◌*◌, ◌^◌, ◌<◌, ◌≤◌, ◌⊎◌, Bool, true, false, cond, eqb, ltb, List}
use Rattle.std.proofs.Common.{[], ◌∷◌, ◌++◌, length, map, take, drop, Option, Some, None, refl, sym, ap, ◌∙◌, inl, inr, arith}
use Rattle.std.specs.Prelude.{slice_get, ◌%◌, nat_le, All}
use Rattle.std.specs.List.{list_all, range_with_len}
use Rattle.std.specs.Int.{w64}
use Rattle.std.proofs.lemmas.Bool.{cases_lt, cases_eq, cases_Bool, eq-eqb, ne_eqb, lt-ltb, le-leb, ltb-false, and_from}
use Rattle.std.proofs.lemmas.List.{length-append}
use Rattle.std.proofs.lemmas.List.Elements.{All-head, All-tail, All-cons}
use Rattle.std.proofs.lemmas.List.Folds.{list_all-append}
use Rattle.std.proofs.lemmas.List.Sums.{sum_by-cons}
use Rattle.std.proofs.lemmas.Option.{slice_get_within}
use Rattle.omi_word.specs.declared.limits.TheConstants.{MEMORY_END}
use Rattle.omi_corefile.specs.declared.segment.Segment.{Segment}
use Rattle.omi_corefile.specs.Limits.{is_start, are_words, rise_apart_from, end_of, total_words}
use Rattle.omi_corefile.specs.Refusals.{AreBytes}
use Rattle.omi_corefile.proofs.Numbers.{word_width, AreBytes-take, AreBytes-drop}
use Rattle.omi_elf.specs.declared.program_header.ProgramHeader.{ProgramHeader}
use Rattle.omi_elf.specs.Header.{field, numbers_from, word_count, segment_end}
use Rattle.omi_elf.specs.Segments.{overlap_behind, count_behind, in_place, by_start}
use Rattle.omi_elf.specs.Table.{words_of_all}
use Rattle.omi_elf.specs.Gathered.{words_of, segment_of, longer, gathered_behind}
use Rattle.omi_elf.proofs.Kept.{Kept}
use Rattle.omi_elf.proofs.Gathers.{length-words_of}
use Rattle.omi_elf.proofs.Words.{WordIn, AnyWord}

-- ---- places of two lists joined

pub get_left : {X : Type 0} (xs ys : List X) (k : ℕ) → k < length xs → slice_get (xs ++ ys) k ≡ slice_get xs k
get_left [] ys k lt = absurd (omega (arith, lt))
get_left (x ∷ xs) ys zero lt = refl
get_left (x ∷ xs) ys (suc k) lt = get_left xs ys k (omega (arith, lt))

pub get_right : {X : Type 0} (xs ys : List X) (k : ℕ) → slice_get (xs ++ ys) (length xs + k) ≡ slice_get ys k
get_right [] ys k = let e : 0 + k ≡ k = omega arith in rw e refl
get_right (x ∷ xs) ys k =
    let e : length (x ∷ xs) + k ≡ suc (length xs + k) = omega arith in rw e (get_right xs ys k)

-- ---- words of one segment behind another

pub longer_has : (s : Segment) (ws : List ℕ) (start address word : ℕ) → s.start + 8 * length s.words ≡ start
    → WordIn (longer s ws) address word
    → WordIn s address word ⊎ WordIn (record { start = start; words = ws }) address word
longer_has s ws start address word touch h =
    elim (cases_lt h.index (length s.words)) [
      | inl lt ↦ inl (record { index = h.index; address_is = h.address_is; word_is = sym (get_left s.words ws h.index lt) ∙ h.word_is })
      | inr le ↦
          let k : ℕ = h.index - length s.words in
          let e : h.index ≡ length s.words + k = omega (arith, le) in
          inr (record {
            index = k;
            address_is = omega (arith, h.address_is, touch, e);
            word_is = sym (get_right s.words ws k) ∙ ap (slice_get (s.words ++ ws)) (sym e) ∙ h.word_is;
          })
    ]

pub longer_left : (s : Segment) (ws : List ℕ) (address word : ℕ) → WordIn s address word
    → WordIn (longer s ws) address word
longer_left s ws address word h = record {
  index = h.index;
  address_is = h.address_is;
  word_is = get_left s.words ws h.index (slice_get_within s.words h.index word h.word_is) ∙ h.word_is;
}

pub longer_right : (s : Segment) (ws : List ℕ) (start address word : ℕ) → s.start + 8 * length s.words ≡ start
    → WordIn (record { start = start; words = ws }) address word → WordIn (longer s ws) address word
longer_right s ws start address word touch h = record {
  index = length s.words + h.index;
  address_is = omega (arith, h.address_is, touch);
  word_is = get_right s.words ws h.index ∙ h.word_is;
}

-- ---- the words that are gathered

-- the segments as the file has them
abbrev pub in_file : ℕ → List ℕ → List ProgramHeader → List Segment
in_file order bytes hs = map (segment_of order bytes) hs

pub gathered_has : (order : ℕ) (bytes : List ℕ) (s : Segment) (hs : List ProgramHeader) (address word : ℕ)
    → AnyWord (gathered_behind order bytes s hs) address word
    → WordIn s address word ⊎ AnyWord (in_file order bytes hs) address word
gathered_has order bytes s [] address word (inl h) = inl h
gathered_has order bytes s [] address word (inr h) = absurd h
gathered_has order bytes s (h ∷ hs) address word has =
    elim (cases_eq (s.start + 8 * length s.words) h.p_vaddr) [
      | inl touch ↦
          let e = eq-eqb (s.start + 8 * length s.words) h.p_vaddr touch in
          let has' : AnyWord (gathered_behind order bytes (longer s (words_of order bytes h)) hs) address word = rw e at has in
          elim (gathered_has order bytes (longer s (words_of order bytes h)) hs address word has') [
            | inl one ↦ elim (longer_has s (words_of order bytes h) h.p_vaddr address word touch one) [
              | inl old ↦ inl old
              | inr new ↦ inr (inl new)
            ]
            | inr rest ↦ inr (inr rest)
          ]
      | inr apart ↦
          let e = ne_eqb (s.start + 8 * length s.words) h.p_vaddr apart in
          let has' : WordIn s address word ⊎ AnyWord (gathered_behind order bytes (segment_of order bytes h) hs) address word = rw e at has in
          elim has' [
            | inl old ↦ inl old
            | inr rest ↦ elim (gathered_has order bytes (segment_of order bytes h) hs address word rest) [
              | inl new ↦ inr (inl new)
              | inr more ↦ inr (inr more)
            ]
          ]
    ]

pub gathered_front : (order : ℕ) (bytes : List ℕ) (s : Segment) (hs : List ProgramHeader) (address word : ℕ)
    → WordIn s address word → AnyWord (gathered_behind order bytes s hs) address word
gathered_front order bytes s [] address word one = inl one
gathered_front order bytes s (h ∷ hs) address word one =
    elim (cases_Bool (eqb (s.start + 8 * length s.words) h.p_vaddr)) [
      | inl t ↦ rw t (gathered_front order bytes (longer s (words_of order bytes h)) hs address word (longer_left s (words_of order bytes h) address word one))
      | inr f ↦ rw f (inl one)
    ]

pub gathered_rest : (order : ℕ) (bytes : List ℕ) (s : Segment) (hs : List ProgramHeader) (address word : ℕ)
    → AnyWord (in_file order bytes hs) address word → AnyWord (gathered_behind order bytes s hs) address word
gathered_rest order bytes s [] address word has = absurd has
gathered_rest order bytes s (h ∷ hs) address word (inl new) =
    elim (cases_eq (s.start + 8 * length s.words) h.p_vaddr) [
      | inl touch ↦
          let e = eq-eqb (s.start + 8 * length s.words) h.p_vaddr touch in
          rw e (gathered_front order bytes (longer s (words_of order bytes h)) hs address word (longer_right s (words_of order bytes h) h.p_vaddr address word touch new))
      | inr apart ↦
          let e = ne_eqb (s.start + 8 * length s.words) h.p_vaddr apart in
          rw e (inr (gathered_front order bytes (segment_of order bytes h) hs address word new))
    ]
gathered_rest order bytes s (h ∷ hs) address word (inr rest) =
    elim (cases_Bool (eqb (s.start + 8 * length s.words) h.p_vaddr)) [
      | inl t ↦ rw t (gathered_rest order bytes (longer s (words_of order bytes h)) hs address word rest)
      | inr f ↦ rw f (inr (gathered_rest order bytes (segment_of order bytes h) hs address word rest))
    ]

-- ---- the order of start changes no word

pub placed_has : (order : ℕ) (bytes : List ℕ) (h : ProgramHeader) (hs : List ProgramHeader) (address word : ℕ)
    → AnyWord (in_file order bytes (in_place h hs)) address word → AnyWord (in_file order bytes (h ∷ hs)) address word
placed_has order bytes h [] address word has = has
placed_has order bytes h (g ∷ gs) address word has =
    elim (cases_Bool (nat_le h.p_vaddr g.p_vaddr)) [
      | inl t ↦ rw t at has
      | inr f ↦
          let has' : WordIn (segment_of order bytes g) address word ⊎ AnyWord (in_file order bytes (in_place h gs)) address word = rw f at has in
          elim has' [
            | inl one ↦ inr (inl one)
            | inr rest ↦ elim (placed_has order bytes h gs address word rest) [ inl new ↦ inl new | inr more ↦ inr (inr more) ]
          ]
    ]

pub has_placed : (order : ℕ) (bytes : List ℕ) (h : ProgramHeader) (hs : List ProgramHeader) (address word : ℕ)
    → AnyWord (in_file order bytes (h ∷ hs)) address word → AnyWord (in_file order bytes (in_place h hs)) address word
has_placed order bytes h [] address word has = has
has_placed order bytes h (g ∷ gs) address word has =
    elim (cases_Bool (nat_le h.p_vaddr g.p_vaddr)) [
      | inl t ↦ rw t has
      | inr f ↦ rw f (elim has [
        | inl new ↦ inr (has_placed order bytes h gs address word (inl new))
        | inr rest ↦ elim rest [ inl one ↦ inl one | inr more ↦ inr (has_placed order bytes h gs address word (inr more)) ]
      ])
    ]

pub sorted_has : (order : ℕ) (bytes : List ℕ) (hs : List ProgramHeader) (address word : ℕ)
    → AnyWord (in_file order bytes (by_start hs)) address word → AnyWord (in_file order bytes hs) address word
sorted_has order bytes [] address word has = has
sorted_has order bytes (h ∷ hs) address word has =
    elim (placed_has order bytes h (by_start hs) address word has) [ inl new ↦ inl new | inr more ↦ inr (sorted_has order bytes hs address word more) ]

pub has_sorted : (order : ℕ) (bytes : List ℕ) (hs : List ProgramHeader) (address word : ℕ)
    → AnyWord (in_file order bytes hs) address word → AnyWord (in_file order bytes (by_start hs)) address word
has_sorted order bytes [] address word has = has
has_sorted order bytes (h ∷ hs) address word (inl new) = has_placed order bytes h (by_start hs) address word (inl new)
has_sorted order bytes (h ∷ hs) address word (inr more) =
    has_placed order bytes h (by_start hs) address word (inr (has_sorted order bytes hs address word more))

-- ---- nor how many there are, nor what holds of each

pub words_placed : (h : ProgramHeader) (hs : List ProgramHeader) → words_of_all (in_place h hs) ≡ word_count h + words_of_all hs
words_placed h [] = sum_by-cons word_count h []
words_placed h (g ∷ gs) =
    elim (cases_Bool (nat_le h.p_vaddr g.p_vaddr)) [
      | inl t ↦ rw t (sum_by-cons word_count h (g ∷ gs))
      | inr f ↦ rw f (omega (arith, sum_by-cons word_count g (in_place h gs), sum_by-cons word_count g gs, words_placed h gs))
    ]

pub words_sorted : (hs : List ProgramHeader) → words_of_all (by_start hs) ≡ words_of_all hs
words_sorted [] = refl
words_sorted (h ∷ hs) = omega (arith, sum_by-cons word_count h hs, words_placed h (by_start hs), words_sorted hs)

pub All-placed : (P : ProgramHeader → Type 0) (h : ProgramHeader) (hs : List ProgramHeader) → P h → All P hs
    → All P (in_place h hs)
All-placed P h [] p all = All-cons P h [] p all
All-placed P h (g ∷ gs) p all =
    elim (cases_Bool (nat_le h.p_vaddr g.p_vaddr)) [
      | inl t ↦ rw t (All-cons P h (g ∷ gs) p all)
      | inr f ↦ rw f (All-cons P g (in_place h gs) (All-head P g gs all) (All-placed P h gs p (All-tail P g gs all)))
    ]

pub All-sorted : (P : ProgramHeader → Type 0) (hs : List ProgramHeader) → All P hs → All P (by_start hs)
All-sorted P [] all = all
All-sorted P (h ∷ hs) all =
    All-placed P h (by_start hs) (All-head P h hs all) (All-sorted P hs (All-tail P h hs all))

-- ---- counts

pub length-gathered : (order : ℕ) (bytes : List ℕ) (s : Segment) (g : ProgramHeader) (hs : List ProgramHeader)
    → s.start + 8 * length s.words ≡ segment_end g
    → length (gathered_behind order bytes s hs) ≡ 1 + count_behind g hs
length-gathered order bytes s g [] e = refl
length-gathered order bytes s g (h ∷ hs) e =
    elim (cases_eq (segment_end g) h.p_vaddr) [
      | inl touch ↦
          let a = eq-eqb (s.start + 8 * length s.words) h.p_vaddr (e ∙ touch) in
          let b = eq-eqb (segment_end g) h.p_vaddr touch in
          let rest = length-gathered order bytes (longer s (words_of order bytes h)) h hs
          (omega (arith, length-append s.words (words_of order bytes h), length-words_of order bytes h, e, touch)) in
          rw (a, b) (omega (arith, rest))
      | inr apart ↦
          let a = ne_eqb (s.start + 8 * length s.words) h.p_vaddr (λ q. apart (sym e ∙ q)) in
          let b = ne_eqb (segment_end g) h.p_vaddr apart in
          let rest = length-gathered order bytes (segment_of order bytes h) h hs (omega (arith, length-words_of order bytes h)) in
          rw (a, b) (omega (arith, rest))
    ]

pub total-gathered : (order : ℕ) (bytes : List ℕ) (s : Segment) (hs : List ProgramHeader)
    → total_words (gathered_behind order bytes s hs) ≡ length s.words + words_of_all hs
total-gathered order bytes s [] = sum_by-cons (λ (t : Segment). length t.words) s []
total-gathered order bytes s (h ∷ hs) =
    elim (cases_Bool (eqb (s.start + 8 * length s.words) h.p_vaddr)) [
      | inl t ↦ rw t (omega (
        arith,
        sum_by-cons word_count h hs,
        total-gathered order bytes
            (longer s (words_of order bytes h)) hs,
        length-append s.words (words_of order bytes h),
        length-words_of order bytes h,
      ))
      | inr f ↦ rw f (omega (
        arith,
        sum_by-cons word_count h hs,
        sum_by-cons (λ (t : Segment). length t.words) s
            (gathered_behind order bytes (segment_of order bytes h) hs),
        total-gathered order bytes (segment_of order bytes h) hs,
        length-words_of order bytes h,
      ))
    ]

-- ---- the rules of a core

pub field_fits : (order : ℕ) (bytes : List ℕ) (at : ℕ) → AreBytes bytes → field w64 order bytes at < 2 ^ 64
unfolding field
field_fits order bytes at are = (word_width order).below (take 8 (drop at bytes)) (AreBytes-take 8 (drop at bytes) (AreBytes-drop at bytes are))

all_of_map : (p : ℕ → Bool) (f : ℕ → ℕ) (xs : List ℕ) → ((k : ℕ) → p (f k) ≡ true) → list_all p (map f xs) ≡ true
all_of_map p f [] h = refl
all_of_map p f (x ∷ xs) h = rw (h x, all_of_map p f xs h) refl

pub numbers_fit : (order : ℕ) (bytes : List ℕ) (at n : ℕ) → AreBytes bytes → are_words (numbers_from order bytes at n) ≡ true
unfolding numbers_from
numbers_fit order bytes at n are =
    all_of_map (λ x. ltb x (2 ^ 64)) (λ (k : ℕ). field w64 order bytes (at + 8 * k)) (range_with_len 0 n)
    (λ k. lt-ltb (field w64 order bytes (at + 8 * k)) (2 ^ 64) (field_fits order bytes (at + 8 * k) are))

-- a kept segment that starts at a multiple of 8
pub record Good (h : ProgramHeader) : Type 0 where
  pub kept : Kept h
  pub aligned : h.p_vaddr % 8 ≡ 0

no_overlap : (b : Bool) (h : ProgramHeader) (o : Option ProgramHeader) → cond b (Some h) o ≡ None → (b ≡ false) × (o ≡ None)
no_overlap true h o e = absurd cc
no_overlap false h o e = (refl, e)

pub start_there : (least : ℕ) (h : ProgramHeader) → Good h → least ≤ h.p_vaddr → is_start least h.p_vaddr ≡ true
start_there least h good le =
    let a = eq-eqb (h.p_vaddr % 8) 0 good.aligned in
    let b = le-leb least h.p_vaddr le in
    let c = lt-ltb h.p_vaddr MEMORY_END good.kept.low in
    rw (a, b, c) refl

pub rise_gathered : (order : ℕ) (bytes : List ℕ) (least : ℕ) (s : Segment) (g : ProgramHeader) (hs : List ProgramHeader)
    → AreBytes bytes → is_start least s.start ≡ true → 0 < length s.words → are_words s.words ≡ true
    → s.start + 8 * length s.words ≡ segment_end g → overlap_behind g hs ≡ None → All Good hs
    → rise_apart_from least (gathered_behind order bytes s hs) ≡ true
rise_gathered order bytes least s g [] are start some fit e over good =
    let a = lt-ltb 0 (length s.words) some in rw (start, a, fit) refl
rise_gathered order bytes least s g (h ∷ hs) are start some fit e over good =
    let parts = no_overlap (ltb h.p_vaddr (segment_end g)) h (overlap_behind h hs) over in
    let le = ltb-false h.p_vaddr (segment_end g) parts.0 in
    let this = All-head Good h hs good in
    let others = All-tail Good h hs good in
    let fits = numbers_fit order bytes h.p_offset (word_count h) are in
    elim (cases_eq (s.start + 8 * length s.words) h.p_vaddr) [
      | inl touch ↦
          let a = eq-eqb (s.start + 8 * length s.words) h.p_vaddr touch in
          rw a (rise_gathered order bytes least (longer s (words_of order bytes h)) h hs are start
          (omega (arith, length-append s.words (words_of order bytes h), some))
          (list_all-append (λ x. ltb x (2 ^ 64)) s.words (words_of order bytes h) ∙ and_from (are_words s.words) (are_words (words_of order bytes h)) fit fits)
          (omega (arith, length-append s.words (words_of order bytes h), length-words_of order bytes h, touch)) parts.1 others)
      | inr apart ↦
          let a = ne_eqb (s.start + 8 * length s.words) h.p_vaddr apart in
          let b = lt-ltb 0 (length s.words) some in
          let rest = rise_gathered order bytes (end_of s.start (length s.words) + 1) (segment_of order bytes h) h hs are
          (start_there (end_of s.start (length s.words) + 1) h this (omega (arith, apart, e, le)))
          (omega (arith, length-words_of order bytes h, this.kept.some)) fits
          (omega (arith, length-words_of order bytes h)) parts.1 others in
          rw (a, start, b, fit, rest) refl
    ]
