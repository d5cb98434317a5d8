-- The words of an ELF core file by their places.
use Rattle.std.proofs.Common.{◌≡◌, ℕ, zero, suc, ◌+◌, ◌-◌, ◌*◌, ◌/◌, ◌%◌, ◌≤◌, true, false, leb, List, [], ◌∷◌, ◌++◌, length, map, Option, Some, None, refl, sym, ap, ◌∙◌, arith, inl, inr}
use Rattle.std.specs.Prelude.{slice_get}
use Rattle.std.specs.Option.{option_or, option_map}
use Rattle.std.specs.Int.{w64}
use Rattle.std.proofs.lemmas.Bool.{cases_lt, cases_eq, le-leb, lt-leb, eq-eqb, ne_eqb}
use Rattle.std.proofs.lemmas.Option.{slice_get-get_or}
use Rattle.omi_corefile.specs.declared.segment.Segment.{Segment}
use Rattle.omi_calls.specs.CoreWords.{word_of, words_of_segments}
use Rattle.omi_elf.specs.Header.{field, numbers_from, word_count}
use Rattle.omi_elf.specs.Gathered.{words_of, segment_of, longer, gathered_behind, gathered}
use Rattle.omi_elf.specs.declared.program_header.ProgramHeader.{ProgramHeader}
use Rattle.omi_elf.proofs.Joined.{in_file, get_left, get_right}
use Rattle.omi_elf.proofs.Tables.{numbers_from-none, numbers_from-more}
use Rattle.omi_page.specs.declared.span.Span.{Span}
use Rattle.omi_page.specs.Bounds.{AreBoundsOf, span_bounds, segment_bounds}
use Rattle.omi_page.specs.Spans.{word_there, words_there, segment_there, segments_there, place_in}
use Rattle.omi_page.proofs.Telling.{place_words}

-- ---- the words of a segment are those at its place

field_there : (order : ℕ) (bytes : List ℕ) (at : ℕ) → field w64 order bytes at ≡ word_there order bytes at
unfolding field
field_there order bytes at = refl

words_more : (order : ℕ) (bytes : List ℕ) (at n : ℕ)
    → words_there order bytes at (suc n) ≡ words_there order bytes at n ++ word_there order bytes (at + 8 * n) ∷ []
unfolding words_there
words_more order bytes at zero =
    let here : at ≡ at + 8 * 0 = omega arith in ap (λ (k : ℕ). word_there order bytes k ∷ []) here
words_more order bytes at (suc n) =
    let here : at + 8 + 8 * n ≡ at + 8 * suc n = omega arith in
    ap (λ (ws : List ℕ). word_there order bytes at ∷ ws) (words_more order bytes (at + 8) n)
    ∙ ap (λ (k : ℕ). word_there order bytes at ∷ (words_there order bytes (at + 8) n ++ word_there order bytes k ∷ [])) here

words_none : (order : ℕ) (bytes : List ℕ) (at : ℕ) → words_there order bytes at 0 ≡ []
unfolding words_there
words_none order bytes at = refl

numbers_are : (order : ℕ) (bytes : List ℕ) (at n : ℕ) → numbers_from order bytes at n ≡ words_there order bytes at n
numbers_are order bytes at zero = numbers_from-none order bytes at ∙ sym (words_none order bytes at)
numbers_are order bytes at (suc n) =
    let next : suc n ≡ n + 1 = omega arith in
    ap (numbers_from order bytes at) next
    ∙ numbers_from-more order bytes at n
    ∙ (λ i. numbers_are order bytes at n i ++ field_there order bytes (at + 8 * n) i ∷ [])
    ∙ sym (words_more order bytes at n)

-- a segment with these bounds
abbrev segment_by : ℕ → List ℕ → ℕ × ℕ × ℕ → Segment
segment_by order bytes b = record { start = b.0; words = words_there order bytes b.2 b.1 }

segment_read : (order : ℕ) (bytes : List ℕ) (h : ProgramHeader) → segment_of order bytes h ≡ segment_by order bytes (segment_bounds h)
segment_read order bytes h =
    ap (λ (ws : List ℕ). let s : Segment = record { start = h.p_vaddr; words = ws } in s) (numbers_are order bytes h.p_offset (word_count h))

headers_by : (order : ℕ) (bytes : List ℕ) (hs : List ProgramHeader)
    → in_file order bytes hs ≡ map (segment_by order bytes) (map segment_bounds hs)
headers_by order bytes [] = refl
headers_by order bytes (h ∷ hs) = λ i. segment_read order bytes h i ∷ headers_by order bytes hs i

spans_by : (order : ℕ) (bytes : List ℕ) (spans : List Span)
    → segments_there order bytes spans ≡ map (segment_by order bytes) (map span_bounds spans)
spans_by order bytes [] = refl
spans_by order bytes (s ∷ spans) = ap (λ (ss : List Segment). segment_there order bytes s ∷ ss) (spans_by order bytes spans)

segments_are : (order : ℕ) (bytes : List ℕ) (hs : List ProgramHeader) (spans : List Span) → AreBoundsOf hs spans
    → in_file order bytes hs ≡ segments_there order bytes spans
segments_are order bytes hs spans are =
    headers_by order bytes hs ∙ ap (map (segment_by order bytes)) (sym are) ∙ sym (spans_by order bytes spans)

-- ---- segments that are joined have the same words

past : (xs : List ℕ) (k : ℕ) → length xs ≤ k → slice_get xs k ≡ None
past [] k le = refl
past (x ∷ xs) zero le = absurd (omega (arith, le))
past (x ∷ xs) (suc k) le = past xs k (omega (arith, le))

longer_word : (s : Segment) (ws : List ℕ) (start addr : ℕ) → s.start + 8 * length s.words ≡ start
    → (let t : Segment = record { start = start; words = ws } in word_of (longer s ws) addr ≡ option_or (word_of s addr) (word_of t addr))
longer_word s ws start addr touch =
    elim (cases_lt addr s.start) [
      | inl before ↦
          let low : leb s.start addr ≡ false = lt-leb s.start addr before in
          let lower : leb start addr ≡ false = lt-leb start addr (omega (arith, before, touch)) in
          rw (low, lower) refl
      | inr from ↦
          let low : leb s.start addr ≡ true = le-leb s.start addr from in
          let k : ℕ = (addr - s.start) / 8 in
          elim (cases_lt k (length s.words)) [
            | inl inside ↦
                let left = get_left s.words ws k inside in
                let some = slice_get-get_or s.words k 0 inside in
                rw (low, left, some) refl
            | inr behind ↦
                let high : leb start addr ≡ true = le-leb start addr (omega (arith, behind, touch, from)) in
                let j : ℕ = (addr - start) / 8 in
                let here : k ≡ length s.words + j = omega (arith, behind, touch, from) in
                let right : slice_get (s.words ++ ws) k ≡ slice_get ws j = ap (slice_get (s.words ++ ws)) here ∙ get_right s.words ws j in
                let none = past s.words k behind in
                rw (low, high, right, none) refl
          ]
    ]

or_assoc : (a b c : Option ℕ) → option_or (option_or a b) c ≡ option_or a (option_or b c)
or_assoc None b c = refl
or_assoc (Some x) b c = refl

joined : (order : ℕ) (bytes : List ℕ) (s : Segment) (hs : List ProgramHeader) (addr : ℕ)
    → words_of_segments (gathered_behind order bytes s hs) addr ≡ option_or (word_of s addr) (words_of_segments (in_file order bytes hs) addr)
joined order bytes s [] addr = refl
joined order bytes s (h ∷ hs) addr =
    elim (cases_eq (s.start + 8 * length s.words) h.p_vaddr) [
      | inl touch ↦
          let e = eq-eqb (s.start + 8 * length s.words) h.p_vaddr touch in
          rw e
          (joined order bytes (longer s (words_of order bytes h)) hs addr
          ∙ ap (λ o. option_or o (words_of_segments (in_file order bytes hs) addr)) (longer_word s (words_of order bytes h) h.p_vaddr addr touch)
          ∙ or_assoc (word_of s addr) (word_of (segment_of order bytes h) addr) (words_of_segments (in_file order bytes hs) addr))
      | inr apart ↦
          let e = ne_eqb (s.start + 8 * length s.words) h.p_vaddr apart in
          rw e (ap (option_or (word_of s addr)) (joined order bytes (segment_of order bytes h) hs addr))
    ]

gathered_words : (order : ℕ) (bytes : List ℕ) (hs : List ProgramHeader) (addr : ℕ)
    → words_of_segments (gathered order bytes hs) addr ≡ words_of_segments (in_file order bytes hs) addr
gathered_words order bytes [] addr = refl
gathered_words order bytes (h ∷ hs) addr = joined order bytes (segment_of order bytes h) hs addr

pub words_there_are : (order : ℕ) (bytes : List ℕ) (hs : List ProgramHeader) (spans : List Span) (addr : ℕ) → AreBoundsOf hs spans → addr % 8 ≡ 0
    → words_of_segments (gathered order bytes hs) addr ≡ option_map (word_there order bytes) (place_in spans addr)
words_there_are order bytes hs spans addr are aligned =
    gathered_words order bytes hs addr
    ∙ ap (λ (ss : List Segment). words_of_segments ss addr) (segments_are order bytes hs spans are)
    ∙ place_words order bytes spans addr aligned
