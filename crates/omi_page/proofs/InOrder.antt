-- Spans in order: which one has the word at an address, and which ones a page has.
use Rattle.std.proofs.Common.{◌≡◌, ℕ, zero, suc, ◌+◌, ◌*◌, ◌<◌, ◌≤◌, true, false, ltb, leb, List, [], ◌∷◌, ◌++◌, length, map, drop, get_or, Option, Some, None, refl, sym, ap, subst, ◌∙◌, arith, ◌⊎◌, inl, inr}
use Rattle.std.specs.Prelude.{slice_get}
use Rattle.std.specs.Option.{option_or}
use Rattle.std.specs.List.Sorted.{IsNonDecreasingBy}
use Rattle.std.proofs.lemmas.Option.{slice_get-get_or, slice_get_within}
use Rattle.std.proofs.lemmas.Bool.{cases_lt, le-leb, le-ltb, lt-leb, lt-ltb}
use Rattle.omi_elf.specs.Header.{segment_end}
use Rattle.omi_elf.specs.Segments.{first_overlap, overlap_behind}
use Rattle.omi_elf.specs.declared.program_header.ProgramHeader.{ProgramHeader}
use Rattle.omi_page.specs.declared.span.Span.{Span}
use Rattle.omi_page.specs.Bounds.{AreBoundsOf, AreInOrder, segment_bounds, span_bounds}
use Rattle.omi_page.specs.Spans.{place_of, place_in}

-- ---- spans that have no word at an address

pub none_below : (s : Span) (addr : ℕ) → addr < s.start → place_of s addr ≡ None
none_below s addr below = let low : leb s.start addr ≡ false = lt-leb s.start addr below in rw low refl

pub none_behind : (s : Span) (addr : ℕ) → s.start + 8 * s.count ≤ addr → place_of s addr ≡ None
none_behind s addr behind =
    let low : leb s.start addr ≡ true = le-leb s.start addr (omega (arith, behind)) in
    let high : ltb addr (s.start + 8 * s.count) ≡ false = le-ltb addr (s.start + 8 * s.count) behind in rw (low, high) refl

-- a fact about the spans at places that pass a test
abbrev None_at : (ℕ → Type 0) → ℕ → List Span → Type 0
None_at P addr spans = (k : ℕ) (s : Span) → P k → slice_get spans k ≡ Some s → place_of s addr ≡ None

none_in : (spans : List Span) (addr : ℕ) → ((k : ℕ) (s : Span) → slice_get spans k ≡ Some s → place_of s addr ≡ None)
    → place_in spans addr ≡ None
none_in [] addr none = refl
none_in (x ∷ xs) addr none =
    let here = none 0 x refl in rw here (none_in xs addr (λ k. none (suc k)))

-- the spans from a place on have none
pub none_from : (spans : List Span) (n addr : ℕ) → None_at (λ k. n ≤ k) addr spans → place_in (drop n spans) addr ≡ None
none_from spans zero addr none = none_in spans addr (λ k s is. none k s (omega arith) is)
none_from [] (suc n) addr none = refl
none_from (x ∷ xs) (suc n) addr none = none_from xs n addr (λ k s le is. none (suc k) s (omega (arith, le)) is)

-- those in front of a place have none
pub none_before : (spans : List Span) (n addr : ℕ) → None_at (λ k. k < n) addr spans → place_in spans addr ≡ place_in (drop n spans) addr
none_before spans zero addr none = refl
none_before [] (suc n) addr none = refl
none_before (x ∷ xs) (suc n) addr none =
    let here = none 0 x (omega arith) refl in
    rw here (none_before xs n addr (λ k s lt is. none (suc k) s (omega (arith, lt)) is))

or_none : (o : Option ℕ) → option_or o None ≡ o
or_none None = refl
or_none (Some at) = refl

-- no other span than one has the word
pub only_at : (spans : List Span) (n : ℕ) (s : Span) (addr : ℕ) → slice_get spans n ≡ Some s
    → None_at (λ k. k < n) addr spans → None_at (λ k. n < k) addr spans → place_in spans addr ≡ place_of s addr
only_at [] n s addr is before behind = absurd cc
only_at (x ∷ xs) zero s addr is before behind =
    let same : x ≡ s = cc in
    let none = none_in xs addr (λ k t at. behind (suc k) t (omega arith) at) in
    rw none (or_none (place_of x addr) ∙ ap (λ (y : Span). place_of y addr) same)
only_at (x ∷ xs) (suc n) s addr is before behind =
    let here = before 0 x (omega arith) refl in
    rw here
    (only_at xs n s addr is (λ k t lt at. before (suc k) t (omega (arith, lt)) at)
    (λ k t lt at. behind (suc k) t (omega (arith, lt)) at))

-- where one starts at an address or below, and those behind it start above, only it can have the word
pub one_stands : (spans : List Span) (n : ℕ) (s : Span) (addr : ℕ) → AreInOrder spans → slice_get spans n ≡ Some s → s.start ≤ addr
    → ((k : ℕ) (t : Span) → n < k → slice_get spans k ≡ Some t → addr < t.start) → place_in spans addr ≡ place_of s addr
one_stands spans n s addr ordered is from behind =
    only_at spans n s addr is
    (λ k t lt at. none_behind t addr (omega (arith, ordered k n t s lt at is, from)))
    (λ k t lt at. none_below t addr (behind k t lt at))

-- those in front of one that ends at an address or below have none from there on
pub none_to : (spans : List Span) (n : ℕ) (s : Span) (addr : ℕ) → AreInOrder spans → slice_get spans n ≡ Some s → s.start + 8 * s.count ≤ addr
    → place_in spans addr ≡ place_in (drop (suc n) spans) addr
none_to spans n s addr ordered is behind =
    none_before spans (suc n) addr
    (λ k t lt at. none_behind t addr (elim (cases_lt k n) [
      | inl before ↦ omega (arith, ordered k n t s before at is, behind)
      | inr from ↦
          let same : k ≡ n = omega (arith, lt, from) in
          let both : t ≡ s = some_same t s (sym at ∙ ap (slice_get spans) same ∙ is) in
          omega (arith, ap (λ (y : Span). y.start + 8 * y.count) both, behind)
    ]))
  where
    some_same : (x y : Span) → (let some : Span → Option Span = λ z. Some z in some x ≡ some y) → x ≡ y
    some_same x y e = cc

-- their starts rise
pub rising : (spans : List Span) → AreInOrder spans → IsNonDecreasingBy (λ s. s.start) spans
rising spans ordered i j d le within =
    elim (cases_lt i j) [
      | inl lt ↦
          let far = ordered i j (get_or spans i d) (get_or spans j d) lt (slice_get-get_or spans i d (omega (arith, lt, within))) (slice_get-get_or spans j d within) in
          omega (arith, far)
      | inr ge ↦ let same : i ≡ j = omega (arith, le, ge) in omega (arith, ap (λ (k : ℕ). (get_or spans k d).start) same)
    ]

-- ---- spans that are made in order

-- each ends below an address, or there
abbrev pub EndBelow : ℕ → List Span → Type 0
EndBelow least spans = (k : ℕ) (s : Span) → slice_get spans k ≡ Some s → s.start + 8 * s.count ≤ least

pub below_push : (before least : ℕ) (spans : List Span) (x : Span) → EndBelow before spans → before ≤ least → x.start + 8 * x.count ≤ least
    → EndBelow least (spans ++ x ∷ [])
below_push before least [] x below le last zero s is =
    let same : x ≡ s = cc in subst (λ (y : Span). y.start + 8 * y.count ≤ least) same last
below_push before least [] x below le last (suc k) s is = absurd cc
below_push before least (y ∷ spans) x below le last zero s is = omega (arith, below 0 s is, le)
below_push before least (y ∷ spans) x below le last (suc k) s is = below_push before least spans x (λ j. below (suc j)) le last k s is

-- what a place of a list with one element more has: an element of the list, or that one, at the end
at_end : (spans : List Span) (x : Span) (k : ℕ) (s : Span) → slice_get (spans ++ x ∷ []) k ≡ Some s
    → (slice_get spans k ≡ Some s) ⊎ ((k ≡ length spans) × (s ≡ x))
at_end [] x zero s is = inr (refl, cc)
at_end [] x (suc k) s is = absurd cc
at_end (y ∷ spans) x zero s is = inl is
at_end (y ∷ spans) x (suc k) s is = elim (at_end spans x k s is) [
  | inl was ↦ inl was
  | inr last ↦ inr (ap suc last.0, last.1)
]

pub order_push : (spans : List Span) (x : Span) → AreInOrder spans → EndBelow x.start spans → AreInOrder (spans ++ x ∷ [])
order_push spans x ordered below i j s later lt is is_later =
    elim (at_end spans x i s is) [
      | inl first ↦ elim (at_end spans x j later is_later) [
        | inl second ↦ ordered i j s later lt first second
        | inr last ↦ subst (λ (y : Span). s.start + 8 * s.count ≤ y.start) (sym last.1) (below i s first)
      ]
      | inr last ↦ elim (at_end spans x j later is_later) [
        | inl second ↦ absurd (omega (arith, lt, last.0, slice_get_within spans j later second))
        | inr also ↦ absurd (omega (arith, lt, last.0, also.0))
      ]
    ]

-- ---- the spans of segments that don't overlap

-- bounds that begin at an address or behind it, each at the end of the one before or behind it
abbrev Rise : ℕ → List (ℕ × ℕ × ℕ) → Type 0
Rise from [] = Unit {0}
Rise from (b ∷ bs) = (from ≤ b.0) × Rise (b.0 + 8 * b.1) bs

rise_behind : (h : ProgramHeader) (hs : List ProgramHeader) → overlap_behind h hs ≡ None → Rise (segment_end h) (map segment_bounds hs)
rise_behind h [] none = tt
rise_behind h (g ∷ gs) none = elim (cases_lt g.p_vaddr (segment_end h)) [
  | inl overlaps ↦ let test : ltb g.p_vaddr (segment_end h) ≡ true = lt-ltb g.p_vaddr (segment_end h) overlaps in absurd (let never = rw test at none in cc)
  | inr apart ↦ let test : ltb g.p_vaddr (segment_end h) ≡ false = le-ltb g.p_vaddr (segment_end h) apart in (apart, rise_behind g gs (rw test at none))
]

rise_of : (hs : List ProgramHeader) → first_overlap hs ≡ None → Rise 0 (map segment_bounds hs)
rise_of [] none = tt
rise_of (h ∷ hs) none = (omega arith, rise_behind h hs none)

begins_behind : (from : ℕ) (spans : List Span) → Rise from (map span_bounds spans) → (k : ℕ) (s : Span) → slice_get spans k ≡ Some s → from ≤ s.start
begins_behind from [] rise k s is = absurd cc
begins_behind from (x ∷ xs) rise zero s is = let same : x ≡ s = cc in subst (λ (y : Span). from ≤ y.start) same rise.0
begins_behind from (x ∷ xs) rise (suc k) s is =
    let far = begins_behind (x.start + 8 * x.count) xs rise.1 k s is in omega (arith, far, rise.0)

in_order : (from : ℕ) (spans : List Span) → Rise from (map span_bounds spans) → AreInOrder spans
in_order from [] rise i j s later lt is is_later = absurd cc
in_order from (x ∷ xs) rise zero zero s later lt is is_later = absurd (omega (arith, lt))
in_order from (x ∷ xs) rise zero (suc j) s later lt is is_later =
    let same : x ≡ s = cc in
    subst (λ (y : Span). y.start + 8 * y.count ≤ later.start) same (begins_behind (x.start + 8 * x.count) xs rise.1 j later is_later)
in_order from (x ∷ xs) rise (suc i) zero s later lt is is_later = absurd (omega (arith, lt))
in_order from (x ∷ xs) rise (suc i) (suc j) s later lt is is_later =
    in_order (x.start + 8 * x.count) xs rise.1 i j s later (omega (arith, lt)) is is_later

pub spans_in_order : (hs : List ProgramHeader) (spans : List Span) → AreBoundsOf hs spans → first_overlap hs ≡ None → AreInOrder spans
spans_in_order hs spans are none = in_order 0 spans (subst (Rise 0) (sym are) (rise_of hs none))
