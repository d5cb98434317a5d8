-- Where words stand in the pages of a core file.
use Rattle.std.proofs.Common.{◌≡◌, ℕ, zero, suc, ◌+◌, ◌-◌, ◌*◌, ◌%◌, ◌<◌, ◌≤◌, Bool, true, false, cond, ltb, leb, List, [], ◌∷◌, ◌++◌, length, take, drop, Option, Some, None, refl, sym, ap, ◌∙◌, arith, inl, inr}
use Rattle.std.specs.Prelude.{slice_get, min, max}
use Rattle.std.specs.Option.{option_or, is_some}
use Rattle.std.proofs.Math.Seq.{drop-append-add}
use Rattle.std.proofs.lemmas.Bool.{and_parts, leb-true, ltb-true, cases_lt, lt-ltb, le-leb}
use Rattle.std.proofs.lemmas.List.{drop-take, take-take, length-take-le, length-drop, drop-drop}
use Rattle.std.proofs.lemmas.Slice.{take-put_mid_below, take-put_mid, drop-put_mid}
use borrow.Rule.Slice.PartMut.{put_mid}
use Rattle.omi_page.specs.declared.span.Span.{Span}
use Rattle.omi_page.specs.Spans.{eight_at, is_in, place_of, place_in}

-- ---- a write into the middle of a buffer

-- eight bytes lie in a front
in_front : (items : List ℕ) (offset : ℕ) → eight_at items offset ≡ drop offset (take (offset + 8) items)
in_front items offset = sym (drop-take offset 8 items)

pub eight_below : (from count : ℕ) (old part : List ℕ) (offset : ℕ) → offset + 8 ≤ from → from ≤ length old
    → eight_at (put_mid from count old part) offset ≡ eight_at old offset
eight_below from count old part offset below within =
    in_front (put_mid from count old part) offset
    ∙ ap (drop offset) (take-put_mid_below from count old part (offset + 8) below within)
    ∙ sym (in_front old offset)

pub eight_above : (from count : ℕ) (old part : List ℕ) (offset : ℕ) → from + count ≤ offset
    → from ≤ length old → length part ≡ count
    → eight_at (put_mid from count old part) offset ≡ eight_at old offset
eight_above from count old part offset above within fits =
    ap (take 8) (drop-put_mid from count old part offset above within fits)

pub eight_inside : (from count : ℕ) (old part : List ℕ) (offset inner : ℕ) → offset ≡ from + inner
    → inner + 8 ≤ count → from ≤ length old → length part ≡ count
    → eight_at (put_mid from count old part) offset ≡ eight_at part inner
eight_inside from count old part offset inner is inside within fits =
    let front : length (take from old) ≡ from = length-take-le from old within in
    let here : offset ≡ length (take from old) + inner = omega (arith, front) in
    in_front (put_mid from count old part) offset
    ∙ ap (drop offset) (sym (take-take (offset + 8) (from + count) (put_mid from count old part) (omega arith))
    ∙ ap (take (offset + 8)) (take-put_mid from count old part (from + count) (omega (arith, fits)) within))
    ∙ sym (in_front (take from old ++ part) offset)
    ∙ ap (λ n. take 8 (drop n (take from old ++ part))) here
    ∙ ap (take 8) (drop-append-add (take from old) part inner)

-- eight bytes of what was read
pub eight_read : (bytes : List ℕ) (place count inner : ℕ) → inner + 8 ≤ count
    → eight_at (take count (drop place bytes)) inner ≡ eight_at bytes (place + inner)
eight_read bytes place count inner inside =
    in_front (take count (drop place bytes)) inner
    ∙ ap (drop inner) (take-take (inner + 8) count (drop place bytes) inside)
    ∙ sym (in_front (drop place bytes) inner)
    ∙ ap (take 8) (drop-drop inner place bytes)

-- ---- the place of a word

-- a word stands in a span
pub record Stands (s : Span) (addr at : ℕ) : Type 0 where
  pub from : s.start ≤ addr
  pub below : addr < s.start + 8 * s.count
  pub is : at ≡ s.place + (addr - s.start)

stands_by : (s : Span) (addr at : ℕ) (b : Bool) → is_in s addr ≡ b
    → cond b (Some (s.place + (addr - s.start))) None ≡ Some at → Stands s addr at
stands_by s addr at true test e =
    let both = and_parts (leb s.start addr) (ltb addr (s.start + 8 * s.count)) test in
    record { from = leb-true s.start addr both.0; below = ltb-true addr (s.start + 8 * s.count) both.1; is = cc }
stands_by s addr at false test e = absurd cc

pub stands_in : (s : Span) (addr at : ℕ) → place_of s addr ≡ Some at → Stands s addr at
stands_in s addr at e = stands_by s addr at (is_in s addr) refl e

-- no word of a span stands there
pub apart : (s : Span) (addr : ℕ) → place_of s addr ≡ None → s.start ≤ addr → s.start + 8 * s.count ≤ addr
apart s addr none from =
    elim (cases_lt addr (s.start + 8 * s.count)) [
      | inl below ↦
          let low : leb s.start addr ≡ true = le-leb s.start addr from in
          let high : ltb addr (s.start + 8 * s.count) ≡ true = lt-ltb addr (s.start + 8 * s.count) below in
          let here : place_of s addr ≡ Some (s.place + (addr - s.start)) = rw (low, high) refl in
          absurd (let both = sym here ∙ none in cc)
      | inr above ↦ above
    ]

-- one span more is looked at
pub place_more : (spans : List Span) (place next : ℕ) (s : Span) (addr : ℕ) → next ≡ suc place
    → slice_get spans place ≡ Some s
    → place_in (drop place spans) addr ≡ option_or (place_of s addr) (place_in (drop next spans) addr)
place_more [] place next s addr after is = absurd (cc)
place_more (x ∷ xs) zero next s addr after is =
    let same : x ≡ s = cc in
    rw after (ap (λ (y : Span). option_or (place_of y addr) (place_in xs addr)) same)
place_more (x ∷ xs) (suc place) next s addr after is =
    rw after (place_more xs place (suc place) s addr refl is)

some_by : (b : Bool) (s : Span) (addr : ℕ) → is_in s addr ≡ b → is_some (cond b (Some (s.place + (addr - s.start))) None) ≡ b
some_by true s addr test = refl
some_by false s addr test = refl

-- a word stands in a span by its test
pub stands_by_test : (s : Span) (addr : ℕ) → is_some (place_of s addr) ≡ is_in s addr
stands_by_test s addr = some_by (is_in s addr) s addr refl

-- ---- the part of a page that a span has

-- what is read of a span for a page: from the higher of two starts to the lower of two ends
pub record Part (s : Span) (base low high : ℕ) (old part : List ℕ) : Type 0 where
  pub aligned : base % 8 ≡ 0
  pub low_is : low ≡ max s.start base
  pub high_is : high ≡ min (s.start + 8 * s.count) (base + 4096)
  pub some : low < high
  pub room : length old ≡ 4096
  pub fits : length part ≡ high - base - (low - base)

-- the words of the span are those that were read
pub part_here : (s : Span) (base low high : ℕ) (old part bytes : List ℕ) (offset at : ℕ)
    → Part s base low high old part
    → part ≡ take (high - base - (low - base)) (drop (s.place + (low - s.start)) bytes)
    → offset % 8 ≡ 0 → offset < 4096 → place_of s (base + offset) ≡ Some at
    → eight_at (put_mid (low - base) (high - base - (low - base)) old part) offset ≡ eight_at bytes at
part_here s base low high old part bytes offset at p read aligned within there =
    let here = stands_in s (base + offset) at there in
    let inner : ℕ = base + offset - low in
    let after : low ≤ base + offset = omega (arith, p.low_is, here.from) in
    let start_aligned : s.start % 8 ≡ 0 = s.aligned in
    let before : base + offset + 8 ≤ high =
    omega (arith, p.high_is, here.below, start_aligned, p.aligned, aligned, within) in
    let from : base ≤ low = omega (arith, p.low_is) in
    let inside : inner + 8 ≤ high - base - (low - base) = omega (arith, after, before, from) in
    let place : s.place + (low - s.start) + inner ≡ at = omega (arith, here.is, here.from, after, p.low_is) in
    eight_inside (low - base) (high - base - (low - base)) old part offset inner
    (omega (arith, after, from)) inside (omega (arith, p.room, p.some, p.high_is, from)) p.fits
    ∙ ap (λ (l : List ℕ). eight_at l inner) read
    ∙ eight_read bytes (s.place + (low - s.start)) (high - base - (low - base)) inner inside
    ∙ ap (eight_at bytes) place

-- the other words stay
pub part_others : (s : Span) (base low high : ℕ) (old part : List ℕ) (offset : ℕ)
    → Part s base low high old part
    → offset % 8 ≡ 0 → offset < 4096 → place_of s (base + offset) ≡ None
    → eight_at (put_mid (low - base) (high - base - (low - base)) old part) offset ≡ eight_at old offset
part_others s base low high old part offset p aligned within none =
    let start_aligned : s.start % 8 ≡ 0 = s.aligned in
    let from : base ≤ low = omega (arith, p.low_is) in
    let room : low - base ≤ length old = omega (arith, p.room, p.some, p.high_is, from) in
    elim (cases_lt (base + offset) s.start) [
      | inl before ↦
          eight_below (low - base) (high - base - (low - base)) old part offset
          (omega (arith, before, p.low_is, from, start_aligned, p.aligned, aligned)) room
      | inr after ↦
          let past = apart s (base + offset) none after in
          eight_above (low - base) (high - base - (low - base)) old part offset
          (omega (arith, past, p.high_is, p.some, from)) room p.fits
    ]

-- the bytes of the part
pub part_length : (base low high : ℕ) (old : List ℕ) → base ≤ low → high ≤ base + 4096 → length old ≡ 4096
    → length (take (high - base - (low - base)) (drop (low - base) old)) ≡ high - base - (low - base)
part_length base low high old from to room =
    length-take-le (high - base - (low - base)) (drop (low - base) old)
    (omega (arith, from, to, room, length-drop (low - base) old))

-- ---- a page, read span by span

module _ (s : Span) (addr at offset : ℕ) (new old bytes : List ℕ) (rest : Option ℕ) where
  by_place : (o : Option ℕ) → place_of s addr ≡ o
      → ((p : ℕ) → place_of s addr ≡ Some p → eight_at new offset ≡ eight_at bytes p)
      → (place_of s addr ≡ None → eight_at new offset ≡ eight_at old offset)
      → ((p : ℕ) → rest ≡ Some p → eight_at old offset ≡ eight_at bytes p)
      → option_or o rest ≡ Some at → eight_at new offset ≡ eight_at bytes at
  by_place (Some p) is here others so_far there = here at (is ∙ there)
  by_place None is here others so_far there = others is ∙ so_far at there

-- one span more was read
pub page_more : (spans : List Span) (place next : ℕ) (s : Span) (addr at offset : ℕ) (new old bytes : List ℕ)
    → next ≡ suc place → slice_get spans place ≡ Some s
    → ((p : ℕ) → place_of s addr ≡ Some p → eight_at new offset ≡ eight_at bytes p)
    → (place_of s addr ≡ None → eight_at new offset ≡ eight_at old offset)
    → ((p : ℕ) → place_in (drop next spans) addr ≡ Some p → eight_at old offset ≡ eight_at bytes p)
    → place_in (drop place spans) addr ≡ Some at → eight_at new offset ≡ eight_at bytes at
page_more spans place next s addr at offset new old bytes after is here others so_far there =
    by_place s addr at offset new old bytes (place_in (drop next spans) addr)
    (place_of s addr) refl here others so_far
    (sym (place_more spans place next s addr after is) ∙ there)
