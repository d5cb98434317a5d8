-- The parts of segments that a file has spell the words that it has.
use Rattle.std.proofs.Common.{◌≡◌, ℕ, zero, suc, ◌+◌, ◌-◌, ◌*◌, ◌/◌, ◌<◌, ◌≤◌, min, Bool, true, false, cond, List, [], ◌∷◌, length, Option, Some, None, refl, ap, sym, ◌∙◌, arith}
use Rattle.std.specs.Prelude.{All, Contains, nat_lt}
use Rattle.std.specs.List.{cons_option}
use Rattle.std.proofs.lemmas.Bool.{ltb-false, le-ltb}
use Rattle.std.proofs.lemmas.List.Elements.{All-contains, All-head, All-tail}
use Rattle.omi_elf.specs.Header.{segment_end, word_count}
use Rattle.omi_elf.specs.Segments as elf
use Rattle.omi_elf.specs.declared.program_header.ProgramHeader.{ProgramHeader}
use Rattle.omi_process.specs.Reading.{IsSpelledIn, part_at, part_in, parts_in}
use Rattle.omi_process.specs.Words.{HasWord, first_overlap, is_looked_at, overlap_behind, place_of, segments_of, words_from, words_to}
use Rattle.omi_process.proofs.AlongSegments.{Looked, looked}

-- ---- parts and segments

-- what a part is of
pub record IsPartOf (len : ℕ) (hs : List ProgramHeader) (part : ProgramHeader) : Type 0 where
  pub segment : ProgramHeader
  pub among : Contains hs segment
  pub is : part_in len segment ≡ Some part

module _ (len : ℕ) where
  of_more : (x : ProgramHeader) (xs : List ProgramHeader) (part : ProgramHeader) → IsPartOf len xs part → IsPartOf len (x ∷ xs) part
  of_more x xs part of = record {
    segment = of.segment;
    among = (suc of.among.0, omega (arith, of.among.1), of.among.2);
    is = of.is;
  }

  pub part_of : (hs : List ProgramHeader) (part : ProgramHeader) → Contains (parts_in len hs) part → IsPartOf len hs part
  part_of [] part (k, lt, is) = absurd (omega (arith, lt))
  part_of (x ∷ xs) part c = go (λ d. of_more x xs part (part_of xs part d)) (part_in len x) refl c
    where
      go : (Contains (parts_in len xs) part → IsPartOf len (x ∷ xs) part) → (o : Option ProgramHeader) → part_in len x ≡ o
          → Contains (cons_option o (parts_in len xs)) part → IsPartOf len (x ∷ xs) part
      go behind None e c = behind c
      go behind (Some y) e (zero, lt, is) = record { segment = x; among = (0, omega arith, refl); is = e ∙ ap Some is }
      go behind (Some y) e (suc k, lt, is) = behind (k, omega (arith, lt), is)

  among_more : (o : Option ProgramHeader) (ys : List ProgramHeader) (part : ProgramHeader) → Contains ys part → Contains (cons_option o ys) part
  among_more None ys part c = c
  among_more (Some y) ys part (k, lt, is) = (suc k, omega (arith, lt), is)

  pub part_there : (hs : List ProgramHeader) (h part : ProgramHeader) → Contains hs h → part_in len h ≡ Some part → Contains (parts_in len hs) part
  part_there [] h part (k, lt, is) e = absurd (omega (arith, lt))
  part_there (x ∷ xs) h part (zero, lt, is) e =
      let here : part_in len x ≡ Some part = ap (part_in len) is ∙ e in rw here (0, omega arith, refl)
  part_there (x ∷ xs) h part (suc k, lt, is) e =
      among_more (part_in len x) (parts_in len xs) part (part_there xs h part (k, omega (arith, lt), is) e)

  -- the part of a segment, and where it has one
  part_facts : (h part : ProgramHeader) → part_in len h ≡ Some part
      → (place_of h (words_from h) + 8 ≤ len) × (part ≡ part_at len h (place_of h (words_from h)))
  part_facts h part e = go (nat_lt len (place_of h (words_from h) + 8)) refl e
    where
      go : (b : Bool) → nat_lt len (place_of h (words_from h) + 8) ≡ b
          → cond b None (Some (part_at len h (place_of h (words_from h)))) ≡ Some part
          → (place_of h (words_from h) + 8 ≤ len) × (part ≡ part_at len h (place_of h (words_from h)))
      go true test is = absurd cc
      go false test is = (ltb-false len (place_of h (words_from h) + 8) test, cc)

  pub has_part : (h : ProgramHeader) → place_of h (words_from h) + 8 ≤ len
      → part_in len h ≡ Some (part_at len h (place_of h (words_from h)))
  has_part h le = let e = le-ltb len (place_of h (words_from h) + 8) le in rw e refl

-- ---- words

module _ (bytes : List ℕ) (len : ℕ) (long : length bytes ≡ len) (address word : ℕ) where
  spelled_of : (h part : ProgramHeader) (index : ℕ) → Contains (segments_of bytes) h → Looked h → part_in len h ≡ Some part
      → index < word_count part → address ≡ part.p_vaddr + 8 * index → word ≡ elf.word_in_file bytes (part.p_offset + 8 * index)
      → HasWord bytes address word
  spelled_of h part index among l e inside at is =
      let facts = part_facts len h part e in
      let count : word_count part ≡ (8 * (min (words_to h - words_from h) (len - place_of h (words_from h)) / 8)) / 8 = ap word_count facts.1 in
      let start : part.p_vaddr ≡ words_from h = ap (λ (p : ProgramHeader). p.p_vaddr) facts.1 in
      let offset : part.p_offset ≡ place_of h (words_from h) = ap (λ (p : ProgramHeader). p.p_offset) facts.1 in
      let place : place_of h address ≡ part.p_offset + 8 * index = omega (arith, at, start, offset) in
      record {
        segment = h;
        among = among;
        aligned = omega (arith, at, start);
        from = omega (arith, at, start);
        to = omega (arith, at, start, count, inside, l.some);
        there = omega (arith, place, offset, count, inside, facts.0, long);
        word_is = is ∙ ap (elf.word_in_file bytes) (sym place);
      }

  pub spelled_word : All (λ h. is_looked_at h ≡ true) (segments_of bytes) → IsSpelledIn bytes (parts_in len (segments_of bytes)) address word
      → HasWord bytes address word
  spelled_word all s =
      let of = part_of len (segments_of bytes) s.segment s.among in
      let l = looked of.segment (All-contains (λ h. is_looked_at h ≡ true) (segments_of bytes) of.segment all of.among) in
      spelled_of of.segment s.segment s.index of.among l of.is s.inside s.address_is s.word_is

  pub word_spelled : HasWord bytes address word → IsSpelledIn bytes (parts_in len (segments_of bytes)) address word
  word_spelled has =
      let h : ProgramHeader = has.segment in
      let index : ℕ = (address - words_from h) / 8 in
      let place : place_of h address ≡ place_of h (words_from h) + 8 * index = omega (arith, has.aligned, has.from) in
      let at : address ≡ words_from h + 8 * index = omega (arith, has.aligned, has.from) in
      let room : place_of h (words_from h) + 8 ≤ len = omega (arith, place, has.there, long) in
      record {
        segment = part_at len h (place_of h (words_from h));
        among = part_there len (segments_of bytes) h (part_at len h (place_of h (words_from h))) has.among (has_part len h room);
        index = index;
        inside = omega (arith, at, place, has.there, has.to, long);
        address_is = at;
        word_is = has.word_is ∙ ap (elf.word_in_file bytes) place;
      }

-- ---- parts are apart, as their segments are

-- each begins at or behind the end of the one before, and the first at an address or behind it
abbrev pub Rise : ℕ → List ProgramHeader → Type 0
Rise e [] = Unit {0}
Rise e (h ∷ hs) = (e ≤ words_from h) × (words_from h < words_to h) × Rise (words_to h) hs

later : (d e : ℕ) (hs : List ProgramHeader) → d ≤ e → Rise e hs → Rise d hs
later d e [] le rise = tt
later d e (h ∷ hs) le (from, some, rest) = (omega (arith, le, from), some, rest)

no_overlap_first : (h g : ProgramHeader) (gs : List ProgramHeader) → overlap_behind h (g ∷ gs) ≡ None
    → (words_to h ≤ words_from g) × (overlap_behind g gs ≡ None)
no_overlap_first h g gs e = go (nat_lt (words_from g) (words_to h)) refl e
  where
    go : (b : Bool) → nat_lt (words_from g) (words_to h) ≡ b → cond b (Some g) (overlap_behind g gs) ≡ None
        → (words_to h ≤ words_from g) × (overlap_behind g gs ≡ None)
    go true test is = absurd cc
    go false test is = (ltb-false (words_from g) (words_to h) test, is)

pub rises_behind : (h : ProgramHeader) (hs : List ProgramHeader) → All (λ g. is_looked_at g ≡ true) hs → overlap_behind h hs ≡ None
    → Rise (words_to h) hs
rises_behind h [] all e = tt
rises_behind h (g ∷ gs) all e =
    let first = no_overlap_first h g gs e in
    let l = looked g (All-head (λ x. is_looked_at x ≡ true) g gs all) in
    (first.0, l.some, rises_behind g gs (All-tail (λ x. is_looked_at x ≡ true) g gs all) first.1)

module _ (len : ℕ) where
  ends_by : (h part : ProgramHeader) → words_from h < words_to h → part_in len h ≡ Some part
      → (part.p_vaddr ≡ words_from h) × (segment_end part ≤ words_to h)
  ends_by h part some e =
      let facts = part_facts len h part e in
      let end : segment_end part
      ≡ words_from h + 8 * ((8 * (min (words_to h - words_from h) (len - place_of h (words_from h)) / 8)) / 8) = ap segment_end facts.1 in
      (ap (λ (p : ProgramHeader). p.p_vaddr) facts.1, omega (arith, end, some))

  apart_behind : (p : ProgramHeader) (e : ℕ) (hs : List ProgramHeader) → segment_end p ≤ e → Rise e hs
      → elf.overlap_behind p (parts_in len hs) ≡ None
  apart_behind p e [] le rise = refl
  apart_behind p e (h ∷ hs) le (from, some, rest) =
      go (apart_behind p e hs le (later e (words_to h) hs (omega (arith, from, some)) rest))
      (λ q ends. apart_behind q (words_to h) hs ends rest) (part_in len h) refl
    where
      go : elf.overlap_behind p (parts_in len hs) ≡ None
          → ((q : ProgramHeader) → segment_end q ≤ words_to h → elf.overlap_behind q (parts_in len hs) ≡ None)
          → (o : Option ProgramHeader) → part_in len h ≡ o → elf.overlap_behind p (cons_option o (parts_in len hs)) ≡ None
      go skip next None is = skip
      go skip next (Some q) is =
          let ends = ends_by h q some is in
          let test = le-ltb q.p_vaddr (segment_end p) (omega (arith, ends.0, le, from)) in
          rw test (next q ends.1)

  first_apart : (e : ℕ) (hs : List ProgramHeader) → Rise e hs → elf.first_overlap (parts_in len hs) ≡ None
  first_apart e [] rise = refl
  first_apart e (h ∷ hs) (from, some, rest) =
      go (first_apart (words_to h) hs rest) (λ q ends. apart_behind q (words_to h) hs ends rest) (part_in len h) refl
    where
      go : elf.first_overlap (parts_in len hs) ≡ None
          → ((q : ProgramHeader) → segment_end q ≤ words_to h → elf.overlap_behind q (parts_in len hs) ≡ None)
          → (o : Option ProgramHeader) → part_in len h ≡ o → elf.first_overlap (cons_option o (parts_in len hs)) ≡ None
      go skip next None is = skip
      go skip next (Some q) is = next q ((ends_by h q some is).1)

  pub parts_apart : (hs : List ProgramHeader) → All (λ h. is_looked_at h ≡ true) hs → first_overlap hs ≡ None
      → elf.first_overlap (parts_in len hs) ≡ None
  parts_apart [] all e = refl
  parts_apart (h ∷ hs) all e =
      let l = looked h (All-head (λ x. is_looked_at x ≡ true) h hs all) in
      first_apart 0 (h ∷ hs)
      (omega arith, l.some, rises_behind h hs (All-tail (λ x. is_looked_at x ≡ true) h hs all) e)
