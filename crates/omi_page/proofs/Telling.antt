-- What a core file tells, by the places of its words.
use Rattle.std.proofs.Common.{◌≡◌, ℕ, zero, suc, ◌+◌, ◌-◌, ◌*◌, ◌/◌, ◌%◌, ◌<◌, ◌≤◌, true, false, ltb, leb, eqb, List, [], ◌∷◌, Option, Some, None, IsSome, refl, sym, ap, subst, ◌∙◌, arith, inl, inr}
use Rattle.std.specs.Prelude.{slice_get}
use Rattle.std.specs.Option.{option_or, option_map, is_some}
use Rattle.std.proofs.lemmas.Bool.{cases_lt, lt-ltb, le-ltb, le-leb, eq-eqb, ne_eqb}
use Rattle.std.proofs.lemmas.Bool.Decides.{nat_tests}
use Rattle.omi_outside.specs.Outside.{Told as FileTold}
use Rattle.omi_corefile.specs.Refusals.{Parts}
use Rattle.omi_word.specs.Words.{Words}
use Rattle.omi_corefile.specs.ByteOrder.{number_of}
use Rattle.omi_calls.specs.Told.{Symbols, aligned_word_at}
use Rattle.omi_word.specs.SymbolTable.{symbol_in}
use Rattle.omi_calls.specs.CoreWords.{word_of, words_of_segments}
use Rattle.omi_calls.proofs.ToldSymbols.{same_symbols}
use Rattle.omi_page.specs.declared.span.Span.{Span}
use Rattle.omi_read.specs.Holding.{Holds}
use Rattle.omi_page.specs.Spans.{eight_at, word_there, words_there, segment_there, segments_there, place_of, place_in}
use Rattle.omi_page.specs.Told.{parts_of_bytes, told_by_parts, told_by_file}
use Rattle.omi_page.specs.Paging.{IsPage, ArePartsOf}

-- ---- the words of a span

words_get : (order : ℕ) (bytes : List ℕ) (at count j : ℕ) → j < count
    → slice_get (words_there order bytes at count) j ≡ Some (word_there order bytes (at + 8 * j))
unfolding words_there
words_get order bytes at zero j below = absurd (omega arith)
words_get order bytes at (suc count) zero below =
    let here : at ≡ at + 8 * 0 = omega arith in
    ap (λ (n : ℕ). Some (word_there order bytes n)) here
words_get order bytes at (suc count) (suc j) below =
    let here : at + 8 + 8 * j ≡ at + 8 * suc j = omega arith in
    words_get order bytes (at + 8) count j (omega arith)
    ∙ ap (λ (n : ℕ). Some (word_there order bytes n)) here

words_past : (order : ℕ) (bytes : List ℕ) (at count j : ℕ) → count ≤ j
    → slice_get (words_there order bytes at count) j ≡ None
unfolding words_there
words_past order bytes at zero j past = refl
words_past order bytes at (suc count) zero past = absurd (omega arith)
words_past order bytes at (suc count) (suc j) past = words_past order bytes (at + 8) count j (omega arith)

span_words : (order : ℕ) (bytes : List ℕ) (s : Span) (addr : ℕ) → addr % 8 ≡ 0
    → word_of (segment_there order bytes s) addr ≡ option_map (word_there order bytes) (place_of s addr)
span_words order bytes s addr aligned =
    elim (cases_lt addr s.start) [
      | inl before ↦ let low : leb s.start addr ≡ false = grind (arith, nat_tests) in rw low refl
      | inr from ↦
          let low : leb s.start addr ≡ true = le-leb s.start addr from in
          let start_aligned : s.start % 8 ≡ 0 = s.aligned in
          let j : ℕ = (addr - s.start) / 8 in
          let there : 8 * j ≡ addr - s.start = omega arith in
          elim (cases_lt addr (s.start + 8 * s.count)) [
            | inl below ↦
                let high : ltb addr (s.start + 8 * s.count) ≡ true =
                lt-ltb addr (s.start + 8 * s.count) below in
                rw (low, high)
                (words_get order bytes s.place s.count j (omega arith) ∙ ap (λ (n : ℕ). Some (word_there order bytes (s.place + n))) there)
            | inr past ↦
                let high : ltb addr (s.start + 8 * s.count) ≡ false =
                le-ltb addr (s.start + 8 * s.count) past in
                rw (low, high) (words_past order bytes s.place s.count j (omega arith))
          ]
    ]

map_or : {A B : Type 0} (f : A → B) (a b : Option A)
    → option_or (option_map f a) (option_map f b) ≡ option_map f (option_or a b)
map_or f None b = refl
map_or f (Some x) b = refl

-- the word at an address is the one at its place
pub place_words : (order : ℕ) (bytes : List ℕ) (spans : List Span) (addr : ℕ) → addr % 8 ≡ 0
    → words_of_segments (segments_there order bytes spans) addr ≡ option_map (word_there order bytes) (place_in spans addr)
place_words order bytes [] addr aligned = refl
place_words order bytes (s ∷ spans) addr aligned =
    (λ i. option_or (span_words order bytes s addr aligned i) (place_words order bytes spans addr aligned i))
    ∙ map_or (word_there order bytes) (place_of s addr) (place_in spans addr)

-- ---- what is told

-- the words that are told are those of the file's core
pub record Tells (told : FileTold) (words : Words) : Type 0 where
  pub bytes : List ℕ
  pub parts : Parts
  pub holds : Holds told bytes
  pub read : parts_of_bytes bytes ≡ Some parts
  pub words_are : words_of_segments parts.segments ≡ words
  pub order_is : (told_by_file told).order ≡ Some parts.order

same_words : (a b : Words) → (let some : Words → Option Words = λ w. Some w in some a ≡ some b) → a ≡ b
same_words a b e = ap (λ o. unwrapped o) e
  where
    unwrapped : Option Words → Words
    unwrapped (Some w) = w
    unwrapped None = a

by_parts : (bytes : List ℕ) (words rest : Words) (read : Option Parts) → parts_of_bytes bytes ≡ read
    → (told_by_parts read).words rest ≡ Some words → Tells (Some (Some bytes)) words
by_parts bytes words rest (Some parts) is e = record {
  bytes = bytes;
  parts = parts;
  holds = refl;
  read = is;
  words_are = same_words (words_of_segments parts.segments) words e;
  order_is = ap (λ r. (told_by_parts r).order) is;
}
by_parts bytes words rest None is e = absurd cc

pub tells : (told : FileTold) (words rest : Words) → (told_by_file told).words rest ≡ Some words → Tells told words
tells (Some (Some bytes)) words rest e = by_parts bytes words rest (parts_of_bytes bytes) refl e
tells (Some None) words rest e = absurd cc
tells None words rest e = absurd cc

-- the word at an aligned address is the one at its place, in the order that is told
pub record TellsPlaces (told : FileTold) (order : ℕ) (spans : List Span) (words : Words) (addr : ℕ) : Type 0 where
  pub bytes : List ℕ
  pub holds : Holds told bytes
  pub order_is : (other : ℕ) → (told_by_file told).order ≡ Some other → other ≡ order
  pub word_is : aligned_word_at words addr ≡ option_map (word_there order bytes) (place_in spans addr)

same_order : (a b : ℕ) → (let some : ℕ → Option ℕ = λ n. Some n in some a ≡ some b) → a ≡ b
same_order a b e = cc

pub tells_places : (told : FileTold) (order : ℕ) (contexts : List ℕ) (spans : List Span) (words rest : Words) (addr : ℕ)
    → (told_by_file told).words rest ≡ Some words
    → ArePartsOf told order contexts spans → addr % 8 ≡ 0 → TellsPlaces told order spans words addr
tells_places told order contexts spans words rest addr e parts aligned =
    let t = tells told words rest e in
    let are = parts t.bytes t.parts t.holds t.read in
    let test : eqb (addr % 8) 0 ≡ true = eq-eqb (addr % 8) 0 aligned in
    record {
      bytes = t.bytes;
      holds = t.holds;
      order_is = λ other told_other. same_order other t.parts.order (sym told_other ∙ t.order_is) ∙ are.order_is;
      word_is = rw test (ap (λ w. w addr) (sym t.words_are) ∙ are.words_are addr aligned);
    }

-- ---- the answers of a read

pub unaligned : (words : Words) (addr : ℕ) → (addr % 8 ≡ 0 → ⊥) → aligned_word_at words addr ≡ None
unaligned words addr lacks = let test : eqb (addr % 8) 0 ≡ false = ne_eqb (addr % 8) 0 lacks in rw test refl

none_there : (f : ℕ → ℕ) (o : Option ℕ) → is_some o ≡ false → option_map f o ≡ None
none_there f None lacks = refl
none_there f (Some at) lacks = absurd cc

some_there : (f : ℕ → ℕ) (o : Option ℕ) → is_some o ≡ true → IsSome (option_map f o)
some_there f None stands = absurd cc
some_there f (Some at) stands = refl

-- no word stands there
pub not_mapped : (told : FileTold) (order : ℕ) (contexts : List ℕ) (spans : List Span) (words rest : Words) (addr : ℕ)
    → (told_by_file told).words rest ≡ Some words
    → ArePartsOf told order contexts spans → addr % 8 ≡ 0 → is_some (place_in spans addr) ≡ false → aligned_word_at words addr ≡ None
not_mapped told order contexts spans words rest addr e parts aligned lacks =
    let t = tells_places told order contexts spans words rest addr e parts aligned in
    t.word_is ∙ none_there (word_there order t.bytes) (place_in spans addr) lacks

-- a word stands there
pub mapped : (told : FileTold) (order : ℕ) (contexts : List ℕ) (spans : List Span) (words rest : Words) (addr : ℕ)
    → (told_by_file told).words rest ≡ Some words
    → ArePartsOf told order contexts spans → addr % 8 ≡ 0 → is_some (place_in spans addr) ≡ true → IsSome (aligned_word_at words addr)
mapped told order contexts spans words rest addr e parts aligned stands =
    let t = tells_places told order contexts spans words rest addr e parts aligned in
    subst IsSome (sym t.word_is) (some_there (word_there order t.bytes) (place_in spans addr) stands)

by_place : (order : ℕ) (bytes word : List ℕ) (o : Option ℕ) → is_some o ≡ true
    → ((at : ℕ) → o ≡ Some at → word ≡ eight_at bytes at)
    → option_map (word_there order bytes) o ≡ Some (number_of order word)
by_place order bytes word None stands is = absurd cc
by_place order bytes word (Some at) stands is =
    ap (λ (w : List ℕ). Some (number_of order w)) (sym (is at refl))

-- the word is the one in the page
pub in_page : (told : FileTold) (order : ℕ) (contexts : List ℕ) (spans : List Span) (words rest : Words) (other addr : ℕ) (word items : List ℕ)
    → (told_by_file told).words rest ≡ Some words → (told_by_file told).order ≡ Some other
    → ArePartsOf told order contexts spans → addr % 8 ≡ 0 → is_some (place_in spans addr) ≡ true
    → ((bytes : List ℕ) → Holds told bytes → IsPage bytes spans (addr / 4096) items) → word ≡ eight_at items (addr % 4096)
    → aligned_word_at words addr ≡ Some (number_of other word)
in_page told order contexts spans words rest other addr word items e told_other parts aligned stands page is =
    let t = tells_places told order contexts spans words rest addr e parts aligned in
    let here : 4096 * (addr / 4096) + addr % 4096 ≡ addr = omega arith in
    let offset_aligned : addr % 4096 % 8 ≡ 0 = omega arith in
    let inside : addr % 4096 < 4096 = omega arith in
    t.word_is
    ∙ by_place order t.bytes word (place_in spans addr) stands
    (λ at there. is ∙ page t.bytes t.holds (addr % 4096) at offset_aligned inside (ap (place_in spans) here ∙ there))
    ∙ ap (λ o. Some (number_of o word)) (sym (t.order_is other told_other))

-- where words are told, this order is
pub told_order : (told : FileTold) (order : ℕ) (contexts : List ℕ) (spans : List Span) (words rest : Words)
    → (told_by_file told).words rest ≡ Some words → ArePartsOf told order contexts spans
    → (told_by_file told).order ≡ Some order
told_order told order contexts spans words rest e parts =
    let t = tells told words rest e in
    let are = parts t.bytes t.parts t.holds t.read in
    t.order_is ∙ ap (λ (n : ℕ). Some n) are.order_is

-- where symbols are told, they are those of the table that the told words hold
pub record TellsSymbols (told : FileTold) (symbols : Symbols) : Type 0 where
  pub words : Words
  pub rest : Words
  pub told_words : (told_by_file told).words rest ≡ Some words
  pub symbols_are : symbol_in (aligned_word_at words) ≡ symbols

symbols_by : (bytes : List ℕ) (symbols : Symbols) (read : Option Parts) → parts_of_bytes bytes ≡ read
    → (told_by_parts read).symbols ≡ Some symbols → TellsSymbols (Some (Some bytes)) symbols
symbols_by bytes symbols (Some parts) is e = record {
  words = words_of_segments parts.segments;
  rest = λ _. None;
  told_words = ap (λ r. (told_by_parts r).words (λ _. None)) is;
  symbols_are = same_symbols (symbol_in (aligned_word_at (words_of_segments parts.segments))) symbols e;
}
symbols_by bytes symbols None is e = absurd cc

pub tells_symbols : (told : FileTold) (symbols : Symbols) → (told_by_file told).symbols ≡ Some symbols
    → TellsSymbols told symbols
tells_symbols (Some (Some bytes)) symbols e = symbols_by bytes symbols (parts_of_bytes bytes) refl e
tells_symbols (Some None) symbols e = absurd cc
tells_symbols None symbols e = absurd cc

-- an order that is told is this one
order_by : (bytes : List ℕ) (order other : ℕ) (read : Option Parts) → parts_of_bytes bytes ≡ read
    → (told_by_parts read).order ≡ Some other
    → ((parts : Parts) → parts_of_bytes bytes ≡ Some parts → parts.order ≡ order) → other ≡ order
order_by bytes order other (Some parts) is e all = let same : parts.order ≡ other = cc in sym same ∙ all parts is
order_by bytes order other None is e all = absurd cc

pub no_other_order : (told : FileTold) (order : ℕ) (contexts : List ℕ) (spans : List Span) (other : ℕ)
    → ArePartsOf told order contexts spans → (told_by_file told).order ≡ Some other → other ≡ order
no_other_order (Some (Some bytes)) order contexts spans other parts e =
    order_by bytes order other (parts_of_bytes bytes) refl e (λ p read. (parts bytes p refl read).order_is)
no_other_order (Some None) order contexts spans other parts e = absurd cc
no_other_order None order contexts spans other parts e = absurd cc
