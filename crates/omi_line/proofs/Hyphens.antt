-- The word `-` in place of an option's value: it is found, and the line is refused.
use Rattle.std.proofs.Common.{◌≡◌, ◌∙◌, ◌<◌, ◌+◌, ◌==◌, ◌&&◌, ◌||◌, ℕ, zero, suc, ◌≤◌, Bool, true, false, cond, refl, sym, ap, subst, List, [], ◌∷◌, Option, Some, None, drop, length, map, take, arith, codes}
use Rattle.std.specs.Prelude.{option_and_then, slice_index_or, string_bytes, String}
use Rattle.std.specs.List.{list_any, after_first, before_first, position_or_len}
use Rattle.std.specs.Str.{bytes_eq}
use Rattle.std.specs.declared.alloc.Global.{Global}
use Rattle.std.proofs.lemmas.Slice.Eq.{bytes_eq-Decides}
use Rattle.clap.specs.Walk.{Text}
use borrow.Author.Tests.{both_ways, eqb-true}
use Rattle.omi_line.specs.declared.line.Line.{Line}
use Rattle.omi_line.specs.Word.{OptionName, Kind, Seed, Break, Count, Layout, Positional, Rest, Given, Named, RefusedWord, begins_with_hyphen, hyphen_kind, is_equals, word_kind, long_kind, option_kind, option_named}
use Rattle.omi_line.specs.Line.{split_from, split_of, split_word, with_value}
use Rattle.omi_line.specs.Hyphen.{gives_hyphen, hyphen_word, is_lone_hyphen, is_named}
use Rattle.omi_line.proofs.Sees.{is_rest}
use Rattle.omi_line.proofs.Shown.{id_of}
use Rattle.omi_line.proofs.Splits.{plain_kind}

-- ---- a line with it is refused

record RefusesWords (words : List Text) : Type 0 where
  free : (line : Line) → gives_hyphen words false ≡ true → split_from words None line ≡ None
  waits : (name : OptionName) (line : Line) → gives_hyphen words true ≡ true
      → split_from words (Some name) line ≡ None

refuses_none : RefusesWords []
unfolding gives_hyphen
refuses_none = record {
  free = λ line is. absurd (both_ways false refl is);
  waits = λ name line is. absurd (both_ways false refl is);
}

-- a word that is `-` begins with a hyphen
lone_begins : (word : Text) → is_lone_hyphen word ≡ true → begins_with_hyphen word ≡ true
lone_begins word is = ap begins_with_hyphen ((bytes_eq-Decides word (45 ∷ [])).0 is)

not_lone : (word : Text) → begins_with_hyphen word ≡ false → is_lone_hyphen word ≡ false
not_lone word begins = go (is_lone_hyphen word) refl
  where
    go : (b : Bool) → is_lone_hyphen word ≡ b → b ≡ false
    go true is = absurd (both_ways (begins_with_hyphen word) begins (lone_begins word is))
    go false is = refl

refuses_word : (word : Text) (rest : List Text) → RefusesWords rest → RefusesWords (word ∷ rest)
unfolding gives_hyphen split_from
refuses_word word rest next = record {
  free = λ line is. free_word (word_kind word) line is;
  waits = λ name line is. waiting_word name line is (begins_with_hyphen word) refl;
}
  where
    none_after : (line : Option Line) → gives_hyphen rest false ≡ true
        → option_and_then (split_from rest None) line ≡ None
    none_after None is = refl
    none_after (Some line) is = next.free line is

    free_word : (k : Kind) (line : Line) → hyphen_word k false (gives_hyphen rest) ≡ true
        → split_word k word rest (split_from rest) line ≡ None
    free_word Positional line is = next.free _ is
    free_word Rest line is = absurd (both_ways false refl is)
    free_word (Given name given) line is = none_after (with_value name given line) is
    free_word (Named name) line is = next.waits name line is
    free_word RefusedWord line is = refl

    waiting_word : (name : OptionName) (line : Line)
        → hyphen_word (word_kind word) (is_lone_hyphen word) (gives_hyphen rest) ≡ true → (begins : Bool)
        → begins_with_hyphen word ≡ begins
        → cond (begins_with_hyphen word) None (option_and_then (split_from rest None) (with_value name word line)) ≡ None
    waiting_word name line is true begins = rw begins refl
    waiting_word name line is false begins =
        let later : (is_lone_hyphen word || gives_hyphen rest false) ≡ true =
        subst (λ (k : Kind). hyphen_word k (is_lone_hyphen word) (gives_hyphen rest) ≡ true)
        (plain_kind word begins) is in
        let found : gives_hyphen rest false ≡ true = rw (not_lone word begins) at later in
        rw begins (none_after (with_value name word line) found)

refuses_words : (words : List Text) → RefusesWords words
refuses_words [] = refuses_none
refuses_words (word ∷ rest) = refuses_word word rest (refuses_words rest)

pub refuses_line : (words : List Text) → gives_hyphen words false ≡ true → split_of words ≡ None
refuses_line words is = (refuses_words words).free _ is

-- ---- the words that are options without their value

before_all : (p : ℕ → Bool) (text : Text) → list_any p text ≡ false → before_first p text ≡ text
before_all p [] none = refl
before_all p (byte ∷ text) none = go (p byte) refl none (before_all p text)
  where
    go : (b : Bool) → p byte ≡ b → (b || list_any p text) ≡ false
        → (list_any p text ≡ false → before_first p text ≡ text) → before_first p (byte ∷ text) ≡ byte ∷ text
    go true is none next = absurd (both_ways true none refl)
    go false is none next =
        let one_more : 1 + position_or_len p text ≡ suc (position_or_len p text) = omega arith in
        rw is (ap (λ (n : ℕ). take n (byte ∷ text)) one_more ∙ ap (λ (rest : Text). byte ∷ rest) (next none))

named_is : (text : Text) (name : OptionName) → option_named text ≡ Some name → text ≡ id_of name
named_is text name is =
    go (bytes_eq (codes "seed") text) refl (bytes_eq (codes "break") text) refl
    (bytes_eq (codes "count") text) refl (bytes_eq (codes "layout") text) refl is
  where
    that : (id : Text) (other : OptionName) → bytes_eq id text ≡ true → id_of other ≡ id
        → Some other ≡ Some name → text ≡ id_of name
    that id other same spelt named = sym ((bytes_eq-Decides id text).0 same) ∙ sym spelt ∙ ap id_of (cc)

    go : (a : Bool) → bytes_eq (codes "seed") text ≡ a → (b : Bool) → bytes_eq (codes "break") text ≡ b
        → (d : Bool) → bytes_eq (codes "count") text ≡ d → (e : Bool) → bytes_eq (codes "layout") text ≡ e
        → cond a (Some Seed) (cond b (Some Break) (cond d (Some Count) (cond e (Some Layout) None))) ≡ Some name → text ≡ id_of name
    go true same b q d r e t named = that (codes "seed") Seed same refl named
    go false p true same d r e t named = that (codes "break") Break same refl named
    go false p false q true same e t named = that (codes "count") Count same refl named
    go false p false q false r true same named = that (codes "layout") Layout same refl named
    go false p false q false r false t named = absurd (cc)

option_spelt : (named : Option OptionName) (text : Text) (name : OptionName)
    → option_kind named text ≡ Named name → (named ≡ Some name) × (list_any is_equals text ≡ false)
option_spelt None text name is = absurd (cc)
option_spelt (Some other) text name is = go (list_any is_equals text) refl is
  where
    go : (has : Bool) → list_any is_equals text ≡ has
        → cond has (Given other (after_first is_equals text)) (Named other) ≡ Named name
        → (Some other ≡ Some name) × (list_any is_equals text ≡ false)
    go true has is = absurd (cc)
    go false has is = (cc, has)

long_spelt : (text : Text) (name : OptionName) → long_kind text ≡ Named name → text ≡ id_of name
long_spelt [] name is = absurd (cc)
long_spelt (byte ∷ text) name is =
    let parts = option_spelt (option_named (before_first is_equals (byte ∷ text))) (byte ∷ text) name is in
    sym (before_all is_equals (byte ∷ text) parts.1)
    ∙ named_is (before_first is_equals (byte ∷ text)) name parts.0

hyphen_spelt : (text : Text) (name : OptionName) → hyphen_kind text ≡ Named name → text ≡ 45 ∷ id_of name
hyphen_spelt [] name is = absurd (cc)
hyphen_spelt (byte ∷ text) name is = go (byte == 45) refl is
  where
    go : (b : Bool) → (byte == 45) ≡ b → cond b (long_kind text) RefusedWord ≡ Named name
        → byte ∷ text ≡ 45 ∷ id_of name
    go true hyphen is = (λ i. eqb-true byte 45 hyphen i ∷ long_spelt text name is i)
    go false hyphen is = absurd (cc)

word_spelt : (word : Text) (name : OptionName) → word_kind word ≡ Named name → word ≡ 45 ∷ 45 ∷ id_of name
word_spelt [] name is = absurd (cc)
word_spelt (byte ∷ text) name is = go (byte == 45) refl is
  where
    go : (b : Bool) → (byte == 45) ≡ b → cond b (hyphen_kind text) Positional ≡ Named name
        → byte ∷ text ≡ 45 ∷ 45 ∷ id_of name
    go true hyphen is = (λ i. eqb-true byte 45 hyphen i ∷ hyphen_spelt text name is i)
    go false hyphen is = absurd (cc)

-- a word that is none of the four is no option without its value
pub not_named : (word : Text) → (word ≡ codes "--seed" → ⊥) → (word ≡ codes "--break" → ⊥)
    → (word ≡ codes "--count" → ⊥) → (word ≡ codes "--layout" → ⊥)
    → false ≡ is_named (word_kind word)
not_named word seed break_ count layout = go (word_kind word) refl
  where
    never : (name : OptionName) → word ≡ 45 ∷ 45 ∷ id_of name → ⊥
    never Seed is = seed is
    never Break is = break_ is
    never Count is = count is
    never Layout is = layout is

    go : (k : Kind) → word_kind word ≡ k → false ≡ is_named k
    go (Named name) is = absurd (never name (word_spelt word name is))
    go Positional is = refl
    go Rest is = refl
    go (Given name given) is = refl
    go RefusedWord is = refl

-- a word of this kind is `--`

option_no_rest : (named : Option OptionName) (text : Text) → option_kind named text ≡ Rest → ⊥
option_no_rest None text is = cc
option_no_rest (Some name) text is = go (list_any is_equals text) is
  where
    go : (has : Bool) → cond has (Given name (after_first is_equals text)) (Named name) ≡ Rest → ⊥
    go true is = cc
    go false is = cc

long_rest : (text : Text) → long_kind text ≡ Rest → text ≡ []
long_rest [] is = refl
long_rest (byte ∷ text) is =
    absurd (option_no_rest (option_named (before_first is_equals (byte ∷ text))) (byte ∷ text) is)

hyphen_rests : (text : Text) → hyphen_kind text ≡ Rest → text ≡ 45 ∷ []
hyphen_rests [] is = absurd (cc)
hyphen_rests (byte ∷ text) is = go (byte == 45) refl is
  where
    go : (b : Bool) → (byte == 45) ≡ b → cond b (long_kind text) RefusedWord ≡ Rest → byte ∷ text ≡ 45 ∷ []
    go true hyphen is = (λ i. eqb-true byte 45 hyphen i ∷ long_rest text is i)
    go false hyphen is = absurd (cc)

rest_spelt : (word : Text) → word_kind word ≡ Rest → is_rest word ≡ true
rest_spelt [] is = absurd (cc)
rest_spelt (byte ∷ text) is = go (byte == 45) refl is
  where
    go : (b : Bool) → (byte == 45) ≡ b → cond b (hyphen_kind text) Positional ≡ Rest
        → is_rest (byte ∷ text) ≡ true
    go true hyphen is =
        ap is_rest
        (let spelt : byte ∷ text ≡ 45 ∷ 45 ∷ [] = (λ i. eqb-true byte 45 hyphen i ∷ hyphen_rests text is i) in spelt)
    go false hyphen is = absurd (cc)

-- ---- the loop over the words

at_word : (words : List (String Global)) (i : ℕ) (word : String Global) → i < length words
    → word ≡ slice_index_or words i word
    → drop i (map string_bytes words) ≡ string_bytes word ∷ drop (i + 1) (map string_bytes words)
at_word [] i word below here = absurd (omega arith)
at_word (x ∷ words) zero word below here =
    ap (λ (w : String Global). string_bytes w ∷ map string_bytes words) (sym here)
at_word (x ∷ words) (suc i) word below here =
    let place : suc i + 1 ≡ suc (i + 1) = omega arith in
    at_word words i word (omega arith) here
    ∙ ap (λ (n : ℕ). string_bytes word ∷ drop n (string_bytes x ∷ map string_bytes words)) (sym place)

module _ (words : List (String Global)) (i : ℕ) (word : String Global) (is_waiting : Bool)
    (below : i < length words) (here : word ≡ slice_index_or words i word) where
  first_word : drop i (map string_bytes words) ≡ string_bytes word ∷ drop (i + 1) (map string_bytes words)
  first_word = at_word words i word below here

  -- `--` ends the search
  pub hyphen_rest : is_rest (string_bytes word) ≡ true
      → gives_hyphen (drop i (map string_bytes words)) is_waiting ≡ false
  unfolding gives_hyphen
  hyphen_rest is = ap (λ (l : List Text). gives_hyphen l is_waiting) first_word
      ∙ ap
      (λ (w : Text). hyphen_word (word_kind w) (is_waiting && is_lone_hyphen w) (gives_hyphen (drop (i + 1) (map string_bytes words))))
      ((bytes_eq-Decides (string_bytes word) (45 ∷ 45 ∷ [])).0 is)

  -- `-` is found
  pub hyphen_found : is_waiting ≡ true → is_lone_hyphen (string_bytes word) ≡ true
      → gives_hyphen (drop i (map string_bytes words)) is_waiting ≡ true
  unfolding gives_hyphen
  hyphen_found waits is = ap (λ (l : List Text). gives_hyphen l is_waiting) first_word
      ∙ ap
      (λ (w : Text). hyphen_word (word_kind w) (is_waiting && is_lone_hyphen w) (gives_hyphen (drop (i + 1) (map string_bytes words))))
      ((bytes_eq-Decides (string_bytes word) (45 ∷ [])).0 is)
      ∙ ap (λ (b : Bool). (b && true) || gives_hyphen (drop (i + 1) (map string_bytes words)) false) waits

  -- another word settles nothing
  pub hyphen_more : is_rest (string_bytes word) ≡ false
      → (is_waiting && is_lone_hyphen (string_bytes word)) ≡ false
      → gives_hyphen (drop (i + 1) (map string_bytes words)) (is_named (word_kind (string_bytes word))) ≡ gives_hyphen (drop i (map string_bytes words)) is_waiting
  unfolding gives_hyphen
  hyphen_more rest lone = sym (ap (λ (l : List Text). gives_hyphen l is_waiting) first_word
      ∙ ap
      (λ (b : Bool). hyphen_word (word_kind (string_bytes word)) b (gives_hyphen (drop (i + 1) (map string_bytes words)))) lone
      ∙ go (word_kind (string_bytes word)) refl)
    where
      go : (k : Kind) → word_kind (string_bytes word) ≡ k
          → hyphen_word k false (gives_hyphen (drop (i + 1) (map string_bytes words))) ≡ gives_hyphen (drop (i + 1) (map string_bytes words)) (is_named k)
      go Positional is = refl
      go Rest is = absurd (both_ways (is_rest (string_bytes word)) rest (rest_spelt (string_bytes word) is))
      go (Given name given) is = refl
      go (Named name) is = refl
      go RefusedWord is = refl

pub hyphen_end : (words : List (String Global)) (i : ℕ) (is_waiting : Bool) → length words ≤ i
    → gives_hyphen (drop i (map string_bytes words)) is_waiting ≡ false
unfolding gives_hyphen
hyphen_end [] zero is_waiting past = refl
hyphen_end [] (suc i) is_waiting past = refl
hyphen_end (word ∷ words) zero is_waiting past = absurd (omega arith)
hyphen_end (word ∷ words) (suc i) is_waiting past = hyphen_end words i is_waiting (omega arith)
