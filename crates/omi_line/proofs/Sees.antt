-- What `clap` sees of a word of each kind.
use Rattle.std.proofs.Common.{◌≡◌, ◌∙◌, ◌⊎◌, inl, inr, ◌<◌, ◌==◌, ℕ, Bool, true, false, refl, sym, ap, subst, List, [], ◌∷◌, ◌++◌, Option, Some, None, length, arith, lit<}
use Rattle.std.specs.Prelude.{slice_get}
use Rattle.std.specs.List.{list_any, before_first}
use Rattle.std.specs.Str.{IsUtf8, bytes_eq, chars, encode_utf8_all}
use Rattle.std.proofs.lemmas.Str.{IsUtf8-past_char, encode_ascii, encodes-chars}
use Rattle.clap.specs.Lexer.{long_of, short_of, name_and_value}
use Rattle.clap.specs.Walk.{Text}
use borrow.Author.Tests.{eqb-true}
use Rattle.omi_line.specs.Word.{OptionName, Kind, Positional, Rest, Given, Named, RefusedWord, hyphen_kind, is_equals, word_kind, long_kind, option_kind, option_named}

abbrev pub is_rest : Text → Bool
is_rest word = bytes_eq word (45 ∷ 45 ∷ [])

-- the word is no option
pub record IsPlainWord (word : Text) : Type 0 where
  pub rest : is_rest word ≡ false
  pub long : long_of word ≡ None
  pub short : short_of word ≡ None

-- the word is `--name` or `--name=value`
pub record IsLongWord (word name : Text) (value : Option Text) : Type 0 where
  pub rest : is_rest word ≡ false
  pub long : long_of word ≡ Some (name, value)

-- the word is a hyphen and characters, of which the first is c
pub record IsShortWord (word : Text) : Type 0 where
  pub rest : is_rest word ≡ false
  pub long : long_of word ≡ None
  pub flags : Text
  pub short : short_of word ≡ Some flags
  pub some : 0 < length flags
  pub first : ℕ
  pub character : slice_get (chars flags) 0 ≡ Some first

abbrev pub Sees : Text → Kind → Type 0
Sees word Positional = IsPlainWord word
Sees word Rest = is_rest word ≡ true
Sees word (Given name value) =
    (text : Text) × IsLongWord word text (Some value) × (option_named text ≡ Some name)
Sees word (Named name) = (text : Text) × IsLongWord word text None × (option_named text ≡ Some name)
Sees word RefusedWord =
    ((text : Text) × (value : Option Text) × IsLongWord word text value × (option_named text ≡ None)) ⊎ IsShortWord word

-- a text that isn't empty has a first character
first_character : (text : Text) → 0 < length text → IsUtf8 text
    → (c : ℕ) × (slice_get (chars text) 0 ≡ Some c)
first_character text some utf8 = go (chars text) refl (encodes-chars text utf8)
  where
    go : (cs : List ℕ) → chars text ≡ cs → encode_utf8_all (chars text) ≡ text
        → (c : ℕ) × (slice_get (chars text) 0 ≡ Some c)
    go [] is spells =
        let none : [] ≡ text = ap encode_utf8_all (sym is) ∙ spells in absurd (omega (arith, ap length none))
    go (c ∷ cs) is spells = (c, ap (λ (l : List ℕ). slice_get l 0) is)

without_hyphen : (text : Text) → IsUtf8 (45 ∷ text) → IsUtf8 text
without_hyphen text utf8 =
    IsUtf8-past_char (45 ∷ text) text 45 utf8
    (ap (λ (l : List ℕ). l ++ text) (sym (encode_ascii 45 (lit< tt))))

sees_long : (text : Text) → Sees (45 ∷ 45 ∷ text) (long_kind text)
sees_long [] = refl
sees_long (byte ∷ rest) =
    go (option_named (before_first is_equals (byte ∷ rest))) refl (list_any is_equals (byte ∷ rest)) refl
  where
    go : (named : Option OptionName) → option_named (before_first is_equals (byte ∷ rest)) ≡ named
        → (has : Bool) → list_any is_equals (byte ∷ rest) ≡ has
        → Sees (45 ∷ 45 ∷ byte ∷ rest) (option_kind named (byte ∷ rest))
    go None is has valued =
        inl
        (before_first is_equals (byte ∷ rest), (name_and_value (byte ∷ rest)).1, record { rest = refl; long = refl }, is)
    go (Some name) is true valued =
        rw valued (before_first is_equals (byte ∷ rest), record { rest = refl; long = rw valued refl }, is)
    go (Some name) is false valued =
        rw valued (before_first is_equals (byte ∷ rest), record { rest = refl; long = rw valued refl }, is)

sees_hyphen : (text : Text) → IsUtf8 (45 ∷ text) → Sees (45 ∷ text) (hyphen_kind text)
sees_hyphen [] utf8 = record { rest = refl; long = refl; short = refl }
sees_hyphen (byte ∷ text) utf8 = go (byte == 45) refl
  where
    go : (b : Bool) → (byte == 45) ≡ b → Sees (45 ∷ byte ∷ text) (hyphen_kind (byte ∷ text))
    go true is =
        subst (λ (x : ℕ). Sees (45 ∷ x ∷ text) (hyphen_kind (x ∷ text))) (sym (eqb-true byte 45 is))
        (sees_long text)
    go false is =
        let character = first_character (byte ∷ text) (omega arith) (without_hyphen (byte ∷ text) utf8) in
        rw is (inr (record {
          rest = rw is refl;
          long = rw is refl;
          flags = byte ∷ text;
          short = rw is refl;
          some = omega arith;
          first = character.0;
          character = character.1;
        }))

pub sees : (word : Text) → IsUtf8 word → Sees word (word_kind word)
sees [] utf8 = record { rest = refl; long = refl; short = refl }
sees (byte ∷ text) utf8 = go (byte == 45) refl
  where
    go : (b : Bool) → (byte == 45) ≡ b → Sees (byte ∷ text) (word_kind (byte ∷ text))
    go true is =
        let hyphen : byte ≡ 45 = eqb-true byte 45 is in
        subst (λ (x : ℕ). Sees (x ∷ text) (word_kind (x ∷ text))) (sym hyphen)
        (sees_hyphen text (subst (λ (x : ℕ). IsUtf8 (x ∷ text)) hyphen utf8))
    go false is = rw is (record { rest = rw is refl; long = rw is refl; short = rw is refl })
