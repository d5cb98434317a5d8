-- The words and values of a line are text where the words that it was split from are.
use Rattle.std.proofs.Common.{◌≡◌, ◌+◌, ◌<◌, ◌≤◌, ℕ, Bool, true, false, cond, refl, sym, ap, subst, List, [], ◌∷◌, length, drop, Option, Some, None, is_some, inl, inr, arith}
use Rattle.std.specs.Prelude.{IfSome, not, option_and_then, slice_index, unwrap_or}
use Rattle.std.specs.List.{All, after_first, before_first, list_any, position_or_len}
use Rattle.std.specs.Str.{IsUtf8}
use Rattle.std.proofs.lemmas.Bool.{cases_lt, eqb-true, not-false}
use Rattle.std.proofs.lemmas.List.{drop_all}
use Rattle.std.proofs.lemmas.List.Elements.{All-append, All-drop, All-nil, All-push}
use Rattle.std.proofs.lemmas.List.Sums.{prefix_len_stops}
use Rattle.std.proofs.lemmas.Str.{IsCharBoundary-after_ascii, IsUtf8-drop, IsUtf8-nil}
use Rattle.clap.specs.Walk.{Text}
use Rattle.omi_line.specs.declared.line.Line.{Line}
use Rattle.omi_line.specs.Word.{OptionName, Seed, Break, Count, Layout, Kind, Positional, Rest, Given, Named, RefusedWord, begins_with_hyphen, is_equals, is_hyphen, word_kind, hyphen_kind, long_kind, option_kind, option_named}
use Rattle.omi_line.specs.Line.{IsText, empty_line, set_value, split_from, split_of, split_word, value_in, with_value, with_words}

-- ---- a value behind `=`

-- what stands behind an ASCII byte of a text is text
behind_ascii : (text : Text) (at : ℕ) → IsUtf8 text → at < length text → slice_index text at < 128
    → IsUtf8 (drop (at + 1) text)
behind_ascii text at utf8 within ascii =
    IsUtf8-drop text (at + 1) utf8 (IsCharBoundary-after_ascii text at utf8 within ascii)

-- what stands behind the first `=` of a text is text
behind_equals : (text : Text) → IsUtf8 text → IsUtf8 (after_first is_equals text)
behind_equals text utf8 =
    let at : ℕ = position_or_len is_equals text in
    elim (cases_lt at (length text)) [
      | inl within ↦
          let found : slice_index text at ≡ 61 =
          eqb-true (slice_index text at) 61
          (not-false _ (prefix_len_stops (λ x. not (is_equals x)) text 0 within)) in
          behind_ascii text at utf8 within (omega (arith, found))
      | inr past ↦ subst IsUtf8 (sym (drop_all (at + 1) text (omega (arith, past)))) IsUtf8-nil
    ]

option_value : (found : Option OptionName) (text : Text) (name : OptionName) (value : Text) → IsUtf8 text
    → option_kind found text ≡ Given name value → IsUtf8 value
option_value None text name value utf8 is = absurd (cc)
option_value (Some option) text name value utf8 is = go (list_any is_equals text) is
  where
    go : (has : Bool) → cond has (Given option (after_first is_equals text)) (Named option) ≡ Given name value
        → IsUtf8 value
    go true is =
        let same : after_first is_equals text ≡ value = cc in
        subst IsUtf8 same (behind_equals text utf8)
    go false is = absurd (cc)

-- the value that stands in a word is text where the word is
value_text : (word : Text) (name : OptionName) (value : Text) → IsUtf8 word
    → word_kind word ≡ Given name value → IsUtf8 value
value_text [] name value utf8 is = absurd (cc)
value_text (first ∷ []) name value utf8 is = go (is_hyphen first) is
  where
    go : (here : Bool) → cond here Positional Positional ≡ Given name value → IsUtf8 value
    go true is = absurd (cc)
    go false is = absurd (cc)
value_text (first ∷ second ∷ text) name value utf8 is = go (is_hyphen first) (is_hyphen second) refl is
  where
    behind : is_hyphen second ≡ true → IsUtf8 text
    behind hyphen =
        let here = eqb-true second 45 hyphen in behind_ascii (first ∷ second ∷ text) 1 utf8 (omega arith) (omega (arith, here))

    long : (rest : Text) → IsUtf8 rest → long_kind rest ≡ Given name value → IsUtf8 value
    long [] rest_utf8 is = absurd (cc)
    long (byte ∷ rest) rest_utf8 is =
        option_value (option_named (before_first is_equals (byte ∷ rest)))
        (byte ∷ rest) name value rest_utf8 is

    go : (a b : Bool) → is_hyphen second ≡ b
        → cond a (cond b (long_kind text) RefusedWord) Positional ≡ Given name value → IsUtf8 value
    go true true hyphen is = long text (behind hyphen) is
    go true false hyphen is = absurd (cc)
    go false b hyphen is = absurd (cc)

-- ---- lines

same_line : (line out : Line) → Some line ≡ Some out → IsText line → IsText out
same_line line out is text = subst IsText (ap (λ (o : Option Line). unwrap_or o line) is) text

words_text : (words : List Text) (line : Line) → All IsUtf8 words → IsText line
    → IsText (with_words words line)
words_text words line utf8 text = record {
  words = All-append IsUtf8 line.words words text.words utf8;
  seed = text.seed;
  on = text.on;
  count = text.count;
  layout = text.layout;
}

set_text : (name : OptionName) (value : Text) (line : Line) → IsUtf8 value → IsText line
    → IsText (set_value name value line)
set_text Seed value line utf8 text = record { words = text.words; seed = utf8; on = text.on; count = text.count; layout = text.layout }
set_text Break value line utf8 text = record { words = text.words; seed = text.seed; on = utf8; count = text.count; layout = text.layout }
set_text Count value line utf8 text = record { words = text.words; seed = text.seed; on = text.on; count = utf8; layout = text.layout }
set_text Layout value line utf8 text = record { words = text.words; seed = text.seed; on = text.on; count = text.count; layout = utf8 }

-- what is made of the words keeps a line's text
record KeepsText (words : List Text) : Type 0 where
  free : (line out : Line) → IsText line → split_from words None line ≡ Some out → IsText out
  waits : (name : OptionName) (line out : Line) → IsText line → split_from words (Some name) line ≡ Some out
      → IsText out

keeps_none : KeepsText []
unfolding split_from
keeps_none = record {
  free = λ line out text is. same_line line out is text;
  waits = λ name line out text is. absurd (cc);
}

keeps_word : (word : Text) (rest : List Text) → All IsUtf8 (word ∷ rest) → KeepsText rest
    → KeepsText (word ∷ rest)
unfolding split_from
keeps_word word rest utf8 next = record {
  free = λ line out text is. free_word (word_kind word) line out refl text is;
  waits = λ name line out text is. waiting_word name line out text (begins_with_hyphen word) is;
}
  where
    here : IsUtf8 word
    here = utf8 0 word (omega arith)

    valued : (name : OptionName) (given : Text) (line out : Line) → IsUtf8 given → IsText line
        → option_and_then (split_from rest None) (with_value name given line) ≡ Some out → IsText out
    valued name given line out given_utf8 text is = go (is_some (value_in name line)) is
      where
        go : (there : Bool)
            → option_and_then (split_from rest None) (cond there None (Some (set_value name given line))) ≡ Some out
            → IsText out
        go true is = absurd (cc)
        go false is = next.free (set_value name given line) out (set_text name given line given_utf8 text) is

    free_word : (k : Kind) (line out : Line) → word_kind word ≡ k → IsText line
        → split_word k word rest (split_from rest) line ≡ Some out → IsText out
    free_word Positional line out kind text is =
        next.free (with_words (word ∷ []) line) out
        (words_text (word ∷ []) line (All-push IsUtf8 [] word (All-nil IsUtf8) here) text) is
    free_word Rest line out kind text is =
        same_line (with_words rest line) out is
        (words_text rest line (All-drop IsUtf8 1 (word ∷ rest) utf8) text)
    free_word (Given name given) line out kind text is =
        valued name given line out (value_text word name given here kind) text is
    free_word (Named name) line out kind text is = next.waits name line out text is
    free_word RefusedWord line out kind text is = absurd (cc)

    waiting_word : (name : OptionName) (line out : Line) → IsText line → (begins : Bool)
        → cond begins None (option_and_then (split_from rest None) (with_value name word line)) ≡ Some out → IsText out
    waiting_word name line out text true is = absurd (cc)
    waiting_word name line out text false is = valued name word line out here text is

keeps_words : (words : List Text) → All IsUtf8 words → KeepsText words
keeps_words [] utf8 = keeps_none
keeps_words (word ∷ rest) utf8 =
    keeps_word word rest utf8 (keeps_words rest (All-drop IsUtf8 1 (word ∷ rest) utf8))

pub line_text : (words : List Text) (line : Line) → All IsUtf8 words → split_of words ≡ Some line
    → IsText line
line_text words line utf8 is =
    (keeps_words words utf8).free empty_line line
    (record { words = All-nil IsUtf8; seed = tt; on = tt; count = tt; layout = tt }) is
