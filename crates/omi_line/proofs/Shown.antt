-- Rows of a parse that show a line, and what one more use of an argument makes of them.
use Rattle.std.proofs.Common.{◌≡◌, ◌∙◌, ◌⊎◌, inl, inr, false, refl, sym, ap, subst, List, [], ◌∷◌, ◌++◌, Option, Some, None, is_some, codes}
use Rattle.std.specs.Prelude.{option_map, unwrap_or}
use Rattle.std.specs.Str.{bytes_eq}
use Rattle.clap.specs.Walk.{Row, Text, all_of, has_row, with_values, without}
use Rattle.clap.specs.declared.builder.value_parser.Reading.{Reading}
use Rattle.clap.specs.declared.parser.matches.ValueSource.TheVariants.{CommandLine}
use Rattle.omi_line.specs.declared.line.Line.{Line}
use Rattle.omi_line.specs.Word.{OptionName, Seed, Break, Count, Layout}
use Rattle.omi_line.specs.Line.{empty_line, set_value, value_in, with_words}
use Rattle.omi_line.proofs.Rows.{all_of-with_values, all_of-with_values-other, has_row-all_of, without-none}

-- the id of an option, which is its name
abbrev pub id_of : OptionName → Text
id_of Seed = codes "seed"
id_of Break = codes "break"
id_of Count = codes "count"
id_of Layout = codes "layout"

-- the id of the argument that takes the positional words
abbrev pub words_id : Text
words_id = codes "words"

-- the rows have the line's words, and of each option its value alone
pub record Shows (rows : List Row) (line : Line) : Type 0 where
  pub words : unwrap_or (all_of words_id rows) [] ≡ line.words
  pub values : (name : OptionName)
      → all_of (id_of name) rows ≡ option_map (λ value. value ∷ []) (value_in name line)

pub shows_empty : Shows [] empty_line
shows_empty = record { words = refl; values = λ name. none name }
  where
    none : (name : OptionName) → None ≡ option_map (λ (value : Text). value ∷ []) (value_in name empty_line)
    none Seed = refl
    none Break = refl
    none Count = refl
    none Layout = refl

words_apart : (name : OptionName) → bytes_eq words_id (id_of name) ≡ false
words_apart Seed = refl
words_apart Break = refl
words_apart Count = refl
words_apart Layout = refl

name_apart : (name : OptionName) → bytes_eq (id_of name) words_id ≡ false
name_apart Seed = refl
name_apart Break = refl
name_apart Count = refl
name_apart Layout = refl

words_keep : (name : OptionName) (words : List Text) (line : Line)
    → value_in name (with_words words line) ≡ value_in name line
words_keep Seed words line = refl
words_keep Break words line = refl
words_keep Count words line = refl
words_keep Layout words line = refl

pub value_keeps : (name : OptionName) (value : Text) (line : Line)
    → (set_value name value line).words ≡ line.words
value_keeps Seed value line = refl
value_keeps Break value line = refl
value_keeps Count value line = refl
value_keeps Layout value line = refl

value_set : (name : OptionName) (value : Text) (line : Line)
    → value_in name (set_value name value line) ≡ Some value
value_set Seed value line = refl
value_set Break value line = refl
value_set Count value line = refl
value_set Layout value line = refl

-- another option has another id, and keeps its value
pub record Apart (name other : OptionName) : Type 0 where
  pub ids : bytes_eq (id_of name) (id_of other) ≡ false
  pub keeps : (value : Text) (line : Line) → value_in other (set_value name value line) ≡ value_in other line

same_or_apart : (name other : OptionName) → (name ≡ other) ⊎ Apart name other
same_or_apart Seed Seed = inl refl
same_or_apart Seed Break = inr (record { ids = refl; keeps = λ value line. refl })
same_or_apart Seed Count = inr (record { ids = refl; keeps = λ value line. refl })
same_or_apart Seed Layout = inr (record { ids = refl; keeps = λ value line. refl })
same_or_apart Break Seed = inr (record { ids = refl; keeps = λ value line. refl })
same_or_apart Break Break = inl refl
same_or_apart Break Count = inr (record { ids = refl; keeps = λ value line. refl })
same_or_apart Break Layout = inr (record { ids = refl; keeps = λ value line. refl })
same_or_apart Count Seed = inr (record { ids = refl; keeps = λ value line. refl })
same_or_apart Count Break = inr (record { ids = refl; keeps = λ value line. refl })
same_or_apart Count Count = inl refl
same_or_apart Count Layout = inr (record { ids = refl; keeps = λ value line. refl })
same_or_apart Layout Seed = inr (record { ids = refl; keeps = λ value line. refl })
same_or_apart Layout Break = inr (record { ids = refl; keeps = λ value line. refl })
same_or_apart Layout Count = inr (record { ids = refl; keeps = λ value line. refl })
same_or_apart Layout Layout = inl refl

-- one more positional word
pub shows_word : (how : Reading) (word : Text) (rows : List Row) (line : Line) → Shows rows line
    → Shows (with_values words_id how CommandLine (word ∷ []) rows) (with_words (word ∷ []) line)
shows_word how word rows line shown = record {
  words =
      ap (λ (found : Option (List Text)). unwrap_or found [])
      (all_of-with_values words_id how (word ∷ []) rows)
      ∙ ap (λ (words : List Text). words ++ word ∷ []) shown.words;
  values =
      λ name. all_of-with_values-other words_id (id_of name) how (word ∷ []) rows (words_apart name) ∙ shown.values name
      ∙ ap (option_map (λ (value : Text). value ∷ [])) (sym (words_keep name (word ∷ []) line));
}

-- an option has a row where the line has its value
pub has_row-shown : (name : OptionName) (rows : List Row) (line : Line) → Shows rows line
    → has_row (id_of name) rows ≡ is_some (value_in name line)
has_row-shown name rows line shown =
    has_row-all_of (id_of name) rows
    ∙ ap (λ (found : Option (List Text)). is_some found) (shown.values name)
    ∙ go (value_in name line)
  where
    go : (value : Option Text) → is_some (option_map (λ (text : Text). text ∷ []) value) ≡ is_some value
    go None = refl
    go (Some value) = refl

-- the value of one more option
pub shows_value : (how : Reading) (name : OptionName) (value : Text) (rows : List Row) (line : Line)
    → value_in name line ≡ None → Shows rows line
    → Shows (with_values (id_of name) how CommandLine (value ∷ []) (without (id_of name) rows))
    (set_value name value line)
shows_value how name value rows line none shown =
    let row : has_row (id_of name) rows ≡ false =
    has_row-shown name rows line shown ∙ ap (λ (v : Option Text). is_some v) none in
    subst
    (λ (kept : List Row). Shows (with_values (id_of name) how CommandLine (value ∷ []) kept) (set_value name value line))
    (sym (without-none (id_of name) rows row))
    (record {
      words =
          ap (λ (found : Option (List Text)). unwrap_or found [])
          (all_of-with_values-other (id_of name) words_id how (value ∷ []) rows (name_apart name))
          ∙ shown.words ∙ sym (value_keeps name value line);
      values = λ other. elim (same_or_apart name other) [
        | inl same ↦ subst (λ (n : OptionName). all_of (id_of n) (with_values (id_of name) how CommandLine (value ∷ []) rows) ≡ option_map (λ (v : Text). v ∷ []) (value_in n (set_value name value line))) same
            (all_of-with_values (id_of name) how (value ∷ []) rows
            ∙ ap (λ (found : Option (List Text)). Some (unwrap_or found [] ++ value ∷ []))
            (shown.values name ∙ ap (option_map (λ (v : Text). v ∷ [])) none)
            ∙ ap (option_map (λ (v : Text). v ∷ [])) (sym (value_set name value line)))
        | inr apart ↦ all_of-with_values-other (id_of name) (id_of other) how (value ∷ []) rows apart.ids ∙ shown.values other
            ∙ ap (option_map (λ (v : Text). v ∷ [])) (sym (apart.keeps value line))
      ];
    })
