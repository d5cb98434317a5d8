-- How the words of a command line are split into positional words and the values of options.
use Rattle.std.specs.Prelude.{ℕ, IfSome, List, [], ◌∷◌, ◌++◌, Option, Some, None, is_some, option_and_then, if◌then◌else◌}
use Rattle.std.specs.List.{All}
use Rattle.std.specs.Str.{IsUtf8}
use Rattle.omi_line.specs.Word.{OptionName, Kind, Seed, Break, Count, Layout, Positional, Rest, Given, Named, RefusedWord, word_kind, begins_with_hyphen}
use Rattle.omi_line.specs.declared.line.Line.{Line}

abbrev pub empty_line : Line
empty_line = record { words = []; seed = None; on = None; count = None; layout = None }

-- the line with these positional words after its own
abbrev pub with_words : List (List ℕ) → Line → Line
with_words words line = record line { words = line.words ++ words }

-- the value of an option
abbrev pub value_in : OptionName → Line → Option (List ℕ)
value_in Seed line = line.seed
value_in Break line = line.on
value_in Count line = line.count
value_in Layout line = line.layout

abbrev pub set_value : OptionName → List ℕ → Line → Line
set_value Seed value line = record line { seed = Some value }
set_value Break value line = record line { on = Some value }
set_value Count value line = record line { count = Some value }
set_value Layout value line = record line { layout = Some value }

-- the line with the value of one more option, where it has none of it yet
abbrev pub with_value : OptionName → List ℕ → Line → Option Line
with_value name value line = if is_some (value_in name line) then None
    else Some (set_value name value line)

-- the word, and then the words after it
abbrev pub split_word : Kind → List ℕ → List (List ℕ) → (Option OptionName → Line → Option Line) → Line
    → Option Line
split_word Positional word rest next line = next None (with_words (word ∷ []) line)
split_word Rest word rest next line = Some (with_words rest line)
split_word (Given name value) word rest next line =
    option_and_then (next None) (with_value name value line)
split_word (Named name) word rest next line = next (Some name) line
split_word RefusedWord word rest next line = None

-- The line that these words make of a line, where an option may wait for its value. A value that is a word of its own doesn't begin with `-`, and after `--` all words are positional.
unfoldable pub split_from : List (List ℕ) → Option OptionName → Line → Option Line
split_from [] None line = Some line
split_from [] (Some name) line = None
split_from (word ∷ rest) (Some name) line =
    if begins_with_hyphen word then None
    else option_and_then (split_from rest None) (with_value name word line)
split_from (word ∷ rest) None line = split_word (word_kind word) word rest (split_from rest) line

-- the line that the words make, where they aren't refused
abbrev pub split_of : List (List ℕ) → Option Line
split_of words = split_from words None empty_line

-- each positional word is text, and so is each value that is there
pub record IsText (line : Line) : Type 0 where
  pub words : All IsUtf8 line.words
  pub seed : IfSome line.seed IsUtf8
  pub on : IfSome line.on IsUtf8
  pub count : IfSome line.count IsUtf8
  pub layout : IfSome line.layout IsUtf8
