-- What each word of a command is to be, and which lines have the form of a command.
use Rattle.std.specs.Prelude.{◌==◌, ◌&&◌, ℕ, Bool, true, false, not, List, [], ◌∷◌, Option, Some, None, length, map, nat_le, is_some, if◌then◌else◌}
use Rattle.std.specs.List.{list_all, list_any, slice_split}
use Rattle.std.specs.Option.{option_map, option_map_or}
use Rattle.std.specs.Str.{bytes_eq}
use Rattle.omi_line.specs.Number.{number_between}
use Rattle.omi_line.specs.Word.{OptionName, Seed, Break, Count, Layout}
use Rattle.omi_line.specs.declared.line.Line.{Line}
use Rattle.omi_usage.specs.declared.complaint.LineOption.{LineOption}
use Rattle.omi_usage.specs.declared.complaint.LineOption.TheVariants as option
use Rattle.omi_usage.specs.declared.form.Form.{Form}
use Rattle.omi_usage.specs.declared.form.Wanted.{Wanted}
use Rattle.omi_usage.specs.declared.form.Wanted.TheVariants as wanted

-- a verb; a verb where none is known, so that no word is it; the name of a file; a number; one of some names; or numbers with a comma between two
pub data Want : Type 0 where
  Verb : (name : List ℕ) → Want
  NoVerb : Want
  File : Want
  Number : (least most : ℕ) → Want
  OneOf : (names : List (List ℕ)) → Want
  Numbers : (many most : ℕ) → Want

-- the words of a command in order, and the value of each option that it has
pub record CommandForm : Type 0 where
  pub words : List Want
  pub seed : Option Want
  pub on : Option Want
  pub count : Option Want
  pub layout : Option Want

-- a command without options
abbrev pub bare_form : List Want → CommandForm
bare_form words = record { words = words; seed = None; on = None; count = None; layout = None }

-- the byte is `,`
abbrev pub is_comma : ℕ → Bool
is_comma byte = byte == 44

abbrev pub is_one_of : List ℕ → List (List ℕ) → Bool
is_one_of word names = list_any (λ name. bytes_eq word name) names

abbrev pub are_numbers : ℕ → List (List ℕ) → Bool
are_numbers most parts = list_all (λ part. is_some (number_between part 0 most)) parts

-- the word is what it is to be
abbrev pub fits : Want → List ℕ → Bool
fits (Verb name) word = bytes_eq word name
fits NoVerb word = false
fits File word = true
fits (Number least most) word = is_some (number_between word least most)
fits (OneOf names) word = is_one_of word names
fits (Numbers many most) word =
    nat_le (length (slice_split is_comma word)) many && are_numbers most (slice_split is_comma word)

-- the words are what they are to be, and as many
abbrev pub words_fit : List Want → List (List ℕ) → Bool
words_fit [] [] = true
words_fit [] (word ∷ words) = false
words_fit (want ∷ wants) [] = false
words_fit (want ∷ wants) (word ∷ words) = fits want word && words_fit wants words

-- an option that is there is one of the command's, and its value is what it is to be
abbrev pub value_fits : Option Want → Option (List ℕ) → Bool
value_fits want None = true
value_fits None (Some value) = false
value_fits (Some want) (Some value) = fits want value

abbrev pub both_or_neither : Bool → Bool → Bool
both_or_neither true b = b
both_or_neither false b = not b

-- where a command has `--break` and `--count`, they stand together
abbrev pub stand_together : Option Want → Option Want → Bool → Bool → Bool
stand_together (Some on) (Some count) has_break has_count = both_or_neither has_break has_count
stand_together _ _ has_break has_count = true

-- the options of the line are what they are to be
abbrev pub options_fit : CommandForm → Line → Bool
options_fit form line = value_fits form.seed line.seed && (value_fits form.on line.on
    && (value_fits form.count line.count && (value_fits form.layout line.layout
    && stand_together form.on form.count (is_some line.on) (is_some line.count))))

-- the line is a command of this form
abbrev pub fits_form : CommandForm → Line → Bool
fits_form form line = words_fit form.words line.words && options_fit form line

-- the form that no line has
abbrev pub no_form : CommandForm
no_form = record { words = NoVerb ∷ []; seed = Some File; on = Some File; count = Some File; layout = Some File }

abbrev pub is_verb : List Want → List ℕ → Bool
is_verb [] word = false
is_verb (want ∷ wants) word = fits want word

-- the first form with this verb
abbrev pub form_of_verb : List CommandForm → List ℕ → CommandForm
form_of_verb [] verb = no_form
form_of_verb (form ∷ forms) verb = if is_verb form.words verb then form else form_of_verb forms verb

-- the line is a command: one of the form with its verb
abbrev pub fits_one : List CommandForm → List (List ℕ) → Line → Bool
fits_one forms [] line = false
fits_one forms (verb ∷ words) line = fits_form (form_of_verb forms verb) line

-- the words make a line that is a command of this form
abbrev pub is_command : CommandForm → Option Line → Bool
is_command form line = option_map_or (fits_form form) line false

-- the words make a line that is a command of one of these forms
abbrev pub is_command_of : List CommandForm → Option Line → Bool
is_command_of forms line = option_map_or (λ (l : Line). fits_one forms l.words l) line false

-- what a word is to be, without the name that it has in texts
abbrev pub want_of : Wanted → Want
want_of (wanted.Verb name) = Verb name.now
want_of wanted.NoVerb = NoVerb
want_of (wanted.File name) = File
want_of (wanted.Number name least most) = Number least most
want_of (wanted.OneOf name names) = OneOf (map (λ n. n.now) names.now)
want_of (wanted.Numbers name many most) = Numbers many most

abbrev pub form_of : Form → CommandForm
form_of form = record {
  words = map want_of form.words.now;
  seed = option_map want_of form.seed;
  on = option_map want_of form.on;
  count = option_map want_of form.count;
  layout = option_map want_of form.layout;
}

-- what the value of an option is to be, where a command has the option
abbrev pub value_wanted : CommandForm → LineOption → Option Want
value_wanted form option.Seed = form.seed
value_wanted form option.Break = form.on
value_wanted form option.Count = form.count
value_wanted form option.Layout = form.layout

-- an option by its name
abbrev pub option_of : OptionName → LineOption
option_of Seed = option.Seed
option_of Break = option.Break
option_of Count = option.Count
option_of Layout = option.Layout

abbrev pub name_of : LineOption → OptionName
name_of option.Seed = Seed
name_of option.Break = Break
name_of option.Count = Count
name_of option.Layout = Layout
