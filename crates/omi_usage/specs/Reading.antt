-- How the words are read, one after the other, until one is refused.
use Rattle.std.specs.Prelude.{◌+◌, ℕ, List, [], ◌∷◌, Option, Some, None, Result, Ok, Err, if◌then◌else◌, map}
use Rattle.std.specs.Option.{option_map_or}
use Rattle.omi_line.specs.Word.{Kind, Positional, Rest, Given, Named, RefusedWord, begins_with_hyphen, word_kind}
use Rattle.omi_usage.specs.Form.{Want, Verb, NoVerb, File, Number, OneOf, Numbers, CommandForm, fits, form_of_verb, name_of, no_form, option_of, value_wanted, want_of}
use Rattle.omi_usage.specs.declared.complaint.Cause.{Cause}
use Rattle.omi_usage.specs.declared.complaint.Cause.TheVariants as cause
use Rattle.omi_usage.specs.declared.complaint.Complaint.{Complaint}
use Rattle.omi_usage.specs.declared.complaint.LineOption.{LineOption}
use Rattle.omi_usage.specs.declared.complaint.LineOption.TheVariants as option
use Rattle.omi_usage.specs.declared.reading.Mode.{Mode}
use Rattle.omi_usage.specs.declared.reading.Mode.TheVariants as mode
use Rattle.omi_usage.specs.declared.reading.Seen.{Seen}
use Rattle.omi_usage.specs.declared.reading.Reading.{Reading}
use Rattle.omi_usage.specs.declared.word.WordKind.{WordKind}
use Rattle.omi_usage.specs.declared.word.WordKind.TheVariants as kind

-- what is still wanted of the words, how the next word is read, and where options were seen
pub record State : Type 0 where
  pub left : List Want
  pub mode : Mode
  pub seen : Seen

abbrev pub state_of : Reading → State
state_of reading = record { left = map want_of reading.left.now; mode = reading.mode; seen = reading.seen }

abbrev pub none_seen : Seen
none_seen = record { seed = None; on = None; count = None; layout = None }

-- the state in front of the first word
abbrev pub opening : CommandForm → State
opening form = record { left = form.words; mode = mode.Word; seen = none_seen }

-- the place of an option
abbrev pub place_in : LineOption → Seen → Option ℕ
place_in option.Seed seen = seen.seed
place_in option.Break seen = seen.on
place_in option.Count seen = seen.count
place_in option.Layout seen = seen.layout

abbrev pub with_place : LineOption → ℕ → Seen → Seen
with_place option.Seed place seen = record seen { seed = Some place }
with_place option.Break place seen = record seen { on = Some place }
with_place option.Count place seen = record seen { count = Some place }
with_place option.Layout place seen = record seen { layout = Some place }

-- what the code knows of a word, as its kind
abbrev pub kind_as : WordKind → Kind
kind_as kind.Positional = Positional
kind_as kind.Rest = Rest
kind_as (kind.Given o value) = Given (name_of o) value.now
kind_as (kind.Named o) = Named (name_of o)
kind_as kind.Refused = RefusedWord

abbrev pub complain : ℕ → Cause → Complaint
complain place cause = record { place = place; cause = cause }

-- why a word isn't what it is to be. Each word may be the name of a file
abbrev pub cause_of : Want → Cause
cause_of (Verb name) = cause.UnknownVerb
cause_of NoVerb = cause.UnknownVerb
cause_of File = cause.NoName
cause_of (Number least most) = cause.NoNumber least most
cause_of (OneOf names) = cause.NoName
cause_of (Numbers many most) = cause.NoNumbers many most

-- the next positional word
abbrev pub positional_step : List Want → Mode → Seen → ℕ → List ℕ → Result State Complaint
positional_step [] m seen place word = Err (complain place cause.TooMany)
positional_step (want ∷ left) m seen place word =
    if fits want word then Ok (record { left = left; mode = m; seen = seen })
    else Err (complain place (cause_of want))

-- an option that stands at one place, with its value at another
abbrev pub settled : Option Want → LineOption → State → ℕ → ℕ → List ℕ → Result State Complaint
settled None o state at place value = Err (complain at (cause.Foreign o))
settled (Some want) o state at place value =
    if fits want value then Ok (record {
      left = state.left;
      mode = mode.Word;
      seen = with_place o at state.seen;
    })
    else Err (complain place (cause_of want))

-- an option that may not be there, or is there already
abbrev pub named_fault : Option Want → Option ℕ → LineOption → Option Cause
named_fault want (Some place) o = Some (cause.Twice o)
named_fault None None o = Some (cause.Foreign o)
named_fault (Some want) None o = None

abbrev pub option_fault : CommandForm → Seen → LineOption → Option Cause
option_fault form seen o = named_fault (value_wanted form o) (place_in o seen) o

abbrev pub unless_fault : Option Cause → ℕ → Result State Complaint → Result State Complaint
unless_fault (Some why) place next = Err (complain place why)
unless_fault None place next = next

-- a word before the first `--`
abbrev pub word_step : Kind → CommandForm → State → ℕ → List ℕ → Result State Complaint
word_step Positional form state place word =
    positional_step state.left mode.Word state.seen place word
word_step Rest form state place word = Ok (record state { mode = mode.Behind })
word_step (Given name value) form state place word =
    unless_fault (option_fault form state.seen (option_of name)) place
    (settled (value_wanted form (option_of name)) (option_of name) state place place value)
word_step (Named name) form state place word =
    unless_fault (option_fault form state.seen (option_of name)) place
    (Ok (record state { mode = mode.Value (option_of name) }))
word_step RefusedWord form state place word = Err (complain place cause.UnknownOption)

-- the word behind `place` others
abbrev pub step_in : Mode → CommandForm → State → ℕ → List ℕ → Result State Complaint
step_in mode.Word form state place word = word_step (word_kind word) form state (place + 1) word
step_in mode.Behind form state place word =
    positional_step state.left mode.Behind state.seen (place + 1) word
step_in (mode.Value o) form state place word =
    if begins_with_hyphen word then Err (complain place (cause.NoValue o))
    else settled (value_wanted form o) o state place (place + 1) word

abbrev pub step_of : CommandForm → State → ℕ → List ℕ → Result State Complaint
step_of form state place word = step_in state.mode form state place word

-- `--break` without `--count`, or the other way round
abbrev pub alone : Option Want → Option Want → Option ℕ → Option ℕ → Option Complaint
alone (Some a) (Some b) (Some place) None = Some (complain place (cause.Alone option.Break))
alone (Some a) (Some b) None (Some place) = Some (complain place (cause.Alone option.Count))
alone _ _ _ _ = None

-- a word is missing
abbrev pub missing : List Want → ℕ → Option Complaint
missing [] place = None
missing (want ∷ left) place = Some (complain (place + 1) cause.TooFew)

abbrev pub or_else : Option Complaint → Option Complaint → Option Complaint
or_else None other = other
or_else (Some found) other = Some found

-- behind the last word, by how a next one would be read
abbrev pub end_in : Mode → CommandForm → State → ℕ → Option Complaint
end_in (mode.Value o) form state place = Some (complain place (cause.NoValue o))
end_in _ form state place =
    or_else (alone form.on form.count state.seen.on state.seen.count) (missing state.left place)

abbrev pub end_of : CommandForm → State → ℕ → Option Complaint
end_of form state place = end_in state.mode form state place

-- the first complaint about these words, behind `place` others that led to a state
abbrev pub step_then : Result State Complaint → (State → Option Complaint) → Option Complaint
step_then (Err found) next = Some found
step_then (Ok state) next = next state

unfoldable pub complaint_from : CommandForm → List (List ℕ) → State → ℕ → Option Complaint
complaint_from form [] state place = end_of form state place
complaint_from form (word ∷ rest) state place =
    step_then (step_of form state place word) (λ next. complaint_from form rest next (place + 1))

-- the first complaint about words that are to have this form
abbrev pub complaint_about : CommandForm → List (List ℕ) → Option Complaint
complaint_about form words = complaint_from form words (opening form) 0

-- how the word behind one of this kind is read, where this one isn't positional
abbrev pub mode_behind : Kind → Option Mode
mode_behind Positional = None
mode_behind Rest = Some mode.Behind
mode_behind (Named name) = Some (mode.Value (option_of name))
mode_behind _ = Some mode.Word

-- how the word behind this one is read, where this one isn't positional
abbrev pub mode_after : Mode → List ℕ → Option Mode
mode_after mode.Word word = mode_behind (word_kind word)
mode_after (mode.Value o) word = Some mode.Word
mode_after mode.Behind word = None

abbrev pub word_or : List ℕ → Option Mode → (Mode → Option (List ℕ)) → Option (List ℕ)
word_or word None next = Some word
word_or word (Some m) next = next m

-- the first positional word
unfoldable pub first_from : List (List ℕ) → Mode → Option (List ℕ)
first_from [] m = None
first_from (word ∷ rest) m = word_or word (mode_after m word) (first_from rest)

-- the form by the first positional word
abbrev pub form_in : List CommandForm → List (List ℕ) → CommandForm
form_in forms words = option_map_or (form_of_verb forms) (first_from words mode.Word) no_form
