-- What a word of a command line is, where it stands before the first `--`.
use Rattle.std.specs.Prelude.{◌==◌, ℕ, Bool, false, List, [], ◌∷◌, Option, Some, None, codes, if◌then◌else◌}
use Rattle.std.specs.List.{list_any, after_first, before_first}
use Rattle.std.specs.Str.{bytes_eq}

-- the options
pub data OptionName : Type 0 where
  Seed : OptionName
  Break : OptionName
  Count : OptionName
  Layout : OptionName

-- the option of this name
abbrev pub option_named : List ℕ → Option OptionName
option_named text =
    if bytes_eq (codes "seed") text then Some Seed
    else (if bytes_eq (codes "break") text then Some Break
    else (if bytes_eq (codes "count") text then Some Count
    else (if bytes_eq (codes "layout") text then Some Layout else None)))

-- a positional word; `--`; an option with its value, as `--seed=5`; an option whose value is the next word, as `--seed`; or a word that is refused
pub data Kind : Type 0 where
  Positional : Kind
  Rest : Kind
  Given : (name : OptionName) (value : List ℕ) → Kind
  Named : (name : OptionName) → Kind
  RefusedWord : Kind

-- the byte is `-`
abbrev pub is_hyphen : ℕ → Bool
is_hyphen byte = byte == 45

-- the byte is `=`
abbrev pub is_equals : ℕ → Bool
is_equals byte = byte == 61

-- an option, with what stands after the first `=` where there is one
abbrev pub option_kind : Option OptionName → List ℕ → Kind
option_kind None text = RefusedWord
option_kind (Some name) text =
    if list_any is_equals text then Given name (after_first is_equals text) else Named name

-- the word that is `--` and then this text
abbrev pub long_kind : List ℕ → Kind
long_kind [] = Rest
long_kind (byte ∷ text) =
    option_kind (option_named (before_first is_equals (byte ∷ text))) (byte ∷ text)

-- the word that is `-` and then this text
abbrev pub hyphen_kind : List ℕ → Kind
hyphen_kind [] = Positional
hyphen_kind (byte ∷ text) = if is_hyphen byte then long_kind text else RefusedWord

abbrev pub word_kind : List ℕ → Kind
word_kind [] = Positional
word_kind (byte ∷ text) = if is_hyphen byte then hyphen_kind text else Positional

abbrev pub begins_with_hyphen : List ℕ → Bool
begins_with_hyphen [] = false
begins_with_hyphen (byte ∷ text) = is_hyphen byte
