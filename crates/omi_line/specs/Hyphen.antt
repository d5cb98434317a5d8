-- Where the word `-` stands for the value of an option, which `clap` alone would take.
use Rattle.std.specs.Prelude.{◌&&◌, ◌||◌, ℕ, Bool, true, false, List, [], ◌∷◌}
use Rattle.std.specs.Str.{bytes_eq}
use Rattle.omi_line.specs.Word.{Kind, Positional, Rest, Named, word_kind}

-- the word is an option whose value is to be the next word
abbrev pub is_named : Kind → Bool
is_named (Named name) = true
is_named _ = false

abbrev pub is_lone_hyphen : List ℕ → Bool
is_lone_hyphen word = bytes_eq word (45 ∷ [])

-- the word is it, or one of the words after it
abbrev pub hyphen_word : Kind → Bool → (Bool → Bool) → Bool
hyphen_word Rest here next = false
hyphen_word Positional here next = here || next false
hyphen_word (Named name) here next = next true
hyphen_word _ here next = next false

-- the word `-` follows an option that waits for its value, before the first `--`
unfoldable pub gives_hyphen : List (List ℕ) → Bool → Bool
gives_hyphen [] is_waiting = false
gives_hyphen (word ∷ rest) is_waiting =
    hyphen_word (word_kind word) (is_waiting && is_lone_hyphen word) (gives_hyphen rest)
