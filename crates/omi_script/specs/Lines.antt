-- A text as lines, and a line as words.
use Rattle.std.specs.Prelude.{ℕ, Bool, not, ◌||◌, ◌==◌, List, [], ◌∷◌, length, filter, if◌then◌else◌}
use Rattle.std.specs.List.{slice_split}
use Rattle.omi_script.specs.Names.{is_within}

abbrev pub is_line_feed : ℕ → Bool
is_line_feed b = b == 10

-- space, tab and carriage return separate words
abbrev pub is_blank : ℕ → Bool
is_blank b = b == 32 || b == 9 || b == 13

-- the byte may stand in a script: it separates lines or words, or lies in 0x21 to 0x7e
abbrev pub is_text : ℕ → Bool
is_text b = is_line_feed b || is_blank b || is_within 33 126 b

-- a last empty piece is no line
abbrev pub without_last_empty : List (List ℕ) → List (List ℕ)
without_last_empty [] = []
without_last_empty (piece ∷ []) = if length piece == 0 then [] else piece ∷ []
without_last_empty (piece ∷ next ∷ pieces) = piece ∷ without_last_empty (next ∷ pieces)

-- the lines of a text: its pieces between line feeds
abbrev pub lines : List ℕ → List (List ℕ)
lines bytes = without_last_empty (slice_split is_line_feed bytes)

-- the words of a line: its pieces between blanks that are not empty
abbrev pub words : List ℕ → List (List ℕ)
words line = filter (λ piece. not (length piece == 0)) (slice_split is_blank line)
