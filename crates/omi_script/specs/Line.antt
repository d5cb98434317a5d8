-- What a line says, by its first word, its count of words and its fixed words. Whether its
-- numbers lie in their ranges, and what its names stand for, is judged apart.
use Rattle.std.specs.Prelude.{ℕ, Bool, ◌==◌, List, [], ◌∷◌, Option, Some, None, option_map, slice_index, if◌then◌else◌, bytes_eq, codes}
use Rattle.omi_script.specs.HeadLines.{threads_line, env_line}
use Rattle.omi_script.specs.StatementLines.{statement_line}
use Rattle.omi_script.specs.declared.line.SourceLine.{SourceLine}
use Rattle.omi_script.specs.declared.line.SourceLine.TheVariants as line

-- `func NAME`
abbrev pub function_line : List (List ℕ) → Option SourceLine
function_line (name ∷ []) = Some (line.Function name)
function_line _ = None

-- `end`
abbrev pub closing_line : List (List ℕ) → Option SourceLine
closing_line [] = Some line.End
closing_line _ = None

-- what a line says that is no comment, by its first word and those behind it. None where it has
-- no shape
abbrev pub line_by : List ℕ → List (List ℕ) → Option SourceLine
line_by first rest =
    if bytes_eq first (codes "threads") then option_map line.Head (threads_line rest)
    else (if bytes_eq first (codes "env") then option_map line.Head (env_line rest)
    else (if bytes_eq first (codes "func") then function_line rest
    else (if bytes_eq first (codes "end") then closing_line rest
    else statement_line first rest)))

-- the word begins with `#`
abbrev pub begins_comment : List ℕ → Bool
begins_comment word = slice_index word 0 == 35

-- what words say. Without words, or where the first begins with `#`, they say nothing
abbrev pub line_of : List (List ℕ) → Option SourceLine
line_of [] = Some line.Blank
line_of (first ∷ rest) = if begins_comment first then Some line.Blank else line_by first rest
