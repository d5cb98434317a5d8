-- What is printed of a stop: its number, how many steps each thread had made, a report, and what became of the tasks of the report before.
use Rattle.std.specs.Prelude.{ℕ, List, [], ◌∷◌, ◌++◌, ◌+◌, codes}
use Rattle.std.specs.Fmt.{decimal}
use Rattle.omi_model.specs.declared.view.View.{View}
use Rattle.omi_text.specs.Report.{report}
use Rattle.omi_commands.specs.RunLines.{steps_line}

-- the line of the stop of a number
abbrev pub stop_line : ℕ → List ℕ
stop_line number = codes "stop " ++ (decimal number ++ 10 ∷ [])

-- the lines of the numbers of steps of threads, from one on
abbrev pub steps_lines : ℕ → List ℕ → List ℕ
steps_lines thread [] = []
steps_lines thread (steps ∷ others) = steps_line thread steps ++ steps_lines (thread + 1) others

-- what stands above the report
abbrev pub stop_head : ℕ → List ℕ → List ℕ
stop_head number steps = stop_line number ++ steps_lines 0 steps

-- all that is printed of a stop
abbrev pub stop_text : ℕ → List ℕ → View → List ℕ → List ℕ
stop_text number steps view fates = stop_head number steps ++ (report view ++ fates)
