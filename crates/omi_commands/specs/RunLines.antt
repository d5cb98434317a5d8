-- What a run of threads prints: of each thread its number of steps and its events, and the end line.
use Rattle.std.specs.Prelude.{ℕ, List, [], ◌∷◌, ◌++◌, ◌+◌, codes}
use Rattle.std.specs.Fmt.{decimal}
use Rattle.omi_core.specs.declared.thread_run.ThreadRun.{ThreadRun}
use Rattle.omi_commands.specs.EventLines.{event_lines}

-- the number of a thread's steps
abbrev pub steps_line : ℕ → ℕ → List ℕ
steps_line thread steps =
    codes "thread " ++ (decimal thread ++ (codes " steps " ++ (decimal steps ++ 10 ∷ [])))

-- the lines of one thread
abbrev pub run_lines : ℕ → ThreadRun → List ℕ
run_lines thread run = steps_line thread run.steps ++ event_lines run.events.items

-- the lines of threads from one on
abbrev pub runs_lines : ℕ → List ThreadRun → List ℕ
runs_lines thread [] = []
runs_lines thread (run ∷ runs) = run_lines thread run ++ runs_lines (thread + 1) runs

-- the end line
abbrev pub live_end_line : ℕ → List ℕ
live_end_line budget = codes "end budget " ++ (decimal budget ++ 10 ∷ [])

-- all that a run of threads with this budget prints
abbrev pub live_text : List ThreadRun → ℕ → List ℕ
live_text runs budget = runs_lines 0 runs ++ live_end_line budget
