use Rattle.std.proofs.Common.{◌≡◌, ◌++◌, drop}
use Rattle.std.specs.Prelude.{string_bytes}
use Rattle.omi_commands.specs.RunLines.{runs_lines}
use Rattle.omi_commands.proofs.run_lines.push_runs.Given as goal

-- the lines so far, and those of the threads that are left
abbrev pub invariant-loop-thread : goal.invariant-loop-thread
invariant-loop-thread l =
    string_bytes l.text ++ runs_lines l.thread (drop l.thread l.runs) ≡ string_bytes l.fn.text ++ runs_lines 0 l.runs
