use Rattle.std.proofs.Common.{◌≡◌, ◌++◌, drop}
use Rattle.std.specs.Prelude.{string_bytes}
use Rattle.omi_park.specs.Lines.{steps_lines}
use Rattle.omi_park.proofs.lines.push_steps.Given as goal

-- the lines so far, and those of the threads that are left
abbrev pub invariant-loop-thread : goal.invariant-loop-thread
invariant-loop-thread l =
    string_bytes l.text ++ steps_lines l.thread (drop l.thread l.steps) ≡ string_bytes l.fn.text ++ steps_lines 0 l.steps
