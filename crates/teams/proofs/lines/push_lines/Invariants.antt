use Rattle.std.proofs.Common.{◌≡◌}
use Rattle.teams.proofs.lines.push_lines.Given as goal

-- no handle of the threads so far is held
abbrev pub invariant-loop-at : goal.invariant-loop-at
invariant-loop-at g l = record { back : l.s.handles.held ≡ l.fn.s.handles.held }
