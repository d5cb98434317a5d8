use Rattle.std.proofs.Common.{◌≡◌, ◌++◌, drop}
use Rattle.std.specs.Prelude.{string_bytes}
use Rattle.omi_commands.specs.EventLines.{event_lines}
use Rattle.omi_commands.proofs.event_lines.push_event_lines.Given as goal

-- the text so far, and the lines of the events that are left
abbrev pub invariant-loop-at : goal.invariant-loop-at
invariant-loop-at l =
    string_bytes l.text ++ event_lines (drop l.at l.events.items) ≡ string_bytes l.fn.text ++ event_lines l.events.items
