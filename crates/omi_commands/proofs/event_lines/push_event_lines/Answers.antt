use Rattle.std.specs.Prelude.{string_bytes}
use Rattle.omi_run_lists.specs.Compact.{with_team}
use Rattle.omi_commands.proofs.EventLines.{one_line_more}
use Rattle.omi_commands.proofs.event_lines.push_event_lines.Goals as goal

pub loop-at-preserved : goal.loop-at-preserved
loop-at-preserved c =
    let row = c.get_compact-step in
    one_line_more (string_bytes c.loop-at.text) (string_bytes c.push_compact_line.new.text) _ c.args.events.now.items c.loop-at.at
    (row.result.0, row.result.1, with_team row.new.team row.result.2) row.ensures c.in_ok-push_compact_line.ensures.line c.loop-at.invariant
