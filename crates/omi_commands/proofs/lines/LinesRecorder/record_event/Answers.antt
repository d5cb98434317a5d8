use Rattle.std.proofs.Common.{string_bytes}
use Rattle.omi_run_lists.specs.Compact.{with_team}
use Rattle.omi_commands.proofs.EventLines.{one_recorded}
use Rattle.omi_commands.proofs.lines.LinesRecorder.record_event.Goals as goal

pub returns-clause-told : goal.returns-clause-told
returns-clause-told c items are =
    one_recorded (string_bytes c.args.self.now.text) (string_bytes c.push_compact_line.new.text) c.args.self.now.count
    c.in-Some.count items (c.args.step, c.args.thread, with_team c.args.team.now c.args.event) are
    c.in_ok-push_compact_line.ensures.line c.in-Some.ensures.1
