use Rattle.std.proofs.Common.{refl}
use Rattle.std.specs.Prelude.{string_bytes}
use Rattle.omi_park.specs.Lines.{steps_lines}
use Rattle.omi_commands.proofs.RunLines.{one_line_more}
use Rattle.omi_commands.specs.RunLines.{steps_line}
use Rattle.omi_park.proofs.lines.push_steps.Goals as goal

pub loop-thread-preserved : goal.loop-thread-preserved
loop-thread-preserved c =
    one_line_more steps_line steps_lines (λ i x xs. refl) (string_bytes c.loop-thread.text) (string_bytes c.push_steps_line.new.text) _ c.args.steps.now
    c.loop-thread.thread c.get.result.now c.get.ensures c.in_ok-push_steps_line.ensures c.loop-thread.invariant
