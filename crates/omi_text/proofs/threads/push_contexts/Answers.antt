use Rattle.std.specs.Prelude.{string_bytes}
use Rattle.omi_text.specs.Threads.{context_line}
use Rattle.omi_text.proofs.Rows.{flat_map_further}
use Rattle.omi_text.proofs.threads.push_contexts.Goals as goal

pub loop-at-preserved : goal.loop-at-preserved
loop-at-preserved c =
    flat_map_further context_line
    (string_bytes c.loop-at.text) c.args.rows.now c.loop-at.at c.get.result.now _ _
    c.get.ensures c.in_ok-push_context.ensures c.loop-at.invariant
