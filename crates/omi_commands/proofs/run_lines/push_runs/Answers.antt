use Rattle.std.proofs.Common.{◌≡◌, ◌∙◌, ℕ, List, Some, refl, sym, ap, arith}
use Rattle.std.specs.Prelude.{string_bytes, slice_get}
use Rattle.std.proofs.lemmas.Option.{slice_get-get_or}
use lib.ListN.{get_or}
use Rattle.omi_core.specs.declared.thread_run.ThreadRun.{ThreadRun}
use Rattle.omi_commands.proofs.RunLines.{one_line_more}
use Rattle.omi_commands.specs.RunLines.{run_lines, runs_lines}
use Rattle.omi_commands.proofs.run_lines.push_runs.Goals as goal

pub loop-thread-preserved : goal.loop-thread-preserved
loop-thread-preserved c =
    let thread : ℕ = c.loop-thread.thread in
    let run : ThreadRun = c.index-as_slice-thread.result in
    let before = c.loop-thread-test.true in
    let count = c.len-thread-end.ensures in
    let there : slice_get c.args.runs.now thread ≡ Some run =
    slice_get-get_or c.args.runs.now thread run (omega (arith, before, count))
    ∙ ap (λ (rs : List ThreadRun). Some (get_or rs thread run)) (sym c.as_slice.ensures)
    ∙ ap Some (sym c.index-as_slice-thread.is) in
    one_line_more run_lines runs_lines (λ i x xs. refl) (string_bytes c.loop-thread.text)
    (string_bytes c.push_run.new.text) _ c.args.runs.now thread run there c.in_ok-push_run.ensures c.loop-thread.invariant
