use Rattle.std.proofs.Common.{◌+◌, ℕ, List, ap, drop, sym, ◌∙◌, max}
use Rattle.std.specs.List.{fold}
use Rattle.omi_text.proofs.Rows.{rows_left}
use Rattle.omi_listing.specs.Table.{length_at}
use Rattle.omi_listing.proofs.table.width_at.Goals as goal

pub loop-number-preserved : goal.loop-number-preserved
loop-number-preserved c =
    let wider : ℕ → List (List ℕ) → ℕ = λ width row. max width (length_at row c.args.at) in
    let left = rows_left c.args.table.now c.loop-number.number c.get.result.now c.get.ensures in
    let width = c.larger-width.ensures ∙ ap (max c.loop-number.width) c.length_at.ensures in
    ap (λ w. fold wider w (drop (c.loop-number.number + 1) c.args.table.now)) width
    ∙ sym (ap (fold wider c.loop-number.width) left)
    ∙ c.loop-number.invariant
