use Rattle.std.proofs.Common.{◌≡◌, ◌++◌, Some, ap, sym, subst, ◌∙◌, arith}
use Rattle.std.specs.Prelude.{slice_get, string_bytes}
use Rattle.std.proofs.lemmas.Option.{get_or_from_slice_get}
use Rattle.omi_listing.specs.Table.{filled}
use Rattle.omi_listing.specs.Widths.{width_in}
use Rattle.omi_listing.proofs.RowLines.{cell_added, last_added}
use Rattle.omi_listing.proofs.table.push_cells.Goals as goal

pub loop-at-preserved : goal.loop-at-preserved
loop-at-preserved c =
    let below = c.loop-at-test.true in
    let len = c.len-last.ensures in
    let text = string_bytes c.loop-at.text in
    let cell = c.get.result.now in
    let width = get_or_from_slice_get c.args.widths.now c.loop-at.at c.get-in-loop-at.result.now 0 c.get-in-loop-at.ensures in
    cell_added (width_in c.args.widths.now) c.args.row.now text _ (string_bytes c.push_filled.new.text) c.loop-at.at cell
    c.get.ensures c.loop-at.invariant (omega (arith, below, len))
    (c.in_ok-push_filled.ensures ∙ ap (λ w. text ++ filled w cell) (sym width))

pub returns : goal.returns
returns c =
    let stopped = c.loop-at-test.false in
    let within = c.loop-at.auto.at-end in
    let len = c.len-last.ensures in
    let text = string_bytes c.loop-at.text in
    let cell = c.get-2.result.now in
    let here : slice_get c.args.row.now c.loop-at.at ≡ Some cell =
    subst (λ k. slice_get c.args.row.now k ≡ Some cell) (omega (arith, stopped, within)) c.get-2.ensures in
    last_added (width_in c.args.widths.now) c.args.row.now text _ (string_bytes c.push_str.new.self) c.loop-at.at cell here
    c.loop-at.invariant (omega (arith, stopped, len)) (c.in_ok-push_str.ensures.bytes ∙ ap (λ t. text ++ t) c.as_str.ensures)
