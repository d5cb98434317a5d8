use Rattle.std.proofs.Common.{◌++◌, ap, ◌∙◌}
use Rattle.std.specs.Prelude.{string_bytes}
use Rattle.omi_text.proofs.Rows.{flat_map_further}
use Rattle.omi_listing.specs.Table.{row_line, width_at}
use Rattle.omi_listing.proofs.RowLines.{line_told}
use Rattle.omi_listing.proofs.table.table_text.Goals as goal

pub loop-number-preserved : goal.loop-number-preserved
loop-number-preserved c =
    let table = c.args.table.now in
    let row = c.get.result.now in
    flat_map_further (row_line (width_at table) 0) (string_bytes c.loop-number.text) table c.loop-number.number row _ (string_bytes c.push_row.new.text)
    c.get.ensures
    (c.in_ok-push_row.ensures
    ∙ ap (λ line. string_bytes c.loop-number.text ++ line) (line_told _ table c.args.columns c.in_ok-widths.ensures c.requires c.loop-number.number row c.get.ensures))
    c.loop-number.invariant
