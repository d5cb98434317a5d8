use Rattle.std.proofs.Common.{◌≡◌, ◌++◌, drop}
use Rattle.std.specs.Prelude.{string_bytes}
use Rattle.omi_listing.specs.Table.{row_line}
use Rattle.omi_listing.specs.Widths.{width_in}
use Rattle.omi_listing.proofs.table.push_cells.Given as goal

-- the cells so far, and the line of those that are left
abbrev pub invariant-loop-at : goal.invariant-loop-at
invariant-loop-at l =
    string_bytes l.text ++ row_line (width_in l.widths) l.at (drop l.at l.row)
    ≡ string_bytes l.fn.text ++ row_line (width_in l.widths) 0 l.row
