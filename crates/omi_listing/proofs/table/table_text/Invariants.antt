use Rattle.std.proofs.Common.{◌≡◌, ◌++◌, drop}
use Rattle.std.specs.Prelude.{string_bytes}
use Rattle.std.specs.List.{flat_map}
use Rattle.omi_listing.specs.Table.{row_line, table_text, width_at}
use Rattle.omi_listing.proofs.table.table_text.Given as goal

-- the lines so far, and those of the rows that are left
abbrev pub invariant-loop-number : goal.invariant-loop-number
invariant-loop-number l =
    string_bytes l.text ++ flat_map (row_line (width_at l.table) 0) (drop l.number l.table) ≡ table_text l.table
