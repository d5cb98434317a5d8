use Rattle.omi_listing.specs.Widths.{AreWidths}
use Rattle.omi_listing.proofs.table.widths.Given as goal

-- the widths of the columns so far
abbrev pub invariant-loop-at : goal.invariant-loop-at
invariant-loop-at l = AreWidths l.widths l.table l.at
