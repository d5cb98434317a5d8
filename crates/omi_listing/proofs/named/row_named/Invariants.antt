use Rattle.std.proofs.Common.{◌≡◌, drop}
use Rattle.omi_listing.specs.Named.{row_named}
use Rattle.omi_listing.proofs.named.row_named.Given as goal

-- none of the rows so far has the name
abbrev pub invariant-loop-at : goal.invariant-loop-at
invariant-loop-at g l = row_named g.R.Named.name l.rows l.id ≡ row_named g.R.Named.name (drop l.at l.rows) l.id
