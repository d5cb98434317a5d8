use Rattle.std.proofs.Common.{◌≡◌, drop, max}
use Rattle.std.specs.List.{fold}
use Rattle.omi_listing.specs.Table.{length_at}
use Rattle.omi_listing.proofs.table.width_at.Given as goal

-- the width so far, and the rows that are left
abbrev pub invariant-loop-number : goal.invariant-loop-number
invariant-loop-number l =
    fold (λ width row. max width (length_at row l.at)) l.width (drop l.number l.table)
    ≡ fold (λ width row. max width (length_at row l.at)) 0 l.table
