use Rattle.std.proofs.Common.{◌≡◌, ◌∷◌, replicate}
use Rattle.std.specs.Prelude.{codes}
use Rattle.std.specs.Fmt.{decimal}
use Rattle.omi_listing.proofs.threads.bare_row.Given as goal

-- the id, and so many dashes
abbrev pub invariant-loop : goal.invariant-loop
invariant-loop l = l.row ≡ decimal l.native ∷ replicate l.counter (codes "-")
