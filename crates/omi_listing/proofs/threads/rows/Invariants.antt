use Rattle.std.proofs.Common.{◌≡◌, ◌∷◌, map, take}
use Rattle.omi_listing.specs.Threads.{context_cells, heading}
use Rattle.omi_listing.proofs.threads.rows.Given as goal

-- the heading, and the rows of the contexts so far
abbrev pub invariant-loop-at : goal.invariant-loop-at
invariant-loop-at l = l.table ≡ heading ∷ map (context_cells l.view) (take l.at l.view.threads)
