use Rattle.std.proofs.Common.{◌≡◌, ℕ, List, [], length, take}
use Rattle.omi_model.specs.declared.id.Tid.{Tid}
use Rattle.omi_commands.specs.Cores.{thread_ids}
use Rattle.omi_park.specs.Kept.{AreCopies, AreStopsLooked, HoldsBefore}
use Rattle.omi_park.proofs.printed.stops_text.Given as goal

-- what was printed of the stops so far, and the tasks of the last one's report
abbrev pub invariant-loop-at : goal.invariant-loop-at
invariant-loop-at l = record {
  bound : l.at-end ≡ length l.stops;
  looked : (w : List ℕ) → AreCopies w l.stops
      → (last : List Tid) × AreStopsLooked w (thread_ids l.threads) 1 [] (take l.at l.stops) l.text.items last
      × HoldsBefore w last l.before;
}
