use Rattle.std.proofs.Common.{ℕ, List}
use Rattle.omi_machine.specs.Kept.{state_of}
use Rattle.omi_machine_view.specs.Marks.{HavePlaces, unmet}
use Rattle.omi_machine_view.specs.Reported.{AreMet, AreMetBut}
use Rattle.omi_machine_view.proofs.reported.meet_regions.Given as goal

abbrev pub invariant-loop-r : goal.invariant-loop-r
invariant-loop-r l = record {
  places : HavePlaces l.marks.creators l.marks.width (state_of l.s).regions;
  met : (threads : List ℕ) → AreMet (state_of l.s) threads l.initial.marks.met.items
      → AreMetBut (state_of l.s) threads l.i l.marks.met.items l.at;
}

abbrev pub decreases-loop-r : goal.decreases-loop-r
decreases-loop-r l = unmet l.marks.met.items
