use Rattle.std.proofs.Common.{ℕ}
use Rattle.omi_machine.specs.Kept.{state_of, slots_of}
use Rattle.omi_machine_view.specs.Chains.{IsWalked}
use Rattle.omi_machine_view.specs.Marks.{HavePlaces, unmet}
use Rattle.omi_machine_view.proofs.chains.push_chain.Given as goal

abbrev pub invariant-loop-n : goal.invariant-loop-n
invariant-loop-n l = record {
  places : HavePlaces l.marks.creators l.marks.width (state_of l.s).tasks;
  walked : IsWalked (state_of l.s) l.i l.initial.rows l.rows l.marks.met.items l.at;
}

abbrev pub decreases-loop-n : goal.decreases-loop-n
decreases-loop-n l = unmet l.marks.met.items
