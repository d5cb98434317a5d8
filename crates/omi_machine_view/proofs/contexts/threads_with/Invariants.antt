use Rattle.std.proofs.Common.{◌≡◌, map, take}
use Rattle.std.specs.List.{filter_map}
use Rattle.omi_model.specs.Views.{AreChains, thread_row, thread_with}
use Rattle.omi_model.specs.WellFormed.{IsWellFormed}
use Rattle.omi_machine.specs.Kept.{state_of}
use Rattle.omi_machine_view.specs.Marks.{HavePlaces}
use Rattle.omi_machine_view.specs.Reported.{AreMet}
use Rattle.omi_machine_view.proofs.contexts.threads_with.Given as goal

abbrev pub invariant-loop-at : goal.invariant-loop-at
invariant-loop-at l = l.threads ≡ filter_map (thread_with (state_of l.s)) (take l.at l.contexts)
