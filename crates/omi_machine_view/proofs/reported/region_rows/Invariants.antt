use Rattle.std.proofs.Common.{◌≡◌, map, take}
use Rattle.std.specs.List.{filter_map}
use Rattle.omi_model.specs.Views.{AreChains, thread_row, thread_with}
use Rattle.omi_model.specs.WellFormed.{IsWellFormed}
use Rattle.omi_machine.specs.Kept.{state_of}
use Rattle.omi_machine_view.specs.Marks.{HavePlaces}
use Rattle.omi_machine_view.specs.Reported.{AreMet}
use Rattle.omi_machine_view.proofs.reported.region_rows.Given as goal

abbrev pub invariant-loop-at : goal.invariant-loop-at
invariant-loop-at l = record { places : HavePlaces l.marks.creators l.marks.width (state_of l.s).regions; met : AreMet (state_of l.s) (take l.at l.threads) l.marks.met.items }
