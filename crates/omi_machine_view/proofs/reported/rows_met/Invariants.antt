use Rattle.std.proofs.Common.{◌≡◌, take}
use Rattle.std.specs.List.{filter_map}
use Rattle.omi_machine.specs.Kept.{state_of}
use Rattle.omi_machine_view.specs.Reported.{row_met}
use Rattle.omi_machine_view.proofs.reported.rows_met.Given as goal

abbrev pub invariant-loop-met : goal.invariant-loop-met
invariant-loop-met l = l.rows ≡ filter_map (row_met (state_of l.s)) (take l.met-index l.met-items)
