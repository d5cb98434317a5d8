-- What a walk sees of threads, without what it keeps beside.
use Rattle.std.specs.Prelude.{ℕ, Option, Result, Ok, Err}
use Rattle.std.specs.Option.{option_map}
use Rattle.omi_model.specs.declared.view.ThreadPart.{ThreadPart}
use Rattle.omi_model.specs.declared.view.ThreadRow.{ThreadRow}
use Rattle.omi_walk.specs.declared.fault.WalkFault.{WalkFault}
use Rattle.omi_walk.specs.declared.met.Met.{Met}
use Rattle.omi_walk.specs.declared.threads.SeenPart.{SeenPart}
use Rattle.omi_walk.specs.declared.threads.SeenThread.{SeenThread}

-- the number of a thread that may have been met
abbrev pub number_met : Result (Option Met) WalkFault → Result (Option ℕ) WalkFault
number_met (Ok o) = Ok (option_map (λ m. m.name.creator) o)
number_met (Err fault) = Err fault

abbrev pub part_seen : Result SeenPart WalkFault → Result ThreadPart WalkFault
part_seen (Ok seen) = Ok seen.part
part_seen (Err fault) = Err fault

abbrev pub row_seen : Result SeenThread WalkFault → Result ThreadRow WalkFault
row_seen (Ok seen) = Ok seen.row
row_seen (Err fault) = Err fault
