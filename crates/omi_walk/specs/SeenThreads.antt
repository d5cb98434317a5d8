-- What a walk sees of all threads, without what it keeps beside, and which threads it found.
use Rattle.std.specs.Prelude.{List, [], ◌∷◌, Option, Some, None, Result, Ok, Err}
use Rattle.omi_model.specs.declared.view.ThreadPart.{ThreadPart}
use Rattle.omi_model.specs.declared.view.ThreadRow.{ThreadRow}
use Rattle.omi_walk.specs.declared.fault.WalkFault.{WalkFault}
use Rattle.omi_walk.specs.declared.found.Found.{Found}
use Rattle.omi_walk.specs.declared.met.Met.{Met}
use Rattle.omi_walk.specs.declared.thread_rows.SeenThreads.{SeenThreads}

abbrev pub rows_seen : Result SeenThreads WalkFault → Result (List ThreadRow) WalkFault
rows_seen (Ok seen) = Ok seen.rows
rows_seen (Err fault) = Err fault

-- the thread of one row, where one was found, with its current task
abbrev pub found_in : Option ThreadPart → Option Met → List Found
found_in (Some part) current = record { thread = part.thread; current = current } ∷ []
found_in None current = []
