-- A run whose every event is legal.
use Rattle.omi_model.specs.Reached.{Reached}
use Rattle.omi_model.specs.State.{State}
use Rattle.omi_model.specs.WorkedRun.{run_events, run_program}

abbrev pub RunIsLegal : Type 0
RunIsLegal = (s : State) × Reached run_program run_events s
