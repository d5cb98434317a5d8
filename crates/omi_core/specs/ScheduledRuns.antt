-- A run by a schedule: it adds steps of exactly the schedule's threads, in order, and ends where it is to.
use Rattle.std.specs.Prelude.{◌≡◌, ◌≤◌, ℕ, ◌++◌, List, length, map, Result, MatchResult}
use Rattle.std.specs.declared.alloc.AllocError.{AllocError}
use Rattle.omi_model.specs.declared.event.Event.{Event}
use Rattle.omi_run_lists.specs.declared.made.Made.{Made}
use Rattle.omi_core.specs.declared.schedule.Schedule.{Schedule}
use Rattle.omi_core.specs.declared.stop.End.{End}
use Rattle.omi_core.specs.declared.stop.Stop.{Stop}
use Rattle.omi_core.specs.Ends.{GoesOn, IsEnded}
use Rattle.omi_core.specs.Runs.{Run}
use Rattle.omi_core.specs.Schedules.{threads_by}

-- to one run these steps and events are added, and the steps are the schedule's first ones
pub record Adds (old : Run) (how : Schedule) (stop : Stop) (new : Run) : Type 0 where
  pub program : new.program ≡ old.program
  pub table : new.table ≡ old.table
  pub made : List Made
  pub made_are : new.made.items ≡ old.made.items ++ made
  pub threads : map (λ m. m.thread) made ≡ threads_by how old.program.threads (length made)
  pub within : length made ≤ stop.steps
  pub events : List (ℕ × ℕ × Event)
  pub events_are : new.events.items ≡ old.events.items ++ events

-- a run ends so; and where memory was wanting it stands behind the steps that it made
abbrev pub IsRunBy : Run → Schedule → Stop → Result End AllocError → Run → Type 0
IsRunBy old how stop result new = (added : Adds old how stop new)
    × MatchResult result
    (λ why. IsEnded stop (length added.made) (length new.made.items) added.events why)
    (λ none. GoesOn stop added.events)
