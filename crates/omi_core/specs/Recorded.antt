-- A run of which nothing is kept but its words, the number of its steps, and what a recorder keeps of its events.
use Rattle.std.specs.Prelude.{◌≡◌, ℕ, List, length, Ok}
use Rattle.omi_model.specs.declared.event.Event.{Event}
use Rattle.omi_script.specs.declared.program.Program.{Program}
use Rattle.omi_core.specs.declared.schedule.Schedule.{Schedule}
use Rattle.omi_core.specs.declared.stop.End.{End}
use Rattle.omi_core.specs.declared.stop.Stop.{Stop}
use Rattle.omi_core.specs.Histories.{HasHistory}
use Rattle.omi_core.specs.Runs.{IsOpening, Run}
use Rattle.omi_core.specs.ScheduledRuns.{IsRunBy}

-- From the opening of a program in a layout, steps of a schedule led to a run with these words and so many steps, which ended so, and
-- what is recorded tells of its events
pub record IsRecorded (p : Program) (w : List ℕ) (how : Schedule) (stop : Stop)
    (tells : List (ℕ × ℕ × Event) → Type 0) (words : List ℕ) (steps : ℕ) (why : End)
    : Type 0 where
  pub first : Run
  pub last : Run
  pub opens : IsOpening p w first
  pub run : IsRunBy first how stop (Ok why) last
  pub history : HasHistory last
  pub words_are : words ≡ last.words
  pub steps_are : steps ≡ length last.made.items
  pub told : tells last.events.items
