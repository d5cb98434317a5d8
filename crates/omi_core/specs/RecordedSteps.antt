-- The steps of a run of which steps and events are not kept. No public clause cites this.
use Rattle.std.specs.Prelude.{◌≡◌, ℕ, ◌+◌, List, length}
use Rattle.omi_model.specs.declared.id.Tid.{Tid}
use Rattle.omi_model.specs.declared.event.Event.{Event}
use Rattle.omi_run_lists.specs.Events.{Events}
use Rattle.omi_run_lists.specs.Steps.{Steps}
use Rattle.omi_step_words.specs.declared.outcomes.CompactOutcome.{CompactOutcome}
use Rattle.omi_step_words.specs.Outcomes.{outcome_with}
use Rattle.omi_core.specs.declared.entry.Entry.{Entry}
use Rattle.omi_core.specs.declared.machine.Machine.{Machine}
use Rattle.omi_core.specs.Kept.{KeepsRun}
use Rattle.omi_core.specs.RunSteps.{IsStep}
use Rattle.omi_core.specs.Runs.{IsOpening, Run}

-- the run with these parts, events and steps
abbrev pub run_with : Machine → Events → Steps → Run
run_with m events made = record {
  program = m.program;
  table = m.layout.table;
  words = m.image;
  actors = m.actors.items;
  events = events;
  made = made;
}

-- these are the parts of a run of so many steps
pub record IsAt (m : Machine) (steps : ℕ) (a : Run) : Type 0 where
  pub parts : run_with m a.events a.made ≡ a
  pub keeps : KeepsRun a
  pub count : length a.made.items ≡ steps

-- a step of a thread of a run, whose outcome this is but for a team, leads to a run with these parts, of whose events is told
pub record IsStepOn (a : Run) (i steps : ℕ) (m : Machine)
    (tells : List (ℕ × ℕ × Event) → Type 0) (outcome : CompactOutcome) : Type 0 where
  pub entry : Entry
  pub next : Run
  pub step : IsStep a i entry next
  pub team : List (Tid × ℕ)
  pub outcome_is : entry.outcome ≡ outcome_with team outcome
  pub at : IsAt m (steps + 1) next
  pub told : tells next.events.items

-- these are the parts of a run before its first step
pub record IsOpened (m : Machine) : Type 0 where
  pub first : Run
  pub opens : IsOpening m.program m.layout.table first
  pub at : IsAt m 0 first
