-- What a run is by its steps: each is the one that its thread makes next, they lead from the opening words to its words, with its events,
-- and its words show the state that these events reach, and count its arrivals and releases.
use Rattle.std.specs.Prelude.{◌≡◌, ℕ, List, sum}
use Rattle.omi_model.specs.declared.id.Rid.{Rid}
use Rattle.omi_model.specs.Reached.{Reached}
use Rattle.omi_model.specs.State.{State}
use Rattle.omi_model.specs.Visible.{IsVisibleRegion}
use Rattle.omi_layout.specs.declared.field.Field.TheVariants.{RegionArrived, RegionReleased}
use Rattle.omi_layout.specs.Field.{regions}
use Rattle.omi_layout.specs.Given.{HasTables}
use Rattle.omi_word.specs.Words.{words_of}
use Rattle.omi_rep.specs.Records.{Seen, records_of}
use Rattle.omi_rep.specs.Shows.{Shows, Stands}
use Rattle.omi_core.specs.declared.entry.Entry.{Entry}
use Rattle.omi_core.specs.Found.{MakeNext}
use Rattle.omi_core.specs.Runs.{Run, events_in}
use Rattle.omi_core.specs.Steps.{AreStepsOf, events_behind, made_of_steps, steps_of}

-- a run is what these steps make: its words, its numbered events and the steps that it keeps. Its events reach this state
pub record IsMadeBy (a : Run) (xs : List (ℕ × Entry)) (s : State) : Type 0 where
  pub steps : AreStepsOf a.program a.table xs a.words s
  pub events : a.events.items ≡ events_behind 0 xs
  pub made : a.made.items ≡ made_of_steps xs

-- the record of a region
abbrev pub record_of : List ℕ → List ℕ → Rid → Seen
record_of w words n = records_of w (words_of words) n.0.creator regions n.0.slot

-- the words that count arrivals and releases of a visible region have the state's counts
abbrev pub Counts : List ℕ → List ℕ → State → Type 0
Counts w words s = (n : Rid) → (seen : IsVisibleRegion s n)
    → Stands (record_of w words n) RegionArrived 0 (sum seen.region.arrivals)
    × Stands (record_of w words n) RegionReleased 0 seen.region.released

-- these steps and this state are those of a run, whose words begin with the tables of its layout. Each step is the one that its thread
-- makes next
pub record IsHistory (a : Run) (xs : List (ℕ × Entry)) (s : State) : Type 0 where
  pub made_by : IsMadeBy a xs s
  pub follow : (i : ℕ) → MakeNext a.program a.table i (steps_of i xs)
  pub tables : HasTables a.table a.words
  pub reached : Reached a.program (events_in a.events.items) s
  pub shows : Shows a.table (words_of a.words) s
  pub counts : Counts a.table a.words s

-- each run has some
abbrev pub HasHistory : Run → Type 0
HasHistory a = (xs : List (ℕ × Entry)) × (s : State) × IsHistory a xs s
