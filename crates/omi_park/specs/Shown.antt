-- What is printed of a run of threads with stops.
use Rattle.std.specs.Prelude.{◌≡◌, ◌≤◌, ◌==◌, ℕ, ◌+◌, List, [], ◌∷◌, ◌++◌, length, take, nat_le, slice_get, Ok, Some, if◌then◌else◌}
use Rattle.omi_script.specs.declared.program.Program.{Program}
use Rattle.omi_model.specs.Views.{IsViewOf}
use Rattle.omi_model.specs.declared.event.Event.{Event}
use Rattle.omi_model.specs.declared.id.Tid.{Tid}
use Rattle.omi_model.specs.declared.view.View.{View}
use Rattle.omi_layout.specs.Family.{IsFamily}
use Rattle.omi_layout.specs.declared.layout.Layout.{Layout}
use Rattle.omi_word.specs.Words.{words_of}
use Rattle.omi_core.specs.declared.entry.Entry.{Entry}
use Rattle.omi_core.specs.declared.thread_run.ThreadRun.{ThreadRun}
use Rattle.omi_core.specs.Runs.{events_in}
use Rattle.omi_core.specs.Steps.{events_behind}
use Rattle.omi_commands.specs.Cores.{thread_ids}
use Rattle.omi_commands.specs.Fates.{look_fates}
use Rattle.omi_commands.specs.RunLines.{live_text}
use Rattle.omi_walk.specs.Kept.{task_names}
use Rattle.omi_park.specs.Lines.{stop_text}
use Rattle.omi_park.specs.Parked.{IsParked, IsStop, TakesFirst}
use Rattle.omi_park.specs.declared.command.ParkPlan.{ParkPlan}
use Rattle.omi_park.specs.declared.stopped.Stopped.{Stopped}

-- the events of a thread among these, in their order
abbrev pub events_of : ℕ → List (ℕ × Event) → List Event
events_of i [] = []
events_of i (x ∷ xs) = if x.0 == i then x.1 ∷ events_of i xs else events_of i xs

-- the events that have a number of at most n
abbrev pub numbered_to : ℕ → List (ℕ × ℕ × Event) → List Event
numbered_to n [] = []
numbered_to n (x ∷ xs) = if nat_le x.0 n then x.2 ∷ numbered_to n xs else numbered_to n xs

-- these events take of each thread exactly those that are printed of it with a number of at most its number at the stop, in its own order
abbrev pub TakesPrinted : List ThreadRun → Stopped → List (ℕ × Event) → Type 0
TakesPrinted runs stop events = (i n : ℕ) (r : ThreadRun) → slice_get stop.steps i ≡ Some n
    → slice_get runs i ≡ Some r → events_of i events ≡ numbered_to n r.events.items

-- What is printed of a stop, among these steps and behind the first `from` of them or more: its number; how many steps each thread had
-- made; the report of the state that the words of the stop show, for the contexts of all threads; and what became of the tasks of the report before, by a look at these words: each is current where the life word of its record
-- is still the one that it had. The events of the first steps reach this state, and are of each thread the printed ones up to there
pub record IsStopShown (p : Program) (l : Layout) (entries : List (ℕ × Entry)) (runs : List ThreadRun)
    (from number : ℕ) (names : List Tid) (stop : Stopped) (text : List ℕ) : Type 0 where
  pub at : ℕ
  pub behind : from ≤ at
  pub within : at ≤ length entries
  pub stands : IsStop p l (take at entries) stop
  pub first : TakesFirst entries at stop
  pub takes : TakesPrinted runs stop (events_in (events_behind 0 (take at entries)))
  pub view : View
  pub of_state : IsViewOf stands.state (thread_ids p.threads) view
  pub fates : List ℕ
  pub asked : look_fates l.table (words_of stop.image) names ≡ Ok fates
  pub is : text ≡ stop_text number stop.steps view fates

-- and of stops in turn, from one of a number on
abbrev pub AreStopsShown : Program → Layout → List (ℕ × Entry) → List ThreadRun → ℕ → ℕ → List Tid
    → List Stopped → List ℕ → Type 0
AreStopsShown p l entries runs from number names [] text = text ≡ []
AreStopsShown p l entries runs from number names (stop ∷ stops) text =
    (first : List ℕ) × (rest : List ℕ) × (text ≡ first ++ rest)
    × (here : IsStopShown p l entries runs from number names stop first)
    × AreStopsShown p l entries runs here.at (number + 1) (task_names here.view) stops rest

-- There is a run of the program's threads in the layout of family 0 with as many stops as the plan has. What is printed is of each stop in
-- turn, and then each thread's number of steps and its events, and the end line. Each stop stands among the steps of the run
pub record IsParkRun (p : Program) (plan : ParkPlan) (text : List ℕ) : Type 0 where
  pub layout : Layout
  pub family : IsFamily 0 p.threads layout.table
  pub words : List ℕ
  pub runs : List ThreadRun
  pub stops : List Stopped
  pub parked : IsParked p layout plan.budget words runs stops
  pub many : length stops ≡ plan.stops
  pub above : List ℕ
  pub shown : AreStopsShown p layout parked.entries runs 0 1 [] stops above
  pub is : text ≡ above ++ live_text runs plan.budget
