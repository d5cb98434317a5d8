-- What a run of threads with stops leaves: the run as it is without them, and of each stop the words of one moment of it.
use Rattle.std.specs.Prelude.{◌≡◌, ◌≢◌, ◌≤◌, ℕ, ◌+◌, List, [], ◌∷◌, length, map, take, Some, None, slice_get}
use Rattle.omi_script.specs.declared.program.Program.{Program}
use Rattle.omi_model.specs.Reached.{Reached}
use Rattle.omi_model.specs.State.{State}
use Rattle.omi_layout.specs.declared.layout.Layout.{Layout}
use Rattle.omi_layout.specs.Given.{HasTables}
use Rattle.omi_layout.specs.Memory.{memory_of}
use Rattle.omi_word.specs.Words.{words_of}
use Rattle.omi_pc.specs.declared.actor.Actor.{Actor}
use Rattle.omi_pc.specs.Opening.{opening_actor}
use Rattle.omi_rep.specs.Shows.{Shows}
use Rattle.omi_rule.specs.Rule.{Rule}
use Rattle.omi_core.specs.declared.entry.Entry.{Entry}
use Rattle.omi_core.specs.declared.thread_run.ThreadRun.{ThreadRun}
use Rattle.omi_core.specs.declared.thread_run.Until.TheVariants as until
use Rattle.omi_core.specs.Histories.{Counts}
use Rattle.omi_core.specs.Runs.{actors_in, events_in}
use Rattle.omi_core.specs.RunSteps.{made_of}
use Rattle.omi_core.specs.Steps.{AreStepsOf, events_behind, steps_of}
use Rattle.omi_core.specs.Found.{MakeNext, actor_behind, found_by}
use Rattle.omi_seat.specs.Known.{own_steps}
use Rattle.omi_seat.specs.Stops.{IsUntil, WentOn}
use Rattle.omi_park.specs.declared.stopped.Stopped.{Stopped}

-- ---- stops

-- A stop behind these steps of all threads: its words are those that the steps lead to and show the state that their events reach, and its
-- numbers are those of each thread's steps
pub record IsStop (p : Program) (l : Layout) (entries : List (ℕ × Entry)) (stop : Stopped) : Type 0 where
  pub state : State
  pub steps : AreStepsOf p l.table entries stop.image state
  pub reached : Reached p (events_in (events_behind 0 entries)) state
  pub tables : HasTables l.table stop.image
  pub shows : Shows l.table (words_of stop.image) state
  pub threads : length stop.steps ≡ p.threads
  pub counts : (i n : ℕ) → slice_get stop.steps i ≡ Some n → n ≡ length (steps_of i entries)

-- of each thread the first so many of these steps have the first of its own, as many as the stop's number
abbrev pub TakesFirst : List (ℕ × Entry) → ℕ → Stopped → Type 0
TakesFirst entries at stop = (i n : ℕ) → slice_get stop.steps i ≡ Some n
    → steps_of i (take at entries) ≡ take n (steps_of i entries)

-- Stops in turn among these steps, none before so many of them: each stands behind the first steps, as many as the one before it or more
abbrev pub AreStops : Program → Layout → ℕ → List (ℕ × Entry) → List Stopped → Type 0
AreStops p l from entries [] = Unit {0}
AreStops p l from entries (stop ∷ stops) = (at : ℕ) × (from ≤ at) × (at ≤ length entries)
    × IsStop p l (take at entries) stop × TakesFirst entries at stop
    × AreStops p l at entries stops

-- no thread's number falls from a stop to the next one
abbrev pub NeverFall : List Stopped → Type 0
NeverFall stops = (j i n m : ℕ) (stop next : Stopped) → slice_get stops j ≡ Some stop
    → slice_get stops (j + 1) ≡ Some next → slice_get stop.steps i ≡ Some n
    → slice_get next.steps i ≡ Some m → n ≤ m

-- and none passes that of the thread's end
abbrev pub NonePasses : List Stopped → List ThreadRun → Type 0
NonePasses stops runs = (j i n : ℕ) (stop : Stopped) (run : ThreadRun) → slice_get stops j ≡ Some stop
    → slice_get stop.steps i ≡ Some n → slice_get runs i ≡ Some run → n ≤ run.steps

-- ---- the run

-- what a thread keeps of its steps, numbered by themselves, and why it made no further one: each step is the one that the thread
-- makes next, and `done` is the last of them. No thread is stopped for good
pub record IsRunOf (p : Program) (l : Layout) (budget thread : ℕ) (es : List Entry) (r : ThreadRun)
    : Type 0 where
  pub follow : MakeNext p l.table thread es
  pub steps : r.steps ≡ length es
  pub made : r.made.items ≡ map (made_of thread) es
  pub events : r.events.items ≡ events_behind 0 (own_steps thread es)
  pub actor : r.actor ≡ actor_behind p l.table (opening_actor p thread) (found_by es)
  pub most : length es ≤ budget
  pub went_on : WentOn None es
  pub reason : IsUntil budget es r.until
  pub never : r.until ≢ until.Stopped

-- the actors that the threads have behind their runs
abbrev pub actors_left : List ThreadRun → ℕ → Actor
actors_left runs = actors_in (map (λ r. r.actor) runs)

-- These words and threads are those of a list of steps in some order, which holds of each thread exactly its own steps in their order.
-- The rule holds of them, of the actors that are left, and of the state that the events reach in that order. The words begin with the
-- tables of the layout, show this state, and count its arrivals and releases. Each stop is one of a beginning of this list
pub record IsParked (p : Program) (l : Layout) (budget : ℕ) (words : List ℕ) (runs : List ThreadRun)
    (stops : List Stopped) : Type 0 where
  pub entries : List (ℕ × Entry)
  pub state : State
  pub steps : AreStepsOf p l.table entries words state
  pub reached : Reached p (events_in (events_behind 0 entries)) state
  pub rule : Rule p l.table (memory_of l.table words) (events_in (events_behind 0 entries)) state
      (actors_left runs)
  pub tables : HasTables l.table words
  pub shows : Shows l.table (words_of words) state
  pub counts : Counts l.table words state
  pub threads : length runs ≡ p.threads
  pub each : (i : ℕ) (r : ThreadRun) → slice_get runs i ≡ Some r
      → IsRunOf p l budget i (steps_of i entries) r
  pub are : AreStops p l 0 entries stops
  pub rising : NeverFall stops
  pub within : NonePasses stops runs
