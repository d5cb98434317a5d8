-- A run: a program in a layout, the words of its image, an actor for each thread, and the steps and events so far.
use Rattle.std.specs.Prelude.{◌≡◌, ◌<◌, ℕ, ◌-◌, ◌/◌, List, [], length, map, min, slice_index_or}
use Rattle.omi_script.specs.declared.program.Program.{Program}
use Rattle.omi_model.specs.declared.event.Event.{Event}
use Rattle.omi_run_lists.specs.Events.{Events}
use Rattle.omi_run_lists.specs.Steps.{Steps}
use Rattle.omi_layout.specs.OpeningWords.{AreOpening}
use Rattle.omi_pc.specs.declared.actor.Actor.{Actor}
use Rattle.omi_pc.specs.Opening.{opening_actor, waiting_actor}
use Rattle.omi_core.specs.declared.limits.TheConstants.{MOST_STEPS}

pub record Run : Type 0 where
  pub program : Program
  -- the layout, as the words of its table
  pub table : List ℕ
  pub words : List ℕ
  pub actors : List Actor
  -- the committed events, each with the number of its step and its thread
  pub events : Events
  -- the steps that were made
  pub made : Steps

-- the actor of a thread
abbrev pub actors_in : List Actor → ℕ → Actor
actors_in actors thread = slice_index_or actors thread (waiting_actor thread)

-- the events with their threads, as the machine takes them
abbrev pub events_in : List (ℕ × ℕ × Event) → List (ℕ × Event)
events_in items = map (λ e. (e.1, e.2)) items

-- each thread has the actor with which it starts
pub record AreOpeningActors (p : Program) (actors : List Actor) : Type 0 where
  pub count : length actors ≡ p.threads
  pub each : (thread : ℕ) → thread < p.threads → actors_in actors thread ≡ opening_actor p thread

-- a run before its first step
pub record IsOpening (p : Program) (w : List ℕ) (a : Run) : Type 0 where
  pub program : a.program ≡ p
  pub table : a.table ≡ w
  pub words : AreOpening p w a.words
  pub actors : AreOpeningActors p a.actors
  pub events : a.events.items ≡ []
  pub made : a.made.items ≡ []

-- the same run, with other room
pub record IsSameRun (a b : Run) : Type 0 where
  pub program : b.program ≡ a.program
  pub table : b.table ≡ a.table
  pub words : b.words ≡ a.words
  pub actors : b.actors ≡ a.actors
  pub events : b.events.items ≡ a.events.items
  pub made : b.made.items ≡ a.made.items

-- So many more steps take no memory: each has room for itself and for an event with a team of all threads. No run is longer than
-- MOST_STEPS
abbrev pub spare_in : Run → ℕ
spare_in a =
    min (min a.made.spare a.events.spare)
    (min (a.events.seats / a.program.threads) (MOST_STEPS - length a.made.items))
