-- What a run of threads makes: the words that one order of all their steps leaves, and of each thread its own part of it.
use Rattle.std.specs.Prelude.{◌≡◌, ◌≤◌, ◌++◌, ℕ, List, [], ◌∷◌, length, map, Option, Some, slice_get, true}
use Rattle.omi_script.specs.declared.program.Program.{Program}
use Rattle.omi_model.specs.Reached.{Reached}
use Rattle.omi_model.specs.State.{State}
use Rattle.omi_layout.specs.declared.layout.Layout.{Layout}
use Rattle.omi_layout.specs.Given.{HasTables}
use Rattle.omi_layout.specs.Memory.{memory_of}
use Rattle.omi_word.specs.Words.{words_of}
use Rattle.omi_pc.specs.declared.actor.Actor.{Actor}
use Rattle.omi_pc.specs.Opening.{opening_actor}
use Rattle.omi_rep.specs.Shows.{Shows}
use Rattle.omi_rule.specs.Rule.{Rule}
use Rattle.omi_core.specs.declared.entry.Entry.{Entry}
use Rattle.omi_core.specs.declared.stop.Break.{Break}
use Rattle.omi_core.specs.declared.thread_run.ThreadRun.{ThreadRun}
use Rattle.omi_core.specs.declared.thread_run.Until.TheVariants as until
use Rattle.omi_core.specs.Histories.{Counts}
use Rattle.omi_core.specs.Runs.{actors_in, events_in}
use Rattle.omi_core.specs.RunSteps.{made_of}
use Rattle.omi_core.specs.Steps.{AreStepsOf, events_behind, steps_of}
use Rattle.omi_core.specs.Found.{MakeNext, actor_behind, found_by}
use Rattle.omi_seat.specs.Known.{own_steps}
use Rattle.omi_live.specs.declared.known.Access.{Access}
use Rattle.omi_seat.specs.Stops.{IsUntil, WentOn, some_stop}
use Rattle.omi_live.specs.Accesses.{AreAccesses, accesses_of, last_look, with_looks}

-- what a thread keeps of its steps, numbered by themselves, and why it made no further one: each step is the one that the thread
-- makes next, and an event at which the run is to stop, and `done`, are the last of them. It looked at the stop word before each step, and
-- found it raised exactly where it was stopped, by its last access; it raised it exactly behind an event at which the run is to stop
pub record IsRunOf (p : Program) (l : Layout) (budget : ℕ) (on : Option Break) (thread : ℕ)
    (es : List Entry) (accesses : List Access) (r : ThreadRun) : Type 0 where
  pub follow : MakeNext p l.table thread es
  pub steps : r.steps ≡ length es
  pub made : r.made.items ≡ map (made_of thread) es
  pub events : r.events.items ≡ events_behind 0 (own_steps thread es)
  pub actor : r.actor ≡ actor_behind p l.table (opening_actor p thread) (found_by es)
  pub most : length es ≤ budget
  pub went_on : WentOn on es
  pub reason : IsUntil budget es r.until
  pub did : accesses ≡ with_looks on es ++ last_look r.until

-- the actors that the threads have behind their runs
abbrev pub actors_left : List ThreadRun → ℕ → Actor
actors_left runs = actors_in (map (λ r. r.actor) runs)

-- These words and threads are those of a list of steps in some order, which holds of each thread exactly its own steps in their order.
-- The rule holds of them, of the actors that are left, and of the state that the events reach in that order. The words begin with the
-- tables of the layout, show this state, and count its arrivals and releases. Between the steps stand the loads and stores of the stop
-- word, behind the words of the image, and each finds what those before it left
pub record IsLive (p : Program) (l : Layout) (budget : ℕ) (on : Option Break) (words : List ℕ)
    (runs : List ThreadRun) : Type 0 where
  pub entries : List (ℕ × Entry)
  pub state : State
  pub steps : AreStepsOf p l.table entries words state
  pub reached : Reached p (events_in (events_behind 0 entries)) state
  pub rule : Rule p l.table (memory_of l.table words) (events_in (events_behind 0 entries)) state
      (actors_left runs)
  pub tables : HasTables l.table words
  pub shows : Shows l.table (words_of words) state
  pub counts : Counts l.table words state
  pub threads : length runs ≡ p.threads
  pub accesses : List (ℕ × Access)
  pub stop : ℕ
  pub made : AreAccesses p l.table entries accesses steps.first (words ++ stop ∷ [])
  pub each : (i : ℕ) (r : ThreadRun) → slice_get runs i ≡ Some r
      → IsRunOf p l budget on i (steps_of i entries) (accesses_of i accesses) r
  -- a thread is stopped only where some thread committed an event at which the run is to stop
  pub stopped : (i : ℕ) (r : ThreadRun) → slice_get runs i ≡ Some r → r.until ≡ until.Stopped
      → (j : ℕ) × (some_stop on (steps_of j entries) ≡ true)
