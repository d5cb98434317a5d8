-- What a run keeps between any two steps: it is what its steps made of the opening words, and it keeps the rule.
use Rattle.std.specs.Prelude.{◌≡◌, ◌≤◌, ◌<◌, ℕ, List, [], ◌∷◌, length}
use Rattle.omi_script.specs.declared.program.Program.{Program}
use Rattle.omi_model.specs.State.{State}
use Rattle.omi_layout.specs.Given.{HasTables}
use Rattle.omi_layout.specs.Memory.{memory_of}
use Rattle.omi_layout.specs.Place.{image_words}
use Rattle.omi_layout.specs.Valid.{IsValid}
use Rattle.omi_pc.specs.declared.actor.Actor.{Actor}
use Rattle.omi_pc.specs.declared.counter.Counter.{Counter}
use Rattle.omi_pc.specs.declared.counter.Counter.TheVariants as counter
use Rattle.omi_pc.specs.declared.team_counter.WorkerCounter.TheVariants as worker
use Rattle.omi_pc.specs.Opening.{opening_actor}
use Rattle.omi_rep.specs.Suits.{Suits}
use Rattle.omi_rule.specs.Rule.{Rule}
use Rattle.omi_rule_watch.specs.Given.{IsGiven}
use Rattle.omi_core.specs.declared.entry.Entry.{Entry}
use Rattle.omi_core.specs.Found.{MakeNext, actor_behind, found_by}
use Rattle.omi_core.specs.Runs.{Run, actors_in, events_in}
use Rattle.omi_core.specs.Histories.{IsMadeBy}
use Rattle.omi_core.specs.Steps.{StartsAsWorker, steps_of}

-- a worker that made these steps stands at this counter: at its first two steps, or behind them
abbrev pub IsUnderWay : List Entry → Counter → Type 0
IsUnderWay [] c = c ≡ counter.Worker worker.Begin
IsUnderWay (e ∷ []) c = StartsAsWorker (e ∷ []) × (c ≡ counter.Worker worker.Offer)
IsUnderWay (e ∷ f ∷ es) c = StartsAsWorker (e ∷ f ∷ es)

-- a thread that made these steps, each the one that it makes next, has this actor
pub record IsBehind (p : Program) (w : List ℕ) (thread : ℕ) (es : List Entry) (a : Actor)
    : Type 0 where
  pub follow : MakeNext p w thread es
  pub actor : a ≡ actor_behind p w (opening_actor p thread) (found_by es)

-- what a run of this crate keeps
pub record KeepsRun (a : Run) : Type 0 where
  pub state : State
  pub valid : IsValid a.table
  pub suits : Suits a.program a.table
  pub count : length a.words ≡ image_words a.table
  pub tables : HasTables a.table a.words
  pub actors : length a.actors ≡ a.program.threads
  pub few : length a.events.items ≤ length a.made.items
  pub rule : Rule a.program a.table (memory_of a.table a.words) (events_in a.events.items) state
      (actors_in a.actors)
  pub entries : List (ℕ × Entry)
  pub made_by : IsMadeBy a entries state
  pub behind : (i : ℕ) → IsBehind a.program a.table i (steps_of i entries) (actors_in a.actors i)
  pub workers : (i : ℕ) → 0 < i → IsUnderWay (steps_of i entries) (actors_in a.actors i).counter
  pub watched : (i : ℕ) → IsGiven a.program (actors_in a.actors i) (made_by.steps.watches i)
