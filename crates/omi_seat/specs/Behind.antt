-- The run behind the words of a table, between any two steps of any threads: the words are those of a run of omi_core, and some words more.
use Rattle.std.specs.Prelude.{◌≡◌, ◌<◌, ◌≤◌, ◌++◌, ℕ, List, length}
use Rattle.omi_word.specs.declared.limits.TheConstants.{FIRST_ADDRESS}
use Rattle.omi_word.specs.Memory.{address_of, place_of}
use Rattle.omi_script.specs.declared.program.Program.{Program}
use Rattle.omi_layout.specs.declared.layout.Layout.{Layout}
use Rattle.omi_layout.specs.Place.{image_words}
use Rattle.omi_pc.specs.declared.actor.Actor.{Actor}
use Rattle.omi_pc.specs.Fits.{Fits}
use Rattle.omi_step_words.specs.Placed.{HasGroupWords, IsPlaced}
use Rattle.omi_actor.specs.Steps.{next_of}
use Rattle.omi_core.specs.Kept.{KeepsRun}
use Rattle.omi_core.specs.Runs.{Run}
use Rattle.omi_core.specs.Steps.{steps_of}
use Rattle.omi_seat.specs.declared.limits.TheConstants.{MOST_BUDGET}

-- These words are those of a run of the program in the layout, which keeps what such a run keeps and in which no thread made more steps than
-- a budget may have, and behind them these others
pub record HasRun (p : Program) (l : Layout) (words others : List ℕ) : Type 0 where
  pub run : Run
  pub keeps : KeepsRun run
  pub program : run.program ≡ p
  pub table : run.table ≡ l.table
  pub are : words ≡ run.words ++ others
  pub few : (i : ℕ) → length (steps_of i keeps.entries) ≤ MOST_BUDGET

-- an actor may make its next step: what its operation and its outcome ask for
pub record CanStep (p : Program) (w : List ℕ) (a : Actor) : Type 0 where
  pub fits : Fits p a
  pub placed : IsPlaced w a
  pub groups : HasGroupWords w
  pub above : FIRST_ADDRESS ≤ address_of (next_of p w a)
  pub inside : place_of (address_of (next_of p w a)) < image_words w
