-- The rule of the table of words, between any two steps of any threads: its words are those of a run and one word more, the stop word,
-- and what a seat knows of a thread is what the thread made in this run.
use Rattle.std.specs.Prelude.{◌≡◌, ◌⊎◌, ℕ, true, List, [], ◌∷◌, Option}
use Rattle.atomic_table.specs.Table.{State}
use Rattle.omi_script.specs.declared.program.Program.{Program}
use Rattle.omi_layout.specs.declared.layout.Layout.{Layout}
use Rattle.omi_layout.specs.OpeningWords.{AreOpening}
use Rattle.omi_pc.specs.declared.actor.Actor.{Actor}
use Rattle.omi_core.specs.declared.entry.Entry.{Entry}
use Rattle.omi_core.specs.declared.stop.Break.{Break}
use Rattle.omi_core.specs.Steps.{steps_of}
use Rattle.omi_seat.specs.Behind.{HasRun}
use Rattle.omi_seat.specs.Known.{IsKnown}
use Rattle.omi_seat.specs.Seats.{AreSeated}
use Rattle.omi_live.specs.declared.known.Access.{Access}
use Rattle.omi_live.specs.declared.known.Part.{Part}
use Rattle.omi_seat.specs.Stops.{some_stop}
use Rattle.omi_live.specs.Accesses.{AreAccesses, accesses_of}

-- the thread of a part
abbrev pub thread_of : Part → ℕ
thread_of x = x.known.thread

-- what is known of a thread is what it made, and who was told to stop finds the stop word raised
pub record IsPart (p : Program) (l : Layout) (entries : List (ℕ × Entry))
    (accesses : List (ℕ × Access)) (actors : List Actor) (stop : ℕ) (x : Part) : Type 0 where
  pub known : IsKnown p l entries actors x.known
  pub told : x.told ≡ true → stop ≡ 1
  pub did : accesses_of (thread_of x) accesses ≡ x.accesses

-- the stop word is raised only where some thread committed an event at which the run is to stop
abbrev pub IsRaised : Option Break → List (ℕ × Entry) → Type 0
IsRaised on entries = (i : ℕ) × (some_stop on (steps_of i entries) ≡ true)

abbrev pub IsStopWord : Option Break → List (ℕ × Entry) → ℕ → Type 0
IsStopWord on entries stop = (stop ≡ 0) ⊎ ((stop ≡ 1) × IsRaised on entries)

pub record Keeps (p : Program) (l : Layout) (on : Option Break)
    (s : State (Unit {0}) (List Part)) : Type 0 where
  pub stop : ℕ
  pub behind : HasRun p l s.words (stop ∷ [])
  pub raised : IsStopWord on behind.keeps.entries stop
  pub first : List ℕ
  pub opens : AreOpening p l.table first
  pub accesses : List (ℕ × Access)
  pub made : AreAccesses p l.table behind.keeps.entries accesses first s.words
  pub seats : AreSeated thread_of
      (IsPart p l behind.keeps.entries accesses behind.run.actors stop) s.views
