-- A run that goes back and forward: the furthest run, whose list of steps holds all operations, the words with which it opened, and the
-- step behind which the image stands.
use Rattle.std.specs.Prelude.{◌≡◌, ◌≤◌, ◌++◌, ℕ, List, [], ◌∷◌, filter, find, IfSome, length, map, nat_le, Option, take}
use Rattle.std.specs.List.{AllByRecursion}
use Rattle.std.specs.Option.{option_map}
use Rattle.omi_script.specs.declared.program.Program.{Program}
use Rattle.omi_word.specs.Memory.{words_after}
use Rattle.omi_word.specs.Words.{words_of}
use Rattle.omi_model.specs.declared.event.Event.{Event}
use Rattle.omi_model.specs.Reached.{Reached}
use Rattle.omi_model.specs.State.{State}
use Rattle.omi_run_lists.specs.declared.made.Made.{Made}
use Rattle.omi_layout.specs.OpeningWords.{AreOpening}
use Rattle.omi_rep.specs.Shows.{Shows}
use Rattle.omi_core.specs.declared.schedule.Schedule.{Schedule}
use Rattle.omi_core.specs.Ends.{is_done}
use Rattle.omi_core.specs.Histories.{HasHistory}
use Rattle.omi_core.specs.Runs.{IsOpening, IsSameRun, Run, events_in}
use Rattle.omi_core.specs.Schedules.{threads_by}

pub record Rewound : Type 0 where
  -- all that was made so far
  pub run : Run
  -- which thread makes each step
  pub how : Schedule
  -- the opening words
  pub first : List ℕ
  -- the image stands behind so many steps
  pub at : ℕ
  -- so many copies of the words are kept
  pub copies : ℕ

-- ---- words

-- the words behind steps that begin at these words
abbrev pub words_behind : List ℕ → List Made → List ℕ
words_behind words [] = words
words_behind words (m ∷ ms) = words_behind (words_after words m.op) ms

-- the words behind the first n steps
abbrev pub words_at : Rewound → ℕ → List ℕ
words_at a n = words_behind a.first (take n a.run.made.items)

-- the image's words
abbrev pub image_of : Rewound → List ℕ
image_of a = words_at a a.at

-- the number of steps that were made
abbrev pub steps_in : Rewound → ℕ
steps_in a = length a.run.made.items

-- ---- events

-- the events of the first n steps
abbrev pub events_until : ℕ → List (ℕ × ℕ × Event) → List (ℕ × ℕ × Event)
events_until n events = filter (λ (e : ℕ × ℕ × Event). nat_le e.0 n) events

-- the step that committed `done`, where it was committed
abbrev pub done_in : List (ℕ × ℕ × Event) → Option ℕ
done_in events = option_map (λ (e : ℕ × ℕ × Event). e.0) (find (λ (e : ℕ × ℕ × Event). is_done e.2) events)

-- ---- what holds of each rewind

-- the words behind the first n steps show the state that the events of these steps reach
pub record ShowsReached (a : Rewound) (n : ℕ) : Type 0 where
  pub state : State
  pub reached : Reached a.run.program (events_in (events_until n a.run.events.items)) state
  pub shows : Shows a.run.table (words_of (words_at a n)) state

-- Its steps are those of a run from the opening words on, each made by the thread that the schedule names, and behind each number of them
-- the words show what their events reach. Each event is of one of these steps, and the one that committed `done` is the last
pub record IsRewound (a : Rewound) : Type 0 where
  pub opens : AreOpening a.run.program a.run.table a.first
  pub history : HasHistory a.run
  pub threads : map (λ m. m.thread) a.run.made.items
      ≡ threads_by a.how a.run.program.threads (steps_in a)
  pub within : a.at ≤ steps_in a
  pub shown : (n : ℕ) → n ≤ steps_in a → ShowsReached a n
  pub numbered : AllByRecursion (λ (e : ℕ × ℕ × Event). e.0 ≤ steps_in a) a.run.events.items
  pub last : IfSome (done_in a.run.events.items) (λ d. d ≡ steps_in a)

-- a rewind before its first step, with the image of the opening words
pub record IsOpened (p : Program) (w : List ℕ) (how : Schedule) (a : Rewound) : Type 0 where
  pub opens : IsOpening p w a.run
  pub how_is : a.how ≡ how
  pub first : a.first ≡ a.run.words
  pub at : a.at ≡ 0

-- the same rewind, with other room
pub record IsSame (old new : Rewound) : Type 0 where
  pub run : IsSameRun old.run new.run
  pub how : new.how ≡ old.how
  pub first : new.first ≡ old.first
  pub at : new.at ≡ old.at

-- the same rewind later: its run begins with what was made before
pub record IsLater (old new : Rewound) : Type 0 where
  pub program : new.run.program ≡ old.run.program
  pub table : new.run.table ≡ old.run.table
  pub how : new.how ≡ old.how
  pub first : new.first ≡ old.first
  pub made : List Made
  pub made_are : new.run.made.items ≡ old.run.made.items ++ made
  pub events : List (ℕ × ℕ × Event)
  pub events_are : new.run.events.items ≡ old.run.events.items ++ events
