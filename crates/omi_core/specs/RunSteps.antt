-- One step of a run: the operation of a thread on one word, the actor behind it, and what came of it.
use Rattle.std.specs.Prelude.{◌≡◌, ℕ, ◌+◌, ◌++◌, List, [], ◌∷◌, length, slice_set}
use Rattle.omi_word.specs.Memory.{address_of, words_after, word_at}
use Rattle.omi_model.specs.declared.event.Event.{Event}
use Rattle.omi_model.specs.Reached.{Reached}
use Rattle.omi_model.specs.State.{State}
use Rattle.omi_actor.specs.Steps.{next_of, resumed_at}
use Rattle.omi_run_lists.specs.Events.{team_in}
use Rattle.omi_run_lists.specs.declared.made.Made.{Made}
use Rattle.omi_run_lists.specs.declared.made.Turn.{Turn}
use Rattle.omi_run_lists.specs.declared.made.Turn.TheVariants as turn
use Rattle.omi_word.specs.Words.{words_of}
use Rattle.omi_rep.specs.declared.outcome.Outcome.{Outcome}
use Rattle.omi_rep.specs.declared.outcome.Outcome.TheVariants as outcome
use Rattle.omi_layout.specs.Memory.{memory_of}
use Rattle.omi_rep.specs.Shows.{Shows}
use Rattle.omi_rule.specs.Steps.{LeadsOn}
use Rattle.omi_rule.specs.Commits.{ComesOf}
use Rattle.omi_rule.specs.Rule.{Rule}
use Rattle.omi_core.specs.declared.entry.Entry.{Entry}
use Rattle.omi_core.specs.Runs.{Run, actors_in, events_in}

-- ---- what is kept of a step

abbrev pub turn_of : Outcome → Turn
turn_of outcome.Quiet = turn.Quiet
turn_of (outcome.Event e) = turn.Event
turn_of (outcome.NotReady address word) = turn.NotReady
turn_of outcome.Ended = turn.Ended

abbrev pub made_of : ℕ → Entry → Made
made_of thread e = record { op = e.op; old = e.old; thread = thread; turn = turn_of e.outcome }

-- the event that a step with this number committed, if it did
abbrev pub event_of : ℕ → ℕ → Outcome → List (ℕ × ℕ × Event)
event_of step thread (outcome.Event e) = (step, thread, e) ∷ []
event_of step thread o = []

-- the seats that it needs for a team
abbrev pub seats_of : Outcome → ℕ
seats_of (outcome.Event e) = length (team_in e)
seats_of o = 0

-- ---- the step

-- thread i makes its next operation on the words, its actor moves on by the word that was found, and step and event are listed
pub record IsStep (old : Run) (i : ℕ) (e : Entry) (new : Run) : Type 0 where
  pub op : e.op ≡ next_of old.program old.table (actors_in old.actors i)
  pub found : e.old ≡ word_at old.words (address_of e.op)
  pub outcome : e.outcome ≡ (resumed_at old.program old.table (actors_in old.actors i)
      (actors_in old.actors i).counter e.old).1
  pub actors : new.actors ≡ slice_set old.actors i (resumed_at old.program old.table
      (actors_in old.actors i) (actors_in old.actors i).counter e.old).0
  pub words : new.words ≡ words_after old.words e.op
  pub made : new.made.items ≡ old.made.items ++ made_of i e ∷ []
  pub events : new.events.items
      ≡ old.events.items ++ event_of (length old.made.items + 1) i e.outcome
  pub program : new.program ≡ old.program
  pub table : new.table ≡ old.table

-- Whatever state the events before reach, the outcome leads from it to a next one: its event is legal there and was committed at the
-- event's word, and a thread that is not ready waits on the word that is named
abbrev pub IsRight : Run → ℕ → Entry → Type 0
IsRight old i e = (s : State) → Reached old.program (events_in old.events.items) s
    → ((next : State) × LeadsOn old.program old.table (events_in old.events.items) s i e.outcome next)
    × ComesOf old.table s i e.op e.old e.outcome

-- the words of a run show the state that its events reach
abbrev pub ShowsState : Run → Type 0
ShowsState a = (s : State) → Reached a.program (events_in a.events.items) s
    → Shows a.table (words_of a.words) s

-- The rule holds between the steps of a run: its events reach a state, and for this state the words, the to-do lists, the open bodies and
-- the registers of all threads are as the rule says
abbrev pub RuleHolds : Run → Type 0
RuleHolds a = (s : State) × Rule a.program a.table (memory_of a.table a.words)
    (events_in a.events.items) s (actors_in a.actors)
