-- A list of atomic steps by any threads, in any order, and what it makes: the words, the numbered events, and the state that these
-- reach. Each thread meets what is demanded by its watch: the bound of quiet steps, the order of a search, and the look before a wait.
use Rattle.std.specs.Prelude.{◌≡◌, ◌<◌, ℕ, ◌+◌, ◌++◌, List, [], ◌∷◌, map, ◌==◌, if◌then◌else◌}
use Rattle.omi_word.specs.Memory.{IsWordOf, address_of, words_after, word_at}
use Rattle.omi_script.specs.declared.program.Program.{Program}
use Rattle.omi_model.specs.declared.event.Event.{Event}
use Rattle.omi_model.specs.declared.event.Event.TheVariants as event
use Rattle.omi_model.specs.Opening.{opening}
use Rattle.omi_model.specs.State.{State}
use Rattle.omi_run_lists.specs.declared.made.Made.{Made}
use Rattle.omi_layout.specs.Memory.{memory_of, replace_at}
use Rattle.omi_layout.specs.OpeningWords.{AreOpening}
use Rattle.omi_rep.specs.declared.outcome.Outcome.TheVariants as outcome
use Rattle.omi_rule.specs.Commits.{ComesOf}
use Rattle.omi_rule.specs.Steps.{IsOn, LeadsOn, RecordWord, committed}
use Rattle.omi_rule_watch.specs.Demands.{MeetsDemands}
use Rattle.omi_rule_watch.specs.Watch.{Watch, opening_watch, watched}
use Rattle.omi_core.specs.declared.entry.Entry.{Entry}
use Rattle.omi_core.specs.RunSteps.{event_of, made_of}

-- ---- one step

-- A step of thread i, where the events so far reach this state. Its operation is on one of the words and finds what the entry says.
-- Its event, if it has one, is legal, leads to the next state and is committed at the event's word; a thread that is not ready waits on
-- the word that is named; and a thread has ended where it committed `done` before
pub record IsStepFrom (p : Program) (w words : List ℕ) (past : List (ℕ × Event)) (s : State) (i : ℕ)
    (e : Entry) (next : State) : Type 0 where
  pub thread : i < p.threads
  pub inside : IsWordOf words (address_of e.op)
  pub found : e.old ≡ word_at words (address_of e.op)
  pub leads : LeadsOn p w past s i e.outcome next
  pub comes : ComesOf w s i e.op e.old e.outcome

-- Its operation is on a word of a record, and it meets what is demanded of thread i by the watch before it. The watch behind it is this
pub record IsWatched (p : Program) (w words : List ℕ) (s : State) (i : ℕ) (e : Entry)
    (h next : Watch) : Type 0 where
  pub word : RecordWord
  pub on : IsOn w e.op word
  pub meets : MeetsDemands p w (memory_of w words) s i word e.op e.outcome h
  pub leaves : next ≡ watched w s i word e.op e.old e.outcome h

-- ---- many steps

-- the watch of each thread
abbrev pub Watches : Type 0
Watches = ℕ → Watch

-- From these words, events and state, with these watches of the threads, the steps lead to those words and that state, with those
-- watches. A step changes the watch of its own thread alone
abbrev pub Steps : Program → List ℕ → List ℕ → List (ℕ × Event) → State → Watches
    → List (ℕ × Entry) → List ℕ → State → Watches → Type 0
Steps p w words past s watches [] last t later =
    (last ≡ words) × (t ≡ s) × (later ≡ watches)
Steps p w words past s watches (x ∷ xs) last t later = (next : State) × (watch : Watch)
    × IsStepFrom p w words past s x.0 x.1 next
    × IsWatched p w words s x.0 x.1 (watches x.0) watch
    × Steps p w (words_after words x.1.op) (past ++ committed x.0 x.1.outcome) next
    (replace_at watches x.0 watch) xs last t later

-- the events of steps behind so many others, each with the number of its step and its thread
abbrev pub events_behind : ℕ → List (ℕ × Entry) → List (ℕ × ℕ × Event)
events_behind steps [] = []
events_behind steps (x ∷ xs) =
    event_of (steps + 1) x.0 x.1.outcome ++ events_behind (steps + 1) xs

-- the threads of steps, in order, and what is kept of each
abbrev pub threads_of_steps : List (ℕ × Entry) → List ℕ
threads_of_steps xs = map (λ x. x.0) xs

abbrev pub made_of_steps : List (ℕ × Entry) → List Made
made_of_steps xs = map (λ x. made_of x.0 x.1) xs

-- ---- workers

-- the steps of one thread
abbrev pub steps_of : ℕ → List (ℕ × Entry) → List Entry
steps_of i [] = []
steps_of i (x ∷ xs) = if x.0 == i then x.1 ∷ steps_of i xs else steps_of i xs

-- the first step of a worker commits `begin`, and the second one `offer`
abbrev pub StartsAsWorker : List Entry → Type 0
StartsAsWorker [] = Unit {0}
StartsAsWorker (e ∷ []) = e.outcome ≡ outcome.Event event.Begin
StartsAsWorker (e ∷ f ∷ es) =
    (e.outcome ≡ outcome.Event event.Begin) × (f.outcome ≡ outcome.Event event.Offer)

-- ---- a run

-- before its first step a thread has seen nothing
abbrev pub opening_watches : Watches
opening_watches i = opening_watch

-- these are the steps of a run of a program in a layout, from its opening words and its opening state on, and they lead to these words
-- and this state
pub record AreStepsOf (p : Program) (w : List ℕ) (xs : List (ℕ × Entry)) (words : List ℕ)
    (s : State) : Type 0 where
  pub first : List ℕ
  pub opens : AreOpening p w first
  pub watches : Watches
  pub steps : Steps p w first [] (opening p) opening_watches xs words s watches
  pub workers : (i : ℕ) → 0 < i → StartsAsWorker (steps_of i xs)
