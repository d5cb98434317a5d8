-- The laws of the watch: a program starts with it, and each step of a thread meets what is demanded and keeps it.
use Rattle.std.specs.Prelude.{◌≡◌, ◌≤◌, ◌<◌, ◌+◌, ℕ, List, length}
use Rattle.omi_model.specs.declared.limits.TheConstants.{MOST_EVENTS}
use Rattle.omi_word.specs.declared.op.Op.{Op}
use Rattle.omi_script.specs.declared.program.Program.{Program}
use Rattle.omi_model.specs.declared.event.Event.{Event}
use Rattle.omi_model.specs.State.{State}
use Rattle.omi_layout.specs.Memory.{Memory}
use Rattle.omi_layout.specs.Named.{number}
use Rattle.omi_layout.specs.Valid.{IsValid}
use Rattle.omi_pc.specs.declared.actor.Actor.{Actor}
use Rattle.omi_pc.specs.Fits.{Fits}
use Rattle.omi_pc.specs.Opening.{opening_actor}
use Rattle.omi_rep.specs.declared.outcome.Outcome.{Outcome}
use Rattle.omi_rep.specs.Suits.{Suits}
use Rattle.omi_actor.specs.Steps.{next_of, resumed_at}
use Rattle.omi_rule.specs.Rule.{Rule}
use Rattle.omi_rule.specs.Steps.{IsOn, RecordWord, found_in}
use Rattle.omi_rule_watch.specs.Demands.{MeetsDemands, most_in_row}
use Rattle.omi_rule_watch.specs.Given.{IsGiven, most_quiet}
use Rattle.omi_rule_watch.specs.Watch.{Watch, opening_watch, quiet_after, watched}

-- ---- quiet steps

-- so many quiet steps in a row are given by an actor, and no more than may be
pub record IsQuietKept (p : Program) (after : Actor × Outcome) (quiet : ℕ) : Type 0 where
  pub few : quiet_after after.1 quiet ≤ most_in_row p.threads
  pub given : quiet_after after.1 quiet ≤ most_quiet p.threads after.0.counter

-- a step of an actor that fits the program keeps this, whatever word it finds
abbrev pub QuietStepsAreFew : Type 0
QuietStepsAreFew =
    (p : Program) (w : List ℕ) (a : Actor) (old quiet : ℕ) → Fits p a
    → quiet ≤ most_quiet p.threads a.counter → IsQuietKept p (resumed_at p w a a.counter old) quiet

-- ---- the whole watch

-- before its first step each thread's actor gives the watch that has seen nothing
abbrev pub OpeningsGiveWatch : Type 0
OpeningsGiveWatch = (p : Program) (i : ℕ) → IsGiven p (opening_actor p i) opening_watch

-- a step of thread i that is this operation on this word meets the demands, and the actor behind it gives the watch behind it
pub record KeepsWatch (p : Program) (w : List ℕ) (m : Memory) (s : State) (i : ℕ) (o : Op)
    (x : RecordWord) (after : Actor × Outcome) (h : Watch) : Type 0 where
  pub meets : MeetsDemands p w m s i x o after.1 h
  pub given : IsGiven p after.0 (watched w s i x o (found_in m x) after.1 h)

-- whatever word it is on
abbrev pub StepKeepsWatch : Program → List ℕ → Memory → State → ℕ → Op → (ℕ → Actor × Outcome)
    → Watch → Type 0
StepKeepsWatch p w m s i o after h = (x : RecordWord) × IsOn w o x
    × KeepsWatch p w m s i o x (after (found_in m x)) h

-- where the rule holds, whatever thread makes the step. The watch of a thread and what its actor gives of it speak of no other thread and
-- of no state, so a step of another thread leaves both
abbrev pub StepsKeepWatch : Type 0
StepsKeepWatch = (p : Program) (w : List ℕ) (m : Memory) (events : List (ℕ × Event)) (s : State)
    (actors : ℕ → Actor) (i : ℕ) → IsValid w → Suits p w → Rule p w m events s actors
    → i < s.count → length events + 1 < MOST_EVENTS
    → (h : Watch) → IsGiven p (actors i) h
    → StepKeepsWatch p w m s i (next_of p w (actors i))
    (λ old. resumed_at p w (actors i) (actors i).counter old) h

-- ---- words

-- two words of records are the same
pub record IsSameWord (x y : RecordWord) : Type 0 where
  pub creator : x.creator ≡ y.creator
  pub slot : x.slot ≡ y.slot
  pub field : number x.field ≡ number y.field
  pub place : x.place ≡ y.place

-- an operation is on one word of a record, so its watch is one
abbrev pub WordsAreOne : Type 0
WordsAreOne = (w : List ℕ) (o : Op) (x y : RecordWord) → IsValid w → IsOn w o x → IsOn w o y
    → IsSameWord x y
