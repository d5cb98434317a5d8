-- A step keeps the rule: the operation that a thread makes, on one word of a record, and what comes of it.
use Rattle.std.specs.Prelude.{◌≡◌, ℕ, List, [], ◌∷◌, ◌++◌}
use Rattle.std.specs.List.{Contains}
use Rattle.omi_word.specs.declared.op.Op.{Op}
use Rattle.omi_word.specs.Memory.{address_of, left_of}
use Rattle.omi_script.specs.declared.program.Program.{Program}
use Rattle.omi_model.specs.declared.event.Event.{Event}
use Rattle.omi_model.specs.declared.event.Event.TheVariants as event
use Rattle.omi_model.specs.Reached.{Step}
use Rattle.omi_model.specs.State.{State}
use Rattle.omi_layout.specs.declared.field.Field.{Field}
use Rattle.omi_layout.specs.Field.{kind_of}
use Rattle.omi_layout.specs.Memory.{IsRecordWord, Memory, replace_at, with_word, word_address}
use Rattle.omi_layout.specs.Named.{number}
use Rattle.omi_pc.specs.declared.actor.Actor.{Actor}
use Rattle.omi_rep.specs.declared.outcome.Outcome.{Outcome}
use Rattle.omi_rep.specs.declared.outcome.Outcome.TheVariants as outcome
use Rattle.omi_rule.specs.Commits.{ComesOf}
use Rattle.omi_rule.specs.Rule.{Rule}
use Rattle.omi_rule.specs.Waits.{Waits}

-- ---- words

-- a word of a record
pub record RecordWord : Type 0 where
  pub creator : ℕ
  pub slot : ℕ
  pub field : Field
  pub place : ℕ

-- an operation is on this word
pub record IsOn (w : List ℕ) (o : Op) (x : RecordWord) : Type 0 where
  pub there : IsRecordWord w x.creator x.slot (number x.field) x.place
  pub address : address_of o ≡ word_address w x.creator x.slot (number x.field) x.place

-- the word that it finds, and the memory that it leaves
abbrev pub found_in : Memory → RecordWord → ℕ
found_in m x = m x.creator (kind_of (number x.field)) x.slot (number x.field) x.place

abbrev pub left_in : Memory → Op → RecordWord → Memory
left_in m o x =
    with_word m x.creator (kind_of (number x.field)) x.slot (number x.field) x.place
    (left_of o (found_in m x))

-- ---- outcomes

-- the events that an outcome of thread i adds
abbrev pub committed : ℕ → Outcome → List (ℕ × Event)
committed i (outcome.Event e) = (i, e) ∷ []
committed i o = []

-- An event is legal and leads to the next state. Without one the state stays: where the thread is not ready it waits on the word
-- that is named, and a thread has ended where it committed `done` before
abbrev pub LeadsOn : Program → List ℕ → List (ℕ × Event) → State → ℕ → Outcome → State → Type 0
LeadsOn p w events s i outcome.Quiet next = next ≡ s
LeadsOn p w events s i (outcome.Event e) next = Step p s i e next
LeadsOn p w events s i (outcome.NotReady address word) next =
    (next ≡ s) × Waits w s i address word
LeadsOn p w events s i outcome.Ended next = (next ≡ s) × Contains events (i, event.Done)

-- ---- steps

-- a step of thread i that is this operation on this word leaves this actor and this outcome, and keeps the rule
pub record KeepsRule (p : Program) (w : List ℕ) (m : Memory) (events : List (ℕ × Event)) (s : State)
    (actors : ℕ → Actor) (i : ℕ) (o : Op) (x : RecordWord) (after : Actor × Outcome) : Type 0 where
  pub next : State
  pub leads : LeadsOn p w events s i after.1 next
  pub comes : ComesOf w s i o (found_in m x) after.1
  pub rule : Rule p w (left_in m o x) (events ++ committed i after.1) next (replace_at actors i after.0)

-- whatever word the operation is on, which is a word of a record
abbrev pub StepKeeps : Program → List ℕ → Memory → List (ℕ × Event) → State → (ℕ → Actor) → ℕ → Op
    → (ℕ → Actor × Outcome) → Type 0
StepKeeps p w m events s actors i o after = (x : RecordWord) × IsOn w o x
    × KeepsRule p w m events s actors i o x (after (found_in m x))
