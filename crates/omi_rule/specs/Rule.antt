-- The rule: what holds between any two atomic steps of any threads. The events so far reach a state; the words are its codes but for
-- what threads owe; and each thread stands where its counter, its open bodies and its registers say.
use Rattle.std.specs.Prelude.{◌≡◌, ℕ, ◌<◌, false, List, length, Some}
use Rattle.std.specs.List.{Contains}
use Rattle.omi_script.specs.declared.program.Program.{Program}
use Rattle.omi_model.specs.declared.event.Event.{Event}
use Rattle.omi_model.specs.declared.event.Event.TheVariants as event
use Rattle.omi_model.specs.declared.id.Tid.{Tid}
use Rattle.omi_model.specs.declared.progress.Progress.TheVariants.{NotBegun}
use Rattle.omi_model.specs.declared.task.Task.{Task}
use Rattle.omi_numbers.specs.Addresses.{exit_frame}
use Rattle.omi_model.specs.Reached.{Reached}
use Rattle.omi_model.specs.State.{State, task_of}
use Rattle.omi_layout.specs.Memory.{Memory}
use Rattle.omi_pc.specs.declared.actor.Actor.{Actor}
use Rattle.omi_pc.specs.declared.counter.Counter.{Counter}
use Rattle.omi_pc.specs.declared.counter.Counter.TheVariants as counter
use Rattle.omi_pc.specs.declared.counter.PlainCounter.TheVariants as plain
use Rattle.omi_pc.specs.Fits.{Fits}
use Rattle.omi_rep.specs.Shows.{IsWithin}
use Rattle.omi_rule_words.specs.Owes.{all_owed}
use Rattle.omi_rule_words.specs.Words.{KeepsWords}
use Rattle.omi_step_words.specs.Placed.{IsPlaced}
use Rattle.omi_rule.specs.Chains.{RunsFunctions, Stands}
use Rattle.omi_rule.specs.Rows.{KeepsRow}

-- a thread has ended where it committed `done`
abbrev pub HasEnded : List (ℕ × Event) → ℕ → Counter → Type 0
HasEnded events i (counter.Plain plain.Ended) = Contains events (i, event.Done)
HasEnded events i c = Unit {0}

-- a thread: its actor fits the program, names records of the layout, stands where the thread does, runs the functions of its tasks,
-- and its registers are right
pub record KeepsThread (p : Program) (w : List ℕ) (m : Memory) (events : List (ℕ × Event)) (s : State)
    (i : ℕ) (a : Actor) : Type 0 where
  pub thread : a.thread ≡ i
  pub fits : Fits p a
  pub placed : IsPlaced w a
  pub stands : Stands p s i a
  pub runs : RunsFunctions s a.context a.stack
  pub row : KeepsRow p w m s i a a.counter
  pub ended : HasEnded events i a.counter

-- a task that waits for its thread: that of a function of the program, first on the thread's stack and not final
pub record IsNewMember (p : Program) (t : Task) : Type 0 where
  pub function : t.function < length p.funcs
  pub exit : t.exit ≡ exit_frame t.thread 1
  pub final : t.is_final ≡ false

abbrev pub AreNewMembers : Program → State → Type 0
AreNewMembers p s = (k : Tid) (t : Task) → task_of s k ≡ Some t → t.progress ≡ NotBegun
    → IsNewMember p t

pub record Rule (p : Program) (w : List ℕ) (m : Memory) (events : List (ℕ × Event)) (s : State)
    (actors : ℕ → Actor) : Type 0 where
  pub reached : Reached p events s
  pub within : IsWithin w s
  pub words : KeepsWords w m s (all_owed actors)
  pub waiting : AreNewMembers p s
  pub threads : (i : ℕ) → i < s.count → KeepsThread p w m events s i (actors i)
