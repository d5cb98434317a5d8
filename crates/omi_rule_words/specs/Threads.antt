-- What the words of the runtime record and of threads are between any two steps.
use Rattle.std.specs.Prelude.{◌≡◌, ◌⊎◌, ℕ, ◌+◌, ◌==◌, List, Some}
use Rattle.omi_model.specs.declared.id.Tid.{Tid}
use Rattle.omi_model.specs.declared.progress.Progress.TheVariants as progress
use Rattle.omi_model.specs.declared.task.Task.{Task}
use Rattle.omi_model.specs.declared.thread.Thread.{Thread}
use Rattle.omi_model.specs.State.{State, task_of}
use Rattle.omi_layout.specs.declared.field.Field.{Field}
use Rattle.omi_layout.specs.declared.field.Field.TheVariants.{ThreadAssign}
use Rattle.omi_layout.specs.Memory.{Rec}
use Rattle.omi_layout.specs.Named.{number}
use Rattle.omi_rep.specs.Codes.{HasCodes, runtime_code, runtime_told, thread_code, thread_told}
use Rattle.omi_rep.specs.Records.{task_address}
use Rattle.omi_rule_words.specs.Owes.{Owed}
use Rattle.omi_rule_words.specs.Counts.{sum_of_owed, one, assign_owed}

-- this word stands in a field of a record, at a place of the field
abbrev pub Has : Rec → Field → ℕ → ℕ → Type 0
Has r f at word = r (number f) at ≡ word

-- ---- the runtime record, and threads

-- the record has each code of the state, and of a thread: of one that has not begun too
abbrev pub KeepsRuntime : List ℕ → Rec → State → Type 0
KeepsRuntime w r s = HasCodes (runtime_code w (runtime_told s)) r

abbrev pub KeepsThread : List ℕ → ℕ → Rec → Thread → Type 0
KeepsThread w i r h = HasCodes (thread_code w i (thread_told h)) r

-- a task waits for a thread
pub record WaitsFor (s : State) (i : ℕ) (k : Tid) : Type 0 where
  pub task : Task
  pub live : task_of s k ≡ Some task
  pub progress : task.progress ≡ progress.NotBegun
  pub thread : task.thread ≡ i

-- a task that waits for a thread is in exactly one of three places: it stands in the thread's assign word; or one thread owes this
-- store; or the thread has read it. In the last two cases the word is 0
pub record IsAssignedOnce (w : List ℕ) (s : State) (owes : ℕ → Owed) (i : ℕ) (k : Tid) (word : ℕ)
    : Type 0 where
  pub word_is : (word ≡ 0) ⊎ (word ≡ task_address w k)
  pub once : one (word == task_address w k) + sum_of_owed s owes (assign_owed i k)
      + one (owes i).met ≡ 1

pub record KeepsAssign (w : List ℕ) (s : State) (owes : ℕ → Owed) (i : ℕ) (r : Rec) : Type 0 where
  pub waiting : (k : Tid) → WaitsFor s i k
      → IsAssignedOnce w s owes i k (r (number ThreadAssign) 0)
  pub none : ((k : Tid) → WaitsFor s i k → ⊥) → Has r ThreadAssign 0 0
