-- Kinds of steps on what a task shows of itself, and on what is one for the whole program: frames, control variables, tool words and locks.
use Rattle.std.specs.Prelude.{◌≡◌, ◌≢◌, ℕ, List, Option, Some}
use Rattle.omi_model.specs.declared.id.Tid.{Tid}
use Rattle.omi_model.specs.declared.task.Task.{Task}
use Rattle.omi_model.specs.Changes.{on_task}
use Rattle.omi_model.specs.State.{State, task_of}
use Rattle.omi_layout.specs.declared.field.Field.{Field}
use Rattle.omi_layout.specs.declared.field.Field.TheVariants.{TaskLife, TaskChildren, TaskReferences, TaskSlots}
use Rattle.omi_layout.specs.Field.{runtime, tasks}
use Rattle.omi_layout.specs.Memory.{Memory, with_word, with_word_in}
use Rattle.omi_layout.specs.Named.{number}
use Rattle.omi_rep.specs.Codes.{HasCodes, task_code, task_told}
use Rattle.omi_rule_words.specs.Owes.{Owed}
use Rattle.omi_rule_words.specs.Threads.{KeepsRuntime}
use Rattle.omi_rule_words.specs.Words.{KeepsWords}

-- ---- tasks

-- a task goes on as what it is: its kind, region, thread, generating task, progress and groups, and the slot in which it is deferred
pub record IsSameTask (t u : Task) : Type 0 where
  pub implicit : u.implicit ≡ t.implicit
  pub region : u.region ≡ t.region
  pub thread : u.thread ≡ t.thread
  pub generating : u.generating ≡ t.generating
  pub progress : u.progress ≡ t.progress
  pub place : u.place ≡ t.place
  pub group : u.group ≡ t.group
  pub open_groups : u.open_groups ≡ t.open_groups

-- a field that says what its task is: no life word, no count, and no slot for a deferred task
pub record IsOfTask (f : Field) : Type 0 where
  pub life : number f ≢ number TaskLife
  pub children : number f ≢ number TaskChildren
  pub references : number f ≢ number TaskReferences
  pub slots : number f ≢ number TaskSlots

-- A word of a live task's record is stored, and the task of the state is another, so that the record has its codes: frames, the
-- control variables of a data environment, and the tool word
abbrev pub TaskStoresKeep : Type 0
TaskStoresKeep = (w : List ℕ) (m : Memory) (s : State) (owes : ℕ → Owed) (k : Tid) (t : Task)
    (g : Task → Task) (f : Field) (at word : ℕ) → KeepsWords w m s owes
    → task_of s k ≡ Some t → IsSameTask t (g t) → IsOfTask f
    → HasCodes (task_code w (task_told (g t)))
    (with_word_in (m k.0.creator tasks k.0.slot) (number f) at word)
    → KeepsWords w (with_word m k.0.creator tasks k.0.slot (number f) at word) (on_task s k g) owes

-- ---- the runtime record

-- a state with another max-active-levels-var and other holders of locks
abbrev pub with_runtime : State → ℕ → (ℕ → Option ℕ) → State
with_runtime s max_active locks = record s { max_active = max_active; locks = locks }

-- A word of the runtime record is stored, and the state has other values of what is one for the program, so that the record has
-- their codes: max-active-levels-var, and the exchange on the word of a lock
abbrev pub RuntimeStoresKeep : Type 0
RuntimeStoresKeep = (w : List ℕ) (m : Memory) (s : State) (owes : ℕ → Owed) (max_active : ℕ)
    (locks : ℕ → Option ℕ) (f : Field) (at word : ℕ) → KeepsWords w m s owes
    → KeepsRuntime w (with_word_in (m 0 runtime 0) (number f) at word)
    (with_runtime s max_active locks)
    → KeepsWords w (with_word m 0 runtime 0 (number f) at word) (with_runtime s max_active locks) owes
