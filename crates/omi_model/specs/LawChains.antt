-- Chains: each thread has a chain of tasks, from its current task down by scheduling tasks. Each task stands in it once, runs on this thread and has begun and not finished, and the chain ends.
use Rattle.std.specs.Prelude.{◌≡◌, ℕ, List, [], ◌∷◌, Option, Some, None, Contains, ⊤}
use Rattle.omi_script.specs.declared.program.Program.{Program}
use Rattle.omi_model.specs.declared.event.Event.{Event}
use Rattle.omi_model.specs.declared.id.Tid.{Tid}
use Rattle.omi_model.specs.declared.progress.Progress.TheVariants.{Begun}
use Rattle.omi_model.specs.declared.task.Task.{Task}
use Rattle.omi_model.specs.Reached.{Reached}
use Rattle.omi_model.specs.State.{State, task_of}

-- a name is none of these
abbrev pub IsApart : Tid → List Tid → Type 0
IsApart k [] = ⊤
IsApart k (n ∷ ns) = (k ≡ n → ⊥) × IsApart k ns

-- from a task down, if there is one, these tasks of a thread are the chain
abbrev pub IsChain : State → ℕ → Option Tid → List Tid → Type 0
IsChain s i top [] = top ≡ None
IsChain s i top (k ∷ ks) = (t : Task) × (top ≡ Some k) × IsApart k ks × (task_of s k ≡ Some t)
    × (t.thread ≡ i) × (t.progress ≡ Begun) × IsChain s i t.scheduling ks

-- in every reached state, for each thread
abbrev pub ThreadsHaveChains : Type 0
ThreadsHaveChains = (p : Program) (events : List (ℕ × Event)) (s : State) → Reached p events s
    → (i : ℕ) → (ks : List Tid) × IsChain s i (s.threads i).current ks

-- and each task that has begun and not finished stands in the chain of its thread
abbrev pub BegunTasksAreOnChains : Type 0
BegunTasksAreOnChains = (p : Program) (events : List (ℕ × Event)) (s : State)
    → Reached p events s → (k : Tid) (t : Task) → task_of s k ≡ Some t → t.progress ≡ Begun
    → (ks : List Tid) → IsChain s t.thread (s.threads t.thread).current ks → Contains ks k
