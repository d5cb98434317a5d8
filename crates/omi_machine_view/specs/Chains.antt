-- What is walked so far of a thread's chain of tasks.
use Rattle.std.specs.Prelude.{◌≡◌, ℕ, suc, List, [], ◌∷◌, ◌++◌, Option, Some, None}
use Rattle.omi_model.specs.declared.id.Id.{Id}
use Rattle.omi_model.specs.declared.id.Tid.{Tid}
use Rattle.omi_model.specs.declared.task.Task.{Task}
use Rattle.omi_model.specs.declared.view.TaskRow.{TaskRow}
use Rattle.omi_model.specs.State.{State, task_of, scheduling_of}
use Rattle.omi_model.specs.Views.{IsChain, task_row}
use Rattle.omi_model.specs.Visible.{IsVisibleTask}
use Rattle.omi_model.specs.WellFormed.{IsWellFormed, along}
use Rattle.omi_machine_view.specs.Marks.{WasMet}

-- the chain of a thread stands behind rows
abbrev pub IsChainAdded : State → ℕ → List TaskRow → List TaskRow → Type 0
IsChainAdded s i old new = (chain : List TaskRow) × (new ≡ old ++ chain)
    × IsChain s i (s.threads i).current chain

-- the rows of a chain from a task on, up to where it goes on
abbrev pub IsSegment : State → ℕ → Option Tid → List TaskRow → Option Tid → Type 0
IsSegment s i from [] at = from ≡ at
IsSegment s i None (row ∷ rows) at = ⊥
IsSegment s i (Some k) (row ∷ rows) at = (t : Task) × (task_of s k ≡ Some t)
    × (row ≡ task_row i k t) × IsSegment s i t.scheduling rows at

-- the name of a task
abbrev pub task_name : Id → Tid
task_name n = record { 0 = n }

-- each task that was met is live, and its chain leads on to here
abbrev pub LeadHere : State → List (Option Id) → Option Tid → Type 0
LeadHere s met at = (n : Id) → WasMet met n
    → (t : Task) × (steps : ℕ) × (task_of s (task_name n) ≡ Some t)
    × (along (scheduling_of s) (suc steps) (Some (task_name n)) ≡ at)

-- a part of a thread's chain is walked
pub record IsWalked (s : State) (i : ℕ) (old rows : List TaskRow) (met : List (Option Id)) (at : Option Tid) : Type 0 where
  pub segment : (part : List TaskRow) × (rows ≡ old ++ part)
      × IsSegment s i (s.threads i).current part at
  pub lead : LeadHere s met at
  pub visible : IsWellFormed s → (k : Tid) → at ≡ Some k → IsVisibleTask s k
