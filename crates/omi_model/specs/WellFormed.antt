-- A well-formed state: what is visible names only what is visible, and its numbers are in range.
use Rattle.std.specs.Prelude.{◌≡◌, ℕ, zero, suc, ◌<◌, ◌≤◌, true, Option, Some, None, length, All, Contains}
use Rattle.std.specs.Option.{option_and_then}
use Rattle.omi_script.specs.declared.limits.TheConstants.{MAX_SIZES}
use Rattle.omi_numbers.specs.declared.schedules.TheConstants.{STATIC, AUTO}
use Rattle.omi_model.specs.declared.group.Group.{Group}
use Rattle.omi_model.specs.declared.id.Tid.{Tid}
use Rattle.omi_model.specs.declared.id.Rid.{Rid}
use Rattle.omi_numbers.specs.States.{state_numbers}
use Rattle.omi_model.specs.State.{State, task_of, scheduling_of, enclosing_of}
use Rattle.omi_model.specs.declared.region.Region.{Region}
use Rattle.omi_model.specs.declared.task.Task.{Task}
use Rattle.omi_model.specs.declared.task.Variables.{Variables}
use Rattle.omi_model.specs.Visible.{IsVisibleRegion, IsVisibleTask}

-- where so many steps of a chain lead
abbrev pub along : {A : Type 0} → (A → Option A) → ℕ → Option A → Option A
along next zero from = from
along next (suc n) from = along next n (option_and_then next from)

-- the chain ends
abbrev pub Ends : {A : Type 0} → (A → Option A) → Option A → Type 0
Ends next from = (n : ℕ) × (along next n from ≡ None)

-- a thread of the program that has begun
pub record HasBegun (s : State) (i : ℕ) : Type 0 where
  pub known : i < s.count
  pub begun : (s.threads i).begun ≡ true

-- a member of a visible region: its task is visible, and its thread is the task's and has begun
pub record IsMember (s : State) (task : Tid) (thread : ℕ) : Type 0 where
  pub visible : IsVisibleTask s task
  pub same : (t : Task) → task_of s task ≡ Some t → t.thread ≡ thread
  pub begun : HasBegun s thread

-- nthreads-var has 1 to `MAX_SIZES` elements, and the kind of run-sched-var is one of the four
pub record AreInRange (v : Variables) : Type 0 where
  pub some : 1 ≤ length v.nthreads
  pub few : length v.nthreads ≤ MAX_SIZES
  pub kind_from : STATIC ≤ v.schedule.kind
  pub kind_to : v.schedule.kind ≤ AUTO

-- what a visible region names is visible
pub record IsRegionRight (s : State) (r : Region) : Type 0 where
  pub enclosing : (n : Rid) → r.enclosing ≡ Some n → IsVisibleRegion s n
  pub encountering : (k : Tid) → r.encountering ≡ Some k → IsVisibleTask s k
  pub members : All (λ m. IsMember s m.0 m.1) r.team
  pub some : 1 ≤ length r.team
  pub few : length r.team ≤ s.count
  pub ends : Ends (enclosing_of s) r.enclosing

-- what a visible task names is visible
pub record IsTaskRight (s : State) (t : Task) : Type 0 where
  pub region : IsVisibleRegion s t.region
  pub generating : (k : Tid) → t.generating ≡ Some k → IsVisibleTask s k
  pub scheduling : (k : Tid) → t.scheduling ≡ Some k → IsVisibleTask s k
  pub owner : (g : Group) → t.group ≡ Some g → IsVisibleTask s g.owner
  pub begun : HasBegun s t.thread
  pub ends : Ends (scheduling_of s) t.scheduling
  pub variables : AreInRange t.variables

-- a well-formed state
pub record IsWellFormed (s : State) : Type 0 where
  pub currents : (i : ℕ) (k : Tid) → i < s.count → (s.threads i).current ≡ Some k
      → IsVisibleTask s k
  pub states : (i : ℕ) → i < s.count → Contains state_numbers (s.threads i).state
  pub regions : (n : Rid) → (seen : IsVisibleRegion s n) → IsRegionRight s seen.region
  pub tasks : (k : Tid) → (seen : IsVisibleTask s k) → IsTaskRight s seen.task
