-- What stays: no event takes away a region or a task that is needed, none changes what a task or a region is, and what these have come to is never undone.
use Rattle.std.specs.Prelude.{◌≡◌, ◌≤◌, ◌⊎◌, ℕ, Bool, List, true, false, slice_get, slice_index, length, Some}
use Rattle.omi_script.specs.declared.program.Program.{Program}
use Rattle.omi_model.specs.declared.event.Event.{Event}
use Rattle.omi_model.specs.declared.event.Event.TheVariants as event
use Rattle.omi_model.specs.declared.id.Tid.{Tid}
use Rattle.omi_model.specs.declared.id.Rid.{Rid}
use Rattle.omi_model.specs.declared.progress.Progress.{Progress}
use Rattle.omi_model.specs.declared.progress.Progress.TheVariants.{Deferred, NotBegun, Begun, Finished}
use Rattle.omi_model.specs.declared.region.Region.{Region}
use Rattle.omi_model.specs.declared.task.Task.{Task}
use Rattle.omi_model.specs.Reached.{Leads, Reached, Step}
use Rattle.omi_model.specs.State.{State, region_of, task_of}

-- how far a task has come: it waits to run, runs, or is over
abbrev pub stage_of : Progress → ℕ
stage_of Deferred = 0
stage_of NotBegun = 0
stage_of Begun = 1
stage_of Finished = 2

-- A task and the same task later. Thread, number and scheduling task of an explicit task are settled once it starts.
pub record IsSameTask (t u : Task) : Type 0 where
  pub implicit : u.implicit ≡ t.implicit
  pub region : u.region ≡ t.region
  pub generating : u.generating ≡ t.generating
  pub function : u.function ≡ t.function
  pub is_final : u.is_final ≡ t.is_final
  pub group : u.group ≡ t.group
  pub stage : stage_of t.progress ≤ stage_of u.progress
  pub started : (t.progress ≡ Deferred → ⊥) → u.progress ≡ Deferred → ⊥
  pub thread : (t.progress ≡ Deferred → ⊥) → u.thread ≡ t.thread
  pub number : (t.progress ≡ Deferred → ⊥) → u.number ≡ t.number
  pub scheduling : (t.progress ≡ Deferred → ⊥) → u.scheduling ≡ t.scheduling

-- A region and the same region later: no arrival, release or end is undone.
pub record IsSameRegion (r q : Region) : Type 0 where
  pub enclosing : q.enclosing ≡ r.enclosing
  pub encountering : q.encountering ≡ r.encountering
  pub team : q.team ≡ r.team
  pub function : q.function ≡ r.function
  pub levels : q.levels ≡ r.levels
  pub active : q.active ≡ r.active
  pub members : length q.arrivals ≡ length r.arrivals
  pub arrivals : (j : ℕ) → slice_index r.arrivals j ≤ slice_index q.arrivals j
  pub released : r.released ≤ q.released
  pub ended : (j : ℕ) → slice_get r.ended j ≡ Some true → slice_get q.ended j ≡ Some true
  pub joined : r.joined ≡ true → q.joined ≡ true

-- the events that give a record back
abbrev pub is_free : Event → Bool
is_free (event.FreeTask task) = true
is_free (event.FreeRegion region) = true
is_free e = false

-- a region encloses a live one
abbrev pub EnclosesLive : State → Rid → Type 0
EnclosesLive s n = (m : Rid) × (q : Region) × (region_of s m ≡ Some q) × (q.enclosing ≡ Some n)

-- A region that no event takes away from a state: one that is not joined, of which a task lives, or that encloses a live region.
abbrev pub IsNeededRegion : State → Rid → Region → Type 0
IsNeededRegion s n r = (r.joined ≡ false)
    ⊎ (((k : Tid) × (v : Task) × (task_of s k ≡ Some v) × (v.region ≡ n)) ⊎ EnclosesLive s n)

-- A region whose members' tasks no event takes away: one that is live and not joined, of which an explicit task lives, or that encloses a live region.
abbrev pub IsTeamNeeded : State → Rid → Type 0
IsTeamNeeded s n = ((r : Region) × (region_of s n ≡ Some r) × (r.joined ≡ false))
    ⊎ (((k : Tid) × (v : Task) × (task_of s k ≡ Some v) × (v.implicit ≡ false) × (v.region ≡ n)) ⊎ EnclosesLive s n)

-- A task that no event takes away from a state: an implicit task of such a region, one that is not finished, or the generating task of a live task. What is left is finished and without a live child.
abbrev pub IsNeeded : State → Tid → Task → Type 0
IsNeeded s k t = ((t.implicit ≡ true) × IsTeamNeeded s t.region) ⊎ ((t.progress ≡ Finished → ⊥)
    ⊎ ((n : Tid) × (v : Task) × (task_of s n ≡ Some v) × (v.generating ≡ Some k)))

-- A state and the one behind an event: tasks and regions that are needed stay, and a task or a region that lives in both states is the same.
pub record Stays (s u : State) : Type 0 where
  pub tasks : (k : Tid) (t : Task) → task_of s k ≡ Some t → IsNeeded s k t
      → (v : Task) × (task_of u k ≡ Some v) × IsSameTask t v
  pub alike : (k : Tid) (t v : Task) → task_of s k ≡ Some t → task_of u k ≡ Some v → IsSameTask t v
  pub regions : (n : Rid) (r : Region) → region_of s n ≡ Some r → IsNeededRegion s n r
      → (q : Region) × (region_of u n ≡ Some q) × IsSameRegion r q
  pub alike_regions : (n : Rid) (r q : Region) → region_of s n ≡ Some r → region_of u n ≡ Some q
      → IsSameRegion r q
  pub begun : (i : ℕ) → (s.threads i).begun ≡ true → (u.threads i).begun ≡ true
  pub count : u.count ≡ s.count

-- A state and one that any events lead to: a task or a region that lives in both states is the same.
pub record StaysOver (s u : State) : Type 0 where
  pub alike : (k : Tid) (t v : Task) → task_of s k ≡ Some t → task_of u k ≡ Some v → IsSameTask t v
  pub alike_regions : (n : Rid) (r q : Region) → region_of s n ≡ Some r → region_of u n ≡ Some q
      → IsSameRegion r q
  pub begun : (i : ℕ) → (s.threads i).begun ≡ true → (u.threads i).begun ≡ true
  pub count : u.count ≡ s.count

-- whatever event a reached state allows
abbrev pub StayOverAnEvent : Type 0
StayOverAnEvent = (p : Program) (first : List (ℕ × Event)) (s : State) (i : ℕ) (e : Event)
    (next : State) → Reached p first s → Step p s i e next → Stays s next

-- whatever events lead from a reached state to another one
abbrev pub Stay : Type 0
Stay = (p : Program) (first more : List (ℕ × Event)) (s u : State) → Reached p first s
    → Leads p s more u → StaysOver s u
