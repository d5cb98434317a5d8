-- What an event of a thread leaves to the other threads: their parts of the state, the tasks that run on them and are not finished, and the regions of which a task lives or that they made.
use Rattle.std.specs.Prelude.{◌≡◌, ◌≢◌, ℕ, List, slice_get, slice_index, Some}
use Rattle.omi_script.specs.declared.program.Program.{Program}
use Rattle.omi_model.specs.declared.event.Event.{Event}
use Rattle.omi_model.specs.declared.id.Id.{Id}
use Rattle.omi_model.specs.declared.id.Rid.{Rid}
use Rattle.omi_model.specs.declared.id.Tid.{Tid}
use Rattle.omi_model.specs.declared.progress.Progress.TheVariants.{Deferred, Finished}
use Rattle.omi_model.specs.declared.region.Region.{Region}
use Rattle.omi_model.specs.declared.task.Task.{Task}
use Rattle.omi_model.specs.declared.thread.Thread.{Thread}
use Rattle.omi_model.specs.Fresh.{IsFresh}
use Rattle.omi_model.specs.Reached.{Reached, Step}
use Rattle.omi_model.specs.State.{State, region_of, task_of}

-- a thread that another one leaves as it is, but for its claim
pub record IsSameThread (h g : Thread) : Type 0 where
  pub begun : g.begun ≡ h.begun
  pub current : g.current ≡ h.current
  pub wanted : g.wanted ≡ h.wanted
  pub asks : g.asks ≡ h.asks
  pub list : g.list ≡ h.list

-- a region: the arrivals of the members on other threads, and the releases where another thread runs member 0
pub record IsSameForOthers (i : ℕ) (r q : Region) : Type 0 where
  pub arrivals : (j : ℕ) (m : Tid × ℕ) → slice_get r.team j ≡ Some m → m.1 ≢ i → slice_index q.arrivals j ≡ slice_index r.arrivals j
  pub released : (m : Tid × ℕ) → slice_get r.team 0 ≡ Some m → m.1 ≢ i → q.released ≡ r.released
  pub team : q.team ≡ r.team
  pub levels : q.levels ≡ r.levels
  pub active : q.active ≡ r.active

pub record LeavesOthers (s u : State) (i : ℕ) : Type 0 where
  pub environment : u.environment ≡ s.environment
  pub count : u.count ≡ s.count
  pub threads : (j : ℕ) → j ≢ i → IsSameThread (s.threads j) (u.threads j)
  pub tasks : (k : Tid) (t : Task) → task_of s k ≡ Some t → t.thread ≢ i → (t.progress ≡ Deferred → ⊥)
      → (t.progress ≡ Finished → ⊥) → task_of u k ≡ Some t
  pub regions : (k : Tid) (t : Task) (r : Region) → task_of s k ≡ Some t → region_of s t.region ≡ Some r
      → (q : Region) × (region_of u t.region ≡ Some q) × IsSameForOthers i r q
  pub made : (n : Rid) (r : Region) → region_of s n ≡ Some r → n.0.creator ≢ i
      → (q : Region) × (region_of u n ≡ Some q) × IsSameForOthers i r q
  pub regions_fresh : (j : ℕ) (n : Id) → j ≢ i → IsFresh s.regions j n → IsFresh u.regions j n
  pub tasks_fresh : (j : ℕ) (n : Id) → j ≢ i → IsFresh s.tasks j n → IsFresh u.tasks j n

-- of every reached state, for each event
abbrev pub EventsLeaveOthers : Type 0
EventsLeaveOthers = (p : Program) (events : List (ℕ × Event)) (s : State) → Reached p events s
    → (i : ℕ) (e : Event) (next : State) → Step p s i e next → LeavesOthers s next i
