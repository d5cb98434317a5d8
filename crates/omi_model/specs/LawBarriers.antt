-- Barriers: a member has arrived at as many barriers as its region released, or at one more; a barrier is passed only after its release, and at the release every member had arrived and no explicit task of the region lived.
use Rattle.std.specs.Prelude.{◌≡◌, ◌≤◌, ℕ, ◌+◌, List, ◌∷◌, ◌++◌, true, slice_index, Some}
use Rattle.omi_script.specs.declared.program.Program.{Program}
use Rattle.omi_model.specs.declared.event.Event.{Event}
use Rattle.omi_model.specs.declared.event.Event.TheVariants as event
use Rattle.omi_model.specs.declared.id.Tid.{Tid}
use Rattle.omi_model.specs.declared.id.Rid.{Rid}
use Rattle.omi_model.specs.declared.region.Region.{Region}
use Rattle.omi_model.specs.declared.task.Task.{Task}
use Rattle.omi_model.specs.Barriers.{HasNoExplicit, HaveArrived}
use Rattle.omi_model.specs.Changes.{IsCurrent, OfCurrentRegion}
use Rattle.omi_model.specs.Reached.{Leads, Reached, Step}
use Rattle.omi_model.specs.Rules.{Legal}
use Rattle.omi_model.specs.State.{State, region_of, task_of}

-- in every reached state, for each member's task and its region
abbrev pub ArrivalsAreNear : Type 0
ArrivalsAreNear = (p : Program) (events : List (ℕ × Event)) (s : State) → Reached p events s
    → (k : Tid) (t : Task) (r : Region) → task_of s k ≡ Some t → t.implicit ≡ true
    → region_of s t.region ≡ Some r
    → (r.released ≤ slice_index r.arrivals t.number)
    × (slice_index r.arrivals t.number ≤ r.released + 1)

-- Among events that lead on from a state there is a release of a region's barrier: by member 0, when every member had arrived and no explicit task of the region lived.
pub record IsReleaseAmong (p : Program) (s : State) (events : List (ℕ × Event)) (n : Rid)
    : Type 0 where
  pub before : List (ℕ × Event)
  pub thread : ℕ
  pub after : List (ℕ × Event)
  pub split : events ≡ before ++ (thread, event.Release) ∷ after
  pub middle : State
  pub leads : Leads p s before middle
  pub legal : Legal p middle thread event.Release
  pub full : OfCurrentRegion middle thread (λ k t r. (t.region ≡ n) × (t.number ≡ 0)
      × HaveArrived r × HasNoExplicit middle n)

-- a task arrives at a barrier of its region, and passes one later on: a release came between
abbrev pub PassFollowsRelease : Type 0
PassFollowsRelease = (p : Program) (first more : List (ℕ × Event)) (s next u : State) (i : ℕ)
    → (k : Tid) (t v : Task) → Reached p first s → IsCurrent s i k t
    → Step p s i event.Arrive next → Leads p next more u → IsCurrent u i k v
    → Legal p u i event.Pass → IsReleaseAmong p next more t.region
