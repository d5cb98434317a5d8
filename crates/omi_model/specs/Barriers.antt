-- Barriers: each member of a team arrives; member 0 releases the barrier once all have arrived and no explicit task of the region lives; then each member passes.
use Rattle.std.specs.Prelude.{◌≡◌, ◌≤◌, ℕ, ◌+◌, true, false, slice_index, slice_set, Some, All}
use Rattle.omi_model.specs.declared.id.Rid.{Rid}
use Rattle.omi_model.specs.Changes.{on_region}
use Rattle.omi_model.specs.State.{State}
use Rattle.omi_model.specs.declared.region.Region.{Region}
use Rattle.omi_model.specs.declared.task.Task.{Task}

-- A member arrives in its implicit task.
abbrev pub MayArrive : Task → Type 0
MayArrive t = t.implicit ≡ true

abbrev pub arrived : State → Task → State
arrived s t =
    on_region s t.region
    (λ r. record r {
      arrivals = slice_set r.arrivals t.number (slice_index r.arrivals t.number + 1);
    })

-- each member has arrived at the barrier that is not yet released
abbrev pub HaveArrived : Region → Type 0
HaveArrived r = All (λ n. n ≡ r.released + 1) r.arrivals

-- no explicit task of a region lives
abbrev pub HasNoExplicit : State → Rid → Type 0
HasNoExplicit s n = (c k : ℕ) (t : Task) → (s.tasks c k).live ≡ Some t → t.implicit ≡ false
    → t.region ≡ n → ⊥

-- Member 0 releases the barrier of its region.
pub record MayRelease (s : State) (t : Task) (r : Region) : Type 0 where
  pub first : t.number ≡ 0
  pub arrived : HaveArrived r
  pub alone : HasNoExplicit s t.region

abbrev pub released : State → Task → State
released s t = on_region s t.region (λ r. record r { released = r.released + 1 })

-- A member passes once the barrier at which it arrived is released.
abbrev pub MayPass : Task → Region → Type 0
MayPass t r = slice_index r.arrivals t.number ≤ r.released
