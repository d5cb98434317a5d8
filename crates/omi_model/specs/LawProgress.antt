-- Members as they go: one that has not begun has arrived at no barrier, and no barrier of its region is released; one that is not finished has not ended, and its region is not joined; one that is finished has ended, or joined the others as member 0, with its arrivals all released. In a region that was joined every barrier is released.
use Rattle.std.specs.Prelude.{◌≡◌, ◌≢◌, ℕ, zero, suc, ◌+◌, List, true, false, slice_get, slice_index, Some}
use Rattle.omi_script.specs.declared.program.Program.{Program}
use Rattle.omi_model.specs.declared.event.Event.{Event}
use Rattle.omi_model.specs.declared.id.Rid.{Rid}
use Rattle.omi_model.specs.declared.id.Tid.{Tid}
use Rattle.omi_model.specs.declared.progress.Progress.TheVariants.{NotBegun, Finished}
use Rattle.omi_model.specs.declared.region.Region.{Region}
use Rattle.omi_model.specs.declared.task.Task.{Task}
use Rattle.omi_model.specs.LawBarriersLeft.{barriers_of}
use Rattle.omi_model.specs.Reached.{Reached}
use Rattle.omi_model.specs.State.{State, region_of, task_of}

-- a member has ended: member 0 by joining the others
abbrev pub HasEnded : Region → ℕ → Type 0
HasEnded r zero = r.joined ≡ true
HasEnded r (suc n) = slice_get r.ended (suc n) ≡ Some true

-- a member's task, by its region
pub record IsMemberInStep (r : Region) (t : Task) : Type 0 where
  pub waiting : t.progress ≡ NotBegun
      → (t.number ≢ 0) × (slice_index r.arrivals t.number ≡ 0) × (r.released ≡ 0)
  pub going : (t.progress ≡ Finished → ⊥)
      → (slice_get r.ended t.number ≡ Some false) × (r.joined ≡ false)
  pub over : t.progress ≡ Finished
      → HasEnded r t.number × (slice_index r.arrivals t.number ≡ r.released)
  pub ended : HasEnded r t.number → t.progress ≡ Finished

pub record AreMembersInStep (p : Program) (s : State) : Type 0 where
  pub members : (k : Tid) (t : Task) (r : Region) → task_of s k ≡ Some t → t.implicit ≡ true
      → region_of s t.region ≡ Some r → IsMemberInStep r t
  pub joined : (n : Rid) (r : Region) → region_of s n ≡ Some r → r.joined ≡ true
      → r.released ≡ barriers_of p r.function + 1

-- in every reached state
abbrev pub MembersAreInStep : Type 0
MembersAreInStep = (p : Program) (events : List (ℕ × Event)) (s : State) → Reached p events s
    → AreMembersInStep p s
