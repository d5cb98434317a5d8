-- Members: arrivals and ends of a region are kept for each member of its team, and each implicit task is the member of its region that its number says.
use Rattle.std.specs.Prelude.{◌≡◌, ◌==◌, ◌≤◌, ℕ, List, true, length, slice_get, Some, None, if◌then◌else◌}
use Rattle.omi_script.specs.declared.program.Program.{Program}
use Rattle.omi_model.specs.declared.event.Event.{Event}
use Rattle.omi_model.specs.declared.id.Tid.{Tid}
use Rattle.omi_model.specs.declared.id.Rid.{Rid}
use Rattle.omi_model.specs.declared.progress.Progress.TheVariants.{NotBegun}
use Rattle.omi_model.specs.declared.region.Region.{Region}
use Rattle.omi_model.specs.declared.task.Task.{Task}
use Rattle.omi_model.specs.Reached.{Reached}
use Rattle.omi_model.specs.State.{State, region_of, task_of}

-- a region has a member, and an arrival and an end for each
pub record HasMembers (r : Region) : Type 0 where
  pub some : 1 ≤ length r.team
  pub arrivals : length r.arrivals ≡ length r.team
  pub ended : length r.ended ≡ length r.team

-- an implicit task is a member of its region
abbrev pub IsMemberByNumber : State → Tid → Task → Type 0
IsMemberByNumber s k t = t.implicit ≡ true
    → (r : Region) × (region_of s t.region ≡ Some r)
    × (slice_get r.team t.number ≡ Some (k, t.thread))

-- An implicit task was made by the task that encountered its region. Member 0 is scheduled from that task, the other members from none; only these wait to begin.
pub record IsEncountered (s : State) (t : Task) : Type 0 where
  pub generating : t.implicit ≡ true → (r : Region) → region_of s t.region ≡ Some r
      → t.generating ≡ r.encountering
  pub scheduling : t.implicit ≡ true → (r : Region) → region_of s t.region ≡ Some r
      → t.scheduling ≡ (if t.number == 0 then r.encountering else None)
  pub waiting : t.progress ≡ NotBegun → (t.implicit ≡ true) × (t.number ≡ 0 → ⊥)

pub record AreMembersKnown (s : State) : Type 0 where
  pub regions : (n : Rid) (r : Region) → region_of s n ≡ Some r → HasMembers r
  pub tasks : (k : Tid) (t : Task) → task_of s k ≡ Some t → IsMemberByNumber s k t
  pub encountered : (k : Tid) (t : Task) → task_of s k ≡ Some t → IsEncountered s t

-- in every reached state
abbrev pub MembersAreKnown : Type 0
MembersAreKnown = (p : Program) (events : List (ℕ × Event)) (s : State) → Reached p events s
    → AreMembersKnown s
