-- To-do lists at their start and at their end: a deferred task has the body of its function and its finish ahead; a member that has not begun has all of a member's list ahead; and a task that is finished has nothing.
use Rattle.std.specs.Prelude.{◌≡◌, ℕ, List, [], false, Some}
use Rattle.omi_script.specs.declared.program.Program.{Program}
use Rattle.omi_model.specs.declared.event.Event.{Event}
use Rattle.omi_model.specs.declared.id.Tid.{Tid}
use Rattle.omi_model.specs.declared.progress.Progress.TheVariants.{Deferred, NotBegun, Finished}
use Rattle.omi_model.specs.declared.region.Region.{Region}
use Rattle.omi_model.specs.declared.task.Task.{Task}
use Rattle.omi_model.specs.Reached.{Reached}
use Rattle.omi_model.specs.Rows.{member_items, task_items}
use Rattle.omi_model.specs.State.{State, region_of, task_of}

-- the list of a member that has not begun, by its region
abbrev pub HasMemberList : Program → Region → Task → Type 0
HasMemberList p r t =
    t.list ≡ member_items p
    (record { debug = p.env.debug; number = t.number; level = r.levels; is_final = false })
    r.function

pub record IsListRight (p : Program) (s : State) (t : Task) : Type 0 where
  pub deferred : t.progress ≡ Deferred → t.list ≡ task_items p t.function
  pub waiting : t.progress ≡ NotBegun → (r : Region) → region_of s t.region ≡ Some r
      → HasMemberList p r t
  pub finished : t.progress ≡ Finished → t.list ≡ []

-- in every reached state
abbrev pub ListsAreRight : Type 0
ListsAreRight = (p : Program) (events : List (ℕ × Event)) (s : State) → Reached p events s
    → (k : Tid) (t : Task) → task_of s k ≡ Some t → IsListRight p s t
