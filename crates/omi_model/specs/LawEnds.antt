-- The end of a region: once a member ends, member 0 joins the others or the program is done, no explicit task of the region lives, and none is made any more.
use Rattle.std.specs.Prelude.{◌≡◌, ℕ, List, false, Some, ⊤}
use Rattle.omi_script.specs.declared.program.Program.{Program}
use Rattle.omi_model.specs.declared.event.Event.{Event}
use Rattle.omi_model.specs.declared.event.Event.TheVariants as event
use Rattle.omi_model.specs.declared.id.Tid.{Tid}
use Rattle.omi_model.specs.declared.task.Task.{Task}
use Rattle.omi_model.specs.Changes.{IsCurrent}
use Rattle.omi_model.specs.Reached.{Leads, Reached}
use Rattle.omi_model.specs.Rules.{Legal}
use Rattle.omi_model.specs.State.{State, task_of}

-- the last event of a member
abbrev pub IsLast : Event → Type 0
IsLast (event.ImplicitEnd task) = ⊤
IsLast (event.Join region) = ⊤
IsLast event.Done = ⊤
IsLast e = ⊥

-- where such an event is legal, and in each state that events lead to from there
abbrev pub RegionsEndAlone : Type 0
RegionsEndAlone = (p : Program) (events more : List (ℕ × Event)) (s u : State)
    → Reached p events s → (i : ℕ) (e : Event) (k : Tid) (t : Task) → IsLast e → Legal p s i e
    → IsCurrent s i k t → Leads p s more u → (n : Tid) (v : Task) → task_of u n ≡ Some v
    → v.implicit ≡ false → v.region ≡ t.region → ⊥
