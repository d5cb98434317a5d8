-- The task scheduling constraint of tied tasks: a deferred task starts as a child of the task that its thread runs, or in the innermost open group of that task, unless that task is a member that waits in a barrier of the same region.
use Rattle.std.specs.Prelude.{◌≡◌, ◌⊎◌, ℕ, List, [], ◌∷◌, Bool, true, false, Some}
use Rattle.omi_script.specs.declared.program.Program.{Program}
use Rattle.omi_model.specs.declared.event.Event.{Event}
use Rattle.omi_model.specs.declared.event.Event.TheVariants as event
use Rattle.omi_model.specs.declared.id.Tid.{Tid}
use Rattle.omi_model.specs.declared.item.Item.{Item}
use Rattle.omi_model.specs.declared.item.Item.TheVariants as item
use Rattle.omi_model.specs.declared.progress.Progress.TheVariants.{Deferred}
use Rattle.omi_model.specs.declared.task.Task.{Task}
use Rattle.omi_model.specs.declared.group.Group.{Group}
use Rattle.omi_model.specs.Changes.{IsCurrent}
use Rattle.omi_model.specs.Groups.{IsInInnermost}
use Rattle.omi_model.specs.Reached.{Reached}
use Rattle.omi_model.specs.Rules.{Legal}
use Rattle.omi_model.specs.State.{State, scheduling_of, task_of}
use Rattle.omi_model.specs.WellFormed.{Ends}

-- a list whose next event of a barrier is a release or a pass, and no arrival
abbrev pub passes_next : List Item → Bool
passes_next [] = false
passes_next (item.Release ∷ xs) = true
passes_next (item.Pass ∷ xs) = true
passes_next (item.Arrive ∷ xs) = false
passes_next (item.Do s ∷ xs) = false
passes_next (x ∷ xs) = passes_next xs

-- a member that has arrived at a barrier and not passed it
pub record IsInBarrier (t : Task) : Type 0 where
  pub implicit : t.implicit ≡ true
  pub passes : passes_next t.list ≡ true

-- where a start is legal
abbrev pub StartsAreConstrained : Type 0
StartsAreConstrained = (p : Program) (events : List (ℕ × Event)) (s : State) → Reached p events s
    → (i : ℕ) (task k : Tid) (t u : Task) → Legal p s i (event.Start task) → IsCurrent s i k t
    → task_of s task ≡ Some u
    → (u.generating ≡ Some k) ⊎ (IsInInnermost k t u ⊎ (IsInBarrier t × (u.region ≡ t.region)))

-- so an explicit task that has started was scheduled from its generating task, from the owner of its group, or from a member of its region
abbrev pub IsUnderOwner : Task → Type 0
IsUnderOwner u = (g : Group) × (u.group ≡ Some g) × (u.scheduling ≡ Some g.owner)

abbrev pub IsScheduledRightly : State → Task → Type 0
IsScheduledRightly s u = u.implicit ≡ false → (u.progress ≡ Deferred → ⊥)
    → (u.scheduling ≡ u.generating) ⊎ (IsUnderOwner u ⊎ ((k : Tid) × (t : Task)
    × (u.scheduling ≡ Some k) × (task_of s k ≡ Some t) × (t.implicit ≡ true)
    × (t.region ≡ u.region)))

pub record IsScheduled (s : State) (u : Task) : Type 0 where
  pub rightly : IsScheduledRightly s u
  pub ends : Ends (scheduling_of s) u.scheduling

-- in every reached state; and the chain of scheduling tasks ends
abbrev pub SchedulingIsRight : Type 0
SchedulingIsRight = (p : Program) (events : List (ℕ × Event)) (s : State)
    → Reached p events s → (k : Tid) (u : Task) → task_of s k ≡ Some u → IsScheduled s u
