-- Barriers in lists: behind each arrival of a member stand at once the tasks that may start there, the release in the list of member 0 exactly, and the pass. What is left of one barrier may stand at the front. The list of an explicit task has nothing of a barrier.
use Rattle.std.specs.Prelude.{◌≡◌, ◌≢◌, ℕ, List, [], ◌∷◌, true, false, Some, ⊤}
use Rattle.omi_script.specs.declared.program.Program.{Program}
use Rattle.omi_model.specs.declared.event.Event.{Event}
use Rattle.omi_model.specs.declared.id.Tid.{Tid}
use Rattle.omi_model.specs.declared.item.Item.{Item}
use Rattle.omi_model.specs.declared.item.Item.TheVariants as item
use Rattle.omi_model.specs.declared.task.Task.{Task}
use Rattle.omi_model.specs.Reached.{Reached}
use Rattle.omi_model.specs.State.{State, task_of}

-- how far a member is in a barrier: in none, arrived, past the tasks, or past the release
pub data Stage : Type 0 where
  Outside : Stage
  Arrived : Stage
  Waiting : Stage
  Released : Stage

-- the list of member n from a stage on. A start is followed by the state of the wait again.
abbrev pub IsInOrder : ℕ → Stage → List Item → Type 0
IsInOrder n Outside [] = ⊤
IsInOrder n Outside (item.Arrive ∷ xs) = IsInOrder n Arrived xs
IsInOrder n Outside (item.Release ∷ xs) = ⊥
IsInOrder n Outside (item.Pass ∷ xs) = ⊥
IsInOrder n Outside (x ∷ xs) = IsInOrder n Outside xs
IsInOrder n Arrived (item.State state wait ∷ xs) = IsInOrder n Arrived xs
IsInOrder n Arrived (item.Tasks state ∷ xs) = IsInOrder n Waiting xs
IsInOrder n Waiting (item.Release ∷ xs) = (n ≡ 0) × IsInOrder n Released xs
IsInOrder n Waiting (item.Pass ∷ xs) = (n ≢ 0) × IsInOrder n Outside xs
IsInOrder n Released (item.Pass ∷ xs) = IsInOrder n Outside xs
IsInOrder n stage xs = ⊥

-- nothing of a barrier
abbrev pub HasNoBarrier : List Item → Type 0
HasNoBarrier [] = ⊤
HasNoBarrier (item.Arrive ∷ xs) = ⊥
HasNoBarrier (item.Release ∷ xs) = ⊥
HasNoBarrier (item.Pass ∷ xs) = ⊥
HasNoBarrier (x ∷ xs) = HasNoBarrier xs

pub record AreBarriersInOrder (t : Task) : Type 0 where
  pub member : t.implicit ≡ true → (stage : Stage) × IsInOrder t.number stage t.list
  pub explicit : t.implicit ≡ false → HasNoBarrier t.list

-- in every reached state
abbrev pub BarriersAreInOrder : Type 0
BarriersAreInOrder = (p : Program) (events : List (ℕ × Event)) (s : State) → Reached p events s
    → (k : Tid) (t : Task) → task_of s k ≡ Some t → AreBarriersInOrder t
