-- What a tool may be shown of a state.
use Rattle.std.specs.Prelude.{◌≡◌, Some, IsSome, All, MatchBool, ⊤}
use Rattle.omi_model.specs.declared.id.Tid.{Tid}
use Rattle.omi_model.specs.declared.id.Rid.{Rid}
use Rattle.omi_model.specs.State.{State, region_of, task_of}
use Rattle.omi_model.specs.declared.region.Region.{Region}
use Rattle.omi_model.specs.declared.task.Task.{Task}
use Rattle.omi_model.specs.declared.progress.Progress.{Progress}
use Rattle.omi_model.specs.declared.progress.Progress.TheVariants.{Deferred, NotBegun, Begun, Finished}

-- a live region whose team's tasks are all live
pub record IsVisibleRegion (s : State) (n : Rid) : Type 0 where
  pub region : Region
  pub live : region_of s n ≡ Some region
  pub team : All (λ m. IsSome (task_of s m.0)) region.team

-- a task that has begun or finished
abbrev pub HasStarted : Progress → Type 0
HasStarted Deferred = ⊥
HasStarted NotBegun = ⊥
HasStarted Begun = ⊤
HasStarted Finished = ⊤

-- a live implicit task whose region is visible, or a live explicit task that has begun or finished
pub record IsVisibleTask (s : State) (k : Tid) : Type 0 where
  pub task : Task
  pub live : task_of s k ≡ Some task
  pub shown : MatchBool task.implicit (IsVisibleRegion s task.region) (HasStarted task.progress)
