-- What an event looks at, and the parts of a state that it changes.
use Rattle.std.specs.Prelude.{◌≡◌, ℕ, false, List, ◌∷◌, Option, Some, None}
use Rattle.std.specs.Option.{option_and_then, option_map, option_map_or}
use Rattle.omi_model.specs.declared.id.Tid.{Tid}
use Rattle.omi_model.specs.declared.id.Rid.{Rid}
use Rattle.omi_model.specs.declared.freeable.Freeable.{Freeable}
use Rattle.omi_model.specs.declared.item.Item.{Item}
use Rattle.omi_model.specs.declared.item.Item.TheVariants as item
use Rattle.omi_model.specs.Put.{put, on}
use Rattle.omi_model.specs.declared.encounter.Encounter.{Encounter}
use Rattle.omi_model.specs.State.{State, region_of, task_of, current_task}
use Rattle.omi_model.specs.declared.thread.Thread.{Thread}
use Rattle.omi_model.specs.declared.region.Region.{Region}
use Rattle.omi_model.specs.declared.task.Task.{Task}

-- changes of one thread, of one task, of one region
abbrev pub on_thread : State → ℕ → (Thread → Thread) → State
on_thread s i f = record s { threads = put s.threads i (f (s.threads i)) }

abbrev pub on_task : State → Tid → (Task → Task) → State
on_task s k f = record s { tasks = on s.tasks k.0 f }

abbrev pub on_region : State → Rid → (Region → Region) → State
on_region s n f = record s { regions = on s.regions n.0 f }

-- a thread with another current task
abbrev pub with_current : State → ℕ → Option Tid → State
with_current s i k = on_thread s i (λ h. record h { current = k })

-- what an event makes by the current task of its thread, and by that task and its region; none where there is no such task
abbrev pub by_current : State → ℕ → (Tid → Task → State) → Option State
by_current s i f = option_and_then (λ k. option_map (f k) (task_of s k)) (s.threads i).current

abbrev pub by_region : State → ℕ → (Tid → Task → Region → State) → Option State
by_region s i f =
    option_and_then
    (λ k. option_and_then (λ t. option_map (f k t) (region_of s t.region)) (task_of s k))
    (s.threads i).current

-- a task is the current one of a thread, and live
pub record IsCurrent (s : State) (i : ℕ) (k : Tid) (t : Task) : Type 0 where
  pub name : (s.threads i).current ≡ Some k
  pub live : task_of s k ≡ Some t

-- a fact of the current task of a thread, and one of it and its region
abbrev pub OfCurrent : State → ℕ → (Tid → Task → Type 0) → Type 0
OfCurrent s i P = (k : Tid) × (t : Task) × IsCurrent s i k t × P k t

abbrev pub OfCurrentRegion : State → ℕ → (Tid → Task → Region → Type 0) → Type 0
OfCurrentRegion s i P = (k : Tid) × (t : Task) × (r : Region) × IsCurrent s i k t
    × (region_of s t.region ≡ Some r) × P k t r

-- the list that allows a thread's events: that of its current task, else its own
abbrev pub list_of : State → ℕ → List Item
list_of s i = option_map_or (λ t. t.list) (current_task s i) (s.threads i).list

-- what may be given back stands in front of a list
abbrev pub in_front : Option Freeable → List Item → List Item
in_front None list = list
in_front (Some next) list = item.Frees next ∷ list

-- all that a thread may go on with
abbrev pub ahead_of : State → ℕ → List Item
ahead_of s i =
    option_map_or (λ t. in_front t.frees t.list) (current_task s i) (s.threads i).list

-- the list moves on: what could be given back in front of it is passed over
abbrev pub with_ahead : State → ℕ → Option Freeable → List Item → State
with_ahead s i frees list =
    option_map_or (λ k. on_task s k (λ t. record t { frees = frees; list = list }))
    (s.threads i).current (on_thread s i (λ h. record h { list = list }))

abbrev pub with_list : State → ℕ → List Item → State
with_list s i list = with_ahead s i None list

-- the level of a region, 0 where it isn't live
abbrev pub level_of : State → Rid → ℕ
level_of s n = option_map_or (λ r. r.levels) (region_of s n) 0

-- what a row sees of the task that encounters a statement. A worker without a task encounters none.
abbrev pub encounter_by : State → Option Task → Encounter
encounter_by s None =
    record { debug = s.environment.debug; number = 0; level = 0; is_final = false }
encounter_by s (Some t) =
    record {
      debug = s.environment.debug;
      number = t.number;
      level = level_of s t.region;
      is_final = t.is_final;
    }

abbrev pub encounter : State → ℕ → Encounter
encounter s i = encounter_by s (current_task s i)
