-- What holds of the words between any two steps of any threads: they are the codes of the state, but for what threads owe.
use Rattle.std.specs.Prelude.{◌≡◌, ℕ, ◌<◌, true, false, List, [], ◌∷◌, All, IsSome, ◌-◌, Some, None}
use Rattle.std.specs.Option.{option_and_then}
use Rattle.omi_model.specs.declared.id.Id.{Id}
use Rattle.omi_model.specs.declared.id.Rid.{Rid}
use Rattle.omi_model.specs.declared.id.Tid.{Tid}
use Rattle.omi_model.specs.declared.progress.Progress.TheVariants as progress
use Rattle.omi_model.specs.declared.region.Region.{Region}
use Rattle.omi_model.specs.declared.slot.Slot.{Slot}
use Rattle.omi_model.specs.declared.task.Task.{Task}
use Rattle.omi_model.specs.State.{State, region_of, task_of}
use Rattle.omi_layout.specs.declared.field.Field.TheVariants.{RegionLife, TaskLife}
use Rattle.omi_layout.specs.Field.{runtime, threads, regions, tasks}
use Rattle.omi_layout.specs.Memory.{Rec, MadeRecords, Memory}
use Rattle.omi_layout.specs.Table.{per_thread}
use Rattle.omi_pc.specs.declared.place.Place.{Place}
use Rattle.omi_rule_words.specs.Owes.{Owed}
use Rattle.omi_rule_words.specs.Counts.{has_slot, has_region_slot, is_at, generating_of}
use Rattle.omi_rule_words.specs.Threads.{KeepsRuntime, KeepsThread, WaitsFor, KeepsAssign}
use Rattle.omi_rule_words.specs.Objects.{KeepsLife, KeepsRegion, HasPlace, KeepsEnvironment, KeepsPlace, KeepsCounts, KeepsSlots, KeepsDeferred}
use Rattle.omi_rule_words.specs.Groups.{KeepsGroups}

-- ---- records in the making

-- a record in the making is this thread's, in a slot without a live object, and of the slot's next generation
pub record IsInTheMaking {A : Type 0} (i : ℕ) (made : ℕ → Slot A) (n : Id) : Type 0 where
  pub maker : n.creator ≡ i
  pub free : (made n.slot).live ≡ None
  pub next : n.generation ≡ (made n.slot).generations

-- no two of them have one slot
abbrev pub AreApart : List Tid → Type 0
AreApart [] = Unit {0}
AreApart (k ∷ ks) = (has_slot k.0.slot ks ≡ false) × AreApart ks

pub record KeepsMaking (s : State) (i : ℕ) (o : Owed) : Type 0 where
  pub region : (n : Rid) → o.region ≡ Some n → IsInTheMaking i (s.regions i) n.0
  pub tasks : All (λ k. IsInTheMaking i (s.tasks i) k.0) o.tasks
  pub apart : AreApart o.tasks

-- ---- what a thread owes on

-- a task that has finished, and whose record was not given back
pub record HasFinished (s : State) (k : Tid) : Type 0 where
  pub task : Task
  pub live : task_of s k ≡ Some task
  pub explicit : task.implicit ≡ false
  pub progress : task.progress ≡ progress.Finished

-- a live task is of the region on whose word for unfinished explicit tasks a thread owes
abbrev pub IsOwedIn : State → Owed → Tid → Type 0
IsOwedIn s o k = (t : Task) × (task_of s k ≡ Some t) × (o.pending ≡ Some t.region)

-- It lives, so no step of another thread gives its record to another object. What is owed on the references of a task comes before
-- what is owed on its region
pub record OwesOnLive (s : State) (o : Owed) : Type 0 where
  pub pending : (n : Rid) → o.pending ≡ Some n → IsSome (region_of s n)
  pub left : (n : Rid) → o.left ≡ Some n
      → (r : Region) × (region_of s n ≡ Some r) × (r.joined ≡ false)
  pub raised : (k : Tid) → o.raised ≡ Some k → IsSome (task_of s k)
  pub lowered : (k : Tid) → o.lowered ≡ Some k
      → (o.own ≡ Some k) × IsSome (option_and_then (task_of s) (generating_of s k))
  pub referred : (k : Tid) → o.referred ≡ Some k → IsOwedIn s o k
  pub own : (k : Tid) → o.own ≡ Some k → HasFinished s k × IsOwedIn s o k
  pub returned : (p : Place) → o.returned ≡ Some p → (k : Tid) × (is_at k p ≡ true) × IsOwedIn s o k
  pub gives : (k : Tid) → o.gives ≡ Some k → HasFinished s k × IsOwedIn s o k
  pub assigns : All (λ m. WaitsFor s m.1 m.0) o.assigns

-- ---- the records that a thread makes

-- the names of what lives in a slot that has had objects
abbrev pub region_in : ℕ → ℕ → Slot Region → Rid
region_in creator slot x = record { 0 = record { creator = creator; slot = slot; generation = x.generations - 1 } }

abbrev pub task_in : ℕ → ℕ → Slot Task → Tid
task_in creator slot x = record { 0 = record { creator = creator; slot = slot; generation = x.generations - 1 } }

pub record KeepsRegionSlot (w : List ℕ) (s : State) (owes : ℕ → Owed) (i slot : ℕ) (r : Rec) : Type 0 where
  pub life : KeepsLife r RegionLife (s.regions i slot) (has_region_slot slot (owes i).region)
  pub live : (x : Region) → (s.regions i slot).live ≡ Some x
      → KeepsRegion w s owes (region_in i slot (s.regions i slot)) r x

pub record KeepsTask (w : List ℕ) (s : State) (owes : ℕ → Owed) (k : Tid) (r : Rec) (t : Task) : Type 0 where
  pub environment : KeepsEnvironment w r t
  pub place : HasPlace t → KeepsPlace w r t
  pub counts : KeepsCounts w s owes k r t
  pub slots : t.implicit ≡ true → KeepsSlots w s r t

pub record KeepsTaskSlot (w : List ℕ) (s : State) (owes : ℕ → Owed) (i slot : ℕ) (r : Rec) : Type 0 where
  pub life : KeepsLife r TaskLife (s.tasks i slot) (has_slot slot (owes i).tasks)
  pub live : (t : Task) → (s.tasks i slot).live ≡ Some t
      → KeepsTask w s owes (task_in i slot (s.tasks i slot)) r t

pub record KeepsMade (w : List ℕ) (s : State) (owes : ℕ → Owed) (i : ℕ) (made : MadeRecords) : Type 0 where
  pub thread : KeepsThread w i (made threads 0) (s.threads i)
  pub assign : KeepsAssign w s owes i (made threads 0)
  pub regions : (slot : ℕ) → slot < per_thread w regions
      → KeepsRegionSlot w s owes i slot (made regions slot)
  pub tasks : (slot : ℕ) → slot < per_thread w tasks → KeepsTaskSlot w s owes i slot (made tasks slot)
  pub making : KeepsMaking s i (owes i)
  pub objects : OwesOnLive s (owes i)

-- ---- the whole

pub record KeepsWords (w : List ℕ) (m : Memory) (s : State) (owes : ℕ → Owed) : Type 0 where
  pub runtime_record : KeepsRuntime w (m 0 runtime 0) s
  pub made : (i : ℕ) → i < s.count → KeepsMade w s owes i (m i)
  pub deferred : KeepsDeferred w (λ creator. m creator tasks) s owes
  pub groups : KeepsGroups w (λ creator. m creator tasks) s owes
