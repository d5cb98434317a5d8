-- A memory shows a state: the words of its records stand for what a tool may be shown of the state. Nothing is said of other words.
use Rattle.std.specs.Prelude.{◌≡◌, ◌<◌, ◌≤◌, ℕ, ◌+◌, ◌*◌, Bool, true, List, Some, None}
use Rattle.omi_model.specs.declared.id.Rid.{Rid}
use Rattle.omi_model.specs.declared.id.Tid.{Tid}
use Rattle.omi_model.specs.Put.{Slots, found}
use Rattle.omi_model.specs.declared.slot.Slot.{Slot}
use Rattle.omi_model.specs.declared.task.Task.{Task}
use Rattle.omi_model.specs.State.{State, task_of}
use Rattle.omi_model.specs.Visible.{IsVisibleRegion, IsVisibleTask}
use Rattle.omi_model.specs.WellFormed.{IsWellFormed}
use Rattle.omi_layout.specs.declared.field.Field.{Field}
use Rattle.omi_layout.specs.declared.field.Field.TheVariants.{RegionLife, TaskLife}
use Rattle.omi_layout.specs.Field.{runtime, threads, regions, tasks}
use Rattle.omi_layout.specs.Named.{number}
use Rattle.omi_layout.specs.declared.limits.TheConstants.{FIRST_VERSION}
use Rattle.omi_layout.specs.Table.{thread_count, per_thread, version}
use Rattle.omi_word.specs.Words.{Words}
use Rattle.omi_layout.specs.Given.{GivesLayout}
use Rattle.omi_rep.specs.Codes.{Codes, runtime_code, runtime_told, thread_code, thread_told, region_code, region_told, task_code, task_told, shown, shown_unbegun}
use Rattle.omi_rep.specs.Records.{Seen, Records, records_of}

-- this word stands in a field of a record, at a place of the field
abbrev pub Stands : Seen → Field → ℕ → ℕ → Type 0
Stands r f at word = r (number f) at ≡ Some word

-- each code of these fields stands in a record
abbrev pub CodesStand : (Field → Bool) → Codes → Seen → Type 0
CodesStand fields codes r = (f : Field) (at word : ℕ) → fields f ≡ true → codes f at ≡ Some word
    → Stands r f at word

-- the life word of a slot: 2g + 1 while its generation g is live, and at least twice the generations that it has had where it has no live object and this word is mapped
pub record ShowsSlot {A : Type 0} (r : Seen) (life : Field) (slot : Slot A) : Type 0 where
  pub live : (g : ℕ) (x : A) → found g slot ≡ Some x → Stands r life 0 (2 * g + 1)
  pub free : (word : ℕ) → slot.live ≡ None → Stands r life 0 word → 2 * slot.generations ≤ word

-- each live object was made by a thread of the layout, in a slot that the layout has for its kind
abbrev pub AreWithin : {A : Type 0} → List ℕ → ℕ → Slots A → Type 0
AreWithin {A} w kind slots = (creator slot g : ℕ) (x : A) → found g (slots creator slot) ≡ Some x
    → record { maker : creator < thread_count w; place : slot < per_thread w kind }

-- each live object has a name: it is of a generation that its slot has had
abbrev pub LiveAreNamed : {A : Type 0} → Slots A → Type 0
LiveAreNamed {A} slots = (creator slot : ℕ) (x : A) → (slots creator slot).live ≡ Some x
    → (g : ℕ) × (found g (slots creator slot) ≡ Some x)

-- the life words of all slots of the layout
abbrev pub ShowsSlots : {A : Type 0} → List ℕ → ℕ → (ℕ → ℕ → Seen) → Field → Slots A → Type 0
ShowsSlots w kind records life slots = (creator slot : ℕ) → creator < thread_count w
    → slot < per_thread w kind → ShowsSlot (records creator slot) life (slots creator slot)

-- the records show the state: each code of a shown field of what is visible stands
pub record RecordsShow (w : List ℕ) (m : Records) (s : State) : Type 0 where
  pub globals : CodesStand shown (runtime_code w (runtime_told s)) (m 0 runtime 0)
  pub lives : (i : ℕ) → i < s.count
      → CodesStand shown_unbegun (thread_code w i (thread_told (s.threads i))) (m i threads 0)
  pub threads : (i : ℕ) → i < s.count → (s.threads i).begun ≡ true
      → CodesStand shown (thread_code w i (thread_told (s.threads i))) (m i threads 0)
  pub region_lives : ShowsSlots w regions (λ creator. m creator regions) RegionLife s.regions
  pub task_lives : ShowsSlots w tasks (λ creator. m creator tasks) TaskLife s.tasks
  pub regions : (n : Rid) → (seen : IsVisibleRegion s n)
      → CodesStand shown (region_code w (region_told seen.region)) (m n.0.creator regions n.0.slot)
  pub tasks : (k : Tid) → (seen : IsVisibleTask s k)
      → CodesStand shown (task_code w (task_told seen.task)) (m k.0.creator tasks k.0.slot)

-- a state lies within a layout: it has as many threads, and all that is live has a name and a record
pub record IsWithin (w : List ℕ) (s : State) : Type 0 where
  pub well_formed : IsWellFormed s
  pub count : s.count ≡ thread_count w
  pub regions : AreWithin w regions s.regions
  pub tasks : AreWithin w tasks s.tasks
  pub regions_named : LiveAreNamed s.regions
  pub tasks_named : LiveAreNamed s.tasks

-- in a layout whose tasks have no words for groups, no task is a member of a group, and none has a group open
abbrev pub AreGroupsWithin : List ℕ → State → Type 0
AreGroupsWithin w s = version w ≡ FIRST_VERSION → (k : Tid) (t : Task) → task_of s k ≡ Some t
    → record { member : t.group ≡ None; open_groups : t.open_groups ≡ 0 }

-- the memory shows the state in this layout
pub record Shows (w : List ℕ) (words : Words) (s : State) : Type 0 where
  pub layout : GivesLayout words w
  pub within : IsWithin w s
  pub groups : AreGroupsWithin w s
  pub records : RecordsShow w (records_of w words) s
