-- What the words of live regions and tasks are between any two steps, seen or not: the codes of the state, but for what threads owe.
use Rattle.std.specs.Prelude.{◌≡◌, ◌⊎◌, ℕ, ◌+◌, ◌*◌, ◌<◌, ◌==◌, ◌&&◌, Bool, true, false, List, Some, None, if◌then◌else◌}
use Rattle.omi_model.specs.declared.id.Rid.{Rid}
use Rattle.omi_model.specs.declared.id.Tid.{Tid}
use Rattle.omi_model.specs.declared.progress.Progress.TheVariants as progress
use Rattle.omi_model.specs.declared.region.Region.{Region}
use Rattle.omi_model.specs.declared.slot.Slot.{Slot}
use Rattle.omi_model.specs.declared.task.Task.{Task}
use Rattle.omi_model.specs.State.{State, task_of}
use Rattle.omi_numbers.specs.declared.limits.TheConstants.{OWN_SLOTS}
use Rattle.omi_layout.specs.declared.field.Field.{Field}
use Rattle.omi_layout.specs.declared.field.Field.TheVariants.{RegionPending, RegionLeft, TaskChildren, TaskReferences, TaskSlots}
use Rattle.omi_layout.specs.Memory.{Rec}
use Rattle.omi_layout.specs.Named.{number}
use Rattle.omi_rep.specs.Codes.{HasCodes, is_place, region_code, region_told, task_code, task_told}
use Rattle.omi_rep.specs.Records.{slot_word}
use Rattle.omi_rule_words.specs.Owes.{Owed}
use Rattle.omi_rule_words.specs.Counts.{sum_below, sum_of_owed, sum_of_slots, one, unfinished_in, unfinished_children, live_children, is_explicit, own_reference, ended_members, pending_owed, left_owed, children_owed, references_owed, gives_owed, start_owed}
use Rattle.omi_rule_words.specs.Threads.{Has}

-- ---- life words

-- of a slot whose record is in use, of one whose record is taken, and of a free one
pub record KeepsLife {A : Type 0} (r : Rec) (life : Field) (slot : Slot A) (owed : Bool) : Type 0 where
  pub live : (x : A) → slot.live ≡ Some x → r (number life) 0 + 1 ≡ 2 * slot.generations
  pub taken : slot.live ≡ None → owed ≡ true → Has r life 0 (2 * slot.generations + 1)
  pub free : slot.live ≡ None → owed ≡ false → Has r life 0 (2 * slot.generations)

-- ---- regions

-- the record of a live region: each code of the region, and what is counted of its tasks and members
pub record KeepsRegion (w : List ℕ) (s : State) (owes : ℕ → Owed) (n : Rid) (r : Rec) (region : Region)
    : Type 0 where
  pub codes : HasCodes (region_code w (region_told region)) r
  pub pending : Has r RegionPending 0
      (unfinished_in w s n + sum_of_owed s owes (pending_owed n))
  pub left : r (number RegionLeft) 0 + sum_of_owed s owes (left_owed n) ≡ ended_members region

-- ---- tasks

-- each code that every task has from its making on, which is each but for its place on a thread
abbrev pub KeepsEnvironment : List ℕ → Rec → Task → Type 0
KeepsEnvironment w r t = (f : Field) (at word : ℕ) → is_place f ≡ false
    → task_code w (task_told t) f at ≡ Some word → Has r f at word

-- and those of the place
abbrev pub KeepsPlace : List ℕ → Rec → Task → Type 0
KeepsPlace w r t = (f : Field) (at word : ℕ) → is_place f ≡ true
    → task_code w (task_told t) f at ≡ Some word → Has r f at word

-- a task has a place where it is implicit, or was not deferred, or has started since
abbrev pub HasPlace : Task → Type 0
HasPlace t = t.implicit ≡ false → t.progress ≡ progress.Deferred → ⊥

-- What is counted of a live task's children: those that have not finished, and, with the task itself where it is explicit and has not
-- finished, those that live. An explicit task without a reference is given back by exactly one thread, and no other task is
pub record KeepsCounts (w : List ℕ) (s : State) (owes : ℕ → Owed) (k : Tid) (r : Rec) (t : Task) : Type 0 where
  pub children : Has r TaskChildren 0
      (unfinished_children w s k + sum_of_owed s owes (children_owed s k))
  pub references : Has r TaskReferences 0
      (own_reference t + (live_children w s k + sum_of_owed s owes (references_owed k)))
  pub given : sum_of_owed s owes (gives_owed k)
      ≡ one (is_explicit t && r (number TaskReferences) 0 == 0)

-- ---- slots for deferred tasks

-- a task is deferred in a place of a row: the row is the implicit task of the thread that made it, in its region
pub record IsDeferredIn (s : State) (row : Task) (place : ℕ) (k : Tid) : Type 0 where
  pub task : Task
  pub live : task_of s k ≡ Some task
  pub progress : task.progress ≡ progress.Deferred
  pub region : task.region ≡ row.region
  pub place_is : task.place ≡ place
  pub maker : k.0.creator ≡ row.thread

-- each slot of a live implicit task is empty or has such a task
abbrev pub KeepsSlots : List ℕ → State → Rec → Task → Type 0
KeepsSlots w s r row = (place : ℕ) → place < OWN_SLOTS
    → Has r TaskSlots place 0
    ⊎ ((k : Tid) × IsDeferredIn s row place k × Has r TaskSlots place (slot_word w k))

-- the slots of live implicit tasks in which a word stands, by the records of tasks
abbrev pub slots_with : List ℕ → (ℕ → ℕ → Rec) → State → ℕ → ℕ
slots_with w r s word =
    sum_of_slots w s
    (λ creator slot t. if t.implicit
    then sum_below OWN_SLOTS
    (λ place. one (r creator slot (number TaskSlots) place == word))
    else 0)

-- each deferred task is in exactly one slot or one hand, and nothing else is in a hand
pub record KeepsDeferred (w : List ℕ) (r : ℕ → ℕ → Rec) (s : State) (owes : ℕ → Owed) : Type 0 where
  pub once : (k : Tid) (t : Task) → task_of s k ≡ Some t → t.progress ≡ progress.Deferred
      → slots_with w r s (slot_word w k) + sum_of_owed s owes (start_owed k) ≡ 1
  pub hands : (i : ℕ) (k : Tid) → i < s.count → (owes i).hand ≡ Some k
      → (t : Task) × (task_of s k ≡ Some t) × (t.progress ≡ progress.Deferred)
