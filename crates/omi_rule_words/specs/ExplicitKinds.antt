-- Kinds of steps of explicit tasks: what the stores that defer, start and finish one keep of the words, whatever thread makes them, and
-- what is kept while a deferred task is taken from its slot.
use Rattle.std.specs.Prelude.{◌≡◌, ◌≢◌, ◌+◌, ℕ, ◌<◌, Bool, true, false, List, [], ◌∷◌, Some}
use Rattle.omi_script.specs.declared.program.Program.{Program}
use Rattle.omi_model.specs.declared.group.Group.{Group}
use Rattle.omi_model.specs.declared.id.Tid.{Tid}
use Rattle.omi_model.specs.declared.progress.Progress.TheVariants as progress
use Rattle.omi_model.specs.declared.task.Task.{Task}
use Rattle.omi_model.specs.Groups.{AreMembersFinished, with_groups}
use Rattle.omi_model.specs.LawNames.{AreNamesLive}
use Rattle.omi_model.specs.State.{State, task_of}
use Rattle.omi_model.specs.Tasking.{AreChildrenFinished, deferred, deferred_task, finished, scheduled, started, started_alone, started_now}
use Rattle.omi_numbers.specs.declared.limits.TheConstants.{OPEN_GROUPS, OWN_SLOTS}
use Rattle.omi_layout.specs.declared.limits.TheConstants.{COUNT_PLACE, OPEN_PLACE}
use Rattle.omi_layout.specs.declared.field.Field.{Field}
use Rattle.omi_layout.specs.declared.field.Field.TheVariants.{TaskChildren, TaskReferences, TaskSlots, ThreadCurrent}
use Rattle.omi_layout.specs.Field.{tasks, threads}
use Rattle.omi_layout.specs.Memory.{Memory, Rec, replace_at, with_word}
use Rattle.omi_layout.specs.Named.{number}
use Rattle.omi_layout.specs.Place.{IsSlot}
use Rattle.omi_layout.specs.Valid.{IsValid}
use Rattle.omi_rep.specs.Codes.{is_place}
use Rattle.omi_rep.specs.Records.{task_address, task_word, slot_word}
use Rattle.omi_rep.specs.Shows.{IsWithin}
use Rattle.omi_rule_words.specs.Owes.{Owed, nothing}
use Rattle.omi_rule_words.specs.Threads.{Has}
use Rattle.omi_rule_words.specs.Objects.{IsDeferredIn, KeepsEnvironment, KeepsPlace}
use Rattle.omi_rule_words.specs.Words.{KeepsWords}
use Rattle.omi_rule_words.specs.CountKinds.{count_of}
use Rattle.omi_rule_words.specs.Groups.{AreOwnersLive}

-- ---- slots

-- a slot of a row, which is the implicit task of a thread in its region
abbrev pub slot_of : Memory → Tid → ℕ → ℕ
slot_of m row place = m row.0.creator tasks row.0.slot (number TaskSlots) place

abbrev pub with_slot : Memory → Tid → ℕ → ℕ → Memory
with_slot m row place word = with_word m row.0.creator tasks row.0.slot (number TaskSlots) place word

-- an implicit task with this region, on this thread
pub record IsRow (s : State) (i : ℕ) (row : Tid) (t : Task) : Type 0 where
  pub task : Task
  pub live : task_of s row ≡ Some task
  pub implicit : task.implicit ≡ true
  pub region : task.region ≡ t.region
  pub thread : task.thread ≡ i

-- ---- a task is deferred, or starts at once

-- a record in the making stands filled for an explicit task that is new: it counts no children and no tasks of groups, and refers to itself
pub record IsFilledFor (w : List ℕ) (r : Rec) (t : Task) : Type 0 where
  pub environment : KeepsEnvironment w r t
  pub children : Has r TaskChildren 0 0
  pub references : Has r TaskReferences 0 1
  pub groups : (index : ℕ) → index < OPEN_GROUPS → Has r TaskSlots (COUNT_PLACE + index) 0

-- what a thread owes before the event that makes a task: its record, which is one of the layout, and the raises in its region and in
-- the task that makes it, with that of the new task's group
pub record OwesNew (w : List ℕ) (s : State) (owes : ℕ → Owed) (i : ℕ) (task k : Tid) (t : Task) : Type 0 where
  pub owed : owes i
      ≡ record nothing {
        tasks = task ∷ [];
        pending = Some t.region;
        raised = Some k;
        referred = Some k;
        counted = Some k;
      }
  pub made_by : IsSlot w tasks task.0.creator task.0.slot
  pub live : task_of s k ≡ Some t

-- A thread defers a task, whose record stands filled, into an empty slot of its row
abbrev pub DefersKeep : Type 0
DefersKeep = (p : Program) (w : List ℕ) (m : Memory) (s : State) (owes : ℕ → Owed) (i : ℕ) (task : Tid)
    (f : ℕ) (final : Bool) (place : ℕ) (k : Tid) (t : Task) (row : Tid)
    → KeepsWords w m s owes → IsWithin w s → AreNamesLive s → AreOwnersLive s → IsValid w
    → i < s.count → OwesNew w s owes i task k t → IsRow s i row t
    → place < OWN_SLOTS → slot_of m row place ≡ 0
    → IsFilledFor w (m i tasks task.0.slot) (deferred_task p k t f final place)
    → KeepsWords w (with_slot m row place (slot_word w task)) (deferred p s task f final place k t)
    (replace_at owes i nothing)

-- A thread starts a new task at once: its record stands filled, with its place on the thread, and is stored as the current one
abbrev pub StartsNowKeep : Type 0
StartsNowKeep = (p : Program) (w : List ℕ) (m : Memory) (s : State) (owes : ℕ → Owed) (i : ℕ) (task : Tid)
    (f : ℕ) (final : Bool) (k : Tid) (t : Task)
    → KeepsWords w m s owes → IsWithin w s → AreNamesLive s → AreOwnersLive s → IsValid w
    → i < s.count → OwesNew w s owes i task k t
    → IsFilledFor w (m i tasks task.0.slot) (deferred_task p k t f final 0)
    → KeepsPlace w (m i tasks task.0.slot) (scheduled i k t (deferred_task p k t f final 0))
    → KeepsWords w (with_word m i threads 0 (number ThreadCurrent) 0 (task_address w task))
    (started_now p s i task f final k t) (replace_at owes i nothing)

-- ---- a deferred task is taken, and starts

-- a deferred task
pub record IsDeferred (s : State) (k : Tid) (t : Task) : Type 0 where
  pub live : task_of s k ≡ Some t
  pub explicit : t.implicit ≡ false
  pub progress : t.progress ≡ progress.Deferred

-- A deferred task is taken: the slot in which it stands is emptied, and it is in the thread's hand from then on
abbrev pub SlotTakesKeep : Type 0
SlotTakesKeep = (w : List ℕ) (m : Memory) (s : State) (owes : ℕ → Owed) (i : ℕ) (row : Tid) (u : Task)
    (place : ℕ) (k : Tid) → KeepsWords w m s owes → IsWithin w s → IsValid w
    → i < s.count → owes i ≡ nothing → task_of s row ≡ Some u → u.implicit ≡ true → place < OWN_SLOTS
    → IsDeferredIn s u place k → slot_of m row place ≡ slot_word w k
    → KeepsWords w (with_slot m row place 0) s (replace_at owes i (record nothing { hand = Some k }))

-- A word of the place of a deferred task is stored: nothing is said of it until the task starts
abbrev pub PlaceStoresKeep : Type 0
PlaceStoresKeep = (w : List ℕ) (m : Memory) (s : State) (owes : ℕ → Owed) (k : Tid) (t : Task) (f : Field)
    (at word : ℕ) → KeepsWords w m s owes → IsDeferred s k t → is_place f ≡ true
    → KeepsWords w (with_word m k.0.creator tasks k.0.slot (number f) at word) s owes

-- A deferred task in the hand starts: its place stands in its record, which is stored as the thread's current one. In a wait the
-- thread shows first that it works, but not at `taskyield`
abbrev pub IsReady : List ℕ → Memory → State → (ℕ → Owed) → ℕ → Tid → Task → Tid → Task → Type 0
IsReady w m s owes i task new k t =
    (owes i ≡ record nothing { hand = Some task }) × IsDeferred s task new
    × KeepsPlace w (m task.0.creator tasks task.0.slot) (scheduled i k t new)

abbrev pub StartsKeep : Type 0
StartsKeep = (w : List ℕ) (m : Memory) (s : State) (owes : ℕ → Owed) (i : ℕ) (task : Tid) (new : Task)
    (k : Tid) (t : Task) → KeepsWords w m s owes → i < s.count
    → IsReady w m s owes i task new k t
    → KeepsWords w (with_word m i threads 0 (number ThreadCurrent) 0 (task_address w task))
    (started s i task k t) (replace_at owes i nothing)

abbrev pub StartsAloneKeep : Type 0
StartsAloneKeep = (w : List ℕ) (m : Memory) (s : State) (owes : ℕ → Owed) (i : ℕ) (task : Tid) (new : Task)
    (k : Tid) (t : Task) → KeepsWords w m s owes → i < s.count
    → IsReady w m s owes i task new k t
    → KeepsWords w (with_word m i threads 0 (number ThreadCurrent) 0 (task_address w task))
    (started_alone s i task k t) (replace_at owes i nothing)

-- ---- a task finishes

-- an explicit task has begun and not finished
pub record IsRunning (s : State) (k : Tid) (t : Task) : Type 0 where
  pub live : task_of s k ≡ Some t
  pub explicit : t.implicit ≡ false
  pub progress : t.progress ≡ progress.Begun

-- It finishes: its thread stores the task that it was scheduled from as the current one, and owes the lowerings. Another task has
-- made it, whose word for unfinished children is to be lowered
abbrev pub FinishesKeep : Type 0
FinishesKeep = (w : List ℕ) (m : Memory) (s : State) (owes : ℕ → Owed) (i : ℕ) (k g : Tid) (t : Task)
    → KeepsWords w m s owes → IsWithin w s → AreNamesLive s → i < s.count → owes i ≡ nothing
    → IsRunning s k t → t.generating ≡ Some g
    → KeepsWords w (with_word m i threads 0 (number ThreadCurrent) 0 (task_word w t.scheduling))
    (finished s i k t)
    (replace_at owes i
    (record nothing { pending = Some t.region; lowered = Some k; uncounted = Some k; own = Some k }))

-- ---- groups

-- A task begins or ends a group: the number of its open groups is stored, while no thread has raised a count for one of its tasks in the making
abbrev pub GroupStoresKeep : Type 0
GroupStoresKeep = (w : List ℕ) (m : Memory) (s : State) (owes : ℕ → Owed) (k : Tid) (t : Task) (n : ℕ)
    → KeepsWords w m s owes → task_of s k ≡ Some t
    → ((j : ℕ) → j < s.count → (owes j).counted ≢ Some k)
    → KeepsWords w (with_slot m k OPEN_PLACE n) (with_groups s n k) owes

-- Where the count of a group is 0, each of its tasks has finished
abbrev pub AllMembersFinished : Type 0
AllMembersFinished = (w : List ℕ) (m : Memory) (s : State) (owes : ℕ → Owed) (g : Group) (t : Task)
    → KeepsWords w m s owes → IsWithin w s → task_of s g.owner ≡ Some t → g.index < OPEN_GROUPS
    → count_of m g ≡ 0 → AreMembersFinished s g

-- ---- children

-- Where the word of a live task for its unfinished explicit children is 0, each of its children has finished
abbrev pub AllChildrenFinished : Type 0
AllChildrenFinished = (w : List ℕ) (m : Memory) (s : State) (owes : ℕ → Owed) (k : Tid) (t : Task)
    → KeepsWords w m s owes → IsWithin w s → task_of s k ≡ Some t
    → m k.0.creator tasks k.0.slot (number TaskChildren) 0 ≡ 0 → AreChildrenFinished s k
