-- Kinds of steps on what is counted of explicit tasks: before its event a thread raises the words for a task in the making, and after it the thread lowers those for one that has finished.
use Rattle.std.specs.Prelude.{◌≡◌, ℕ, ◌+◌, ◌-◌, ◌%◌, ◌^◌, ◌<◌, List, Some, None, IsSome}
use Rattle.omi_model.specs.declared.limits.TheConstants.{MOST_EVENTS}
use Rattle.omi_model.specs.declared.group.Group.{Group}
use Rattle.omi_model.specs.Groups.{group_within}
use Rattle.omi_model.specs.declared.id.Rid.{Rid}
use Rattle.omi_model.specs.declared.id.Tid.{Tid}
use Rattle.omi_model.specs.declared.progress.Progress.TheVariants.{Finished}
use Rattle.omi_model.specs.declared.task.Task.{Task}
use Rattle.omi_model.specs.State.{State, region_of, task_of}
use Rattle.omi_layout.specs.declared.field.Field.{Field}
use Rattle.omi_layout.specs.declared.field.Field.TheVariants.{RegionPending, TaskChildren, TaskReferences, TaskSlots}
use Rattle.omi_layout.specs.declared.limits.TheConstants.{COUNT_PLACE}
use Rattle.omi_numbers.specs.declared.limits.TheConstants.{OPEN_GROUPS}
use Rattle.omi_layout.specs.Field.{tasks}
use Rattle.omi_layout.specs.Memory.{Memory, replace_at, with_word}
use Rattle.omi_layout.specs.Named.{number}
use Rattle.omi_rule_words.specs.Owes.{Owed, nothing}
use Rattle.omi_rule_words.specs.Counts.{generating_of}
use Rattle.omi_rule_words.specs.Groups.{group_of}
use Rattle.omi_rule_words.specs.Words.{KeepsWords}
use Rattle.omi_rule_words.specs.BarrierKinds.{one_more, word_of_region, with_region_word}

-- the word that the subtraction of 1 leaves
abbrev pub one_less : ℕ → ℕ
one_less word = (word + (2 ^ 64 - 1)) % 2 ^ 64

-- the first word of a field in the record of a task, and the memory with this word replaced
abbrev pub word_of_task : Memory → Tid → Field → ℕ
word_of_task m k f = m k.0.creator tasks k.0.slot (number f) 0

abbrev pub with_task_word : Memory → Tid → Field → ℕ → Memory
with_task_word m k f word = with_word m k.0.creator tasks k.0.slot (number f) 0 word

-- the count of a group, and the memory with this word replaced
abbrev pub count_of : Memory → Group → ℕ
count_of m g = m g.owner.0.creator tasks g.owner.0.slot (number TaskSlots) (COUNT_PLACE + g.index)

abbrev pub with_count_of : Memory → Group → ℕ → Memory
with_count_of m g word =
    with_word m g.owner.0.creator tasks g.owner.0.slot (number TaskSlots) (COUNT_PLACE + g.index) word

-- ---- raises for a task in the making

-- 1 is added to a region's word for unfinished explicit tasks
abbrev pub PendingAddsKeep : Type 0
PendingAddsKeep = (w : List ℕ) (m : Memory) (s : State) (owes : ℕ → Owed) (i : ℕ) (n : Rid)
    → KeepsWords w m s owes → i < s.count → (owes i).pending ≡ None → IsSome (region_of s n)
    → word_of_region m n RegionPending < MOST_EVENTS
    → KeepsWords w
    (with_region_word m n RegionPending (one_more (word_of_region m n RegionPending))) s
    (replace_at owes i (record (owes i) { pending = Some n }))

-- 1 is added to a task's word for unfinished explicit children
abbrev pub ChildrenAddsKeep : Type 0
ChildrenAddsKeep = (w : List ℕ) (m : Memory) (s : State) (owes : ℕ → Owed) (i : ℕ) (k : Tid)
    → KeepsWords w m s owes → i < s.count → (owes i).raised ≡ None → IsSome (task_of s k)
    → word_of_task m k TaskChildren < MOST_EVENTS
    → KeepsWords w (with_task_word m k TaskChildren (one_more (word_of_task m k TaskChildren))) s
    (replace_at owes i (record (owes i) { raised = Some k }))

-- 1 is added to the word for references of a task that has not finished
abbrev pub ReferencesAddKeep : Type 0
ReferencesAddKeep = (w : List ℕ) (m : Memory) (s : State) (owes : ℕ → Owed) (i : ℕ) (k : Tid) (t : Task)
    → KeepsWords w m s owes → i < s.count → (owes i).referred ≡ None → task_of s k ≡ Some t
    → (t.progress ≡ Finished → ⊥) → (owes i).pending ≡ Some t.region
    → word_of_task m k TaskReferences < MOST_EVENTS
    → KeepsWords w (with_task_word m k TaskReferences (one_more (word_of_task m k TaskReferences))) s
    (replace_at owes i (record (owes i) { referred = Some k }))

-- 1 is added to the count of a group, for a task that task k is to generate in it. No other raise of it is owed
abbrev pub CountAddsKeep : Type 0
CountAddsKeep = (w : List ℕ) (m : Memory) (s : State) (owes : ℕ → Owed) (i : ℕ) (k : Tid) (t : Task)
    (g : Group) → KeepsWords w m s owes → i < s.count → (owes i).counted ≡ None → (owes i).raised ≡ Some k
    → task_of s k ≡ Some t → group_within k t ≡ Some g → IsSome (task_of s g.owner) → g.index < OPEN_GROUPS
    → count_of m g < MOST_EVENTS
    → KeepsWords w (with_count_of m g (one_more (count_of m g))) s
    (replace_at owes i (record (owes i) { counted = Some k }))

-- where the new task has no group, nothing is raised
abbrev pub NoCountKeeps : Type 0
NoCountKeeps = (w : List ℕ) (m : Memory) (s : State) (owes : ℕ → Owed) (i : ℕ) (k : Tid) (t : Task)
    → KeepsWords w m s owes → i < s.count → (owes i).counted ≡ None → (owes i).raised ≡ Some k
    → task_of s k ≡ Some t → group_within k t ≡ None
    → KeepsWords w m s (replace_at owes i (record (owes i) { counted = Some k }))

-- ---- what is lowered for a task that has finished

-- 1 is subtracted from the generating task's word for unfinished explicit children
abbrev pub ChildrenSubtractsKeep : Type 0
ChildrenSubtractsKeep = (w : List ℕ) (m : Memory) (s : State) (owes : ℕ → Owed) (i : ℕ) (k g : Tid)
    → KeepsWords w m s owes → i < s.count → (owes i).lowered ≡ Some k
    → generating_of s k ≡ Some g → word_of_task m g TaskChildren < 2 ^ 64
    → KeepsWords w (with_task_word m g TaskChildren (one_less (word_of_task m g TaskChildren))) s
    (replace_at owes i (record (owes i) { lowered = None }))

-- 1 is subtracted from the count of the finished task's group, or nothing is where it has none
abbrev pub CountSubtractsKeep : Type 0
CountSubtractsKeep = (w : List ℕ) (m : Memory) (s : State) (owes : ℕ → Owed) (i : ℕ) (k : Tid) (g : Group)
    → KeepsWords w m s owes → i < s.count → (owes i).uncounted ≡ Some k → group_of s k ≡ Some g
    → IsSome (task_of s g.owner) → g.index < OPEN_GROUPS → count_of m g < 2 ^ 64
    → KeepsWords w (with_count_of m g (one_less (count_of m g))) s
    (replace_at owes i (record (owes i) { uncounted = None }))

abbrev pub UncountedKeeps : Type 0
UncountedKeeps = (w : List ℕ) (m : Memory) (s : State) (owes : ℕ → Owed) (i : ℕ) (k : Tid)
    → KeepsWords w m s owes → i < s.count → (owes i).uncounted ≡ Some k → group_of s k ≡ None
    → KeepsWords w m s (replace_at owes i (record (owes i) { uncounted = None }))

-- 1 is subtracted from a region's word for unfinished explicit tasks
abbrev pub PendingSubtractsKeep : Type 0
PendingSubtractsKeep = (w : List ℕ) (m : Memory) (s : State) (owes : ℕ → Owed) (i : ℕ) (n : Rid)
    → KeepsWords w m s owes → i < s.count → owes i ≡ record nothing { pending = Some n }
    → word_of_region m n RegionPending < 2 ^ 64
    → KeepsWords w
    (with_region_word m n RegionPending (one_less (word_of_region m n RegionPending))) s
    (replace_at owes i nothing)
