-- The counts of task groups: what each is between any two steps.
use Rattle.std.specs.Prelude.{◌≡◌, ℕ, ◌+◌, ◌<◌, ◌==◌, ◌&&◌, Bool, false, List, Option, Some, IsSome}
use Rattle.std.specs.Option.{option_and_then, option_map_or}
use Rattle.omi_numbers.specs.declared.limits.TheConstants.{OPEN_GROUPS}
use Rattle.omi_model.specs.declared.group.Group.{Group}
use Rattle.omi_model.specs.declared.id.Tid.{Tid}
use Rattle.omi_model.specs.declared.task.Task.{Task}
use Rattle.omi_model.specs.Groups.{group_within}
use Rattle.omi_model.specs.State.{State, task_of}
use Rattle.omi_layout.specs.declared.field.Field.TheVariants.{TaskSlots}
use Rattle.omi_layout.specs.declared.limits.TheConstants.{COUNT_PLACE}
use Rattle.omi_layout.specs.Memory.{Rec}
use Rattle.omi_rule_words.specs.Owes.{Owed}
use Rattle.omi_rule_words.specs.Counts.{is_task, is_unfinished, one, sum_of_owed, sum_of_tasks}
use Rattle.omi_rule_words.specs.Threads.{Has}

-- ---- names

-- the group of a task with this index
abbrev pub group_at : Tid → ℕ → Group
group_at k index = record { owner = k; index = index }

abbrev pub is_group : Group → Group → Bool
is_group g h = is_task g.owner h.owner && g.index == h.index

abbrev pub is_some_group : Group → Option Group → Bool
is_some_group g h = option_map_or (is_group g) h false

-- ---- what is counted

-- the unfinished explicit tasks of a group
abbrev pub unfinished_members : List ℕ → State → Group → ℕ
unfinished_members w s g = sum_of_tasks w s (λ t. one (is_unfinished t && is_some_group g t.group))

-- ---- what a thread owes

-- the group of a task that a task generates, and the group of a task
abbrev pub group_of_new : State → Tid → Option Group
group_of_new s k = option_and_then (group_within k) (task_of s k)

abbrev pub group_of : State → Tid → Option Group
group_of s k = option_and_then (λ t. t.group) (task_of s k)

-- on the count of a group
abbrev pub count_owed : State → Group → Owed → ℕ
count_owed s g o =
    one (is_some_group g (option_and_then (group_of_new s) o.counted))
    + one (is_some_group g (option_and_then (group_of s) o.uncounted))

-- ---- the whole

-- The count of each group of a live task, open or not: its explicit tasks that have not finished, and what threads owe on it. The lowering
-- for a finished task is owed before its own reference is lowered, and a raise behind the one for the generating task's children.
pub record KeepsGroups (w : List ℕ) (r : ℕ → ℕ → Rec) (s : State) (owes : ℕ → Owed) : Type 0 where
  pub counts : (k : Tid) (t : Task) (index : ℕ) → task_of s k ≡ Some t → index < OPEN_GROUPS
      → Has (r k.0.creator k.0.slot) TaskSlots (COUNT_PLACE + index)
      (unfinished_members w s (group_at k index) + sum_of_owed s owes (count_owed s (group_at k index)))
  pub counted : (i : ℕ) (k : Tid) → i < s.count → (owes i).counted ≡ Some k → (owes i).raised ≡ Some k
  pub uncounted : (i : ℕ) (k : Tid) → i < s.count → (owes i).uncounted ≡ Some k → (owes i).own ≡ Some k

-- the owner of each group in which a live task is lives
abbrev pub AreOwnersLive : State → Type 0
AreOwnersLive s =
    (k : Tid) (t : Task) (g : Group) → task_of s k ≡ Some t → t.group ≡ Some g → IsSome (task_of s g.owner)
