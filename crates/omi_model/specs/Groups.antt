-- Task groups: a taskgroup region is begun and ended by one task, the owner of its group. A task is a member of the innermost group that its generating task has open, or else of that task's own group. So the tasks that are generated in the region and their descendants are members, but for those in a group that a member begins, which the member ends before it finishes. The region ends once no member is unfinished.
use Rattle.std.specs.Prelude.{◌≡◌, ◌<◌, ◌-◌, ℕ, zero, suc, false, Option, Some, None}
use Rattle.omi_numbers.specs.declared.limits.TheConstants.{OPEN_GROUPS}
use Rattle.omi_model.specs.declared.group.Group.{Group}
use Rattle.omi_model.specs.declared.id.Tid.{Tid}
use Rattle.omi_model.specs.declared.progress.Progress.TheVariants.{Finished}
use Rattle.omi_model.specs.declared.task.Task.{Task}
use Rattle.omi_model.specs.Changes.{on_task}
use Rattle.omi_model.specs.State.{State}

-- the innermost open group of a task that has so many open, else this one
abbrev pub innermost_or : Option Group → Tid → ℕ → Option Group
innermost_or other k zero = other
innermost_or other k (suc n) = Some (record { owner = k; index = n })

-- the innermost open group of task k, which is t
abbrev pub innermost : Tid → Task → Option Group
innermost k t = innermost_or None k t.open_groups

-- the group of a task that k generates: its innermost open group, and k's own group where it has none open
abbrev pub group_within : Tid → Task → Option Group
group_within k t = innermost_or t.group k t.open_groups

-- a task is a member of the innermost open group of task k, which is t
abbrev pub IsInInnermost : Tid → Task → Task → Type 0
IsInInnermost k t u = (g : Group) × (innermost k t ≡ Some g) × (u.group ≡ Some g)

-- no explicit task of a group is unfinished
abbrev pub AreMembersFinished : State → Group → Type 0
AreMembersFinished s g = (c n : ℕ) (u : Task) → (s.tasks c n).live ≡ Some u → u.implicit ≡ false
    → u.group ≡ Some g → u.progress ≡ Finished

-- A task has at most `OPEN_GROUPS` groups open.
abbrev pub MayBeginGroup : Task → Type 0
MayBeginGroup t = t.open_groups < OPEN_GROUPS

-- The innermost open group of a task ends once all its members have finished.
pub record MayEndGroup (s : State) (k : Tid) (t : Task) : Type 0 where
  pub group : Group
  pub innermost_is : innermost k t ≡ Some group
  pub finished : AreMembersFinished s group

-- a task with so many open groups
abbrev pub with_groups : State → ℕ → Tid → State
with_groups s n k = on_task s k (λ u. record u { open_groups = n })

abbrev pub group_begun : State → Tid → Task → State
group_begun s k t = with_groups s (suc t.open_groups) k

abbrev pub group_ended : State → Tid → Task → State
group_ended s k t = with_groups s (t.open_groups - 1) k
