-- Task groups: a task is a member of at most one, whose owner is a live task of its region that has begun; while a member is unfinished its group is open. A task has as many groups open as its to-do list has to end, and only where it has begun and not finished.
use Rattle.std.specs.Prelude.{◌≡◌, ◌<◌, ◌≤◌, ◌+◌, ℕ, suc, List, [], ◌∷◌, false, Some}
use Rattle.omi_numbers.specs.declared.limits.TheConstants.{OPEN_GROUPS}
use Rattle.omi_script.specs.declared.program.Program.{Program}
use Rattle.omi_script.specs.Reach.{group_depth_of, reaches}
use Rattle.omi_script.specs.declared.statement.Stmt.{Stmt}
use Rattle.omi_model.specs.declared.event.Event.{Event}
use Rattle.omi_model.specs.declared.event.Event.TheVariants as event
use Rattle.omi_model.specs.declared.group.Group.{Group}
use Rattle.omi_model.specs.declared.id.Tid.{Tid}
use Rattle.omi_model.specs.declared.item.Item.{Item}
use Rattle.omi_model.specs.declared.item.Item.TheVariants as item
use Rattle.omi_model.specs.declared.progress.Progress.TheVariants.{Begun, Finished}
use Rattle.omi_model.specs.declared.task.Task.{Task}
use Rattle.omi_model.specs.Changes.{IsCurrent}
use Rattle.omi_model.specs.Groups.{AreMembersFinished, MayBeginGroup}
use Rattle.omi_model.specs.Reached.{Reached, Step}
use Rattle.omi_model.specs.Rules.{taken_by}
use Rattle.omi_model.specs.State.{State, task_of}
use Rattle.omi_model.specs.Visible.{HasStarted}

-- how deep a statement of a program nests taskgroup regions
abbrev pub group_depth : Program → Stmt → ℕ
group_depth p s = group_depth_of (reaches [] p.funcs) s

-- The list of a task with n open groups: it ends each of these and each that it begins, and never are there more than `OPEN_GROUPS`.
abbrev pub GroupsNest : Program → ℕ → List Item → Type 0
GroupsNest p n [] = n ≡ 0
GroupsNest p n (item.Do s ∷ xs) = (n + group_depth p s ≤ OPEN_GROUPS) × GroupsNest p n xs
GroupsNest p n (item.GroupBegin ∷ xs) = (n < OPEN_GROUPS) × GroupsNest p (suc n) xs
GroupsNest p n (item.GroupEnd ∷ xs) = (m : ℕ) × (n ≡ suc m) × GroupsNest p m xs
GroupsNest p n (x ∷ xs) = GroupsNest p n xs

-- a task is a member of a group
pub record IsMemberOf (s : State) (t : Task) (g : Group) : Type 0 where
  pub explicit : t.implicit ≡ false
  pub index : g.index < OPEN_GROUPS
  pub owner : Task
  pub live : task_of s g.owner ≡ Some owner
  pub started : HasStarted owner.progress
  pub region : owner.region ≡ t.region
  pub is_open : (t.progress ≡ Finished → ⊥) → g.index < owner.open_groups

pub record AreGroupsRight (p : Program) (s : State) (t : Task) : Type 0 where
  pub few : t.open_groups ≤ OPEN_GROUPS
  pub list : GroupsNest p t.open_groups t.list
  pub closed : (t.progress ≡ Begun → ⊥) → t.open_groups ≡ 0
  pub member : (g : Group) → t.group ≡ Some g → IsMemberOf s t g

-- in every reached state
abbrev pub GroupsAreRight : Type 0
GroupsAreRight = (p : Program) (events : List (ℕ × Event)) (s : State) → Reached p events s
    → (k : Tid) (t : Task) → task_of s k ≡ Some t → AreGroupsRight p s t

-- Where the list of a task allows it to begin a group, the rule does.
abbrev pub GroupsMayBegin : Type 0
GroupsMayBegin = (p : Program) (events : List (ℕ × Event)) (s : State) → Reached p events s
    → (i : ℕ) (k : Tid) (t : Task) (ys : List Item) → IsCurrent s i k t
    → taken_by p s i event.GroupBegin ≡ Some (item.GroupBegin, ys) → MayBeginGroup t

-- A group without an unfinished member gets none by an event of a thread that does not run its owner: its tasks are made by the owner and by its members.
abbrev pub FinishedGroupsStay : Type 0
FinishedGroupsStay = (p : Program) (events : List (ℕ × Event)) (s : State) (i : ℕ) (e : Event)
    (next : State) → Reached p events s → Step p s i e next → (g : Group)
    → ((s.threads i).current ≡ Some g.owner → ⊥) → AreMembersFinished s g
    → AreMembersFinished next g
