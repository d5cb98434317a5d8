-- The laws of task groups, as they are stated.
use Rattle.std.proofs.Common.{◌≡◌, ◌<◌, ℕ, List, Some, inl, inr, refl, sym, ap, ◌∙◌, subst}
use Rattle.omi_script.specs.declared.program.Program.{Program}
use Rattle.omi_model.specs.declared.event.Event.{Event}
use Rattle.omi_model.specs.declared.event.Event.TheVariants as event
use Rattle.omi_model.specs.declared.group.Group.{Group}
use Rattle.omi_model.specs.declared.id.Tid.{Tid}
use Rattle.omi_model.specs.declared.item.Item.{Item}
use Rattle.omi_model.specs.declared.item.Item.TheVariants as item
use Rattle.omi_model.specs.declared.progress.Progress.{Progress}
use Rattle.omi_model.specs.declared.progress.Progress.TheVariants.{Begun, Deferred, Finished, NotBegun}
use Rattle.omi_model.specs.declared.task.Task.{Task}
use Rattle.omi_model.specs.Changes.{IsCurrent, encounter}
use Rattle.omi_model.specs.Groups.{MayBeginGroup}
use Rattle.omi_model.specs.LawGroups.{AreGroupsRight, GroupsNest, IsMemberOf}
use Rattle.omi_model.specs.Lists.{take_item}
use Rattle.omi_model.specs.Reached.{Reached}
use Rattle.omi_model.specs.Rules.{taken_by}
use Rattle.omi_model.specs.State.{State, task_of}
use Rattle.omi_model.proofs.EachObject.{ahead_of_current}
use Rattle.omi_model.proofs.GeneratingChains.{explicit_on, have_line, on_lineage}
use Rattle.omi_model.proofs.groups.GroupLists.{take_nests}
use Rattle.omi_model.proofs.groups.GroupMembers.{are_few, open_groups}
use Rattle.omi_model.proofs.groups.GroupsNested.{groups_nested}
use Rattle.omi_model.proofs.ListLaws.{taken_other}
use Rattle.omi_model.proofs.members.ClosingItems.{lists_right}
use Rattle.omi_model.proofs.Slots.{some_same}

module _ (p : Program) (events : List (ℕ × Event)) (s : State) (reached : Reached p events s) (k : Tid) (t : Task)
    (live : task_of s k ≡ Some t) where
  -- a task that does not run has no group open
  closed : (q : Progress) → t.progress ≡ q → (t.progress ≡ Begun → ⊥) → t.open_groups ≡ 0
  closed Deferred is apart = (are_few p events s reached).waiting k t live (inl is)
  closed NotBegun is apart = (are_few p events s reached).waiting k t live (inr is)
  closed Begun is apart = absurd (apart is)
  closed Finished is apart =
      subst (GroupsNest p t.open_groups) ((lists_right p events s reached k t live).finished is) (groups_nested p events s reached k t live)

  member_of : (g : Group) → t.group ≡ Some g → IsMemberOf s t g
  member_of g member =
      let (gs, chain, owners) = have_line p events s reached k t live in
      let (o, found, region, started) =
      on_lineage s t.implicit t.region t.generating gs chain g.owner (owners g member) in
      record {
        explicit = explicit_on s t.implicit t.region t.generating gs chain g.owner (owners g member);
        index = (are_few p events s reached).index k t live g member;
        owner = o;
        live = found;
        started = started;
        region = region;
        is_open = λ runs. let (w, later, below) = open_groups p events s reached k t live g member runs in
            subst (λ (x : Task). g.index < x.open_groups) (some_same later found) below;
      }

  groups_of : AreGroupsRight p s t
  groups_of = record {
    few = (are_few p events s reached).few k t live;
    list = groups_nested p events s reached k t live;
    closed = closed t.progress refl;
    member = member_of;
  }

pub groups_right : (p : Program) (events : List (ℕ × Event)) (s : State) → Reached p events s
    → (k : Tid) (t : Task) → task_of s k ≡ Some t → AreGroupsRight p s t
groups_right p events s reached = groups_of p events s reached

-- a group that the list of a task allows to begin has room
pub groups_may_begin : (p : Program) (events : List (ℕ × Event)) (s : State) → Reached p events s
    → (i : ℕ) (k : Tid) (t : Task) (ys : List Item) → IsCurrent s i k t
    → taken_by p s i event.GroupBegin ≡ Some (item.GroupBegin, ys) → MayBeginGroup t
groups_may_begin p events s reached i k t ys is taken =
    let of_list =
    taken_other p (encounter s i) event.GroupBegin t.frees t.list (item.GroupBegin, ys) refl
    (ap (take_item p (encounter s i) event.GroupBegin) (sym (ahead_of_current s i k t is)) ∙ taken) in
    (take_nests p t.open_groups (encounter s i) event.GroupBegin t.list item.GroupBegin ys of_list (groups_nested p events s reached k t is.live)).0
