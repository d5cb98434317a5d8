-- The groups of tasks: their owners live, and the word of a new task's group is that of the group in which it is generated.
use Rattle.std.proofs.Common.{◌≡◌, ◌≢◌, ◌==◌, ◌+◌, ◌-◌, ℕ, zero, suc, Bool, true, false, List, ◌∷◌, refl, sym, subst, if◌then◌else◌, ap, ◌∙◌, ◌<◌, ◌%◌, arith, eqb-true, Option, Some, None, ◌≤◌}
use Rattle.std.specs.Prelude.{IsSome}
use Rattle.omi_script.specs.declared.program.Program.{Program}
use Rattle.omi_model.specs.declared.event.Event.{Event}
use Rattle.omi_model.specs.declared.task.Task.{Task}
use Rattle.omi_model.specs.declared.item.Item.{Item}
use Rattle.omi_model.specs.declared.item.Item.TheVariants as item
use Rattle.omi_model.specs.Groups.{group_within, innermost_or}
use Rattle.omi_model.specs.LawGroups.{GroupsNest}
use Rattle.omi_model.specs.Reached.{Reached}
use Rattle.omi_model.specs.State.{State, task_of}
use Rattle.omi_pc.specs.declared.actor.Actor.{Actor}
use Rattle.omi_rep.specs.Records.{group_word, task_address}
use Rattle.omi_rule_words.specs.Groups.{AreOwnersLive, group_at}
use Rattle.omi_rule_words.proofs.Forks.{address_some}
use Rattle.omi_task.specs.Groups.{new_group}
use Rattle.omi_model.proofs.groups.GroupLaws.{groups_right}
use Rattle.omi_model.specs.declared.group.Group.{Group}
use Rattle.omi_model.specs.declared.id.Tid.{Tid}
use Rattle.omi_model.proofs.Slots.{some_same}
use Rattle.omi_numbers.specs.declared.limits.TheConstants.{OPEN_GROUPS}
use Rattle.omi_layout.specs.Field.{tasks}
use Rattle.omi_layout.specs.Place.{slot_address}
use Rattle.omi_layout.specs.Valid.{IsValid}
use Rattle.omi_layout.proofs.Frame.{aligned}
use Rattle.omi_step_words.specs.Placed.{HasTask}
use Rattle.omi_step_words.specs.Words.{group_index, group_owner, task_place}
use Rattle.omi_step_words.proofs.ReadBack.{places_back}
use Rattle.omi_rule.specs.Rows.{place_of}

-- in a reached state
pub owners_live : (p : Program) (events : List (ℕ × Event)) (s : State) → Reached p events s → AreOwnersLive s
owners_live p events s reached k t g live is =
    subst IsSome (sym ((groups_right p events s reached k t live).member g is).live) refl

-- the group in which a live task generates another: its owner lives, and its index is one of a task's groups
pub within_lives : (p : Program) (events : List (ℕ × Event)) (s : State) → Reached p events s → (k : Tid) (t : Task)
    → task_of s k ≡ Some t → (g : Group) → group_within k t ≡ Some g
    → IsSome (task_of s g.owner) × (g.index < OPEN_GROUPS)
within_lives p events s reached k t live g is = go t.open_groups is (groups_right p events s reached k t live).few
  where
    go : (n : ℕ) → innermost_or t.group k n ≡ Some g → n ≤ OPEN_GROUPS
        → IsSome (task_of s g.owner) × (g.index < OPEN_GROUPS)
    go zero is few =
        let member = (groups_right p events s reached k t live).member g is in
        (subst IsSome (sym member.live) refl, member.index)
    go (suc n) is few =
        let same : group_at k n ≡ g = some_same refl is in
        (subst (λ (h : Group). IsSome (task_of s h.owner)) same (subst IsSome (sym live) refl), subst (λ (h : Group). h.index < OPEN_GROUPS) same (omega (arith, few)))

-- A task whose list ends a group next has one open
pub one_open : (p : Program) (events : List (ℕ × Event)) (s : State) → Reached p events s → (k : Tid) (t : Task)
    → task_of s k ≡ Some t → (state : ℕ) (rest : List Item) → t.list ≡ item.Tasks state ∷ item.GroupEnd ∷ rest
    → (n : ℕ) × (t.open_groups ≡ suc n)
one_open p events s reached k t live state rest is =
    let (n, some, nests) = subst (GroupsNest p t.open_groups) is (groups_right p events s reached k t live).list in (n, some)

-- the word of a new task's group
pub new_group_is : (w : List ℕ) (a : Actor) (t : Task) → t.open_groups ≡ a.context.open_groups
    → (a.context.open_groups ≡ 0 → a.gathered.group ≡ group_word w t.group)
    → new_group w a ≡ group_word w (group_within a.context.task t)
new_group_is w a t same own =
    subst (λ n. new_group w a ≡ group_word w (innermost_or t.group a.context.task n)) (sym same) (go a.context.open_groups own)
  where
    go : (n : ℕ) → (n ≡ 0 → a.gathered.group ≡ group_word w t.group)
        → (if n == 0 then a.gathered.group else task_address w a.context.task + (n - 1))
        ≡ group_word w (innermost_or t.group a.context.task n)
    go zero own = own refl
    go (suc n) own = by (suc n == 0) refl
      where
        by : (b : Bool) → suc n == 0 ≡ b
            → (if b then a.gathered.group else task_address w a.context.task + (suc n - 1)) ≡ task_address w a.context.task + n
        by true e = absurd (let none = eqb-true (suc n) 0 e in omega (arith, none))
        by false e = omega arith

-- ---- words

-- a word that stands for no group is 0, and no group has that word
pub ungrouped : (w : List ℕ) → IsValid w → (o : Option Group) (x : ℕ) → x ≡ group_word w o → x ≡ 0 → o ≡ None
ungrouped w v None x is none = refl
ungrouped w v (Some g) x is none = absurd (address_some w v g.owner (omega (arith, is, none)))

pub words_some : (w : List ℕ) → IsValid w → (k : Tid) (index : ℕ) → group_word w (Some (group_at k index)) ≢ 0
words_some w v k index none = address_some w v k (omega (arith, none))

pub some_group : (w : List ℕ) (o : Option Group) (x : ℕ) → x ≡ group_word w o → x ≢ 0 → (g : Group) × (o ≡ Some g)
some_group w None x is some = absurd (some is)
some_group w (Some g) x is some = (g, refl)

-- the word of a group is read back: its index, and the place of its owner. A record begins at a multiple of 8
module _ (w : List ℕ) (v : IsValid w) (g : Group) (there : HasTask w g.owner) (few : g.index < OPEN_GROUPS) where
  pub index_read : group_index (group_word w (Some g)) ≡ g.index
  unfolding slot_address
  index_read = let even = aligned w v tasks (record { from = omega arith; to = omega arith }) in omega (arith, even, few)

  pub owner_read : group_owner w (group_word w (Some g)) ≡ place_of g.owner.0
  owner_read =
      let index = index_read in
      let address : group_word w (Some g) - group_word w (Some g) % OPEN_GROUPS ≡ task_address w g.owner = omega (arith, index) in
      ap (task_place w) address
      ∙ places_back w tasks g.owner.0.creator g.owner.0.slot v (record { from = omega arith; to = omega arith }) there

-- so groups with the same word are one, by the places of their owners
pub words_same : (w : List ℕ) → IsValid w → (g h : Group) → HasTask w g.owner → g.index < OPEN_GROUPS → HasTask w h.owner
    → h.index < OPEN_GROUPS → group_word w (Some g) ≡ group_word w (Some h)
    → (g.index ≡ h.index) × (place_of g.owner.0 ≡ place_of h.owner.0)
words_same w v g h there few here least same = (
  sym (index_read w v g there few) ∙ ap group_index same ∙ index_read w v h here least,
  sym (owner_read w v g there few) ∙ ap (group_owner w) same ∙ owner_read w v h here least,
)
