-- The number of a task's open groups over an event: it changes by the two events of groups, and then that of the current task alone.
use Rattle.std.proofs.Common.{◌≡◌, ◌-◌, inl, inr, ℕ, suc, true, List, slice_get, Some, sym, ap, ◌∙◌, subst}
use Rattle.std.specs.Option.{option_map}
use Rattle.std.proofs.lemmas.Option.{get_or_from_slice_get, slice_get_within}
use Rattle.omi_script.specs.declared.program.Program.{Program}
use Rattle.omi_model.specs.declared.event.Event.{Event}
use Rattle.omi_model.specs.declared.event.Event.TheVariants as event
use Rattle.omi_model.specs.declared.id.Rid.{Rid}
use Rattle.omi_model.specs.declared.id.Tid.{Tid}
use Rattle.omi_model.specs.declared.item.Item.{Item}
use Rattle.omi_model.specs.declared.task.Task.{Task}
use Rattle.omi_model.specs.Changes.{IsCurrent, encounter, with_list}
use Rattle.omi_model.specs.Fresh.{IsFresh}
use Rattle.omi_model.specs.Groups.{MayBeginGroup, MayEndGroup, group_begun, group_ended, with_groups}
use Rattle.omi_model.specs.Lists.{stays}
use Rattle.omi_model.specs.Reached.{Step}
use Rattle.omi_model.specs.Rules.{effect}
use Rattle.omi_model.specs.State.{State, task_of}
use Rattle.omi_model.specs.Teams.{MayFork}
use Rattle.omi_model.proofs.EachObject.{ChangesGroups, EachTask, IsTaskLaw, task_step_from}
use Rattle.omi_model.proofs.groups.GroupLists.{count_behind, is_group}
use Rattle.omi_model.proofs.Slots.{false_true, found_live, none_some, on_same, some_same}
use Rattle.omi_model.proofs.StaysKept.{fresh_empty, list_keeps}
use Rattle.omi_model.proofs.Steps.{IsMove, IsRelisted, from_some, is_relisted, move_of, moved_on, of_current}

module _ (p : Program) (s : State) (i : ℕ) (e : Event) (next : State) (step : Step p s i e next) where
  pub m : IsMove p s i e next
  m = move_of p s i e next step

  abbrev pub middle : State
  middle = moved_on s i e m.item m.behind

  pub before : IsRelisted s middle
  before = is_relisted s i (stays (encounter s i) e m.item m.behind)

  -- a new name is none of a live task
  pub new_name : (n : Tid) → IsFresh middle.tasks i n.0 → (t : Task) → task_of s n ≡ Some t → ⊥
  new_name n fresh t live =
      let (v, found, same) = list_keeps s i (stays (encounter s i) e m.item m.behind) n t live in
      none_some (fresh_empty middle.tasks i n.0 fresh)
      (found_live n.0.generation (middle.tasks n.0.creator n.0.slot) v found)

  pub new_member : (region : Rid) (team : List (Tid × ℕ)) → MayFork middle i region team → (j : ℕ) (a : Tid × ℕ)
      → slice_get team j ≡ Some a → (t : Task) → task_of s a.0 ≡ Some t → ⊥
  new_member region team may j a at =
      new_name a.0
      (subst (λ (b : Tid × ℕ). IsFresh middle.tasks i b.0.0) (get_or_from_slice_get team j a a at) (may.tasks_new j a (slice_get_within team j a at)))

  -- unless the task is current at an event of groups
  abbrev SameCount : Tid → Task → Type 0
  SameCount k v =
      ((s.threads i).current ≡ Some k → is_group e ≡ true → ⊥) → (t : Task) → task_of s k ≡ Some t
      → v.open_groups ≡ t.open_groups

  group_event : (k : Tid) (t : Task) (n : ℕ) → ChangesGroups middle e k t n → is_group e ≡ true
  group_event k t n (inl (is, may, to)) = ap is_group is
  group_event k t n (inr (is, may, to)) = ap is_group is

  pub same_count : EachTask SameCount next
  same_count =
      task_step_from p SameCount SameCount s i e next m (λ k t is taken q. q) (λ k t ne live q. q) law
      (λ k t live apart u found. ap (λ (x : Task). x.open_groups) (some_same live found))
    where
      law : EachTask SameCount middle → IsTaskLaw p middle i e m.item next SameCount
      law of_tasks = record {
        frees = λ k t free how q. q;
        shows = λ k t x q. q;
        tools = λ k t x q. q;
        groups = λ k t count is how q apart. absurd (apart (sym (before.currents i) ∙ is.name) (group_event k t count how));
        sets = λ k t icv value v f at_set q. q;
        begins = λ k t waits mine by q. q;
        finishes = λ k t is over q. q;
        starts = λ k u j t x is live ex de may of by q. q;
        members = λ region team f k t r is found may new of by j a at apart u live. absurd (new_member region team may j a at u live);
        deferred = λ task f final seen k t is of fresh apart u live. absurd (new_name task fresh u live);
        made = λ task f final k t is of fresh by apart u live. absurd (new_name task fresh u live);
      }

-- where the current task gets another number
set_count : (s : State) (i : ℕ) (zs : List Item) (k : Tid) (t : Task) → IsCurrent s i k t → (j : Tid) (u : Task)
    → IsCurrent (with_list s i zs) i j u → (n : ℕ) (w : Task)
    → task_of (with_groups (with_list s i zs) n j) k ≡ Some w
    → (w.open_groups ≡ n) × (u.open_groups ≡ t.open_groups)
set_count s i zs k t is j u is_u n w found =
    let was = is_relisted s i zs in
    let same : j ≡ k = some_same is_u.name (was.currents i ∙ is.name) in
    let (v, xs, live, alike) = was.tasks j u is_u.live in
    let one : v ≡ t = some_same live (ap (task_of s) same ∙ is.live) in
    let here : task_of (with_groups (with_list s i zs) n j) j ≡ Some (record u { open_groups = n }) =
    on_same (with_list s i zs).tasks j.0 (λ (x : Task). record x { open_groups = n })
    ∙ ap (option_map (λ (x : Task). record x { open_groups = n })) is_u.live in
    let w_is : record u { open_groups = n } ≡ w =
    some_same here (ap (task_of (with_groups (with_list s i zs) n j)) same ∙ found) in
    (ap (λ (x : Task). x.open_groups) (sym w_is), ap (λ (x : Task). x.open_groups) alike ∙ ap (λ (x : Task). x.open_groups) one)

-- the current task's number behind an event
pub own_count : (p : Program) (s : State) (i : ℕ) (e : Event) (next : State) → Step p s i e next → (k : Tid) (t : Task)
    → IsCurrent s i k t → (v : Task) → task_of next k ≡ Some v → v.open_groups ≡ count_behind e t.open_groups
own_count p s i event.GroupBegin next step k t is v found =
    let m = move_of p s i event.GroupBegin next step in
    let zs : List Item = stays (encounter s i) event.GroupBegin m.item m.behind in
    from_some (λ (u : State). (w : Task) → task_of u k ≡ Some w → w.open_groups ≡ suc t.open_groups)
    (effect p (with_list s i zs) i event.GroupBegin m.item) next m.effect_is
    (of_current (with_list s i zs) i (group_begun (with_list s i zs))
    (λ (u : State). (w : Task) → task_of u k ≡ Some w → w.open_groups ≡ suc t.open_groups) (λ j u. MayBeginGroup u) m.rule_moved
    (λ j u is_u may w at. let (to, from) = set_count s i zs k t is j u is_u (suc u.open_groups) w at in to ∙ ap suc from))
    v found
own_count p s i event.GroupEnd next step k t is v found =
    let m = move_of p s i event.GroupEnd next step in
    let zs : List Item = stays (encounter s i) event.GroupEnd m.item m.behind in
    from_some (λ (u : State). (w : Task) → task_of u k ≡ Some w → w.open_groups ≡ t.open_groups - 1)
    (effect p (with_list s i zs) i event.GroupEnd m.item) next m.effect_is
    (of_current (with_list s i zs) i (group_ended (with_list s i zs))
    (λ (u : State). (w : Task) → task_of u k ≡ Some w → w.open_groups ≡ t.open_groups - 1) (MayEndGroup (with_list s i zs)) m.rule_moved
    (λ j u is_u may w at. let (to, from) = set_count s i zs k t is j u is_u (u.open_groups - 1) w at in to ∙ ap (λ c. c - 1) from))
    v found
own_count p s i e next step k t is v found =
    same_count p s i e next step k v found (λ name group. false_true group) t is.live
