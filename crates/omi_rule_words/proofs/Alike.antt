-- Slots whose objects go on as what they are: what is found, seen, counted and waited for in one state is so in the other.
use Rattle.std.proofs.Common.{◌≡◌, ◌==◌, ◌+◌, ℕ, Bool, true, false, Option, Some, None, refl, sym, ap, subst, ◌∙◌, arith, if◌then◌else◌, ap₂, ◌&&◌}
use Rattle.std.specs.Prelude.{IsSome}
use Rattle.std.specs.Option.{option_and_then, option_map}
use Rattle.std.proofs.lemmas.List.Elements.{All-weaker}
use Rattle.omi_model.specs.declared.id.Id.{Id}
use Rattle.omi_model.specs.declared.id.Rid.{Rid}
use Rattle.omi_model.specs.declared.id.Tid.{Tid}
use Rattle.omi_model.specs.declared.progress.Progress.{Progress}
use Rattle.omi_model.specs.declared.region.Region.{Region}
use Rattle.omi_model.specs.declared.slot.Slot.{Slot}
use Rattle.omi_model.specs.declared.task.Task.{Task}
use Rattle.omi_model.specs.Put.{Slots, changed, found, named, on}
use Rattle.omi_model.specs.State.{State, region_of, task_of}
use Rattle.omi_model.proofs.Slots.{each_slot}
use Rattle.omi_model.specs.Groups.{group_within, innermost_or}
use Rattle.omi_model.specs.declared.group.Group.{Group}
use Rattle.omi_layout.specs.declared.field.Field.{Field}
use Rattle.omi_layout.specs.Memory.{Rec}
use Rattle.omi_layout.specs.Named.{number}
use Rattle.omi_rule_words.specs.Owes.{Owed}
use Rattle.omi_rule_words.specs.Counts.{generating_of, of_live, one, is_unfinished}
use Rattle.omi_rule_words.specs.Threads.{WaitsFor}
use Rattle.omi_rule_words.specs.Objects.{IsDeferredIn, KeepsLife}
use Rattle.omi_rule_words.specs.Words.{HasFinished, IsInTheMaking, KeepsMaking, OwesOnLive}
use Rattle.omi_rule_words.specs.TaskKinds.{IsSameTask}
use Rattle.omi_rule_words.proofs.OwedTasks.{TasksStay, owed_on_tasks, owes_tasks_alike}
use Rattle.omi_rule_words.specs.Groups.{group_of, group_of_new, is_some_group}

-- ---- slots

-- both have no object, or objects of which this holds
abbrev pub LiveAlike : {A : Type 0} → (A → A → Type 0) → Option A → Option A → Type 0
LiveAlike R None None = Unit {0}
LiveAlike R None (Some y) = ⊥
LiveAlike R (Some x) None = ⊥
LiveAlike R (Some x) (Some y) = R x y

pub record SlotAlike {A : Type 0} (R : A → A → Type 0) (x y : Slot A) : Type 0 where
  pub generations : y.generations ≡ x.generations
  pub live : LiveAlike R x.live y.live

abbrev pub SlotsAlike : {A : Type 0} → (A → A → Type 0) → Slots A → Slots A → Type 0
SlotsAlike R xs ys = (c k : ℕ) → SlotAlike R (xs c k) (ys c k)

module _ {A : Type 0} (R : A → A → Type 0) where
  pub live_before : (o p : Option A) (y : A) → LiveAlike R o p → p ≡ Some y → (x : A) × (o ≡ Some x) × R x y
  live_before None None y alike is = absurd (cc)
  live_before None (Some z) y alike is = absurd alike
  live_before (Some x) None y alike is = absurd alike
  live_before (Some x) (Some z) y alike is =
      let same : z ≡ y = cc in (x, refl, subst (λ (q : A). R x q) same alike)

  pub none_before : (o p : Option A) → LiveAlike R o p → p ≡ None → o ≡ None
  none_before None None alike is = refl
  none_before None (Some z) alike is = absurd alike
  none_before (Some x) None alike is = absurd alike
  none_before (Some x) (Some z) alike is = absurd (cc)

  pub some_after : (o p : Option A) → LiveAlike R o p → IsSome o → IsSome p
  some_after None None alike is = is
  some_after None (Some z) alike is = refl
  some_after (Some x) None alike is = absurd alike
  some_after (Some x) (Some z) alike is = refl

  pub live_same : ((x : A) → R x x) → (o : Option A) → LiveAlike R o o
  live_same same None = tt
  live_same same (Some x) = same x

  live_back : ((x y : A) → R x y → R y x) → (o p : Option A) → LiveAlike R o p → LiveAlike R p o
  live_back back None None alike = tt
  live_back back None (Some y) alike = absurd alike
  live_back back (Some x) None alike = absurd alike
  live_back back (Some x) (Some y) alike = back x y alike

  pub slots_same : ((x : A) → R x x) → (xs : Slots A) → SlotsAlike R xs xs
  slots_same same xs = λ c k. record { generations = refl; live = live_same same (xs c k).live }

  pub slots_back : ((x y : A) → R x y → R y x) → (xs ys : Slots A) → SlotsAlike R xs ys → SlotsAlike R ys xs
  slots_back back xs ys alike =
      λ c k. record { generations = sym (alike c k).generations; live = live_back back (xs c k).live (ys c k).live (alike c k).live }

  -- what is found under a name
  pub named_alike : (xs ys : Slots A) → SlotsAlike R xs ys → (n : Id) → LiveAlike R (named xs n) (named ys n)
  named_alike xs ys alike n = go (xs n.creator n.slot) (ys n.creator n.slot) (alike n.creator n.slot)
    where
      go : (x y : Slot A) → SlotAlike R x y → LiveAlike R (found n.generation x) (found n.generation y)
      go x y o =
          subst
          (λ z. LiveAlike R (if x.generations == n.generation + 1 then x.live else None) (if z == n.generation + 1 then y.live else None))
          (sym o.generations) (tested (x.generations == n.generation + 1))
        where
          tested : (b : Bool) → LiveAlike R (if b then x.live else None) (if b then y.live else None)
          tested true = o.live
          tested false = tt

  -- the object of a name is changed
  pub on_alike : ((x : A) → R x x) → (xs : Slots A) (n : Id) (g : A → A)
      → ((x : A) → named xs n ≡ Some x → R x (g x)) → SlotsAlike R xs (on xs n g)
  on_alike same xs n g here =
      each_slot xs n (λ c k (y : Slot A). SlotAlike R (xs c k) y)
      (changed n.generation g (xs n.creator n.slot))
      (go ((xs n.creator n.slot).generations == n.generation + 1) here) (λ c k apart. slots_same same xs c k)
    where
      x : Slot A
      x = xs n.creator n.slot

      mapped : (o : Option A) → ((z : A) → o ≡ Some z → R z (g z)) → LiveAlike R o (option_map g o)
      mapped None each = tt
      mapped (Some z) each = each z refl

      go : (b : Bool) → ((z : A) → (if b then x.live else None) ≡ Some z → R z (g z))
          → SlotAlike R x (if b then record { generations = x.generations; live = option_map g x.live } else x)
      go true each = record { generations = refl; live = mapped x.live each }
      go false each = slots_same same xs n.creator n.slot

  -- a life word that stays
  pub life_alike : (r q : Rec) (life : Field) (x y : Slot A) (owed : Bool) → SlotAlike R x y
      → q (number life) 0 ≡ r (number life) 0 → KeepsLife r life x owed → KeepsLife q life y owed
  life_alike r q life x y owed alike same o = record {
    live = λ z is.
        let (v, live, _) = live_before x.live y.live z alike.live is in
        let before = o.live v live in
        let count = alike.generations in
        omega (arith, before, same, count);
    taken = λ none taken.
        let before = o.taken (none_before x.live y.live alike.live none) taken in
        let count = alike.generations in
        omega (arith, before, same, count);
    free = λ none free.
        let before = o.free (none_before x.live y.live alike.live none) free in
        let count = alike.generations in
        omega (arith, before, same, count);
  }

-- ---- tasks and regions

pub same_task : (t : Task) → IsSameTask t t
same_task t =
    record { implicit = refl; region = refl; thread = refl; generating = refl; progress = refl; place = refl; group = refl; open_groups = refl }

-- a task goes on as what it is, but for the number of its open groups
pub record IsSameKind (t u : Task) : Type 0 where
  pub implicit : u.implicit ≡ t.implicit
  pub region : u.region ≡ t.region
  pub thread : u.thread ≡ t.thread
  pub generating : u.generating ≡ t.generating
  pub progress : u.progress ≡ t.progress
  pub place : u.place ≡ t.place
  pub group : u.group ≡ t.group

pub same_kind : (t : Task) → IsSameKind t t
same_kind t =
    record { implicit = refl; region = refl; thread = refl; generating = refl; progress = refl; place = refl; group = refl }

pub kind_of : (t u : Task) → IsSameTask t u → IsSameKind t u
kind_of t u o = record { implicit = o.implicit; region = o.region; thread = o.thread; generating = o.generating; progress = o.progress; place = o.place; group = o.group }

pub task_back : (t u : Task) → IsSameKind t u → IsSameKind u t
task_back t u o = record { implicit = sym o.implicit; region = sym o.region; thread = sym o.thread; generating = sym o.generating; progress = sym o.progress; place = sym o.place; group = sym o.group }

pub kinds_of : (xs ys : Slots Task) → SlotsAlike IsSameTask xs ys → SlotsAlike IsSameKind xs ys
kinds_of xs ys alike =
    λ c k. record { generations = (alike c k).generations; live = go (xs c k).live (ys c k).live (alike c k).live }
  where
    go : (o p : Option Task) → LiveAlike IsSameTask o p → LiveAlike IsSameKind o p
    go None None alike = tt
    go None (Some y) alike = absurd alike
    go (Some x) None alike = absurd alike
    go (Some x) (Some y) alike = kind_of x y alike

-- a region goes on as what it is
pub record IsSameRegion (r q : Region) : Type 0 where
  pub team : q.team ≡ r.team
  pub joined : q.joined ≡ r.joined

pub same_region : (r : Region) → IsSameRegion r r
same_region r = record { team = refl; joined = refl }

pub region_back : (r q : Region) → IsSameRegion r q → IsSameRegion q r
region_back r q o = record { team = sym o.team; joined = sym o.joined }

-- what is counted of a task
pub parts_same : (f : Bool → Progress → Rid → Option Tid → ℕ) (t u : Task) → IsSameKind t u
    → f u.implicit u.progress u.region u.generating ≡ f t.implicit t.progress t.region t.generating
parts_same f t u o =
    ap (λ x. f x u.progress u.region u.generating) o.implicit
    ∙ (ap (λ x. f t.implicit x u.region u.generating) o.progress
    ∙ (ap (λ x. f t.implicit t.progress x u.generating) o.region
    ∙ ap (λ x. f t.implicit t.progress t.region x) o.generating))

-- and of its group
pub members_same : (g : Group) (t u : Task) → IsSameKind t u
    → one (is_unfinished u && is_some_group g u.group) ≡ one (is_unfinished t && is_some_group g t.group)
members_same g t u o =
    ap (λ x. one (is_unfinished u && is_some_group g x)) o.group
    ∙ parts_same (λ i p q h. one (is_unfinished (record t { implicit = i; progress = p }) && is_some_group g t.group)) t u o

pub live_counted : (f : Task → ℕ) → ((t u : Task) → IsSameKind t u → f u ≡ f t) → (o p : Option Task)
    → LiveAlike IsSameKind o p → of_live f p ≡ of_live f o
live_counted f same None None alike = refl
live_counted f same None (Some u) alike = absurd alike
live_counted f same (Some t) None alike = absurd alike
live_counted f same (Some t) (Some u) alike = same t u alike

-- ---- two states

module _ (a b : State) (regions_alike : SlotsAlike IsSameRegion a.regions b.regions)
    (tasks_alike : SlotsAlike IsSameKind a.tasks b.tasks) where
  pub task_found : (k : Tid) → LiveAlike IsSameKind (task_of a k) (task_of b k)
  task_found k = named_alike IsSameKind a.tasks b.tasks tasks_alike k.0

  pub region_found : (n : Rid) → LiveAlike IsSameRegion (region_of a n) (region_of b n)
  region_found n = named_alike IsSameRegion a.regions b.regions regions_alike n.0

  pub task_before : (k : Tid) (u : Task) → task_of b k ≡ Some u
      → (t : Task) × (task_of a k ≡ Some t) × IsSameKind t u
  task_before k u is = live_before IsSameKind (task_of a k) (task_of b k) u (task_found k) is

  pub some_task : (k : Tid) → IsSome (task_of a k) → IsSome (task_of b k)
  some_task k = some_after IsSameKind (task_of a k) (task_of b k) (task_found k)

  pub generating_same : (k : Tid) → generating_of b k ≡ generating_of a k
  generating_same k = go (task_of a k) (task_of b k) (task_found k)
    where
      go : (o p : Option Task) → LiveAlike IsSameKind o p
          → option_and_then (λ (t : Task). t.generating) p ≡ option_and_then (λ (t : Task). t.generating) o
      go None None alike = refl
      go None (Some u) alike = absurd alike
      go (Some t) None alike = absurd alike
      go (Some t) (Some u) alike = alike.generating

module _ (a b : State) (regions_alike : SlotsAlike IsSameRegion a.regions b.regions)
    (tasks_alike : SlotsAlike IsSameKind a.tasks b.tasks) where
  pub group_of_same : (k : Tid) → group_of b k ≡ group_of a k
  group_of_same k = go (task_of a k) (task_of b k) (task_found a b regions_alike tasks_alike k)
    where
      go : (o p : Option Task) → LiveAlike IsSameKind o p
          → option_and_then (λ (t : Task). t.group) p ≡ option_and_then (λ (t : Task). t.group) o
      go None None alike = refl
      go None (Some u) alike = absurd alike
      go (Some t) None alike = absurd alike
      go (Some t) (Some u) alike = alike.group

-- and so are the groups of the tasks that it generates, where it has as many open
pub group_of_new_same : (a b : State) → SlotsAlike IsSameTask a.tasks b.tasks → (k : Tid)
    → group_of_new b k ≡ group_of_new a k
group_of_new_same a b tasks_alike k =
    go (task_of a k) (task_of b k) (named_alike IsSameTask a.tasks b.tasks tasks_alike k.0)
  where
    go : (o p : Option Task) → LiveAlike IsSameTask o p
        → option_and_then (group_within k) p ≡ option_and_then (group_within k) o
    go None None alike = refl
    go None (Some u) alike = absurd alike
    go (Some t) None alike = absurd alike
    go (Some t) (Some u) alike = ap₂ (λ x n. innermost_or x k n) alike.group alike.open_groups

module _ (a b : State) (regions_alike : SlotsAlike IsSameRegion a.regions b.regions)
    (tasks_alike : SlotsAlike IsSameKind a.tasks b.tasks) where
  regions_back : SlotsAlike IsSameRegion b.regions a.regions
  regions_back = slots_back IsSameRegion region_back a.regions b.regions regions_alike

  tasks_back : SlotsAlike IsSameKind b.tasks a.tasks
  tasks_back = slots_back IsSameKind task_back a.tasks b.tasks tasks_alike

  pub task_after : (k : Tid) (t : Task) → task_of a k ≡ Some t
      → (u : Task) × (task_of b k ≡ Some u) × IsSameKind t u
  task_after k t is =
      let (u, live, same) = task_before b a regions_back tasks_back k t is in (u, live, task_back u t same)

  region_after : (n : Rid) (r : Region) → region_of a n ≡ Some r
      → (q : Region) × (region_of b n ≡ Some q) × IsSameRegion r q
  region_after n r is =
      let (q, live, same) =
      live_before IsSameRegion (region_of b n) (region_of a n) r
      (region_found b a regions_back tasks_back n) is in
      (q, live, region_back q r same)

  pub waits_after : (i : ℕ) (k : Tid) → WaitsFor a i k → WaitsFor b i k
  waits_after i k waits =
      let (u, live, same) = task_after k waits.task waits.live in
      record { task = u; live = live; progress = same.progress ∙ waits.progress; thread = same.thread ∙ waits.thread }

  finished_after : (k : Tid) → HasFinished a k → HasFinished b k
  finished_after k x =
      let (u, live, same) = task_after k x.task x.live in
      record { task = u; live = live; explicit = same.implicit ∙ x.explicit; progress = same.progress ∙ x.progress }

  pub deferred_in_after : (row : Task) (place : ℕ) (k : Tid) → IsDeferredIn a row place k
      → IsDeferredIn b row place k
  deferred_in_after row place k x =
      let (u, live, same) = task_after k x.task x.live in
      record { task = u; live = live; progress = same.progress ∙ x.progress; region = same.region ∙ x.region; place_is = same.place ∙ x.place_is; maker = x.maker }

  in_making : {A : Type 0} (R : A → A → Type 0) (i : ℕ) (xs ys : Slots A) (n : Id) → SlotsAlike R ys xs
      → IsInTheMaking i (xs i) n → IsInTheMaking i (ys i) n
  in_making R i xs ys n alike x = record {
    maker = x.maker;
    free = none_before R (ys i n.slot).live (xs i n.slot).live (alike i n.slot).live x.free;
    next = x.next ∙ (alike i n.slot).generations;
  }

  pub making_after : (i : ℕ) (o : Owed) → KeepsMaking a i o → KeepsMaking b i o
  making_after i o x = record {
    region = λ n is. in_making IsSameRegion i a.regions b.regions n.0 regions_back (x.region n is);
    tasks = All-weaker (λ (k : Tid). IsInTheMaking i (a.tasks i) k.0) (λ (k : Tid). IsInTheMaking i (b.tasks i) k.0) (λ k. in_making IsSameKind i a.tasks b.tasks k.0 tasks_back) o.tasks x.tasks;
    apart = x.apart;
  }

  tasks_stay : TasksStay a b
  tasks_stay = record {
    live = λ k t is. let (u, live, same) = task_after k t is in (u, live, same.region);
    finished = finished_after;
  }

  pub objects_after : (o : Owed) → OwesOnLive a o → OwesOnLive b o
  objects_after o x =
      let on_tasks = owed_on_tasks a b o o tasks_stay (owes_tasks_alike o) x in
      record {
        pending = λ n is. some_after IsSameRegion (region_of a n) (region_of b n) (region_found a b regions_alike tasks_alike n) (x.pending n is);
        left = λ n is.
            let (r, live, joined) = x.left n is in
            let (q, now, same) = region_after n r live in
            (q, now, same.joined ∙ joined);
        raised = λ k is. some_task a b regions_alike tasks_alike k (x.raised k is);
        referred = on_tasks.referred;
        own = on_tasks.own;
        returned = on_tasks.returned;
        gives = on_tasks.gives;
        lowered = λ k is.
            let (own, live) = x.lowered k is in
            (own, subst (λ (g : Option Tid). IsSome (option_and_then (task_of b) g)) (sym (generating_same a b regions_alike tasks_alike k)) (parent (generating_of a k) live));
        assigns = All-weaker (λ (m : Tid × ℕ). WaitsFor a m.1 m.0) (λ (m : Tid × ℕ). WaitsFor b m.1 m.0) (λ m. waits_after m.1 m.0) o.assigns x.assigns;
      }
    where
      parent : (g : Option Tid) → IsSome (option_and_then (task_of a) g)
          → IsSome (option_and_then (task_of b) g)
      parent None is = is
      parent (Some q) is = some_task a b regions_alike tasks_alike q is
