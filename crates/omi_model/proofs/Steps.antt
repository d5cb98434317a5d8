-- A step in two halves: the list moves on, and then the event has its effect, under the rule that it had before.
use Rattle.std.proofs.Common.{◌≡◌, ◌<◌, ℕ, suc, ◌⊎◌, inl, inr, Bool, true, false, List, length, map, Option, Some, None, refl, sym, ap, ◌∙◌, subst}
use Rattle.std.specs.Prelude.{IfSome, ⊤, ◌==◌, ◌+◌, if◌then◌else◌}
use Rattle.std.specs.List.{Contains}
use Rattle.std.specs.Option.{option_and_then, option_map, option_map_or}
use Rattle.omi_script.specs.declared.program.Program.{Program}
use Rattle.omi_model.specs.declared.event.Event.{Event}
use Rattle.omi_model.specs.declared.event.Event.TheVariants as event
use Rattle.omi_model.specs.declared.freeable.Freeable.{Freeable}
use Rattle.omi_model.specs.declared.freeable.Freeable.TheVariants as freeable
use Rattle.omi_model.specs.declared.group.Group.{Group}
use Rattle.omi_model.specs.declared.id.Id.{Id}
use Rattle.omi_model.specs.declared.id.Rid.{Rid}
use Rattle.omi_model.specs.declared.id.Tid.{Tid}
use Rattle.omi_model.specs.declared.item.Item.{Item}
use Rattle.omi_model.specs.declared.item.Item.TheVariants as item
use Rattle.omi_model.specs.declared.progress.Progress.TheVariants.{Finished}
use Rattle.omi_model.specs.declared.region.Region.{Region}
use Rattle.omi_model.specs.declared.slot.Slot.{Slot}
use Rattle.omi_model.specs.declared.task.Task.{Task}
use Rattle.omi_model.specs.declared.task.Variables.{Variables}
use Rattle.omi_model.specs.declared.thread.Thread.{Thread}
use Rattle.omi_model.specs.Barriers.{HasNoExplicit}
use Rattle.omi_model.specs.Changes.{IsCurrent, OfCurrent, OfCurrentRegion, ahead_of, by_current, by_region, encounter, on_task, on_thread, with_list}
use Rattle.omi_model.specs.Freeing.{IsOver, IsSpent, MayFree, MayFreeMember, MayFreeRegion}
use Rattle.omi_model.specs.Fresh.{IsFresh}
use Rattle.omi_model.specs.Groups.{AreMembersFinished}
use Rattle.omi_model.specs.Lists.{stays, take_item}
use Rattle.omi_numbers.specs.declared.variables.TheConstants.{MAX_ACTIVE_LEVELS_VAR}
use Rattle.omi_model.specs.Put.{Slots, changed, on}
use Rattle.omi_model.specs.Reached.{Step}
use Rattle.omi_model.specs.Rules.{Rule, effect, moved}
use Rattle.omi_model.specs.Settings.{with_set, with_task_variable, with_variable, with_variable_of}
use Rattle.omi_model.specs.State.{State, region_of, task_of}
use Rattle.omi_model.specs.Tasking.{AreChildrenFinished, IsTaken, MayStart, MayStartAt}
use Rattle.omi_model.specs.Teams.{MayAsk, MayFork, got_threads}
use Rattle.omi_model.proofs.Slots.{each_on, each_put, each_slot, later_on, none_some, on_empty, on_generations, on_same, some_same}

-- a task with another list, and one whose list has moved on
abbrev pub relisted_to : Option Freeable × List Item → Task → Task
relisted_to x t = record t { frees = x.0; list = x.1 }

abbrev pub relisted : List Item → Task → Task
relisted zs t = relisted_to (None, zs) t

-- ---- what an event makes by the current task

pub at_current : (s : State) (i : ℕ) (k : Tid) (t : Task) (f : Tid → Task → State) → IsCurrent s i k t
    → by_current s i f ≡ Some (f k t)
at_current s i k t f is =
    ap (option_and_then (λ (n : Tid). option_map (f n) (task_of s n))) is.name ∙ ap (option_map (f k)) is.live

pub at_region : (s : State) (i : ℕ) (k : Tid) (t : Task) (r : Region) (f : Tid → Task → Region → State)
    → IsCurrent s i k t → region_of s t.region ≡ Some r → by_region s i f ≡ Some (f k t r)
at_region s i k t r f is found =
    ap
    (option_and_then (λ (n : Tid). option_and_then (λ (u : Task). option_map (f n u) (region_of s u.region)) (task_of s n))) is.name
    ∙
    (ap (option_and_then (λ (u : Task). option_map (f k u) (region_of s u.region))) is.live ∙ ap (option_map (f k t)) found)

-- a law of what is made
pub if_some : {A : Type 0} (P : A → Type 0) (o : Option A) (x : A) → o ≡ Some x → P x → IfSome o P
if_some {A} P o x is h = subst (λ (q : Option A). IfSome q P) (sym is) h

pub from_some : {A : Type 0} (P : A → Type 0) (o : Option A) (x : A) → o ≡ Some x → IfSome o P → P x
from_some {A} P o x is h = subst (λ (q : Option A). IfSome q P) is h

pub of_current : (s : State) (i : ℕ) (f : Tid → Task → State) (L : State → Type 0) (P : Tid → Task → Type 0)
    → OfCurrent s i P → ((k : Tid) (t : Task) → IsCurrent s i k t → P k t → L (f k t))
    → IfSome (by_current s i f) L
of_current s i f L P (k, t, is, h) law =
    if_some L (by_current s i f) (f k t) (at_current s i k t f is) (law k t is h)

pub of_current_region : (s : State) (i : ℕ) (f : Tid → Task → State) (L : State → Type 0) (P : Tid → Task → Region → Type 0)
    → OfCurrentRegion s i P
    → ((k : Tid) (t : Task) (r : Region) → IsCurrent s i k t → region_of s t.region ≡ Some r → P k t r → L (f k t)) → IfSome (by_current s i f) L
of_current_region s i f L P (k, t, r, is, found, h) law =
    if_some L (by_current s i f) (f k t) (at_current s i k t f is) (law k t r is found h)

pub of_region : (s : State) (i : ℕ) (f : Tid → Task → Region → State) (L : State → Type 0) (P : Tid → Task → Region → Type 0)
    → OfCurrentRegion s i P
    → ((k : Tid) (t : Task) (r : Region) → IsCurrent s i k t → region_of s t.region ≡ Some r → P k t r → L (f k t r)) → IfSome (by_region s i f) L
of_region s i f L P (k, t, r, is, found, h) law =
    if_some L (by_region s i f) (f k t r) (at_region s i k t r f is found) (law k t r is found h)

pub of_set : (s : State) (i icv value : ℕ) (L : State → Type 0) → OfCurrent s i (λ k t. ⊤)
    → L (record s { max_active = value })
    → ((k : Tid) (t : Task) (v : Variables) → IsCurrent s i k t → with_variable icv value t.variables ≡ Some v → L (on_task s k (λ u. record u { variables = v }))) → IfSome (with_set s i icv value) L
of_set s i icv value L (k, t, is, h) whole own = by_test (icv == MAX_ACTIVE_LEVELS_VAR)
  where
    of_own : (o : Option Variables) → with_variable icv value t.variables ≡ o
        → IfSome (option_map (λ v. on_task s k (λ u. record u { variables = v })) o) L
    of_own None e = tt
    of_own (Some v) e = own k t v is e

    by_test : (b : Bool)
        → IfSome (if b then Some (record s { max_active = value }) else with_task_variable s i icv value) L
    by_test true = whole
    by_test false =
        subst (λ (o : Option State). IfSome o L)
        (sym (ap (option_and_then (λ (n : Tid). option_and_then (with_variable_of s icv value n) (task_of s n))) is.name ∙ ap (option_and_then (with_variable_of s icv value k)) is.live))
        (of_own (with_variable icv value t.variables) refl)

-- ---- the list moves on

-- a law of the state whose list has moved on: at the current task, or at a thread without one
pub list_moves : (s : State) (i : ℕ) (zs : List Item) (L : State → Type 0)
    → ((k : Tid) → (s.threads i).current ≡ Some k → L (on_task s k (relisted zs)))
    → ((s.threads i).current ≡ None → L (on_thread s i (λ h. record h { list = zs }))) → L (with_list s i zs)
list_moves s i zs L busy idle = go (s.threads i).current refl
  where
    go : (o : Option Tid) → (s.threads i).current ≡ o
        → L (option_map_or (λ k. on_task s k (λ t. record t { frees = None; list = zs })) o (on_thread s i (λ h. record h { list = zs })))
    go None e = idle e
    go (Some k) e = busy k e

-- what is live where one object was changed
pub on_live : {A : Type 0} (slots : Slots A) (k : Id) (f : A → A) (P : A → Type 0) → ((x : A) → P x → P (f x))
    → (c j : ℕ) → ((x : A) → (slots c j).live ≡ Some x → P x) → (y : A) → (on slots k f c j).live ≡ Some y
    → P y
on_live {A} slots k f P keeps c j was =
    each_slot slots k
    (λ d h (slot : Slot A). ((x : A) → (slots d h).live ≡ Some x → P x) → (y : A) → slot.live ≡ Some y → P y)
    (changed k.generation f (slots k.creator k.slot))
    (λ all y e. go all y e) (λ d h apart all. all) c j was
  where
    of_map : (o : Option A) → ((x : A) → o ≡ Some x → P x) → (y : A) → option_map f o ≡ Some y → P y
    of_map None all y e = absurd (none_some refl e)
    of_map (Some x) all y e = let same : f x ≡ y = some_same refl e in subst P same (keeps x (all x refl))

    go : ((x : A) → (slots k.creator k.slot).live ≡ Some x → P x) → (y : A)
        → (changed k.generation f (slots k.creator k.slot)).live ≡ Some y → P y
    go all y e = by_test ((slots k.creator k.slot).generations == k.generation + 1) e
      where
        by_test : (b : Bool)
            → (if b then record { generations = (slots k.creator k.slot).generations; live = option_map f (slots k.creator k.slot).live } else slots k.creator k.slot).live ≡ Some y
            → P y
        by_test true h = of_map (slots k.creator k.slot).live all y h
        by_test false h = all y h

pub on_fresh : {A : Type 0} (slots : Slots A) (k : Id) (f : A → A) (i : ℕ) (n : Id) → IsFresh slots i n
    → IsFresh (on slots k f) i n
on_fresh slots k f i n is = record {
  creator = is.creator;
  empty = on_empty slots k f i n.slot is.empty;
  next = is.next ∙ sym (on_generations slots k f i n.slot);
  below = is.below;
}

module _ (s : State) (i : ℕ) (k0 : Tid) (is_current : (s.threads i).current ≡ Some k0) (zs : List Item) where
  abbrev next : State
  next = on_task s k0 (relisted zs)

  pub current_moved : (k : Tid) (t : Task) → IsCurrent s i k t → IsCurrent next i k (relisted zs t)
  current_moved k t is =
      let same : k0 ≡ k = some_same is_current is.name in
      record { name = is.name; live = ap (task_of next) (sym same) ∙ (on_same s.tasks k0.0 (relisted zs) ∙ ap (option_map (relisted zs)) (ap (task_of s) same ∙ is.live)) }

  of_moved : (P Q : Tid → Task → Type 0) → ((k : Tid) (t : Task) → P k t → Q k (relisted zs t))
      → OfCurrent s i P → OfCurrent next i Q
  of_moved P Q keeps (k, t, is, h) = (k, relisted zs t, current_moved k t is, keeps k t h)

  of_region_moved : (P Q : Tid → Task → Region → Type 0)
      → ((k : Tid) (t : Task) (r : Region) → P k t r → Q k (relisted zs t) r) → OfCurrentRegion s i P
      → OfCurrentRegion next i Q
  of_region_moved P Q keeps (k, t, r, is, found, h) =
      (k, relisted zs t, r, current_moved k t is, found, keeps k t r h)

  fork_moved : (region : Rid) (team : List (Tid × ℕ)) → MayFork s i region team → MayFork next i region team
  fork_moved region team may = record {
    over = may.over;
    threads = may.threads;
    region_new = may.region_new;
    tasks_new = λ j d h. on_fresh s.tasks k0.0 (relisted zs) i _ (may.tasks_new j d h);
    distinct = may.distinct;
  }

  children_moved : (k : Tid) → AreChildrenFinished s k → AreChildrenFinished next k
  children_moved k all c j t live =
      on_live s.tasks k0.0 (relisted zs)
      (λ u. u.implicit ≡ false → u.generating ≡ Some k → u.progress ≡ Finished) (λ x h. h) c j
      (all c j) t live

  members_moved : (g : Group) → AreMembersFinished s g → AreMembersFinished next g
  members_moved g all c j t live =
      on_live s.tasks k0.0 (relisted zs)
      (λ u. u.implicit ≡ false → u.group ≡ Some g → u.progress ≡ Finished) (λ x h. h) c j
      (all c j) t live

  taken_moved : (region : Rid) (place : ℕ) → IsTaken s i region place → IsTaken next i region place
  taken_moved region place is =
      let found = each_slot s.tasks k0.0 (λ c j (slot : Slot Task). (s.tasks c j).live ≡ Some is.task → (u : Task) × (slot.live ≡ Some u) × ((u ≡ is.task) ⊎ (u ≡ relisted zs is.task))) (changed k0.0.generation (relisted zs) (s.tasks k0.0.creator k0.0.slot))
      (λ e. here (s.tasks k0.0.creator k0.0.slot) e)
      (λ c j apart e. (is.task, e, inl refl)) i is.slot is.live in
      of_found found.0 found.1 found.2
    where
      here : (slot : Slot Task) → slot.live ≡ Some is.task
          → (u : Task) × ((changed k0.0.generation (relisted zs) slot).live ≡ Some u) × ((u ≡ is.task) ⊎ (u ≡ relisted zs is.task))
      here slot e = by_test (slot.generations == k0.0.generation + 1)
        where
          by_test : (b : Bool)
              → (u : Task) × ((if b then record { generations = slot.generations; live = option_map (relisted zs) slot.live } else slot).live ≡ Some u) × ((u ≡ is.task) ⊎ (u ≡ relisted zs is.task))
          by_test true = (relisted zs is.task, ap (option_map (relisted zs)) e, inr refl)
          by_test false = (is.task, e, inl refl)

      of_found : (u : Task) → (next.tasks i is.slot).live ≡ Some u → (u ≡ is.task) ⊎ (u ≡ relisted zs is.task)
          → IsTaken next i region place
      of_found u live (inl same) = record {
        slot = is.slot;
        task = u;
        live = live;
        explicit = ap (λ (x : Task). x.implicit) same ∙ is.explicit;
        deferred = ap (λ (x : Task). x.progress) same ∙ is.deferred;
        same = ap (λ (x : Task). x.region) same ∙ is.same;
        there = ap (λ (x : Task). x.place) same ∙ is.there;
      }
      of_found u live (inr same) = record {
        slot = is.slot;
        task = u;
        live = live;
        explicit = ap (λ (x : Task). x.implicit) same ∙ is.explicit;
        deferred = ap (λ (x : Task). x.progress) same ∙ is.deferred;
        same = ap (λ (x : Task). x.region) same ∙ is.same;
        there = ap (λ (x : Task). x.place) same ∙ is.there;
      }

  start_moved : (task : Tid) (x : Item) (k : Tid) (t : Task) → MayStart s task x k t
      → MayStart next task x k (relisted zs t)
  start_moved task x k t may =
      let found =
      later_on (λ (u v : Task). (v ≡ u) ⊎ (v ≡ relisted zs u)) (λ u. inl refl) s.tasks k0.0 (relisted zs)
      (λ u e. inr refl) task.0 may.new may.live in
      of_found found.0 found.1 found.2
    where
      allowed : (x : Item) (u : Task) → MayStartAt x k t u → MayStartAt x k (relisted zs t) (relisted zs u)
      allowed (item.Tasks state) u h = h
      allowed item.OneTask u h = h
      allowed y u h = absurd h

      allowed_same : (x : Item) (u : Task) → MayStartAt x k t u → MayStartAt x k (relisted zs t) u
      allowed_same (item.Tasks state) u h = h
      allowed_same item.OneTask u h = h
      allowed_same y u h = absurd h

      of_found : (v : Task) → task_of next task ≡ Some v → (v ≡ may.new) ⊎ (v ≡ relisted zs may.new)
          → MayStart next task x k (relisted zs t)
      of_found v live (inl same) = record {
        new = may.new;
        live = live ∙ ap (λ (u : Task). Some u) same;
        explicit = may.explicit;
        deferred = may.deferred;
        allowed = allowed_same x may.new may.allowed;
      }
      of_found v live (inr same) = record {
        new = relisted zs may.new;
        live = live ∙ ap (λ (u : Task). Some u) same;
        explicit = may.explicit;
        deferred = may.deferred;
        allowed = allowed x may.new may.allowed;
      }

  -- a fact of no live task that reads neither list nor what may be given back
  none_moved : (P : Task → Type 0) → ((x : Task) → P (relisted zs x) → P x)
      → ((c j : ℕ) (u : Task) → (s.tasks c j).live ≡ Some u → P u → ⊥) → (c j : ℕ) (u : Task)
      → (next.tasks c j).live ≡ Some u → P u → ⊥
  none_moved P same none c j u found =
      on_live s.tasks k0.0 (relisted zs) (λ x. P x → ⊥) (λ x h q. h (same x q)) c j (none c j) u found

  alone_moved : (n : Rid) → HasNoExplicit s n → HasNoExplicit next n
  alone_moved n none c j u live ex of =
      none_moved (λ x. (x.implicit ≡ false) × (x.region ≡ n)) (λ x h. h)
      (λ d h x found q. none d h x found q.0 q.1) c j u live (ex, of)

  spent_moved : (task : Tid) (old : Task) → IsSpent s task old
      → (v : Task) × IsSpent next task v × (xs : Option Freeable × List Item) × (v ≡ relisted_to xs old)
  spent_moved task old spent =
      let (v, live, same) =
      later_on (λ (u v : Task). (xs : Option Freeable × List Item) × (v ≡ relisted_to xs u))
      (λ u. ((u.frees, u.list), refl)) s.tasks k0.0 (relisted zs) (λ u e. ((None, zs), refl)) task.0 old spent.live in (
        v,
        record {
          live = live;
          over = ap (λ (x : Task). x.progress) same.1 ∙ spent.over;
          childless = none_moved (λ x. x.generating ≡ Some task) (λ x h. h) spent.childless;
        },
        same.0,
        same.1,
      )

  over_moved : (n : Rid) (r : Region) → IsOver s n r → IsOver next n r
  over_moved n r over = record {
    live = over.live;
    joined = over.joined;
    alone = alone_moved n over.alone;
    inmost = over.inmost;
  }

  free_moved : (task n : Tid) → MayFree s task n → MayFree next task n
  free_moved task n may =
      let (v, spent, xs, same) = spent_moved task may.old may.spent in
      record {
        next_is = may.next_is;
        old = v;
        spent = spent;
        explicit = ap (λ (x : Task). x.implicit) same ∙ may.explicit;
      }

  free_member_moved : (task : Tid) (n : Rid) (number : ℕ) → MayFreeMember s task n number
      → MayFreeMember next task n number
  free_member_moved task n number may =
      let (v, spent, xs, same) = spent_moved task may.old may.spent in
      record {
        region = may.region;
        ended = over_moved n may.region may.ended;
        known = may.known;
        old = v;
        spent = spent;
        implicit = ap (λ (x : Task). x.implicit) same ∙ may.implicit;
        mine = ap (λ (x : Task). x.region) same ∙ may.mine;
        number_is = ap (λ (x : Task). x.number) same ∙ may.number_is;
      }

  free_region_moved : (region n : Rid) (number : ℕ) → MayFreeRegion s region n number
      → MayFreeRegion next region n number
  free_region_moved region n number may = record {
    same = may.same;
    old = may.old;
    ended = over_moved region may.old may.ended;
    all = may.all;
    empty = none_moved (λ x. x.region ≡ region) (λ x h. h) may.empty;
  }

  busy_rule : (e : Event) (y : Item) → Rule s i e y → Rule next i e y
  busy_rule event.Begin y rule = rule
  busy_rule event.Offer y rule = rule
  busy_rule (event.Want n) (item.Want num) rule = of_region_moved _ _ (λ k t r h. h) rule
  busy_rule (event.Want n) y rule = absurd rule
  busy_rule (event.Ask w got) y rule = record { known = rule.known; other = rule.other; new = rule.new; least = rule.least; smaller = rule.smaller; joins = rule.joins; busy = rule.busy }
  busy_rule (event.Fork region team) y rule = of_region_moved _ _ (λ k t r h. fork_moved region team h) rule
  busy_rule (event.ImplicitBegin task) y rule = absurd (none_some rule.idle is_current)
  busy_rule event.Enter y rule = of_moved _ _ (λ k t h. h) rule
  busy_rule event.Leave y rule = of_moved _ _ (λ k t h. h) rule
  busy_rule event.Arrive y rule = of_region_moved _ _ (λ k t r h. h) rule
  busy_rule event.Release y rule =
      of_region_moved _ _
      (λ k t r h. record { first = h.first; arrived = h.arrived; alone = alone_moved t.region h.alone }) rule
  busy_rule event.Pass y rule = of_region_moved _ _ (λ k t r h. h) rule
  busy_rule (event.ImplicitEnd task) y rule =
      of_region_moved _ _
      (λ k t r h. record { current = h.current; implicit = h.implicit; other = h.other }) rule
  busy_rule (event.Join region) y rule =
      of_region_moved _ _
      (λ k t r h. record { mine = h.mine; implicit = h.implicit; first = h.first; ended = h.ended }) rule
  busy_rule (event.FreeTask task) (item.Frees (freeable.Finished n)) rule =
      of_moved _ _ (λ k t h. free_moved task n h) rule
  busy_rule (event.FreeTask task) (item.Frees (freeable.Joined n number)) rule =
      of_moved _ _ (λ k t h. free_member_moved task n number h) rule
  busy_rule (event.FreeTask task) y rule = absurd rule
  busy_rule (event.FreeRegion region) (item.Frees (freeable.Joined n number)) rule =
      of_moved _ _ (λ k t h. free_region_moved region n number h) rule
  busy_rule (event.FreeRegion region) y rule = absurd rule
  busy_rule (event.Seen j) y rule = of_moved _ _ (λ k t h. taken_moved t.region j h) rule
  busy_rule (event.Defer task) y rule =
      of_moved _ _ (λ k t h. on_fresh s.tasks k0.0 (relisted zs) i task.0 h) rule
  busy_rule (event.StartNow task) y rule =
      of_moved _ _ (λ k t h. on_fresh s.tasks k0.0 (relisted zs) i task.0 h) rule
  busy_rule (event.Start task) y rule = of_moved _ _ (λ k t h. start_moved task y k t h) rule
  busy_rule (event.Finish task) y rule =
      of_moved _ _ (λ k t h. record { current = h.current; explicit = h.explicit }) rule
  busy_rule event.WaitDone y rule = of_moved _ _ (λ k t h. children_moved k h) rule
  busy_rule event.GroupBegin y rule = of_moved _ _ (λ k t h. h) rule
  busy_rule event.GroupEnd y rule =
      of_moved _ _
      (λ k t h. record { group = h.group; innermost_is = h.innermost_is; finished = members_moved h.group h.finished }) rule
  busy_rule (event.Set icv value) y rule = of_moved _ _ (λ k t h. h) rule
  busy_rule (event.SetTool x) y rule = of_moved _ _ (λ k t h. h) rule
  busy_rule e y rule = rule

module _ (s : State) (i : ℕ) (none : (s.threads i).current ≡ None) (zs : List Item) where
  abbrev idle_next : State
  idle_next = on_thread s i (λ h. record h { list = zs })

  -- what does not read the list of a thread is the same
  pub idle_same : {B : Type 0} (F : Thread → B) → F (record (s.threads i) { list = zs }) ≡ F (s.threads i)
      → (j : ℕ) → F (idle_next.threads j) ≡ F (s.threads j)
  idle_same F same j =
      each_put (λ m h. F h ≡ F (s.threads m)) s.threads i (record (s.threads i) { list = zs }) same j
      (λ ne. refl)

  no_current : {P : Tid → Task → Type 0} → OfCurrent s i P → ⊥
  no_current (k, t, is, h) = none_some none is.name

  no_region : {P : Tid → Task → Region → Type 0} → OfCurrentRegion s i P → ⊥
  no_region (k, t, r, is, found, h) = none_some none is.name

  ask_idle : (w : ℕ) (got : Bool) → MayAsk s i w got → MayAsk idle_next i w got
  ask_idle w got may =
      let asks : (idle_next.threads i).asks ≡ (s.threads i).asks = idle_same (λ h. h.asks) refl i in
      let wanted : (idle_next.threads i).wanted ≡ (s.threads i).wanted = idle_same (λ h. h.wanted) refl i in
      let claim : (idle_next.threads w).claim ≡ (s.threads w).claim = idle_same (λ h. h.claim) refl w in
      record {
        known = may.known;
        other = may.other;
        new = λ h. may.new (subst (λ (a : List (ℕ × Bool)). Contains (map (λ x. x.0) a) w) asks h);
        least = λ v below other. subst (λ (a : List (ℕ × Bool)). Contains (map (λ x. x.0) a) v) (sym asks) (may.least v below other);
        smaller = subst (λ (a : List (ℕ × Bool)). suc (length (got_threads a)) < (idle_next.threads i).wanted) (sym asks) (subst (λ n. suc (length (got_threads (s.threads i).asks)) < n) (sym wanted) may.smaller);
        joins = λ g. claim ∙ may.joins g;
        busy = λ g h. may.busy g (sym claim ∙ h);
      }

  idle_rule : (e : Event) (y : Item) → Rule s i e y → Rule idle_next i e y
  idle_rule event.Begin y rule = idle_same (λ h. h.begun) refl i ∙ rule
  idle_rule event.Offer y rule = record { idle = idle_same (λ h. h.current) refl i ∙ rule.idle; held = λ e. rule.held (sym (idle_same (λ h. h.claim) refl i) ∙ e) }
  idle_rule (event.Want n) (item.Want num) rule = absurd (no_region rule)
  idle_rule (event.Want n) y rule = absurd rule
  idle_rule (event.Ask w got) y rule = ask_idle w got rule
  idle_rule (event.Fork region team) y rule = absurd (no_region rule)
  idle_rule (event.ImplicitBegin task) y rule = record { idle = idle_same (λ h. h.current) refl i ∙ rule.idle; member = rule.member; live = rule.live; waiting = rule.waiting; mine = rule.mine }
  idle_rule event.Enter y rule = absurd (no_current rule)
  idle_rule event.Leave y rule = absurd (no_current rule)
  idle_rule event.Arrive y rule = absurd (no_region rule)
  idle_rule event.Release y rule = absurd (no_region rule)
  idle_rule event.Pass y rule = absurd (no_region rule)
  idle_rule (event.ImplicitEnd task) y rule = absurd (no_region rule)
  idle_rule (event.Join region) y rule = absurd (no_region rule)
  idle_rule (event.FreeTask task) (item.Frees (freeable.Finished n)) rule = absurd (no_current rule)
  idle_rule (event.FreeTask task) (item.Frees (freeable.Joined n number)) rule = absurd (no_current rule)
  idle_rule (event.FreeTask task) y rule = absurd rule
  idle_rule (event.FreeRegion region) (item.Frees (freeable.Joined n number)) rule =
      absurd (no_current rule)
  idle_rule (event.FreeRegion region) y rule = absurd rule
  idle_rule (event.Seen j) y rule = absurd (no_current rule)
  idle_rule (event.Defer task) y rule = absurd (no_current rule)
  idle_rule (event.StartNow task) y rule = absurd (no_current rule)
  idle_rule (event.Start task) y rule = absurd (no_current rule)
  idle_rule (event.Finish task) y rule = absurd (no_current rule)
  idle_rule event.WaitDone y rule = absurd (no_current rule)
  idle_rule event.GroupBegin y rule = absurd (no_current rule)
  idle_rule event.GroupEnd y rule = absurd (no_current rule)
  idle_rule (event.Set icv value) y rule = absurd (no_current rule)
  idle_rule (event.SetTool x) y rule = absurd (no_current rule)
  idle_rule e y rule = rule

-- the rule of an event holds where the list has moved on
pub rule_moved : (s : State) (i : ℕ) (e : Event) (y : Item) (zs : List Item) → Rule s i e y
    → Rule (with_list s i zs) i e y
rule_moved s i e y zs rule =
    list_moves s i zs (λ u. Rule u i e y) (λ k is. busy_rule s i k is zs e y rule)
    (λ none. idle_rule s i none zs e y rule)

-- a state whose list has moved on has the same objects but for a list
pub record IsRelisted (s u : State) : Type 0 where
  pub tasks : (k : Tid) (t : Task) → task_of u k ≡ Some t
      → (v : Task) × (xs : Option Freeable × List Item) × (task_of s k ≡ Some v) × (t ≡ relisted_to xs v)
  pub regions : (n : Rid) → region_of u n ≡ region_of s n
  pub currents : (j : ℕ) → (u.threads j).current ≡ (s.threads j).current
  pub asks : (j : ℕ) → (u.threads j).asks ≡ (s.threads j).asks

pub is_relisted : (s : State) (i : ℕ) (zs : List Item) → IsRelisted s (with_list s i zs)
is_relisted s i zs = list_moves s i zs (IsRelisted s)
    (λ k is. record {
      tasks = λ n t e. each_on (λ m u. (v : Task) × (xs : Option Freeable × List Item) × (task_of s (record { 0 = m }) ≡ Some v) × (u ≡ relisted_to xs v)) s.tasks k.0 (relisted zs)
          (λ m u f. (u, (u.frees, u.list), f, refl)) (λ u f h. (u, (None, zs), f, refl)) n.0 t e;
      regions = λ n. refl;
      currents = λ j. refl;
      asks = λ j. refl;
    })
    (λ none. record { tasks = λ n t e. (t, (t.frees, t.list), e, refl); regions = λ n. refl; currents = idle_same s i none zs (λ h. h.current) refl; asks = idle_same s i none zs (λ h. h.asks) refl })

-- ---- a step

abbrev pub moved_on : State → ℕ → Event → Item → List Item → State
moved_on s i e y ys = with_list s i (stays (encounter s i) e y ys)

-- a step, taken apart
pub record IsMove (p : Program) (s : State) (i : ℕ) (e : Event) (next : State) : Type 0 where
  pub known : i < s.count
  pub item : Item
  pub behind : List Item
  pub taken : take_item p (encounter s i) e (ahead_of s i) ≡ Some (item, behind)
  pub rule : Rule s i e item
  pub rule_moved : Rule (moved_on s i e item behind) i e item
  pub effect_is : effect p (moved_on s i e item behind) i e item ≡ Some next

pub move_of : (p : Program) (s : State) (i : ℕ) (e : Event) (next : State) → Step p s i e next
    → IsMove p s i e next
move_of p s i e after_step step = record {
  known = step.legal.known;
  item = step.legal.item;
  behind = step.legal.behind;
  taken = step.legal.taken;
  rule = step.legal.rule;
  rule_moved = rule_moved s i e step.legal.item (stays (encounter s i) e step.legal.item step.legal.behind) step.legal.rule;
  effect_is = sym (ap (option_and_then (moved p s i e)) step.legal.taken) ∙ step.after_is;
}
