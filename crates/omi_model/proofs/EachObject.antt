-- A law of each task, and a law of each region: what has to be shown of it, once for all events.
use Rattle.std.proofs.Common.{◌≡◌, ◌≢◌, ◌+◌, ◌-◌, ℕ, zero, suc, ◌⊎◌, inl, inr, Bool, true, false, List, [], ◌∷◌, slice_get, slice_index, slice_set, drop, Option, Some, refl, sym, ap, ◌∙◌, subst, arith, None}
use Rattle.std.specs.Prelude.{IfSome, ⊤}
use Rattle.std.specs.List.{All}
use Rattle.std.specs.Option.{option_and_then, option_map, option_map_or}
use Rattle.omi_script.specs.declared.program.Program.{Program}
use Rattle.omi_model.specs.declared.encounter.Encounter.{Encounter}
use Rattle.omi_model.specs.declared.event.Event.{Event}
use Rattle.omi_model.specs.declared.event.Event.TheVariants as event
use Rattle.omi_model.specs.declared.freeable.Freeable.{Freeable}
use Rattle.omi_model.specs.declared.freeable.Freeable.TheVariants as freeable
use Rattle.omi_model.specs.declared.id.Id.{Id}
use Rattle.omi_model.specs.declared.id.Rid.{Rid}
use Rattle.omi_model.specs.declared.id.Tid.{Tid}
use Rattle.omi_model.specs.declared.item.Item.{Item}
use Rattle.omi_model.specs.declared.item.Item.TheVariants as item
use Rattle.omi_model.specs.declared.progress.Progress.TheVariants.{Deferred, NotBegun, Begun, Finished}
use Rattle.omi_model.specs.declared.region.Region.{Region}
use Rattle.omi_model.specs.declared.task.Task.{Task}
use Rattle.omi_model.specs.declared.task.Variables.{Variables}
use Rattle.omi_model.specs.Barriers.{MayRelease, arrived, released}
use Rattle.omi_model.specs.Changes.{IsCurrent, ahead_of, encounter, in_front, list_of, on_region, on_task, with_list}
use Rattle.omi_model.specs.Freeing.{above, freed, freeing}
use Rattle.omi_model.specs.Fresh.{IsFresh}
use Rattle.omi_model.specs.Groups.{MayBeginGroup, MayEndGroup, group_begun, group_ended}
use Rattle.omi_model.specs.Lists.{stays, take_item}
use Rattle.omi_model.specs.Put.{Slots, gone, made, named}
use Rattle.omi_model.specs.Reached.{Leads, Step}
use Rattle.omi_model.specs.Rows.{working}
use Rattle.omi_model.specs.Rules.{Rule, effect}
use Rattle.omi_model.specs.Settings.{entered, left, with_tool, with_variable}
use Rattle.omi_model.specs.State.{State, region_of, task_of}
use Rattle.omi_model.specs.Tasking.{MayStart, MayStartAt, deferred, deferred_task, finished, scheduled, started, started_alone, started_now}
use Rattle.omi_model.specs.Teams.{MayEnd, MayFork, MayJoin, forked, joined, member_task, new_region, task_ended, with_members}
use Rattle.omi_model.specs.LawStays.{Stays}
use Rattle.omi_model.proofs.Slots.{Each, each_gone, each_made, each_on, each_on_to, made_same, made_stays, none_some, some_same}
use Rattle.omi_model.proofs.StaysKept.{AreNew, fresh_empty, new_team, stays_effect}
use Rattle.omi_model.proofs.Steps.{IsMove, IsRelisted, from_some, is_relisted, list_moves, move_of, moved_on, of_current, of_current_region, of_region, of_set, relisted}

abbrev pub EachTask : (Tid → Task → Type 0) → State → Type 0
EachTask P s = (k : Tid) (t : Task) → task_of s k ≡ Some t → P k t

abbrev pub EachRegion : (Rid → Region → Type 0) → State → Type 0
EachRegion Q s = (n : Rid) (r : Region) → region_of s n ≡ Some r → Q n r

-- ---- tasks

-- the list with which a deferred task starts
abbrev pub start_list : Item → Encounter → List Item → List Item
start_list (item.Tasks state) at zs = working at zs
start_list x at zs = zs

-- the events at which the current task finishes
abbrev pub is_end : Event → Bool
is_end (event.ImplicitEnd task) = true
is_end (event.Join region) = true
is_end (event.Finish task) = true
is_end e = false

-- the task that goes on where another one ends: the one that it was scheduled from, or that encountered its region
abbrev pub IsGoingOn : State → Task → Tid → Type 0
IsGoingOn s t k = (t.scheduling ≡ Some k)
    ⊎ ((r : Region) × (region_of s t.region ≡ Some r) × (t.implicit ≡ true) × (t.number ≡ 0) × (r.encountering ≡ Some k))

-- what may be given back where task j, which is t, ends: the region that it joined, or the task itself
abbrev pub FreesNext : Event → Tid → Task → Option Freeable → Type 0
FreesNext e j t free = ((e ≡ event.Join t.region) × (free ≡ Some (freeable.Joined t.region 0)))
    ⊎ (free ≡ Some (freeable.Finished j))

-- and what behind that which was given back: a generating task, or the next member's
abbrev pub FreesBehind : Freeable → Option Freeable → Type 0
FreesBehind (freeable.Finished task) free = (o : Option Tid) × (free ≡ option_map freeable.Finished o)
FreesBehind (freeable.Joined n number) free = free ≡ Some (freeable.Joined n (number + 1))

-- where this may be given back next: in front of what the task has ahead that goes on where another one ends, and in front of what the
-- current task has ahead once a task is given back
abbrev pub IsFreeing : State → ℕ → Event → Item → Tid → Option Freeable → Type 0
IsFreeing s i e y k free =
    ((j : Tid) × (t : Task) × IsCurrent s i j t × (is_end e ≡ true) × IsGoingOn s t k × FreesNext e j t free)
    ⊎ ((n : Freeable) × (task : Tid) × (y ≡ item.Frees n) × (e ≡ event.FreeTask task)
    × ((s.threads i).current ≡ Some k) × FreesBehind n free)

-- the events of task groups, by which the current task has so many groups open
abbrev pub ChangesGroups : State → Event → Tid → Task → ℕ → Type 0
ChangesGroups s e k t n = ((e ≡ event.GroupBegin) × MayBeginGroup t × (n ≡ suc t.open_groups))
    ⊎ ((e ≡ event.GroupEnd) × MayEndGroup s k t × (n ≡ t.open_groups - 1))

-- what has to be shown of a task that starts behind its being deferred, of the members of a new team, of a task that is deferred, and of one that
-- starts where it is made
abbrev pub AtStart : State → ℕ → Event → Item → (Tid → Task → Type 0) → Type 0
AtStart s i e y P = (k : Tid) (u : Task) (j : Tid) (t : Task) (x : Item) → IsCurrent s i j t → task_of s k ≡ Some u
    → u.implicit ≡ false → u.progress ≡ Deferred → MayStartAt x j t u → y ≡ x → e ≡ event.Start k → P k u
    → P k (record (scheduled i j t u) { list = start_list x (encounter s i) u.list })

abbrev pub AtFork : Program → State → ℕ → Event → Item → State → (Tid → Task → Type 0) → Type 0
AtFork p s i e y next P = (region : Rid) (team : List (Tid × ℕ)) (f : ℕ) (k : Tid) (t : Task) (r : Region)
    → IsCurrent s i k t → region_of s t.region ≡ Some r → MayFork s i region team
    → region_of next region ≡ Some (new_region k t r team f) → y ≡ item.Fork f → e ≡ event.Fork region team
    → (j : ℕ) (m : Tid × ℕ) → slice_get team j ≡ Some m → P m.0 (member_task p region k t r f j m.1)

abbrev pub AtDefer : Program → State → ℕ → Item → (Tid → Task → Type 0) → Type 0
AtDefer p s i y P = (task : Tid) (f : ℕ) (is_final : Bool) (seen : ℕ) (k : Tid) (t : Task) → IsCurrent s i k t
    → y ≡ item.Defer seen f is_final → IsFresh s.tasks i task.0 → P task (deferred_task p k t f is_final seen)

abbrev pub AtStartNow : Program → State → ℕ → Event → Item → (Tid → Task → Type 0) → Type 0
AtStartNow p s i e y P = (task : Tid) (f : ℕ) (is_final : Bool) (k : Tid) (t : Task) → IsCurrent s i k t
    → (y ≡ item.StartNow f is_final) ⊎ ((seen : ℕ) × (y ≡ item.Defer seen f is_final))
    → IsFresh s.tasks i task.0 → e ≡ event.StartNow task → P task (scheduled i k t (deferred_task p k t f is_final 0))

-- a law of each task over the effect of an event of thread i that takes an item, from a state to the next one
pub record IsTaskLaw (p : Program) (s : State) (i : ℕ) (e : Event) (y : Item) (next : State) (P : Tid → Task → Type 0) : Type 0 where
  pub frees : (k : Tid) (t : Task) (free : Option Freeable) → IsFreeing s i e y k free → P k t
      → P k (record t { frees = free })
  pub shows : (k : Tid) (t : Task) (enter : ℕ) → P k t → P k (record t { enter = enter })
  pub tools : (k : Tid) (t : Task) (x : ℕ) → P k t → P k (record t { tool = x })
  pub groups : (k : Tid) (t : Task) (n : ℕ) → IsCurrent s i k t → ChangesGroups s e k t n → P k t
      → P k (record t { open_groups = n })
  pub sets : (k : Tid) (t : Task) (icv value : ℕ) (v : Variables)
      → with_variable icv value t.variables ≡ Some v → e ≡ event.Set icv value → P k t
      → P k (record t { variables = v })
  pub begins : (k : Tid) (t : Task) → t.progress ≡ NotBegun → t.thread ≡ i → e ≡ event.ImplicitBegin k → P k t
      → P k (record t { progress = Begun })
  pub finishes : (k : Tid) (t : Task) → IsCurrent s i k t → is_end e ≡ true → P k t
      → P k (record t { progress = Finished })
  pub starts : AtStart s i e y P
  pub members : AtFork p s i e y next P
  pub deferred : AtDefer p s i y P
  pub made : AtStartNow p s i e y P

-- A task but for what an event changes of one that is there already, and isn't its list: these fields are the same for all. So a fact of what is left
-- has to be shown where a task is made or starts, alone.
abbrev pub lasting : Task → Task
lasting t = record t {
  enter = 0;
  variables = record { dynamic = false; nthreads = []; schedule = record { kind = 0; chunk = 0 }; device = 0 };
  tool = 0;
  progress = Begun;
  open_groups = 0;
  frees = None;
}

abbrev pub OfLasting : (Tid → Task → Type 0) → Tid → Task → Type 0
OfLasting P k t = P k (lasting t)

pub record IsLastingLaw (p : Program) (s : State) (i : ℕ) (e : Event) (y : Item) (next : State) (P : Tid → Task → Type 0) : Type 0 where
  pub starts : AtStart s i e y P
  pub members : AtFork p s i e y next P
  pub deferred : AtDefer p s i y P
  pub made : AtStartNow p s i e y P

pub law_of_lasting : (p : Program) (s : State) (i : ℕ) (e : Event) (y : Item) (next : State) (P : Tid → Task → Type 0)
    → IsLastingLaw p s i e y next (OfLasting P) → IsTaskLaw p s i e y next (OfLasting P)
law_of_lasting p s i e y next P law = record {
  frees = λ k t free how q. q;
  shows = λ k t x q. q;
  tools = λ k t x q. q;
  groups = λ k t count is how q. q;
  sets = λ k t icv value v f at_set q. q;
  begins = λ k t waits mine by q. q;
  finishes = λ k t is over q. q;
  starts = law.starts;
  members = law.members;
  deferred = law.deferred;
  made = law.made;
}

each_member : (P : Tid → Task → Type 0) (task : ℕ → ℕ → Task) (number : ℕ) (team : List (Tid × ℕ)) (slots : Slots Task)
    → Each (λ n t. P (record { 0 = n }) t) slots
    → ((j : ℕ) (m : Tid × ℕ) → slice_get team j ≡ Some m → P m.0 (task (number + j) m.1)) → Each (λ n t. P (record { 0 = n }) t) (with_members task number team slots)
each_member P task number [] slots all new = all
each_member P task number (m ∷ ms) slots all new =
    each_member P task (number + 1) ms (made slots m.0.0 (task number m.1))
    (each_made (λ n t. P (record { 0 = n }) t) slots m.0.0 (task number m.1) all (let zero_more : number + 0 ≡ number = omega arith in subst (λ j. P m.0 (task j m.1)) zero_more (new 0 m refl)))
    (λ j x e. let one_more : number + suc j ≡ number + 1 + j = omega arith in subst (λ h. P x.0 (task h x.1)) one_more (new (suc j) x e))

-- the members of a new team are found under their names
pub found_later : (task : ℕ → ℕ → Task) (number : ℕ) (team : List (Tid × ℕ)) (slots : Slots Task) (i : ℕ) (n : Id) (x : Task)
    → AreNew slots i team → named slots n ≡ Some x → named (with_members task number team slots) n ≡ Some x
found_later task number [] slots i n x new e = e
found_later task number (m ∷ ms) slots i n x new e =
    found_later task (number + 1) ms (made slots m.0.0 (task number m.1)) i n x (new.1 (task number m.1))
    (made_stays slots m.0.0 (task number m.1) n x (fresh_empty slots i m.0.0 new.0) e)

found_from : (task : ℕ → ℕ → Task) (number : ℕ) (team : List (Tid × ℕ)) (slots : Slots Task) (i : ℕ)
    → AreNew slots i team → (j : ℕ) (m : Tid × ℕ) → slice_get team j ≡ Some m
    → named (with_members task number team slots) m.0.0 ≡ Some (task (number + j) m.1)
found_from task number [] slots i new j m e = absurd (none_some refl e)
found_from task number (x ∷ xs) slots i new zero m e =
    let same : x ≡ m = some_same refl e in
    let zero_more : number ≡ number + 0 = omega arith in
    subst (λ h. named (with_members task number (x ∷ xs) slots) m.0.0 ≡ Some (task h m.1)) zero_more
    (subst (λ (y : Tid × ℕ). named (with_members task number (x ∷ xs) slots) y.0.0 ≡ Some (task number y.1)) same
    (found_later task (number + 1) xs (made slots x.0.0 (task number x.1)) i x.0.0 (task number x.1) (new.1 (task number x.1)) (made_same slots x.0.0 (task number x.1))))
found_from task number (x ∷ xs) slots i new (suc j) m e =
    let one_more : number + 1 + j ≡ number + suc j = omega arith in
    subst (λ h. named (with_members task number (x ∷ xs) slots) m.0.0 ≡ Some (task h m.1)) one_more
    (found_from task (number + 1) xs (made slots x.0.0 (task number x.1)) i (new.1 (task number x.1)) j m e)

pub members_found : (task : ℕ → ℕ → Task) (team : List (Tid × ℕ)) (slots : Slots Task) (i : ℕ)
    → AreNew slots i team → (j : ℕ) (m : Tid × ℕ) → slice_get team j ≡ Some m
    → named (with_members task 0 team slots) m.0.0 ≡ Some (task j m.1)
members_found task team slots i new j m e =
    let zero_more : 0 + j ≡ j = omega arith in
    subst (λ h. named (with_members task 0 team slots) m.0.0 ≡ Some (task h m.1)) zero_more
    (found_from task 0 team slots i new j m e)

-- what stays from the moved list to the next state
pub stays_after : (p : Program) (s : State) (i : ℕ) (e : Event) (next : State) (m : IsMove p s i e next)
    → Stays (moved_on s i e m.item m.behind) next
stays_after p s i e after_step m =
    from_some (Stays (moved_on s i e m.item m.behind))
    (effect p (moved_on s i e m.item m.behind) i e m.item) after_step m.effect_is
    (stays_effect p (moved_on s i e m.item m.behind) i e m.item m.rule_moved)

module _ (p : Program) (P : Tid → Task → Type 0) where
  abbrev of_law : State → ℕ → Event → Item → State → Type 0
  of_law s i e y u = IsTaskLaw p s i e y u P → EachTask P u

  each_changed : (s : State) (k : Tid) (f : Task → Task) → EachTask P s
      → ((t : Task) → task_of s k ≡ Some t → P k t → P k (f t)) → EachTask P (on_task s k f)
  each_changed s k f all keeps n t e =
      each_on (λ m u. P (record { 0 = m }) u) s.tasks k.0 f
      (λ m u h. all (record { 0 = m }) u h) keeps n.0 t e

  each_new : (s : State) (k : Tid) (x : Task) → EachTask P s → P k x
      → EachTask P (record s { tasks = made s.tasks k.0 x })
  each_new s k x all here n t e =
      each_made (λ m u. P (record { 0 = m }) u) s.tasks k.0 x
      (λ m u h. all (record { 0 = m }) u h) here n.0 t e

  each_gone_task : (s : State) (k : Tid) → EachTask P s → EachTask P (record s { tasks = gone s.tasks k.0 })
  each_gone_task s k all n t e =
      each_gone (λ m u. P (record { 0 = m }) u) s.tasks k.0 (λ m u h. all (record { 0 = m }) u h) n.0 t e

  -- another task may be given back next
  each_freeing : (next : Option Freeable) (s : State) → EachTask P s → (k : Option Tid)
      → ((n : Tid) (t : Task) → k ≡ Some n → P n t → P n (record t { frees = next }))
      → EachTask P (record s { tasks = freeing next k s.tasks })
  each_freeing next s all None keeps = all
  each_freeing next s all (Some k) keeps =
      each_changed s k (λ u. record u { frees = next }) all (λ u e q. keeps k u refl q)

  the_current : (s : State) (i : ℕ) (k : Tid) (t u : Task) → IsCurrent s i k t → task_of s k ≡ Some u
      → IsCurrent s i k u
  the_current s i k t u is e = record { name = is.name; live = e }

  -- a task is given back
  each_freed : (s : State) (i : ℕ) (was : Freeable) (task : Tid) (next : Option Freeable) (k : Tid) (t : Task)
      → IsCurrent s i k t → FreesBehind was next → EachTask P s
      → of_law s i (event.FreeTask task) (item.Frees was) (freed s task next k t)
  each_freed s i was task next k t is behind all law =
      each_changed (record s { tasks = gone s.tasks task.0 }) k (λ u. record u { frees = next })
      (each_gone_task s task all) (λ u e' q. law.frees k u next (inr (was, task, refl, refl, is.name, behind)) q)

  task_effect : (s : State) (i : ℕ) (e : Event) (y : Item) → Rule s i e y → EachTask P s
      → IfSome (effect p s i e y) (of_law s i e y)
  task_effect s i event.Begin y rule all = λ law. all
  task_effect s i event.Offer y rule all = λ law. all
  task_effect s i (event.Want n) y rule all = λ law. all
  task_effect s i (event.Ask w true) y rule all = λ law. all
  task_effect s i (event.Ask w false) y rule all = λ law. all
  task_effect s i (event.Fork region team) (item.Fork f) rule all =
      of_region s i (forked p s i region team f) (of_law s i (event.Fork region team) (item.Fork f))
      (λ k t r. MayFork s i region team) rule
      (λ k t r is found may law n u e. each_member P (member_task p region k t r f) 0 team s.tasks (λ m v h. all (record { 0 = m }) v h)
      (λ j m at. let zero_more : 0 + j ≡ j = omega arith in subst
      (λ h. P m.0 (member_task p region k t r f h m.1)) (sym zero_more)
      (law.members region team f k t r is found may
      (made_same s.regions region.0 (new_region k t r team f)) refl refl j m at)) n.0 u e)
  task_effect s i (event.Fork region team) y rule all = tt
  task_effect s i (event.ImplicitBegin task) y rule all =
      λ law. each_changed s task (λ t. record t { progress = Begun }) all
      (λ t e h. let same : rule.member ≡ t = some_same rule.live e in law.begins task t
      (ap (λ (u : Task). u.progress) (sym same) ∙ rule.waiting)
      (ap (λ (u : Task). u.thread) (sym same) ∙ rule.mine) refl h)
  task_effect s i (event.State state wait) y rule all = λ law. all
  task_effect s i event.Enter y rule all =
      of_current s i (entered s) (of_law s i event.Enter y) (λ k t. ⊤) rule
      (λ k t is h law. each_changed s k (λ u. record u { enter = t.exit - 32 }) all (λ u e q. law.shows k u (t.exit - 32) q))
  task_effect s i event.Leave y rule all =
      of_current s i (left s) (of_law s i event.Leave y) (λ k t. ⊤) rule
      (λ k t is h law. each_changed s k (λ u. record u { enter = 0 }) all (λ u e q. law.shows k u 0 q))
  task_effect s i event.Arrive y rule all =
      of_current_region s i (λ k t. arrived s t) (of_law s i event.Arrive y) _ rule
      (λ k t r is found h law. all)
  task_effect s i event.Release y rule all =
      of_current_region s i (λ k t. released s t) (of_law s i event.Release y) _ rule
      (λ k t r is found h law. all)
  task_effect s i (event.ImplicitEnd task) y rule all =
      of_current_region s i (task_ended s i) (of_law s i (event.ImplicitEnd task) y) _ rule
      (λ k t r is found h law. each_changed s k (λ u. record u { progress = Finished }) all (λ u e q. law.finishes k u (the_current s i k t u is e) refl q))
  task_effect s i (event.Join region) y rule all =
      of_region s i (joined s i) (of_law s i (event.Join region) y) (λ k t r. MayJoin region t r) rule
      (λ k t r is found h law. each_freeing (Some (freeable.Joined t.region 0)) (on_task s k (λ u. record u { progress = Finished }))
      (each_changed s k (λ u. record u { progress = Finished }) all (λ u e q. law.finishes k u (the_current s i k t u is e) refl q))
      r.encountering
      (λ n u from q. law.frees n u _ (inl (k, t, is, refl, inr (r, found, h.implicit, h.first, from), inl (ap (λ (n : Rid). event.Join n) h.mine, refl))) q))
  task_effect s i (event.FreeTask task) (item.Frees (freeable.Finished n)) rule all =
      of_current s i (freed s task (above s task)) (of_law s i (event.FreeTask task) (item.Frees (freeable.Finished n)))
      _ rule
      (λ k t is h. each_freed s i (freeable.Finished n) task (above s task) k t is (_, refl) all)
  task_effect s i (event.FreeTask task) (item.Frees (freeable.Joined n number)) rule all =
      of_current s i (freed s task (Some (freeable.Joined n (number + 1))))
      (of_law s i (event.FreeTask task) (item.Frees (freeable.Joined n number))) _ rule
      (λ k t is h. each_freed s i (freeable.Joined n number) task _ k t is refl all)
  task_effect s i (event.FreeTask task) y rule all = tt
  task_effect s i (event.FreeRegion region) (item.Frees (freeable.Joined n number)) rule all = λ law. all
  task_effect s i (event.FreeRegion region) y rule all = tt
  task_effect s i (event.Defer task) (item.Defer seen f final) rule all =
      of_current s i (deferred p s task f final seen)
      (of_law s i (event.Defer task) (item.Defer seen f final)) (λ k t. IsFresh s.tasks i task.0) rule
      (λ k t is fresh law. each_new s task (deferred_task p k t f final seen) all (law.deferred task f final seen k t is refl fresh))
  task_effect s i (event.Defer task) y rule all = tt
  task_effect s i (event.StartNow task) (item.Defer seen f final) rule all =
      of_current s i (started_now p s i task f final)
      (of_law s i (event.StartNow task) (item.Defer seen f final)) (λ k t. IsFresh s.tasks i task.0) rule
      (λ k t is fresh law. each_new s task (scheduled i k t (deferred_task p k t f final 0)) all (law.made task f final k t is (inr (seen, refl)) fresh refl))
  task_effect s i (event.StartNow task) (item.StartNow f final) rule all =
      of_current s i (started_now p s i task f final)
      (of_law s i (event.StartNow task) (item.StartNow f final)) (λ k t. IsFresh s.tasks i task.0) rule
      (λ k t is fresh law. each_new s task (scheduled i k t (deferred_task p k t f final 0)) all (law.made task f final k t is (inl refl) fresh refl))
  task_effect s i (event.StartNow task) y rule all = tt
  task_effect s i (event.Start task) (item.Tasks state) rule all =
      of_current s i (started s i task) (of_law s i (event.Start task) (item.Tasks state))
      (MayStart s task (item.Tasks state)) rule
      (λ k t is may law. each_changed s task (λ u. record (scheduled i k t u) { list = working (encounter s i) u.list }) all
      (λ u e q. let same : may.new ≡ u = some_same may.live e in
      law.starts task u k t (item.Tasks state) is e (ap (λ (x : Task). x.implicit) (sym same) ∙ may.explicit)
      (ap (λ (x : Task). x.progress) (sym same) ∙ may.deferred)
      (subst (MayStartAt (item.Tasks state) k t) same may.allowed) refl refl q))
  task_effect s i (event.Start task) item.OneTask rule all =
      of_current s i (started_alone s i task) (of_law s i (event.Start task) item.OneTask)
      (MayStart s task item.OneTask) rule
      (λ k t is may law. each_changed s task (scheduled i k t) all
      (λ u e q. let same : may.new ≡ u = some_same may.live e in
      law.starts task u k t item.OneTask is e (ap (λ (x : Task). x.implicit) (sym same) ∙ may.explicit)
      (ap (λ (x : Task). x.progress) (sym same) ∙ may.deferred)
      (subst (MayStartAt item.OneTask k t) same may.allowed) refl refl q))
  task_effect s i (event.Start task) y rule all = tt
  task_effect s i (event.Finish task) y rule all =
      of_current s i (finished s i) (of_law s i (event.Finish task) y) _ rule
      (λ k t is h law. each_freeing (Some (freeable.Finished k)) (on_task s k (λ u. record u { progress = Finished }))
      (each_changed s k (λ u. record u { progress = Finished }) all (λ u e q. law.finishes k u (the_current s i k t u is e) refl q)) t.scheduling
      (λ n u from q. law.frees n u _ (inl (k, t, is, refl, inl from, inr refl)) q))
  task_effect s i event.GroupBegin y rule all =
      of_current s i (group_begun s) (of_law s i event.GroupBegin y) (λ k t. MayBeginGroup t) rule
      (λ k t is may law. each_changed s k (λ u. record u { open_groups = suc t.open_groups }) all
      (λ u e q. let same : t ≡ u = some_same is.live e in
      law.groups k u (suc t.open_groups) (the_current s i k t u is e)
      (inl (refl, subst MayBeginGroup same may, ap (λ (x : Task). suc x.open_groups) same)) q))
  task_effect s i event.GroupEnd y rule all =
      of_current s i (group_ended s) (of_law s i event.GroupEnd y) (MayEndGroup s) rule
      (λ k t is may law. each_changed s k (λ u. record u { open_groups = t.open_groups - 1 }) all
      (λ u e q. let same : t ≡ u = some_same is.live e in
      law.groups k u (t.open_groups - 1) (the_current s i k t u is e)
      (inr (refl, subst (MayEndGroup s k) same may, ap (λ (x : Task). x.open_groups - 1) same)) q))
  task_effect s i (event.Set icv value) y rule all =
      of_set s i icv value (of_law s i (event.Set icv value) y) rule (λ law. all)
      (λ k t v is e law. each_changed s k (λ u. record u { variables = v }) all
      (λ u e' q. let same : t ≡ u = some_same is.live e' in law.sets k u icv value v (subst (λ (x : Task). with_variable icv value x.variables ≡ Some v) same e) refl q))
  task_effect s i (event.SetTool x) y rule all =
      of_current s i (λ k t. with_tool s x k) (of_law s i (event.SetTool x) y) (λ k t. ⊤) rule
      (λ k t is h law. each_changed s k (λ u. record u { tool = x }) all (λ u e q. law.tools k u x q))
  task_effect s i (event.Lock k) y rule all = λ law. all
  task_effect s i (event.Unlock k) y rule all = λ law. all
  task_effect s i e y rule all = λ law. all

  -- the move of the current task's list
  abbrev pub Moves : State → ℕ → Event → Type 0
  Moves s i e =
      (k : Tid) (t : Task) (y : Item) (ys : List Item) → IsCurrent s i k t
      → take_item p (encounter s i) e (in_front t.frees t.list) ≡ Some (y, ys) → P k t
      → P k (relisted (stays (encounter s i) e y ys) t)

pub ahead_of_current : (s : State) (i : ℕ) (k : Tid) (t : Task) → IsCurrent s i k t
    → ahead_of s i ≡ in_front t.frees t.list
ahead_of_current s i k t is =
    ap
    (λ (o : Option Tid). option_map_or (λ u. in_front u.frees u.list) (option_and_then (task_of s) o) (s.threads i).list) is.name
    ∙ ap (λ (o : Option Task). option_map_or (λ u. in_front u.frees u.list) o (s.threads i).list) is.live

pub list_of_current : (s : State) (i : ℕ) (k : Tid) (t : Task) → IsCurrent s i k t → list_of s i ≡ t.list
list_of_current s i k t is =
    ap
    (λ (o : Option Tid). option_map_or (λ u. u.list) (option_and_then (task_of s) o) (s.threads i).list) is.name
    ∙ ap (λ (o : Option Task). option_map_or (λ u. u.list) o (s.threads i).list) is.live

-- the law of each task over a step, from a fact of each task before it
pub task_step_from : (p : Program) (P Q : Tid → Task → Type 0) (s : State) (i : ℕ) (e : Event) (next : State)
    → (m : IsMove p s i e next)
    →
    ((k : Tid) (t : Task) → IsCurrent s i k t → take_item p (encounter s i) e (in_front t.frees t.list) ≡ Some (m.item, m.behind) → P k t → Q k (relisted (stays (encounter s i) e m.item m.behind) t))
    → ((k : Tid) (t : Task) → ((s.threads i).current ≡ Some k → ⊥) → task_of s k ≡ Some t → P k t → Q k t)
    → (EachTask Q (moved_on s i e m.item m.behind) → IsTaskLaw p (moved_on s i e m.item m.behind) i e m.item next Q) → EachTask P s → EachTask Q next
task_step_from p P Q s i e after_step m moves others law all =
    let zs : List Item = stays (encounter s i) e m.item m.behind in
    let middle : EachTask Q (with_list s i zs) = list_moves s i zs (EachTask Q)
    (λ k is n t e'. each_on_to (λ h u. P (record { 0 = h }) u) (λ h u. Q (record { 0 = h }) u) s.tasks k.0 (relisted zs) (λ h u g. all (record { 0 = h }) u g)
    (λ u live h. let current : IsCurrent s i k u = record { name = is; live = live } in
    moves k u current (ap (take_item p (encounter s i) e) (sym (ahead_of_current s i k u current)) ∙ m.taken) h)
    (λ h u ne live q. others (record { 0 = h }) u (λ g. ne (ap (λ (a : Tid). a.0) (some_same g is))) live q) n.0 t e')
    (λ none k t live. others k t (λ g. none_some none g) live (all k t live)) in
    from_some (of_law p Q (with_list s i zs) i e m.item)
    (effect p (with_list s i zs) i e m.item) after_step m.effect_is
    (task_effect p Q (with_list s i zs) i e m.item m.rule_moved middle) (law middle)

-- the law of each task over a step
pub task_step : (p : Program) (P : Tid → Task → Type 0) (s : State) (i : ℕ) (e : Event) (next : State)
    → Step p s i e next → Moves p P s i e
    → ((middle : State) (y : Item) → IsRelisted s middle → Stays middle next → EachTask P middle → IsTaskLaw p middle i e y next P) → EachTask P s → EachTask P next
task_step p P s i e after_step step moves law all =
    let m = move_of p s i e after_step step in
    let zs : List Item = stays (encounter s i) e m.item m.behind in
    task_step_from p P P s i e after_step m (λ k t is taken h. moves k t m.item m.behind is taken h)
    (λ k t ne live h. h)
    (λ middle. law (with_list s i zs) m.item (is_relisted s i zs) (stays_after p s i e after_step m) middle) all

-- ---- regions

pub record IsRegionLaw (p : Program) (s : State) (i : ℕ) (next : State) (Q : Rid → Region → Type 0) : Type 0 where
  pub arrives : (k : Tid) (t : Task) (r : Region) → IsCurrent s i k t → region_of s t.region ≡ Some r
      → Q t.region r
      → Q t.region (record r { arrivals = slice_set r.arrivals t.number (slice_index r.arrivals t.number + 1) })
  pub releases : (k : Tid) (t : Task) (r : Region) → IsCurrent s i k t → region_of s t.region ≡ Some r
      → MayRelease s t r → Q t.region r → Q t.region (record r { released = r.released + 1 })
  pub ends : (k : Tid) (t : Task) (r : Region) → IsCurrent s i k t → region_of s t.region ≡ Some r
      → t.implicit ≡ true → t.number ≢ 0 → Q t.region r
      → Q t.region (record r { ended = slice_set r.ended t.number true })
  pub joins : (k : Tid) (t : Task) (r : Region) → IsCurrent s i k t → region_of s t.region ≡ Some r
      → MayJoin t.region t r → Q t.region r → Q t.region (record r { joined = true })
  pub forks : (region : Rid) (team : List (Tid × ℕ)) (f : ℕ) (k : Tid) (t : Task) (r : Region)
      → IsCurrent s i k t → region_of s t.region ≡ Some r → MayFork s i region team
      → ((j : ℕ) (m : Tid × ℕ) → slice_get team j ≡ Some m → task_of next m.0 ≡ Some (member_task p region k t r f j m.1)) → Q region (new_region k t r team f)

module _ (p : Program) (Q : Rid → Region → Type 0) where
  abbrev of_region_law : State → ℕ → State → Type 0
  of_region_law s i u = IsRegionLaw p s i u Q → EachRegion Q u

  each_region_changed : (s : State) (n : Rid) (f : Region → Region) → EachRegion Q s
      → ((r : Region) → region_of s n ≡ Some r → Q n r → Q n (f r)) → EachRegion Q (on_region s n f)
  each_region_changed s n f all keeps m r e =
      each_on (λ h q. Q (record { 0 = h }) q) s.regions n.0 f
      (λ h q g. all (record { 0 = h }) q g) keeps m.0 r e

  region_effect : (s : State) (i : ℕ) (e : Event) (y : Item) → Rule s i e y → EachRegion Q s
      → IfSome (effect p s i e y) (of_region_law s i)
  region_effect s i event.Begin y rule all = λ law. all
  region_effect s i event.Offer y rule all = λ law. all
  region_effect s i (event.Want n) y rule all = λ law. all
  region_effect s i (event.Ask w true) y rule all = λ law. all
  region_effect s i (event.Ask w false) y rule all = λ law. all
  region_effect s i (event.Fork region team) (item.Fork f) rule all =
      of_region s i (forked p s i region team f) (of_region_law s i) (λ k t r. MayFork s i region team) rule
      (λ k t r is found may law n q e. each_made (λ h x. Q (record { 0 = h }) x) s.regions region.0
      (new_region k t r team f) (λ h x g. all (record { 0 = h }) x g)
      (law.forks region team f k t r is found may
      (members_found (member_task p region k t r f) team s.tasks i
      (new_team s.tasks i team may.tasks_new may.distinct))) n.0 q e)
  region_effect s i (event.Fork region team) y rule all = tt
  region_effect s i (event.ImplicitBegin task) y rule all = λ law. all
  region_effect s i (event.State state wait) y rule all = λ law. all
  region_effect s i event.Enter y rule all =
      of_current s i (entered s) (of_region_law s i) (λ k t. ⊤) rule (λ k t is h law. all)
  region_effect s i event.Leave y rule all =
      of_current s i (left s) (of_region_law s i) (λ k t. ⊤) rule (λ k t is h law. all)
  region_effect s i event.Arrive y rule all =
      of_current_region s i (λ k t. arrived s t) (of_region_law s i) _ rule
      (λ k t r is found h law. each_region_changed s t.region
      (λ q. record q { arrivals = slice_set q.arrivals t.number (slice_index q.arrivals t.number + 1) })
      all (λ q e g. law.arrives k t q is e g))
  region_effect s i event.Release y rule all =
      of_current_region s i (λ k t. released s t) (of_region_law s i) (λ k t r. MayRelease s t r) rule
      (λ k t r is found h law. each_region_changed s t.region (λ q. record q { released = q.released + 1 }) all
      (λ q e g. let same : r ≡ q = some_same found e in law.releases k t q is e (subst (MayRelease s t) same h) g))
  region_effect s i (event.ImplicitEnd task) y rule all =
      of_current_region s i (task_ended s i) (of_region_law s i) (λ k t r. MayEnd task k t) rule
      (λ k t r is found h law. each_region_changed (on_task s k (λ u. record u { progress = Finished }))
      t.region (λ q. record q { ended = slice_set q.ended t.number true }) all
      (λ q e g. law.ends k t q is e h.implicit h.other g))
  region_effect s i (event.Join region) y rule all =
      of_region s i (joined s i) (of_region_law s i) (λ k t r. MayJoin region t r) rule
      (λ k t r is found h law. each_region_changed s t.region (λ q. record q { joined = true }) all
      (λ q e g. let same : r ≡ q = some_same found e in law.joins k t q is e
      (record {
        mine = refl;
        implicit = h.implicit;
        first = h.first;
        ended = subst (λ (x : Region). All (λ b. b ≡ true) (drop 1 x.ended)) same h.ended;
      }) g))
  region_effect s i (event.FreeTask task) (item.Frees (freeable.Finished n)) rule all =
      of_current s i (freed s task _) (of_region_law s i) _ rule (λ k t is h law. all)
  region_effect s i (event.FreeTask task) (item.Frees (freeable.Joined n number)) rule all =
      of_current s i (freed s task _) (of_region_law s i) _ rule (λ k t is h law. all)
  region_effect s i (event.FreeTask task) y rule all = tt
  region_effect s i (event.FreeRegion region) (item.Frees (freeable.Joined n number)) rule all =
      λ law m q e. each_gone (λ h x. Q (record { 0 = h }) x) s.regions region.0 (λ h x g. all (record { 0 = h }) x g) m.0 q e
  region_effect s i (event.FreeRegion region) y rule all = tt
  region_effect s i (event.Defer task) (item.Defer seen f final) rule all =
      of_current s i (deferred p s task f final seen) (of_region_law s i) _ rule (λ k t is fresh law. all)
  region_effect s i (event.Defer task) y rule all = tt
  region_effect s i (event.StartNow task) (item.Defer seen f final) rule all =
      of_current s i (started_now p s i task f final) (of_region_law s i) _ rule (λ k t is fresh law. all)
  region_effect s i (event.StartNow task) (item.StartNow f final) rule all =
      of_current s i (started_now p s i task f final) (of_region_law s i) _ rule (λ k t is fresh law. all)
  region_effect s i (event.StartNow task) y rule all = tt
  region_effect s i (event.Start task) (item.Tasks state) rule all =
      of_current s i (started s i task) (of_region_law s i) _ rule (λ k t is may law. all)
  region_effect s i (event.Start task) item.OneTask rule all =
      of_current s i (started_alone s i task) (of_region_law s i) _ rule (λ k t is may law. all)
  region_effect s i (event.Start task) y rule all = tt
  region_effect s i (event.Finish task) y rule all =
      of_current s i (finished s i) (of_region_law s i) _ rule
      (λ k t is h law. all)
  region_effect s i event.GroupBegin y rule all =
      of_current s i (group_begun s) (of_region_law s i) _ rule (λ k t is h law. all)
  region_effect s i event.GroupEnd y rule all =
      of_current s i (group_ended s) (of_region_law s i) _ rule (λ k t is h law. all)
  region_effect s i (event.Set icv value) y rule all =
      of_set s i icv value (of_region_law s i) rule (λ law. all) (λ k t v is e law. all)
  region_effect s i (event.SetTool x) y rule all =
      of_current s i (λ k t. with_tool s x k) (of_region_law s i) _ rule (λ k t is h law. all)
  region_effect s i (event.Lock k) y rule all = λ law. all
  region_effect s i (event.Unlock k) y rule all = λ law. all
  region_effect s i e y rule all = λ law. all

  -- the law of each region over a step
  pub region_step : (s : State) (i : ℕ) (e : Event) (next : State) → Step p s i e next
      → ((middle : State) → IsRelisted s middle → Stays middle next → IsRegionLaw p middle i next Q)
      → EachRegion Q s → EachRegion Q next
  region_step s i e after_step step law all =
      let m = move_of p s i e after_step step in
      let zs : List Item = stays (encounter s i) e m.item m.behind in
      let middle : EachRegion Q (with_list s i zs) =
      list_moves s i zs (EachRegion Q) (λ k is. all) (λ none. all) in
      from_some (of_region_law (with_list s i zs) i)
      (effect p (with_list s i zs) i e m.item) after_step m.effect_is
      (region_effect (with_list s i zs) i e m.item m.rule_moved middle)
      (law (with_list s i zs) (is_relisted s i zs) (stays_after p s i e after_step m))

-- ---- over all events

-- what holds in the opening state and is kept by each step holds of every reached state
pub over_events : (p : Program) (L : State → Type 0)
    → ((s : State) (i : ℕ) (e : Event) (next : State) → Step p s i e next → L s → L next)
    → (s : State) (events : List (ℕ × Event)) (u : State) → Leads p s events u → L s → L u
over_events p L keeps s [] u same h = subst L (sym same) h
over_events p L keeps s (x ∷ xs) u (after_step, step, leads) h =
    over_events p L keeps after_step xs u leads (keeps s x.0 x.1 after_step step h)
