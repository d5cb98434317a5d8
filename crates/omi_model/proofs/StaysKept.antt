-- What stays over every event.
use Rattle.std.proofs.Common.{◌≡◌, ◌<◌, ◌≤◌, ◌+◌, ◌-◌, ◌⊎◌, inl, inr, ℕ, zero, suc, Bool, true, false, List, [], ◌∷◌, ◌++◌, length, map, get_or, slice_get, slice_index, slice_set, Option, Some, None, refl, sym, ap, ◌∙◌, subst, arith}
use Rattle.std.specs.Prelude.{IfSome}
use Rattle.std.specs.List.{All}
use Rattle.std.proofs.lemmas.List.{get_or-map, length-map, length-set}
use Rattle.omi_script.specs.declared.program.Program.{Program}
use Rattle.omi_model.specs.declared.claim.Claim.TheVariants as claim
use Rattle.omi_model.specs.declared.event.Event.{Event}
use Rattle.omi_model.specs.declared.event.Event.TheVariants as event
use Rattle.omi_model.specs.declared.freeable.Freeable.{Freeable}
use Rattle.omi_model.specs.declared.freeable.Freeable.TheVariants as freeable
use Rattle.omi_model.specs.declared.id.Id.{Id}
use Rattle.omi_model.specs.declared.id.Rid.{Rid}
use Rattle.omi_model.specs.declared.id.Tid.{Tid}
use Rattle.omi_model.specs.declared.item.Item.{Item}
use Rattle.omi_model.specs.declared.item.Item.TheVariants as item
use Rattle.omi_model.specs.declared.progress.Progress.{Progress}
use Rattle.omi_model.specs.declared.progress.Progress.TheVariants.{Deferred, NotBegun, Begun, Finished}
use Rattle.omi_model.specs.declared.region.Region.{Region}
use Rattle.omi_model.specs.declared.task.Task.{Task}
use Rattle.omi_model.specs.declared.task.Variables.{Variables}
use Rattle.omi_model.specs.declared.thread.Thread.{Thread}
use Rattle.omi_model.specs.Changes.{on_region, on_task, on_thread, with_list, encounter}
use Rattle.omi_model.specs.Freeing.{IsOver, IsSpent, MayFree, MayFreeMember, MayFreeRegion, freed, freeing, region_freed}
use Rattle.omi_model.specs.Fresh.{AreDistinct, IsFresh}
use Rattle.omi_model.specs.LawStays.{IsTeamNeeded, IsNeeded, IsNeededRegion, IsSameRegion, IsSameTask, Stays, StaysOver, stage_of, is_free}
use Rattle.omi_model.specs.Groups.{group_begun, group_ended}
use Rattle.omi_model.specs.Lists.{stays}
use Rattle.omi_model.specs.Put.{Slots, gone, made, named, put}
use Rattle.omi_model.specs.Reached.{Step}
use Rattle.omi_model.specs.Rows.{working}
use Rattle.omi_model.specs.Rules.{Rule, effect}
use Rattle.omi_model.specs.Barriers.{arrived, released}
use Rattle.omi_model.specs.Settings.{entered, left, with_tool}
use Rattle.omi_model.specs.State.{State, region_of, task_of}
use Rattle.omi_model.specs.Tasking.{deferred, finished, scheduled, started, started_alone, started_now}
use Rattle.omi_model.specs.Teams.{forked, joined, master_of, member_task, task_ended, with_members}
use Rattle.omi_model.proofs.Slots.{Later, each_on, each_put, false_true, found_live, gone_other, gone_was, id_same, later_made, later_on, made_beside, made_stays, none_some, some_same}
use Rattle.omi_model.proofs.Steps.{from_some, is_relisted, list_moves, move_of, moved_on, of_current, of_current_region, of_region, of_set, relisted, relisted_to}

-- ---- one object

pub same_task : (t : Task) → IsSameTask t t
same_task t = record {
  implicit = refl;
  region = refl;
  generating = refl;
  function = refl;
  is_final = refl;
  group = refl;
  stage = omega arith;
  started = λ h. h;
  thread = λ h. refl;
  number = λ h. refl;
  scheduling = λ h. refl;
}

pub same_task_trans : (t u v : Task) → IsSameTask t u → IsSameTask u v → IsSameTask t v
same_task_trans t u v a b = record {
  implicit = b.implicit ∙ a.implicit;
  region = b.region ∙ a.region;
  generating = b.generating ∙ a.generating;
  function = b.function ∙ a.function;
  is_final = b.is_final ∙ a.is_final;
  group = b.group ∙ a.group;
  stage = omega (arith, a.stage, b.stage);
  started = λ h. b.started (a.started h);
  thread = λ h. b.thread (a.started h) ∙ a.thread h;
  number = λ h. b.number (a.started h) ∙ a.number h;
  scheduling = λ h. b.scheduling (a.started h) ∙ a.scheduling h;
}

pub same_region : (r : Region) → IsSameRegion r r
same_region r = record {
  enclosing = refl;
  encountering = refl;
  team = refl;
  function = refl;
  levels = refl;
  active = refl;
  members = refl;
  arrivals = λ j. omega arith;
  released = omega arith;
  ended = λ j h. h;
  joined = λ h. h;
}

pub same_region_trans : (r q w : Region) → IsSameRegion r q → IsSameRegion q w → IsSameRegion r w
same_region_trans r q w a b = record {
  enclosing = b.enclosing ∙ a.enclosing;
  encountering = b.encountering ∙ a.encountering;
  team = b.team ∙ a.team;
  function = b.function ∙ a.function;
  levels = b.levels ∙ a.levels;
  active = b.active ∙ a.active;
  members = b.members ∙ a.members;
  arrivals = λ j. omega (arith, a.arrivals j, b.arrivals j);
  released = omega (arith, a.released, b.released);
  ended = λ j h. b.ended j (a.ended j h);
  joined = λ h. b.joined (a.joined h);
}

-- ---- states

-- Each live task of a state lives in the next one, as over every event but those that give a record back.
record KeepsAll (s u : State) : Type 0 where
  tasks : (k : Tid) (t : Task) → task_of s k ≡ Some t
      → (v : Task) × (task_of u k ≡ Some v) × IsSameTask t v
  regions : (n : Rid) (r : Region) → region_of s n ≡ Some r
      → (q : Region) × (region_of u n ≡ Some q) × IsSameRegion r q
  begun : (i : ℕ) → (s.threads i).begun ≡ true → (u.threads i).begun ≡ true
  count : u.count ≡ s.count

alike_of : (s u : State) → KeepsAll s u → (k : Tid) (t v : Task) → task_of s k ≡ Some t → task_of u k ≡ Some v
    → IsSameTask t v
alike_of s u h k t v live found =
    let (w, found_w, same) = h.tasks k t live in
    subst (IsSameTask t) (some_same found_w found) same

alike_regions_of : (s u : State) → KeepsAll s u → (n : Rid) (r q : Region) → region_of s n ≡ Some r
    → region_of u n ≡ Some q → IsSameRegion r q
alike_regions_of s u h n r q live found =
    let (w, found_w, same) = h.regions n r live in
    subst (IsSameRegion r) (some_same found_w found) same

stays_of : (s u : State) → KeepsAll s u → Stays s u
stays_of s u h = record {
  tasks = λ k t live need. h.tasks k t live;
  alike = alike_of s u h;
  regions = λ n r live need. h.regions n r live;
  alike_regions = alike_regions_of s u h;
  begun = h.begun;
  count = h.count;
}

over_of : (s u : State) → KeepsAll s u → StaysOver s u
over_of s u h = record { alike = alike_of s u h; alike_regions = alike_regions_of s u h; begun = h.begun; count = h.count }

keeps_same : (s : State) → KeepsAll s s
keeps_same s = record { tasks = λ k t e. (t, e, same_task t); regions = λ n r e. (r, e, same_region r); begun = λ i h. h; count = refl }

keeps_trans : (s t u : State) → KeepsAll s t → KeepsAll t u → KeepsAll s u
keeps_trans s t u a b = record {
  tasks = λ k v e. let (v', e', h') = a.tasks k v e in let (v'', e'', h'') = b.tasks k v' e' in (v'', e'', same_task_trans v v' v'' h' h'');
  regions = λ n r e. let (r', e', h') = a.regions n r e in let (r'', e'', h'') = b.regions n r' e' in (r'', e'', same_region_trans r r' r'' h' h'');
  begun = λ i h. b.begun i (a.begun i h);
  count = b.count ∙ a.count;
}

keeps_thread : (s : State) (i : ℕ) (f : Thread → Thread)
    → ((s.threads i).begun ≡ true → (f (s.threads i)).begun ≡ true) → KeepsAll s (on_thread s i f)
keeps_thread s i f keeps = record {
  tasks = λ k t e. (t, e, same_task t);
  regions = λ n r e. (r, e, same_region r);
  begun = λ j. each_put (λ m (h : Thread). (s.threads m).begun ≡ true → h.begun ≡ true) s.threads i (f (s.threads i)) keeps j (λ ne h. h);
  count = refl;
}

keeps_task : (s : State) (k : Tid) (f : Task → Task)
    → ((t : Task) → task_of s k ≡ Some t → IsSameTask t (f t)) → KeepsAll s (on_task s k f)
keeps_task s k f keeps = record {
  tasks = λ n t e. later_on IsSameTask same_task s.tasks k.0 f keeps n.0 t e;
  regions = λ n r e. (r, e, same_region r);
  begun = λ i h. h;
  count = refl;
}

keeps_region : (s : State) (n : Rid) (f : Region → Region)
    → ((r : Region) → region_of s n ≡ Some r → IsSameRegion r (f r)) → KeepsAll s (on_region s n f)
keeps_region s n f keeps = record {
  tasks = λ k t e. (t, e, same_task t);
  regions = λ m r e. later_on IsSameRegion same_region s.regions n.0 f keeps m.0 r e;
  begun = λ i h. h;
  count = refl;
}

-- ---- new tasks

pub fresh_empty : {A : Type 0} (slots : Slots A) (i : ℕ) (n : Id) → IsFresh slots i n
    → (slots n.creator n.slot).live ≡ None
fresh_empty slots i n is = ap (λ c. (slots c n.slot).live) is.creator ∙ is.empty

pub fresh_made : {A : Type 0} (slots : Slots A) (i : ℕ) (n k : Id) (x : A) → IsFresh slots i n
    → IsFresh slots i k → (n ≡ k → ⊥) → IsFresh (made slots k x) i n
fresh_made slots i n k x is of ne =
    let same =
    made_beside slots k x i n.slot
    (λ c j. ne (id_same n k (is.creator ∙ sym of.creator) j (is.next ∙ (ap (λ h. (slots i h).generations) j ∙ sym of.next)))) in
    record { creator = is.creator; empty = ap (λ slot. slot.live) same ∙ is.empty; next = is.next ∙ sym (ap (λ slot. slot.generations) same); below = is.below }

-- each member of a team is new where those before it have been made
abbrev pub AreNew : Slots Task → ℕ → List (Tid × ℕ) → Type 0
AreNew slots i [] = Unit {0}
AreNew slots i (m ∷ ms) = IsFresh slots i m.0.0 × ((x : Task) → AreNew (made slots m.0.0 x) i ms)

pub new_team : (slots : Slots Task) (i : ℕ) (team : List (Tid × ℕ)) → All (λ m. IsFresh slots i m.0.0) team
    → AreDistinct (map (λ m. m.0) team) → AreNew slots i team
new_team slots i [] all distinct = tt
new_team slots i (m ∷ ms) all distinct =
    let first : IsFresh slots i m.0.0 = all 0 m (omega arith) in
    (first, λ x. new_team (made slots m.0.0 x) i ms (λ j d h. fresh_made slots i (get_or ms j d).0.0 m.0.0 x (all (suc j) d (omega arith)) first (apart j d h)) distinct.1)
  where
    names : List Tid
    names = map (λ m. m.0) ms

    as_long : length names ≡ length ms
    as_long = length-map ms (λ (a : Tid × ℕ). a.0)

    apart : (j : ℕ) (d : Tid × ℕ) → j < length ms → (get_or ms j d).0.0 ≡ m.0.0 → ⊥
    apart j d h same =
        let within : j < length names = omega (arith, as_long) in
        distinct.0
        (j, within, get_or-map (λ (a : Tid × ℕ). a.0) ms j d m.0 h ∙ ap (λ (a : Id). record { 0 = a }) same)

pub later_members : (R : Task → Task → Type 0) → ((x : Task) → R x x)
    → (task : ℕ → ℕ → Task) (number : ℕ) (team : List (Tid × ℕ)) (slots : Slots Task) (i : ℕ)
    → AreNew slots i team → Later R slots (with_members task number team slots)
later_members R same task number [] slots i new n x e = (x, e, same x)
later_members R same task number (m ∷ ms) slots i new n x e =
    let made_here = made slots m.0.0 (task number m.1) in
    later_members R same task (number + 1) ms made_here i (new.1 (task number m.1)) n x
    (made_stays slots m.0.0 (task number m.1) n x (fresh_empty slots i m.0.0 new.0) e)

-- ---- changes of one object

set_more : (xs : List ℕ) (n j : ℕ) → get_or xs j 0 ≤ get_or (slice_set xs n (get_or xs n 0 + 1)) j 0
set_more [] n j = omega arith
set_more (x ∷ xs) zero zero = omega arith
set_more (x ∷ xs) zero (suc j) = omega arith
set_more (x ∷ xs) (suc n) zero = omega arith
set_more (x ∷ xs) (suc n) (suc j) = set_more xs n j

set_true : (xs : List Bool) (n j : ℕ) → slice_get xs j ≡ Some true
    → slice_get (slice_set xs n true) j ≡ Some true
set_true [] n j e = absurd (none_some refl e)
set_true (x ∷ xs) zero zero e = refl
set_true (x ∷ xs) zero (suc j) e = e
set_true (x ∷ xs) (suc n) zero e = e
set_true (x ∷ xs) (suc n) (suc j) e = set_true xs n j e

stage_most : (q : Progress) → stage_of q ≤ 2
stage_most Deferred = omega arith
stage_most NotBegun = omega arith
stage_most Begun = omega arith
stage_most Finished = omega arith

other_task : (t : Task) (enter tool : ℕ) (v : Variables) (zs : List Item) (next : Option Freeable)
    → IsSameTask t (record t { enter = enter; tool = tool; variables = v; list = zs; frees = next })
other_task t enter tool v zs next = record {
  implicit = refl;
  region = refl;
  generating = refl;
  function = refl;
  is_final = refl;
  group = refl;
  stage = omega arith;
  started = λ h. h;
  thread = λ h. refl;
  number = λ h. refl;
  scheduling = λ h. refl;
}

grouped_task : (t : Task) (n : ℕ) → IsSameTask t (record t { open_groups = n })
grouped_task t n = record {
  implicit = refl;
  region = refl;
  generating = refl;
  function = refl;
  is_final = refl;
  group = refl;
  stage = omega arith;
  started = λ h. h;
  thread = λ h. refl;
  number = λ h. refl;
  scheduling = λ h. refl;
}

begun_task : (t : Task) → t.progress ≡ NotBegun → IsSameTask t (record t { progress = Begun })
begun_task t is = record {
  implicit = refl;
  region = refl;
  generating = refl;
  function = refl;
  is_final = refl;
  group = refl;
  stage = subst (λ q. stage_of q ≤ 1) (sym is) (omega arith);
  started = λ h e. cc;
  thread = λ h. refl;
  number = λ h. refl;
  scheduling = λ h. refl;
}

finished_task : (t : Task) → IsSameTask t (record t { progress = Finished })
finished_task t = record {
  implicit = refl;
  region = refl;
  generating = refl;
  function = refl;
  is_final = refl;
  group = refl;
  stage = stage_most t.progress;
  started = λ h e. cc;
  thread = λ h. refl;
  number = λ h. refl;
  scheduling = λ h. refl;
}

started_task : (i : ℕ) (k : Tid) (t u : Task) (zs : List Item) → u.progress ≡ Deferred
    → IsSameTask u (record (scheduled i k t u) { list = zs })
started_task i k t u zs is = record {
  implicit = refl;
  region = refl;
  generating = refl;
  function = refl;
  is_final = refl;
  group = refl;
  stage = subst (λ q. stage_of q ≤ 1) (sym is) (omega arith);
  started = λ h e. cc;
  thread = λ h. absurd (h is);
  number = λ h. absurd (h is);
  scheduling = λ h. absurd (h is);
}

arrived_region : (r : Region) (n : ℕ)
    → IsSameRegion r (record r { arrivals = slice_set r.arrivals n (slice_index r.arrivals n + 1) })
arrived_region r n = record {
  enclosing = refl;
  encountering = refl;
  team = refl;
  function = refl;
  levels = refl;
  active = refl;
  members = length-set r.arrivals n (slice_index r.arrivals n + 1);
  arrivals = set_more r.arrivals n;
  released = omega arith;
  ended = λ j h. h;
  joined = λ h. h;
}

released_region : (r : Region) → IsSameRegion r (record r { released = r.released + 1 })
released_region r = record {
  enclosing = refl;
  encountering = refl;
  team = refl;
  function = refl;
  levels = refl;
  active = refl;
  members = refl;
  arrivals = λ j. omega arith;
  released = omega arith;
  ended = λ j h. h;
  joined = λ h. h;
}

ended_region : (r : Region) (n : ℕ) → IsSameRegion r (record r { ended = slice_set r.ended n true })
ended_region r n = record {
  enclosing = refl;
  encountering = refl;
  team = refl;
  function = refl;
  levels = refl;
  active = refl;
  members = refl;
  arrivals = λ j. omega arith;
  released = omega arith;
  ended = set_true r.ended n;
  joined = λ h. h;
}

joined_region : (r : Region) → IsSameRegion r (record r { joined = true })
joined_region r = record {
  enclosing = refl;
  encountering = refl;
  team = refl;
  function = refl;
  levels = refl;
  active = refl;
  members = refl;
  arrivals = λ j. omega arith;
  released = omega arith;
  ended = λ j h. h;
  joined = λ h. refl;
}

-- ---- events

keeps_made : (s : State) (k : Tid) (x : Task) (i : ℕ) → IsFresh s.tasks i k.0
    → KeepsAll s (record s { tasks = made s.tasks k.0 x })
keeps_made s k x i fresh = record {
  tasks = λ n t e. later_made IsSameTask same_task s.tasks k.0 x (fresh_empty s.tasks i k.0 fresh) n.0 t e;
  regions = λ n r e. (r, e, same_region r);
  begun = λ j h. h;
  count = refl;
}

keeps_forked : (s : State) (i : ℕ) (region : Rid) (new : Region) (task : ℕ → ℕ → Task) (team : List (Tid × ℕ))
    → IsFresh s.regions i region.0 → AreNew s.tasks i team
    → KeepsAll s (record s { regions = made s.regions region.0 new; tasks = with_members task 0 team s.tasks })
keeps_forked s i region new task team fresh news = record {
  tasks = λ n t e. later_members IsSameTask same_task task 0 team s.tasks i news n.0 t e;
  regions = λ n r e. later_made IsSameRegion same_region s.regions region.0 new (fresh_empty s.regions i region.0 fresh) n.0 r e;
  begun = λ j h. h;
  count = refl;
}

keeps_global : (s : State) (locks : ℕ → Option ℕ) (n : ℕ)
    → KeepsAll s (record s { locks = locks; max_active = n })
keeps_global s locks n = record { tasks = λ k t e. (t, e, same_task t); regions = λ k r e. (r, e, same_region r); begun = λ i h. h; count = refl }

-- another current task
keeps_current : (s u : State) (i : ℕ) (k : Option Tid) → KeepsAll s u
    → KeepsAll s (on_thread u i (λ h. record h { current = k }))
keeps_current s u i k h =
    keeps_trans s u (on_thread u i (λ h. record h { current = k })) h
    (keeps_thread u i (λ h. record h { current = k }) (λ b. b))

keeps_setting : (s : State) (k : Tid) (f : Task → Task) → ((t : Task) → IsSameTask t (f t))
    → KeepsAll s (on_task s k f)
keeps_setting s k f keeps = keeps_task s k f (λ t e. keeps t)

-- another task may be given back next
keeps_freeing : (s : State) (next : Option Freeable) (k : Option Tid)
    → KeepsAll s (record s { tasks = freeing next k s.tasks })
keeps_freeing s next None = keeps_same s
keeps_freeing s next (Some k) =
    keeps_setting s k (λ u. record u { frees = next }) (λ u. other_task u u.enter u.tool u.variables u.list next)

keeps_effect : (p : Program) (s : State) (i : ℕ) (e : Event) (y : Item) → is_free e ≡ false → Rule s i e y
    → IfSome (effect p s i e y) (KeepsAll s)
keeps_effect p s i event.Begin y other rule = keeps_thread s i (λ h. record h { begun = true }) (λ h. refl)
keeps_effect p s i event.Offer y other rule = keeps_thread s i (λ h. record h { claim = claim.Free }) (λ h. h)
keeps_effect p s i (event.Want n) y other rule = keeps_thread s i (λ h. record h { wanted = n; asks = [] }) (λ h. h)
keeps_effect p s i (event.Ask w true) y other rule =
    let listed : State = on_thread s i (λ h. record h { asks = h.asks ++ (w, true) ∷ [] }) in
    keeps_trans s listed (on_thread listed w (λ h. record h { claim = claim.By i }))
    (keeps_thread s i (λ h. record h { asks = h.asks ++ (w, true) ∷ [] }) (λ h. h))
    (keeps_thread listed w (λ h. record h { claim = claim.By i }) (λ h. h))
keeps_effect p s i (event.Ask w false) y other rule =
    keeps_thread s i (λ h. record h { asks = h.asks ++ (w, false) ∷ [] }) (λ h. h)
keeps_effect p s i (event.Fork region team) (item.Fork f) other rule =
    of_region s i (forked p s i region team f) (KeepsAll s) _ rule
    (λ k t r is found may. keeps_current s _ i (master_of team) (keeps_forked s i region _ (member_task p region k t r f) team may.region_new (new_team s.tasks i team may.tasks_new may.distinct)))
keeps_effect p s i (event.Fork region team) y other rule = tt
keeps_effect p s i (event.ImplicitBegin task) y other rule =
    keeps_current s _ i (Some task)
    (keeps_task s task (λ t. record t { progress = Begun }) (λ t e. let same : rule.member ≡ t = some_same rule.live e in begun_task t (ap (λ (u : Task). u.progress) (sym same) ∙ rule.waiting)))
keeps_effect p s i (event.State state wait) y other rule =
    keeps_thread s i (λ h. record h { state = state; wait = wait }) (λ h. h)
keeps_effect p s i event.Enter y other rule =
    of_current s i (entered s) (KeepsAll s) _ rule
    (λ k t is h. keeps_setting s k (λ u. record u { enter = t.exit - 32 }) (λ u. other_task u _ u.tool u.variables u.list u.frees))
keeps_effect p s i event.Leave y other rule =
    of_current s i (left s) (KeepsAll s) _ rule
    (λ k t is h. keeps_setting s k (λ u. record u { enter = 0 }) (λ u. other_task u _ u.tool u.variables u.list u.frees))
keeps_effect p s i event.Arrive y other rule =
    of_current_region s i (λ k t. arrived s t) (KeepsAll s) _ rule
    (λ k t r is found h. keeps_region s t.region (λ q. record q { arrivals = slice_set q.arrivals t.number (slice_index q.arrivals t.number + 1) }) (λ q e. arrived_region q t.number))
keeps_effect p s i event.Release y other rule =
    of_current_region s i (λ k t. released s t) (KeepsAll s) _ rule
    (λ k t r is found h. keeps_region s t.region (λ q. record q { released = q.released + 1 }) (λ q e. released_region q))
keeps_effect p s i (event.ImplicitEnd task) y other rule =
    of_current_region s i (task_ended s i) (KeepsAll s) _ rule
    (λ k t r is found h. let first : State = on_task s k (λ u. record u { progress = Finished }) in
    keeps_current s _ i None (keeps_trans s first _
    (keeps_setting s k (λ u. record u { progress = Finished }) finished_task)
    (keeps_region first t.region (λ q. record q { ended = slice_set q.ended t.number true })
    (λ q e. ended_region q t.number))))
keeps_effect p s i (event.Join region) y other rule =
    of_region s i (joined s i) (KeepsAll s) _ rule
    (λ k t r is found h. let first : State = on_task s k (λ u. record u { progress = Finished }) in
    let free : Option Freeable = Some (freeable.Joined t.region 0) in
    let second : State = record first { tasks = freeing free r.encountering first.tasks } in
    keeps_current s (on_region second t.region (λ q. record q { joined = true })) i r.encountering
    (keeps_trans s first _ (keeps_setting s k (λ u. record u { progress = Finished }) finished_task)
    (keeps_trans first second _ (keeps_freeing first free r.encountering) (keeps_region second t.region (λ q. record q { joined = true }) (λ q e. joined_region q)))))
keeps_effect p s i (event.FreeTask task) y other rule = absurd (false_true (sym other))
keeps_effect p s i (event.FreeRegion region) y other rule = absurd (false_true (sym other))
keeps_effect p s i (event.Defer task) (item.Defer seen f final) other rule =
    of_current s i (deferred p s task f final seen) (KeepsAll s) _ rule
    (λ k t is fresh. keeps_made s task _ i fresh)
keeps_effect p s i (event.Defer task) y other rule = tt
keeps_effect p s i (event.StartNow task) (item.Defer seen f final) other rule =
    of_current s i (started_now p s i task f final) (KeepsAll s) _ rule
    (λ k t is fresh. keeps_current s _ i (Some task) (keeps_made s task _ i fresh))
keeps_effect p s i (event.StartNow task) (item.StartNow f final) other rule =
    of_current s i (started_now p s i task f final) (KeepsAll s) _ rule
    (λ k t is fresh. keeps_current s _ i (Some task) (keeps_made s task _ i fresh))
keeps_effect p s i (event.StartNow task) y other rule = tt
keeps_effect p s i (event.Start task) (item.Tasks state) other rule =
    of_current s i (started s i task) (KeepsAll s) _ rule
    (λ k t is may. keeps_current s _ i (Some task)
    (keeps_task s task (λ u. record (scheduled i k t u) { list = working (encounter s i) u.list })
    (λ u e. let same : may.new ≡ u = some_same may.live e in started_task i k t u
    (working (encounter s i) u.list) (ap (λ (x : Task). x.progress) (sym same) ∙ may.deferred))))
keeps_effect p s i (event.Start task) item.OneTask other rule =
    of_current s i (started_alone s i task) (KeepsAll s) _ rule
    (λ k t is may. keeps_current s _ i (Some task)
    (keeps_task s task (scheduled i k t)
    (λ u e. let same : may.new ≡ u = some_same may.live e in started_task i k t u u.list
    (ap (λ (x : Task). x.progress) (sym same) ∙ may.deferred))))
keeps_effect p s i (event.Start task) y other rule = tt
keeps_effect p s i (event.Finish task) y other rule =
    of_current s i (finished s i) (KeepsAll s) _ rule
    (λ k t is h. let first : State = on_task s k (λ u. record u { progress = Finished }) in
    keeps_current s _ i t.scheduling (keeps_trans s first _ (keeps_setting s k (λ u. record u { progress = Finished }) finished_task) (keeps_freeing first (Some (freeable.Finished k)) t.scheduling)))
keeps_effect p s i event.GroupBegin y other rule =
    of_current s i (group_begun s) (KeepsAll s) _ rule
    (λ k t is h. keeps_setting s k (λ u. record u { open_groups = suc t.open_groups }) (λ u. grouped_task u _))
keeps_effect p s i event.GroupEnd y other rule =
    of_current s i (group_ended s) (KeepsAll s) _ rule
    (λ k t is h. keeps_setting s k (λ u. record u { open_groups = t.open_groups - 1 }) (λ u. grouped_task u _))
keeps_effect p s i (event.Set icv value) y other rule =
    of_set s i icv value (KeepsAll s) rule (keeps_global s s.locks value)
    (λ k t v is e. keeps_setting s k (λ u. record u { variables = v }) (λ u. other_task u u.enter u.tool v u.list u.frees))
keeps_effect p s i (event.SetTool x) y other rule =
    of_current s i (λ k t. with_tool s x k) (KeepsAll s) _ rule
    (λ k t is h. keeps_setting s k (λ u. record u { tool = x }) (λ u. other_task u u.enter x u.variables u.list u.frees))
keeps_effect p s i (event.Lock k) y other rule = keeps_global s (put s.locks k (Some i)) s.max_active
keeps_effect p s i (event.Unlock k) y other rule = keeps_global s (put s.locks k None) s.max_active
keeps_effect p s i e y other rule = keeps_same s

keeps_list : (s : State) (i : ℕ) (zs : List Item) → KeepsAll s (with_list s i zs)
keeps_list s i zs =
    list_moves s i zs (KeepsAll s)
    (λ k is. keeps_setting s k (relisted zs) (λ u. other_task u u.enter u.tool u.variables zs None))
    (λ none. keeps_thread s i (λ h. record h { list = zs }) (λ h. h))

-- ---- what is used from here on

pub stays_same : (s : State) → Stays s s
stays_same s = stays_of s s (keeps_same s)

pub over_same : (s : State) → StaysOver s s
over_same s = over_of s s (keeps_same s)

-- a list that moves on takes no task away
pub list_keeps : (s : State) (i : ℕ) (zs : List Item) (k : Tid) (t : Task) → task_of s k ≡ Some t
    → (v : Task) × (task_of (with_list s i zs) k ≡ Some v) × IsSameTask t v
list_keeps s i zs k t live = (keeps_list s i zs).tasks k t live

pub stays_list : (s : State) (i : ℕ) (zs : List Item) → Stays s (with_list s i zs)
stays_list s i zs = stays_of s (with_list s i zs) (keeps_list s i zs)

-- a task that is over has no live child and runs no more
spent_idle : (s : State) (task : Tid) (old : Task) → IsSpent s task old
    → (old.progress ≡ Finished → ⊥) ⊎ ((n : Tid) × (v : Task) × (task_of s n ≡ Some v) × (v.generating ≡ Some task))
    → ⊥
spent_idle s task old spent (inl runs) = runs spent.over
spent_idle s task old spent (inr (m, v, found, by)) =
    spent.childless m.0.creator m.0.slot v (found_live m.0.generation (s.tasks m.0.creator m.0.slot) v found) by

-- the members of a region that is over are not needed for it
over_not_needed : (s : State) (n : Rid) (r : Region) → IsOver s n r → IsTeamNeeded s n → ⊥
over_not_needed s n r over (inl (q, found, unjoined)) =
    false_true (sym unjoined ∙ (ap (λ (x : Region). x.joined) (some_same found over.live) ∙ over.joined))
over_not_needed s n r over (inr (inl (k, v, live, ex, of))) =
    over.alone k.0.creator k.0.slot v (found_live k.0.generation (s.tasks k.0.creator k.0.slot) v live) ex of
over_not_needed s n r over (inr (inr (m, q, live, of))) =
    over.inmost m.0.creator m.0.slot q (found_live m.0.generation (s.regions m.0.creator m.0.slot) q live) of

-- a task that may be given back is not needed
free_not_needed : (s : State) (task next : Tid) → MayFree s task next → (t : Task) → task_of s task ≡ Some t
    → IsNeeded s task t → ⊥
free_not_needed s task next may t live need =
    go (subst (IsNeeded s task) (some_same live may.spent.live) need)
  where
    go : IsNeeded s task may.old → ⊥
    go (inl (im, team)) = false_true (sym may.explicit ∙ im)
    go (inr rest) = spent_idle s task may.old may.spent rest

member_not_needed : (s : State) (task : Tid) (n : Rid) (number : ℕ) → MayFreeMember s task n number → (t : Task)
    → task_of s task ≡ Some t → IsNeeded s task t → ⊥
member_not_needed s task n number may t live need =
    go (subst (IsNeeded s task) (some_same live may.spent.live) need)
  where
    go : IsNeeded s task may.old → ⊥
    go (inl (im, team)) = over_not_needed s n may.region may.ended (subst (IsTeamNeeded s) may.mine team)
    go (inr rest) = spent_idle s task may.old may.spent rest

-- and so is a region
region_not_needed : (s : State) (region n : Rid) (number : ℕ) → MayFreeRegion s region n number → (r : Region)
    → region_of s region ≡ Some r → IsNeededRegion s region r → ⊥
region_not_needed s region n number may r live need =
    go (subst (IsNeededRegion s region) (some_same live may.ended.live) need)
  where
    go : IsNeededRegion s region may.old → ⊥
    go (inl unjoined) = false_true (sym unjoined ∙ may.ended.joined)
    go (inr (inl (k, v, found, of))) =
        may.empty k.0.creator k.0.slot v (found_live k.0.generation (s.tasks k.0.creator k.0.slot) v found) of
    go (inr (inr (m, q, found, of))) =
        may.ended.inmost m.0.creator m.0.slot q (found_live m.0.generation (s.regions m.0.creator m.0.slot) q found) of

-- where a task that is not needed is given back, every other one stays
module _ (s : State) (task k : Tid) (free : (t : Task) → task_of s task ≡ Some t → IsNeeded s task t → ⊥)
    (x : Option Freeable) where
  abbrev without : State
  without = on_task (record s { tasks = gone s.tasks task.0 }) k (λ u. record u { frees = x })

  freed_later : (n : Tid) (t : Task) → named (gone s.tasks task.0) n.0 ≡ Some t
      → (v : Task) × (task_of without n ≡ Some v) × IsSameTask t v
  freed_later n t live =
      later_on IsSameTask same_task (gone s.tasks task.0) k.0 (λ u. record u { frees = x })
      (λ u e. other_task u u.enter u.tool u.variables u.list x) n.0 t live

  not_needed : (n : Tid) (t : Task) → task_of s n ≡ Some t → IsNeeded s n t → n.0 ≡ task.0 → ⊥
  not_needed n t live need same =
      let named_so : n ≡ task = ap (λ (a : Id). record { 0 = a }) same in
      free t (ap (task_of s) (sym named_so) ∙ live) (subst (λ (a : Tid). IsNeeded s a t) named_so need)

  freed_stays : Stays s without
  freed_stays = record {
    tasks = λ n t live need. freed_later n t (gone_other s.tasks task.0 n.0 t (not_needed n t live need) live);
    alike = λ n t v live found.
        let (u, was, same) = freed_from n v found in subst (λ (y : Task). IsSameTask y v) (some_same was live) same;
    regions = λ n r e need. (r, e, same_region r);
    alike_regions = λ n r q e found. subst (IsSameRegion r) (some_same e found) (same_region r);
    begun = λ i h. h;
    count = refl;
  }
    where
      freed_from : (n : Tid) (v : Task) → task_of without n ≡ Some v
          → (u : Task) × (task_of s n ≡ Some u) × IsSameTask u v
      freed_from n v found =
          each_on (λ m y. (u : Task) × (task_of s (record { 0 = m }) ≡ Some u) × IsSameTask u y)
          (gone s.tasks task.0) k.0 (λ u. record u { frees = x })
          (λ m y e. (y, gone_was s.tasks task.0 m y e, same_task y))
          (λ y e (u, was, same). (u, was, same_task_trans u y _ same (other_task y y.enter y.tool y.variables y.list x)))
          n.0 v found

-- where a region that is not needed is given back, every other one stays, and all tasks do
region_freed_stays : (s : State) (region : Rid)
    → ((r : Region) → region_of s region ≡ Some r → IsNeededRegion s region r → ⊥) → Stays s (region_freed s region)
region_freed_stays s region free = record {
  tasks = λ k t live need. (t, live, same_task t);
  alike = λ k t v live found. subst (IsSameTask t) (some_same live found) (same_task t);
  regions = λ n r live need. (
    r,
    gone_other s.regions region.0 n.0 r
        (λ same. let named_so : n ≡ region = ap (λ (a : Id). record { 0 = a }) same in
        free r (ap (region_of s) (sym named_so) ∙ live) (subst (λ (a : Rid). IsNeededRegion s a r) named_so need)) live,
    same_region r,
  );
  alike_regions = λ n r q live found.
      subst (IsSameRegion r) (some_same live (gone_was s.regions region.0 n.0 q found)) (same_region r);
  begun = λ i h. h;
  count = refl;
}

-- the effect of an event, and a whole event
pub stays_effect : (p : Program) (s : State) (i : ℕ) (e : Event) (y : Item) → Rule s i e y
    → IfSome (effect p s i e y) (Stays s)
stays_effect p s i e y rule = of_event e y rule
  where
    go : (o : Option State) → IfSome o (KeepsAll s) → IfSome o (Stays s)
    go None h = tt
    go (Some u) h = stays_of s u h

    of_event : (e : Event) (y : Item) → Rule s i e y → IfSome (effect p s i e y) (Stays s)
    of_event (event.FreeTask task) (item.Frees (freeable.Finished n)) free =
        of_current s i (freed s task _) (Stays s) _ free (λ k t is may. freed_stays s task k (free_not_needed s task n may) _)
    of_event (event.FreeTask task) (item.Frees (freeable.Joined n number)) free =
        of_current s i (freed s task _) (Stays s) _ free
        (λ k t is may. freed_stays s task k (member_not_needed s task n number may) _)
    of_event (event.FreeTask task) y free = tt
    of_event (event.FreeRegion region) (item.Frees (freeable.Joined n number)) (k, t, is, may) =
        region_freed_stays s region (region_not_needed s region n number may)
    of_event (event.FreeRegion region) y free = tt
    of_event e y r = go (effect p s i e y) (keeps_effect p s i e y refl r)

-- over a list that has moved on and the effect behind it
stays_behind : (s m u : State) → KeepsAll s m → ((n : Rid) → region_of m n ≡ region_of s n)
    → ((k : Tid) (t : Task) → task_of s k ≡ Some t → (v : Task) → task_of m k ≡ Some v → IsNeeded s k t → IsNeeded m k v)
    → Stays m u → Stays s u
stays_behind s m u a same_regions needs b = record {
  tasks = λ k t live need.
      let (v, found, first) = a.tasks k t live in
      let (w, found_w, second) = b.tasks k v found (needs k t live v found need) in
      (w, found_w, same_task_trans t v w first second);
  alike = λ k t w live found.
      let (v, found_v, first) = a.tasks k t live in
      same_task_trans t v w first (b.alike k v w found_v found);
  regions = λ n r e need. b.regions n r (same_regions n ∙ e) (still_needed n r need);
  alike_regions = λ n r q e found. b.alike_regions n r q (same_regions n ∙ e) found;
  begun = λ i h. b.begun i (a.begun i h);
  count = b.count ∙ a.count;
}
  where
    still_needed : (n : Rid) (r : Region) → IsNeededRegion s n r → IsNeededRegion m n r
    still_needed n r (inl unjoined) = inl unjoined
    still_needed n r (inr (inl (k, v, live, of))) =
        let (w, found, same) = a.tasks k v live in inr (inl (k, w, found, same.region ∙ of))
    still_needed n r (inr (inr (o, q, live, of))) = inr (inr (o, q, same_regions o ∙ live, of))

pub stays_step : (p : Program) (s : State) (i : ℕ) (e : Event) (next : State) → Step p s i e next
    → Stays s next
stays_step p s i e next step =
    let m = move_of p s i e next step in
    let zs : List Item = stays (encounter s i) e m.item m.behind in
    let middle : State = moved_on s i e m.item m.behind in
    stays_behind s middle next (keeps_list s i zs) (is_relisted s i zs).regions (still_needed zs)
    (from_some (Stays middle) (effect p middle i e m.item) next m.effect_is (stays_effect p middle i e m.item m.rule_moved))
  where
    still_needed_team : (zs : List Item) (n : Rid) → IsTeamNeeded s n → IsTeamNeeded (with_list s i zs) n
    still_needed_team zs n (inl (r, found, unjoined)) = inl (r, (is_relisted s i zs).regions n ∙ found, unjoined)
    still_needed_team zs n (inr (inl (k, v, live, ex, of))) =
        let (w, found, same) = (keeps_list s i zs).tasks k v live in
        inr (inl (k, w, found, same.implicit ∙ ex, same.region ∙ of))
    still_needed_team zs n (inr (inr (m, q, live, of))) = inr (inr (m, q, (is_relisted s i zs).regions m ∙ live, of))

    still_needed : (zs : List Item) (k : Tid) (t : Task) → task_of s k ≡ Some t → (v : Task)
        → task_of (with_list s i zs) k ≡ Some v → IsNeeded s k t → IsNeeded (with_list s i zs) k v
    still_needed zs k t live v found need =
        let (u, xs, was, same) = (is_relisted s i zs).tasks k v found in
        go u xs same (some_same live was) need
      where
        go : (u : Task) (xs : Option Freeable × List Item) → v ≡ relisted_to xs u → t ≡ u → IsNeeded s k t
            → IsNeeded (with_list s i zs) k v
        go u xs same is (inl (im, team)) = inl (
          ap (λ (y : Task). y.implicit) same ∙ (ap (λ (y : Task). y.implicit) (sym is) ∙ im),
          subst (IsTeamNeeded (with_list s i zs)) (ap (λ (y : Task). y.region) is ∙ ap (λ (y : Task). y.region) (sym same))
              (still_needed_team zs t.region team),
        )
        go u xs same is (inr (inl runs)) =
            inr (inl (λ over. runs (ap (λ (y : Task). y.progress) is ∙ (ap (λ (y : Task). y.progress) (sym same) ∙ over))))
        go u xs same is (inr (inr (n, w, child, by))) =
            let (w', found_w, alike) = (keeps_list s i zs).tasks n w child in
            inr (inr (n, w', found_w, alike.generating ∙ by))

-- ---- tasks that are needed

-- one that has begun, and one that waits to begin
pub needed_begun : (s : State) (k : Tid) (t : Task) → t.progress ≡ Begun → IsNeeded s k t
needed_begun s k t begun = inr (inl (λ over. not_over t.progress begun over))
  where
    not_over : (q : Progress) → q ≡ Begun → q ≡ Finished → ⊥
    not_over q a b = cc

pub needed_waiting : (s : State) (k : Tid) (t : Task) → t.progress ≡ NotBegun → IsNeeded s k t
needed_waiting s k t waits = inr (inl (λ over. not_over t.progress waits over))
  where
    not_over : (q : Progress) → q ≡ NotBegun → q ≡ Finished → ⊥
    not_over q a b = cc

-- the generating task of a live task
pub needed_generating : (s : State) (k : Tid) (t : Task) → task_of s k ≡ Some t → (n : Tid) (v : Task)
    → t.generating ≡ Some n → IsNeeded s n v
needed_generating s k t live n v by = inr (inr (k, t, live, by))

-- an implicit task of a region that is not joined
pub needed_member : (s : State) (k : Tid) (t : Task) → t.implicit ≡ true → (r : Region) → region_of s t.region ≡ Some r
    → r.joined ≡ false → IsNeeded s k t
needed_member s k t im r found unjoined = inl (im, inl (r, found, unjoined))

-- ---- regions that are needed

-- the region of a live task
pub needed_region : (s : State) (k : Tid) (t : Task) → task_of s k ≡ Some t → (r : Region)
    → IsNeededRegion s t.region r
needed_region s k t live r = inr (inl (k, t, live, refl))

-- the region that encloses a live one
pub needed_enclosing : (s : State) (n o : Rid) (r q : Region) → region_of s n ≡ Some r → r.enclosing ≡ Some o
    → IsNeededRegion s o q
needed_enclosing s n o r q live is = inr (inr (n, r, live, is))
