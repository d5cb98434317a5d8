-- What an event of a thread leaves to the other threads: their parts of the state, and the tasks that run on them.
use Rattle.std.proofs.Common.{◌≡◌, ◌≢◌, ◌+◌, ℕ, ◌⊎◌, inl, inr, ◌++◌, Bool, true, false, List, [], ◌∷◌, slice_get, slice_index, slice_set, Option, Some, if◌then◌else◌, ◌==◌, refl, sym, ap, ◌∙◌, subst, None}
use Rattle.std.specs.Prelude.{IfSome, ⊤}
use Rattle.std.specs.Option.{option_map}
use Rattle.std.proofs.lemmas.List.{get_or-set_other}
use Rattle.omi_model.specs.declared.claim.Claim.TheVariants as claim
use Rattle.omi_model.specs.declared.slot.Slot.{Slot}
use Rattle.omi_script.specs.declared.program.Program.{Program}
use Rattle.omi_model.specs.declared.event.Event.{Event}
use Rattle.omi_model.specs.declared.event.Event.TheVariants as event
use Rattle.omi_model.specs.declared.freeable.Freeable.{Freeable}
use Rattle.omi_model.specs.declared.freeable.Freeable.TheVariants as freeable
use Rattle.omi_model.specs.declared.id.Id.{Id}
use Rattle.omi_model.specs.declared.id.Rid.{Rid}
use Rattle.omi_model.specs.declared.id.Tid.{Tid}
use Rattle.omi_model.specs.declared.item.Item.{Item}
use Rattle.omi_model.specs.declared.item.Item.TheVariants as item
use Rattle.omi_model.specs.declared.progress.Progress.TheVariants.{Deferred, Begun, Finished}
use Rattle.omi_model.specs.declared.region.Region.{Region}
use Rattle.omi_model.specs.declared.task.Task.{Task}
use Rattle.omi_model.specs.declared.thread.Thread.{Thread}
use Rattle.omi_model.specs.Barriers.{arrived, released}
use Rattle.omi_model.specs.Changes.{IsCurrent, ahead_of, encounter, on_region, on_task, with_list}
use Rattle.omi_model.specs.Freeing.{IsSpent, MayFree, MayFreeMember, freed, freeing, region_freed}
use Rattle.omi_model.specs.Fresh.{IsFresh}
use Rattle.omi_model.specs.LawChains.{IsChain}
use Rattle.omi_model.specs.Lists.{fits}
use Rattle.omi_model.specs.Put.{Slots, gone, made, named, on, put}
use Rattle.omi_model.specs.Reached.{Reached, Step}
use Rattle.omi_model.specs.Rules.{Rule, effect}
use Rattle.omi_model.specs.Settings.{entered, left, with_tool}
use Rattle.omi_model.specs.State.{State, region_of, task_of}
use Rattle.omi_model.specs.Tasking.{MayFinish, MayStart, deferred, deferred_task, finished, scheduled, started, started_alone, started_now}
use Rattle.omi_model.specs.Teams.{MayFork, MayJoin, forked, joined, member_task, new_region, task_ended, with_members}
use Rattle.omi_model.proofs.ChainsKept.{have_chains}
use Rattle.omi_model.proofs.ListLaws.{take_fits}
use Rattle.omi_model.proofs.freeing.FreeingLaws.{joined_freed}
use Rattle.omi_model.proofs.freeing.Fronts.{item_front}
use Rattle.omi_model.proofs.EachObject.{IsGoingOn}
use Rattle.omi_model.proofs.members.EncounterLaws.{encounters}
use Rattle.omi_model.proofs.MembersKnown.{members_known}
use Rattle.omi_rule.specs.LeavesOthers.{EventsLeaveOthers, IsSameForOthers, IsSameThread, LeavesOthers}
use Rattle.omi_model.proofs.Slots.{each_on, each_put, found_live, gone_generations, gone_live, gone_other, gone_was, later_on, made_beside, made_stays, none_some, on_other, on_same, put_other, same_or_not, some_same}
use Rattle.omi_model.proofs.StaysKept.{AreNew, fresh_empty, new_team}
use Rattle.omi_model.proofs.Steps.{from_some, is_relisted, list_moves, move_of, moved_on, of_current, of_current_region, of_region, of_set, on_fresh, relisted, relisted_to}
use Rattle.omi_model.specs.LawStays.{is_free}
use Rattle.omi_model.proofs.Chains.{top_of}
use Rattle.omi_model.specs.Groups.{MayBeginGroup, MayEndGroup, group_begun, group_ended}

same_thread : (h : Thread) → IsSameThread h h
same_thread h = record { begun = refl; current = refl; wanted = refl; asks = refl; list = refl }

same_thread_trans : (h g k : Thread) → IsSameThread h g → IsSameThread g k → IsSameThread h k
same_thread_trans h g k a b = record { begun = b.begun ∙ a.begun; current = b.current ∙ a.current; wanted = b.wanted ∙ a.wanted; asks = b.asks ∙ a.asks; list = b.list ∙ a.list }

same_region : (i : ℕ) (r : Region) → IsSameForOthers i r r
same_region i r = record { arrivals = λ j m at other. refl; released = λ m at other. refl; team = refl; levels = refl; active = refl }

same_region_trans : (i : ℕ) (r q x : Region) → IsSameForOthers i r q → IsSameForOthers i q x
    → IsSameForOthers i r x
same_region_trans i r q x a b = record {
  arrivals = λ j m at other. b.arrivals j m (ap (λ (t : List (Tid × ℕ)). slice_get t j) a.team ∙ at) other ∙ a.arrivals j m at other;
  released = λ m at other. b.released m (ap (λ (t : List (Tid × ℕ)). slice_get t 0) a.team ∙ at) other ∙ a.released m at other;
  team = b.team ∙ a.team;
  levels = b.levels ∙ a.levels;
  active = b.active ∙ a.active;
}

-- what an event leaves that gives nothing back: tasks that are finished and regions of which none lives too
record LeavesAll (s u : State) (i : ℕ) : Type 0 where
  pub environment : u.environment ≡ s.environment
  pub count : u.count ≡ s.count
  pub threads : (j : ℕ) → j ≢ i → IsSameThread (s.threads j) (u.threads j)
  pub tasks : (k : Tid) (t : Task) → task_of s k ≡ Some t → t.thread ≢ i → (t.progress ≡ Deferred → ⊥)
      → task_of u k ≡ Some t
  pub regions : (n : Rid) (r : Region) → region_of s n ≡ Some r
      → (q : Region) × (region_of u n ≡ Some q) × IsSameForOthers i r q
  pub regions_fresh : (j : ℕ) (n : Id) → j ≢ i → IsFresh s.regions j n → IsFresh u.regions j n
  pub tasks_fresh : (j : ℕ) (n : Id) → j ≢ i → IsFresh s.tasks j n → IsFresh u.tasks j n

leaves_others : (s u : State) (i : ℕ) → LeavesAll s u i → LeavesOthers s u i
leaves_others s u i a = record {
  environment = a.environment;
  count = a.count;
  threads = a.threads;
  tasks = λ k t live other begun going. a.tasks k t live other begun;
  regions = λ k t r live found. a.regions t.region r found;
  made = λ n r found other. a.regions n r found;
  regions_fresh = a.regions_fresh;
  tasks_fresh = a.tasks_fresh;
}

-- behind a change that leaves all, and that leaves each task in its region
leaves_behind : (s t u : State) (i : ℕ) → LeavesAll s t i
    → ((k : Tid) (x : Task) → task_of s k ≡ Some x → (y : Task) × (task_of t k ≡ Some y) × (y.region ≡ x.region))
    → LeavesOthers t u i → LeavesOthers s u i
leaves_behind s t u i a lives b = record {
  environment = b.environment ∙ a.environment;
  count = b.count ∙ a.count;
  threads = λ j other. same_thread_trans (s.threads j) (t.threads j) (u.threads j) (a.threads j other) (b.threads j other);
  tasks = λ k x live other begun going. b.tasks k x (a.tasks k x live other begun) other begun going;
  regions = λ k x r live found.
      let (y, there, home) = lives k x live in
      let (q, now, same) = a.regions x.region r found in
      let (z, later, alike) = b.regions k y q there (ap (region_of t) home ∙ now) in
      (z, ap (region_of u) (sym home) ∙ later, same_region_trans i r q z same alike);
  made = λ n r found other.
      let (q, now, same) = a.regions n r found in
      let (z, later, alike) = b.made n q now other in
      (z, later, same_region_trans i r q z same alike);
  regions_fresh = λ j n other fresh. b.regions_fresh j n other (a.regions_fresh j n other fresh);
  tasks_fresh = λ j n other fresh. b.tasks_fresh j n other (a.tasks_fresh j n other fresh);
}

leaves_trans : (s t u : State) (i : ℕ) → LeavesAll s t i → LeavesAll t u i → LeavesAll s u i
leaves_trans s t u i a b = record {
  environment = b.environment ∙ a.environment;
  count = b.count ∙ a.count;
  threads = λ j other. same_thread_trans (s.threads j) (t.threads j) (u.threads j) (a.threads j other) (b.threads j other);
  tasks = λ k x live other begun. b.tasks k x (a.tasks k x live other begun) other begun;
  regions = λ n r live.
      let (q, found, same) = a.regions n r live in
      let (x, later, alike) = b.regions n q found in
      (x, later, same_region_trans i r q x same alike);
  regions_fresh = λ j n other fresh. b.regions_fresh j n other (a.regions_fresh j n other fresh);
  tasks_fresh = λ j n other fresh. b.tasks_fresh j n other (a.tasks_fresh j n other fresh);
}

-- ---- what is known of the thread's own

-- the current task of a thread runs on it, the member with the number of that task does, and the task that goes on where it ends
pub record KnowsOwn (z : State) (i : ℕ) : Type 0 where
  pub thread : (k : Tid) (t : Task) → IsCurrent z i k t → t.thread ≡ i
  pub member : (k : Tid) (t : Task) (r : Region) → IsCurrent z i k t → region_of z t.region ≡ Some r
      → (m : Tid × ℕ) × (slice_get r.team t.number ≡ Some m) × (m.1 ≡ i)
  pub goes_on : (k : Tid) (t : Task) → IsCurrent z i k t → (n : Tid) (u : Task) → IsGoingOn z t n
      → task_of z n ≡ Some u → u.thread ≡ i

-- ---- changes

-- other threads
thread_put : (z : State) (i : ℕ) (h : Thread) → (j : ℕ) → j ≢ i
    → IsSameThread (z.threads j) (put z.threads i h j)
thread_put z i h j other =
    subst (λ (g : Thread). IsSameThread (z.threads j) g) (sym (put_other z.threads i j h other))
    (same_thread (z.threads j))

threads_same : (z : State) (i : ℕ) → (j : ℕ) → j ≢ i → IsSameThread (z.threads j) (z.threads j)
threads_same z i j other = same_thread (z.threads j)

regions_same : (z : State) (i : ℕ) (n : Rid) (r : Region) → region_of z n ≡ Some r
    → (q : Region) × (region_of z n ≡ Some q) × IsSameForOthers i r q
regions_same z i n r live = (r, live, same_region i r)

-- a task that runs on this thread, or that is deferred, is changed
task_on : (z : State) (i : ℕ) (k : Tid) (f : Task → Task)
    → ((t : Task) → task_of z k ≡ Some t → (t.thread ≡ i) ⊎ (t.progress ≡ Deferred))
    → (n : Tid) (t : Task) → task_of z n ≡ Some t → t.thread ≢ i → (t.progress ≡ Deferred → ⊥) → named (on z.tasks k.0 f) n.0 ≡ Some t
task_on z i k f own n t live other begun = go (same_or_not n.0 k.0)
  where
    of_own : (t.thread ≡ i) ⊎ (t.progress ≡ Deferred) → ⊥
    of_own (inl same) = other same
    of_own (inr is) = begun is

    go : (n.0 ≡ k.0) ⊎ (n.0 ≡ k.0 → ⊥) → named (on z.tasks k.0 f) n.0 ≡ Some t
    go (inl same) = absurd (of_own (own t (subst (λ (d : Id). named z.tasks d ≡ Some t) same live)))
    go (inr ne) = on_other z.tasks k.0 f n.0 ne ∙ live

own_task : (z : State) (i : ℕ) (k : Tid) (t : Task) → IsCurrent z i k t → KnowsOwn z i → (u : Task)
    → task_of z k ≡ Some u → (u.thread ≡ i) ⊎ (u.progress ≡ Deferred)
own_task z i k t is knows u live = inl (knows.thread k u (record { name = is.name; live = live }))

-- a region is changed
region_on : (z : State) (i : ℕ) (n : Rid) (f : Region → Region)
    → ((r : Region) → region_of z n ≡ Some r → IsSameForOthers i r (f r))
    → (x : Rid) (r : Region) → region_of z x ≡ Some r → (q : Region) × (named (on z.regions n.0 f) x.0 ≡ Some q) × IsSameForOthers i r q
region_on z i n f same x r live = go (same_or_not x.0 n.0)
  where
    go : (x.0 ≡ n.0) ⊎ (x.0 ≡ n.0 → ⊥)
        → (q : Region) × (named (on z.regions n.0 f) x.0 ≡ Some q) × IsSameForOthers i r q
    go (inl e) =
        let here : region_of z n ≡ Some r = subst (λ (d : Id). named z.regions d ≡ Some r) e live in
        (f r, subst (λ (d : Id). named (on z.regions n.0 f) d ≡ Some (f r)) (sym e) (on_same z.regions n.0 f ∙ ap (λ o. option_map f o) here), same r here)
    go (inr ne) = (r, on_other z.regions n.0 f x.0 ne ∙ live, same_region i r)

-- an object of this thread is made
made_fresh : {A : Type 0} (slots : Slots A) (i : ℕ) (n : Id) (x : A) → IsFresh slots i n → (j : ℕ) (k : Id)
    → j ≢ i → IsFresh slots j k → IsFresh (made slots n x) j k
made_fresh {A} slots i n x new j k other fresh =
    let same : made slots n x j k.slot ≡ slots j k.slot =
    made_beside slots n x j k.slot (λ c h. other (c ∙ new.creator)) in
    record {
      creator = fresh.creator;
      empty = ap (λ (slot : Slot A). slot.live) same ∙ fresh.empty;
      next = fresh.next ∙ ap (λ (slot : Slot A). slot.generations) (sym same);
      below = fresh.below;
    }

-- and where an object is gone
gone_none : {A : Type 0} (slots : Slots A) (k : Id) (c j : ℕ) → (slots c j).live ≡ None
    → (gone slots k c j).live ≡ None
gone_none {A} slots k c j empty = go (gone slots k c j).live refl
  where
    go : (o : Option A) → (gone slots k c j).live ≡ o → o ≡ None
    go None is = refl
    go (Some x) is = absurd (none_some empty (gone_live slots k c j x is))

gone_fresh : {A : Type 0} (slots : Slots A) (k : Id) (j : ℕ) (n : Id) → IsFresh slots j n
    → IsFresh (gone slots k) j n
gone_fresh slots k j n fresh = record {
  creator = fresh.creator;
  empty = gone_none slots k j n.slot fresh.empty;
  next = fresh.next ∙ sym (gone_generations slots k j n.slot);
  below = fresh.below;
}

members_fresh : (task : ℕ → ℕ → Task) (number : ℕ) (team : List (Tid × ℕ)) (slots : Slots Task) (i : ℕ)
    → AreNew slots i team → (j : ℕ) (k : Id) → j ≢ i → IsFresh slots j k
    → IsFresh (with_members task number team slots) j k
members_fresh task number [] slots i new j k other fresh = fresh
members_fresh task number (m ∷ ms) slots i new j k other fresh =
    members_fresh task (number + 1) ms (made slots m.0.0 (task number m.1)) i
    (new.1 (task number m.1)) j k other
    (made_fresh slots i m.0.0 (task number m.1) new.0 j k other fresh)

pub members_stay : (task : ℕ → ℕ → Task) (number : ℕ) (team : List (Tid × ℕ)) (slots : Slots Task) (i : ℕ)
    → AreNew slots i team → (k : Id) (t : Task) → named slots k ≡ Some t
    → named (with_members task number team slots) k ≡ Some t
members_stay task number [] slots i new k t live = live
members_stay task number (m ∷ ms) slots i new k t live =
    members_stay task (number + 1) ms (made slots m.0.0 (task number m.1)) i (new.1 (task number m.1)) k t
    (made_stays slots m.0.0 (task number m.1) k t (fresh_empty slots i m.0.0 new.0) live)

-- ---- effects

all_same : (z : State) (i : ℕ) → LeavesAll z z i
all_same z i = record {
  environment = refl;
  count = refl;
  threads = threads_same z i;
  tasks = λ k t live other begun. live;
  regions = regions_same z i;
  regions_fresh = λ j n other fresh. fresh;
  tasks_fresh = λ j n other fresh. fresh;
}

pub same_state : (z : State) (i : ℕ) → LeavesOthers z z i
same_state z i = leaves_others z z i (all_same z i)

module _ (z : State) (i : ℕ) (knows : KnowsOwn z i) where
  abbrev of_leaves : State → Type 0
  of_leaves u = LeavesAll z u i

  by_thread : (h : Thread) → LeavesAll z (record z { threads = put z.threads i h }) i
  by_thread h = record {
    environment = refl;
    count = refl;
    threads = thread_put z i h;
    tasks = λ k t live other begun. live;
    regions = regions_same z i;
    regions_fresh = λ j n other fresh. fresh;
    tasks_fresh = λ j n other fresh. fresh;
  }

  by_task : (k : Tid) (f : Task → Task)
      → ((t : Task) → task_of z k ≡ Some t → (t.thread ≡ i) ⊎ (t.progress ≡ Deferred))
      → LeavesAll z (on_task z k f) i
  by_task k f own = record {
    environment = refl;
    count = refl;
    threads = threads_same z i;
    tasks = task_on z i k f own;
    regions = regions_same z i;
    regions_fresh = λ j n other fresh. fresh;
    tasks_fresh = λ j n other fresh. on_fresh z.tasks k.0 f j n fresh;
  }

  by_task_and_thread : (k : Tid) (f : Task → Task) (h : Thread)
      → ((t : Task) → task_of z k ≡ Some t → (t.thread ≡ i) ⊎ (t.progress ≡ Deferred))
      → LeavesAll z (record z { tasks = on z.tasks k.0 f; threads = put z.threads i h }) i
  by_task_and_thread k f h own = record {
    environment = refl;
    count = refl;
    threads = thread_put z i h;
    tasks = task_on z i k f own;
    regions = regions_same z i;
    regions_fresh = λ j n other fresh. fresh;
    tasks_fresh = λ j n other fresh. on_fresh z.tasks k.0 f j n fresh;
  }

  by_region : (n : Rid) (f : Region → Region)
      → ((r : Region) → region_of z n ≡ Some r → IsSameForOthers i r (f r))
      → LeavesAll z (on_region z n f) i
  by_region n f same = record {
    environment = refl;
    count = refl;
    threads = threads_same z i;
    tasks = λ k t live other begun. live;
    regions = region_on z i n f same;
    regions_fresh = λ j x other fresh. on_fresh z.regions n.0 f j x fresh;
    tasks_fresh = λ j x other fresh. fresh;
  }

  by_all : (k : Tid) (f : Task → Task) (n : Rid) (g : Region → Region) (h : Thread)
      → ((t : Task) → task_of z k ≡ Some t → (t.thread ≡ i) ⊎ (t.progress ≡ Deferred))
      → ((r : Region) → region_of z n ≡ Some r → IsSameForOthers i r (g r))
      → LeavesAll z
      (record z { tasks = on z.tasks k.0 f; regions = on z.regions n.0 g; threads = put z.threads i h }) i
  by_all k f n g h own same = record {
    environment = refl;
    count = refl;
    threads = thread_put z i h;
    tasks = task_on z i k f own;
    regions = region_on z i n g same;
    regions_fresh = λ j x other fresh. on_fresh z.regions n.0 g j x fresh;
    tasks_fresh = λ j x other fresh. on_fresh z.tasks k.0 f j x fresh;
  }

  by_made : (task : Tid) (x : Task) (h : Thread) → IsFresh z.tasks i task.0
      → LeavesAll z (record z { tasks = made z.tasks task.0 x; threads = put z.threads i h }) i
  by_made task x h new = record {
    environment = refl;
    count = refl;
    threads = thread_put z i h;
    tasks = λ k t live other begun. made_stays z.tasks task.0 x k.0 t (fresh_empty z.tasks i task.0 new) live;
    regions = regions_same z i;
    regions_fresh = λ j n other fresh. fresh;
    tasks_fresh = λ j n other fresh. made_fresh z.tasks i task.0 x new j n other fresh;
  }

  by_deferred : (task : Tid) (x : Task) → IsFresh z.tasks i task.0
      → LeavesAll z (record z { tasks = made z.tasks task.0 x }) i
  by_deferred task x new = record {
    environment = refl;
    count = refl;
    threads = threads_same z i;
    tasks = λ k t live other begun. made_stays z.tasks task.0 x k.0 t (fresh_empty z.tasks i task.0 new) live;
    regions = regions_same z i;
    regions_fresh = λ j n other fresh. fresh;
    tasks_fresh = λ j n other fresh. made_fresh z.tasks i task.0 x new j n other fresh;
  }

  by_fork : (p : Program) (region : Rid) (team : List (Tid × ℕ)) (f : ℕ) (k : Tid) (t : Task) (r : Region)
      → MayFork z i region team → LeavesAll z (forked p z i region team f k t r) i
  by_fork p region team f k t r may =
      let new : AreNew z.tasks i team = new_team z.tasks i team may.tasks_new may.distinct in
      let task : ℕ → ℕ → Task = member_task p region k t r f in
      record {
        environment = refl;
        count = refl;
        threads = thread_put z i _;
        tasks = λ n x live other begun. members_stay task 0 team z.tasks i new n.0 x live;
        regions = λ n x live. (x, made_stays z.regions region.0 (new_region k t r team f) n.0 x (fresh_empty z.regions i region.0 may.region_new) live, same_region i x);
        regions_fresh = λ j n other fresh. made_fresh z.regions i region.0 (new_region k t r team f) may.region_new j n other fresh;
        tasks_fresh = λ j n other fresh. members_fresh task 0 team z.tasks i new j n other fresh;
      }

  unchanged : LeavesAll z z i
  unchanged = all_same z i

  -- an arrival is the own member's, and a release that of member 0
  arrives : (k : Tid) (t : Task) → IsCurrent z i k t → (r : Region) → region_of z t.region ≡ Some r
      → IsSameForOthers i r
      (record r { arrivals = slice_set r.arrivals t.number (slice_index r.arrivals t.number + 1) })
  arrives k t is r live = record {
    arrivals = λ j m at other. get_or-set_other r.arrivals t.number j (slice_index r.arrivals t.number + 1) 0
        (λ same.
        let (own, there, runs) = knows.member k t r is live in
        let one : own ≡ m = some_same there (subst (λ h. slice_get r.team h ≡ Some m) same at) in
        other (ap (λ (x : Tid × ℕ). x.1) (sym one) ∙ runs));
    released = λ m at other. refl;
    team = refl;
    levels = refl;
    active = refl;
  }

  releases : (k : Tid) (t : Task) → IsCurrent z i k t → t.number ≡ 0 → (r : Region)
      → region_of z t.region ≡ Some r → IsSameForOthers i r (record r { released = r.released + 1 })
  releases k t is first r live = record {
    arrivals = λ j m at other. refl;
    released = λ m at other.
        let (own, there, runs) = knows.member k t r is live in
        let one : own ≡ m = some_same there (subst (λ h. slice_get r.team h ≡ Some m) (sym first) at) in
        absurd (other (ap (λ (x : Tid × ℕ). x.1) (sym one) ∙ runs));
    team = refl;
    levels = refl;
    active = refl;
  }

  ends : (t : Task) (r : Region) → IsSameForOthers i r (record r { ended = slice_set r.ended t.number true })
  ends t r = record { arrivals = λ j m at other. refl; released = λ m at other. refl; team = refl; levels = refl; active = refl }

  joins : (r : Region) → IsSameForOthers i r (record r { joined = true })
  joins r = record { arrivals = λ j m at other. refl; released = λ m at other. refl; team = refl; levels = refl; active = refl }

  by_locks : (l : ℕ → Option ℕ) → LeavesAll z (record z { locks = l }) i
  by_locks l = record {
    environment = refl;
    count = refl;
    threads = threads_same z i;
    tasks = λ k t live other begun. live;
    regions = regions_same z i;
    regions_fresh = λ j n other fresh. fresh;
    tasks_fresh = λ j n other fresh. fresh;
  }

  -- where the current task ends, the thread goes on with another task of its own, in front of whose list something may be given back
  by_end : (k : Tid) (t : Task) → IsCurrent z i k t → (u : State) → LeavesAll z u i
      → ((n : Tid) (v : Task) → task_of u n ≡ Some v → (x : Task) × (task_of z n ≡ Some x) × (v.thread ≡ x.thread))
      → (next : Option Freeable) (o : Option Tid) → ((n : Tid) → o ≡ Some n → IsGoingOn z t n)
      → LeavesAll z (record u { tasks = freeing next o u.tasks }) i
  by_end k t is u first was next None on = first
  by_end k t is u first was next (Some m) on = leaves_trans z u _ i first (record {
    environment = refl;
    count = refl;
    threads = threads_same u i;
    tasks = task_on u i m (λ v. record v { frees = next })
        (λ v there. let (x, live, same) = was m v there in inl (same ∙ knows.goes_on k t is m x (on m refl) live));
    regions = regions_same u i;
    regions_fresh = λ j n other fresh. fresh;
    tasks_fresh = λ j n other fresh. on_fresh u.tasks m.0 (λ v. record v { frees = next }) j n fresh;
  })

  -- a task that finishes runs where it ran
  finished_was : (k n : Tid) (v : Task) → named (on z.tasks k.0 (λ u. record u { progress = Finished })) n.0 ≡ Some v
      → (x : Task) × (task_of z n ≡ Some x) × (v.thread ≡ x.thread)
  finished_was k n v live =
      each_on (λ m y. (x : Task) × (named z.tasks m ≡ Some x) × (y.thread ≡ x.thread)) z.tasks k.0
      (λ u. record u { progress = Finished }) (λ m y e. (y, e, refl)) (λ y e h. h) n.0 v live

  by_finish : (k : Tid) (t : Task) → IsCurrent z i k t → LeavesAll z (finished z i k t) i
  by_finish k t is =
      by_end k t is _ (by_task_and_thread k (λ u. record u { progress = Finished }) _ (own_task z i k t is knows))
      (finished_was k) (Some (freeable.Finished k)) t.scheduling (λ n from. inl from)

  by_join : (k : Tid) (t : Task) (r : Region) → IsCurrent z i k t → region_of z t.region ≡ Some r
      → t.implicit ≡ true → t.number ≡ 0 → LeavesAll z (joined z i k t r) i
  by_join k t r is found im first =
      by_end k t is _
      (by_all k (λ u. record u { progress = Finished }) t.region (λ q. record q { joined = true }) _ (own_task z i k t is knows) (λ q live. joins q))
      (finished_was k) (Some (freeable.Joined t.region 0)) r.encountering
      (λ n from. inr (r, found, im, first, from))

  -- a task that is over is given back, and something else may be given back next
  by_free : (task : Tid) (old : Task) (next : Option Freeable) (k : Tid) (t : Task) → IsCurrent z i k t
      → IsSpent z task old → LeavesOthers z (freed z task next k t) i
  by_free task old next k t is spent = record {
    environment = refl;
    count = refl;
    threads = threads_same z i;
    tasks = λ n x live other begun going.
        task_on less i k (λ u. record u { frees = next }) (λ u there. inl (knows.thread k u (record { name = is.name; live = gone_was z.tasks task.0 k.0 u there })))
        n x
        (gone_other z.tasks task.0 n.0 x
        (λ same.
        let one : old ≡ x = some_same spent.live (subst (λ (d : Id). named z.tasks d ≡ Some x) same live) in
        going (ap (λ (u : Task). u.progress) (sym one) ∙ spent.over)) live)
        other begun;
    regions = λ n x r live found. (r, found, same_region i r);
    made = λ n r found other. (r, found, same_region i r);
    regions_fresh = λ j n other fresh. fresh;
    tasks_fresh = λ j n other fresh. on_fresh (gone z.tasks task.0) k.0 _ j n (gone_fresh z.tasks task.0 j n fresh);
  }
    where
      less : State
      less = record z { tasks = gone z.tasks task.0 }

  -- and so is a region of which no task lives, which this thread made
  by_free_region : (n : Rid) → n.0.creator ≡ i → ((c j : ℕ) (u : Task) → (z.tasks c j).live ≡ Some u → u.region ≡ n → ⊥)
      → LeavesOthers z (region_freed z n) i
  by_free_region n mine empty = record {
    environment = refl;
    count = refl;
    threads = threads_same z i;
    tasks = λ k x live other begun going. live;
    regions = λ k x r live found. (
      r,
      gone_other z.regions n.0 x.region.0 r
          (λ same. empty k.0.creator k.0.slot x (found_live k.0.generation (z.tasks k.0.creator k.0.slot) x live) (ap (λ (d : Id). record { 0 = d }) same)) found,
      same_region i r,
    );
    made = λ x r found other. (r, gone_other z.regions n.0 x.0 r (λ same. other (ap (λ (d : Id). d.creator) same ∙ mine)) found, same_region i r);
    regions_fresh = λ j x other fresh. gone_fresh z.regions n.0 j x fresh;
    tasks_fresh = λ j x other fresh. fresh;
  }

  effect_all : (p : Program) (e : Event) (y : Item) → is_free e ≡ false → Rule z i e y → IfSome (effect p z i e y) of_leaves
  effect_all p event.Begin y held rule = by_thread _
  effect_all p event.Offer y held rule = by_thread _
  effect_all p (event.Want n) y held rule = by_thread _
  effect_all p (event.Ask w true) y held rule = claims
    where
      h : Thread
      h = record (z.threads i) { asks = (z.threads i).asks ++ (w, true) ∷ [] }

      first : ℕ → Thread
      first = put z.threads i h

      claims : LeavesAll z (record z { threads = put first w (record (first w) { claim = claim.By i }) }) i
      claims = record {
        environment = refl;
        count = refl;
        threads =
            λ j other. each_put (λ c g. c ≢ i → IsSameThread (z.threads c) g) first w (record (first w) { claim = claim.By i })
            (λ ne. let o = thread_put z i h w ne in record { begun = o.begun; current = o.current; wanted = o.wanted; asks = o.asks; list = o.list })
            j (λ apart ne. thread_put z i h j ne) other;
        tasks = λ k t live other begun. live;
        regions = regions_same z i;
        regions_fresh = λ j n other fresh. fresh;
        tasks_fresh = λ j n other fresh. fresh;
      }
  effect_all p (event.Ask w false) y held rule = by_thread _
  effect_all p (event.Fork region team) (item.Fork f) held rule =
      of_region z i (forked p z i region team f) of_leaves (λ k t r. MayFork z i region team) rule
      (λ k t r is found may. by_fork p region team f k t r may)
  effect_all p (event.Fork region team) y held rule = tt
  effect_all p (event.ImplicitBegin task) y held rule =
      by_task_and_thread task (λ t. record t { progress = Begun }) _
      (λ t live. let same : rule.member ≡ t = some_same rule.live live in inl (ap (λ (u : Task). u.thread) (sym same) ∙ rule.mine))
  effect_all p (event.State state wait) y held rule = by_thread _
  effect_all p event.Enter y held rule =
      of_current z i (entered z) of_leaves (λ k t. ⊤) rule
      (λ k t is h. by_task k _ (own_task z i k t is knows))
  effect_all p event.Leave y held rule =
      of_current z i (left z) of_leaves (λ k t. ⊤) rule (λ k t is h. by_task k _ (own_task z i k t is knows))
  effect_all p event.Arrive y held rule =
      of_current_region z i (λ k t. arrived z t) of_leaves _ rule
      (λ k t r is found h. by_region t.region _ (arrives k t is))
  effect_all p event.Release y held rule =
      of_current_region z i (λ k t. released z t) of_leaves _ rule
      (λ k t r is found h. by_region t.region _ (releases k t is h.first))
  effect_all p event.Pass y held rule = unchanged
  effect_all p (event.ImplicitEnd task) y held rule =
      of_current_region z i (task_ended z i) of_leaves _ rule
      (λ k t r is found h. by_all k _ t.region _ _ (own_task z i k t is knows) (λ q live. ends t q))
  effect_all p (event.Join region) y held rule =
      of_region z i (joined z i) of_leaves (λ k t r. MayJoin region t r) rule
      (λ k t r is found h. by_join k t r is found h.implicit h.first)
  effect_all p (event.FreeTask task) y held rule = absurd (cc held)
  effect_all p (event.FreeRegion region) y held rule = absurd (cc held)
  effect_all p (event.Seen j) y held rule = unchanged
  effect_all p (event.Defer task) (item.Defer seen f final) held rule =
      of_current z i (deferred p z task f final seen) of_leaves (λ k t. IsFresh z.tasks i task.0) rule
      (λ k t is fresh. by_deferred task (deferred_task p k t f final seen) fresh)
  effect_all p (event.Defer task) y held rule = tt
  effect_all p (event.StartNow task) (item.Defer seen f final) held rule =
      of_current z i (started_now p z i task f final) of_leaves (λ k t. IsFresh z.tasks i task.0) rule
      (λ k t is fresh. by_made task (scheduled i k t (deferred_task p k t f final 0)) _ fresh)
  effect_all p (event.StartNow task) (item.StartNow f final) held rule =
      of_current z i (started_now p z i task f final) of_leaves (λ k t. IsFresh z.tasks i task.0) rule
      (λ k t is fresh. by_made task (scheduled i k t (deferred_task p k t f final 0)) _ fresh)
  effect_all p (event.StartNow task) y held rule = tt
  effect_all p (event.Start task) (item.Tasks state) held rule =
      of_current z i (started z i task) of_leaves (MayStart z task (item.Tasks state)) rule
      (λ k t is may. by_task_and_thread task _ _ (λ u live. let same : may.new ≡ u = some_same may.live live in inr (ap (λ (x : Task). x.progress) (sym same) ∙ may.deferred)))
  effect_all p (event.Start task) item.OneTask held rule =
      of_current z i (started_alone z i task) of_leaves (MayStart z task item.OneTask) rule
      (λ k t is may. by_task_and_thread task _ _ (λ u live. let same : may.new ≡ u = some_same may.live live in inr (ap (λ (x : Task). x.progress) (sym same) ∙ may.deferred)))
  effect_all p (event.Start task) y held rule = tt
  effect_all p event.GroupBegin y held rule =
      of_current z i (group_begun z) of_leaves (λ k t. MayBeginGroup t) rule
      (λ k t is h. by_task k _ (own_task z i k t is knows))
  effect_all p event.GroupEnd y held rule =
      of_current z i (group_ended z) of_leaves (MayEndGroup z) rule
      (λ k t is h. by_task k _ (own_task z i k t is knows))
  effect_all p (event.Finish task) y held rule =
      of_current z i (finished z i) of_leaves (MayFinish task) rule
      (λ k t is h. by_finish k t is)
  effect_all p event.WaitDone y held rule = unchanged
  effect_all p event.Yield y held rule = unchanged
  effect_all p (event.Set icv value) y held rule =
      of_set z i icv value of_leaves rule whole (λ k t v is e. by_task k _ (own_task z i k t is knows))
    where
      whole : LeavesAll z (record z { max_active = value }) i
      whole = record {
        environment = refl;
        count = refl;
        threads = threads_same z i;
        tasks = λ k t live other begun. live;
        regions = regions_same z i;
        regions_fresh = λ j n other fresh. fresh;
        tasks_fresh = λ j n other fresh. fresh;
      }
  effect_all p (event.SetTool x) y held rule =
      of_current z i (λ k t. with_tool z x k) of_leaves (λ k t. ⊤) rule
      (λ k t is h. by_task k _ (own_task z i k t is knows))
  effect_all p (event.Lock k) y held rule = by_locks _
  effect_all p (event.Unlock k) y held rule = by_locks _
  effect_all p event.Work y held rule = unchanged
  effect_all p (event.Call f) y held rule = unchanged
  effect_all p event.Skip y held rule = unchanged
  effect_all p event.Ret y held rule = unchanged
  effect_all p event.Done y held rule = unchanged

  if_others : (o : Option State) → IfSome o of_leaves → IfSome o (λ u. LeavesOthers z u i)
  if_others None h = tt
  if_others (Some u) h = leaves_others z u i h

  -- a region that is given back was made by this thread
  abbrev IsMaker : Item → Type 0
  IsMaker y = (n : Rid) (number : ℕ) → y ≡ item.Frees (freeable.Joined n number) → n.0.creator ≡ i

  effect_leaves : (p : Program) (e : Event) (y : Item) → IsMaker y → Rule z i e y
      → IfSome (effect p z i e y) (λ u. LeavesOthers z u i)
  effect_leaves p (event.FreeTask task) (item.Frees (freeable.Finished n)) maker rule =
      of_current z i (freed z task _) (λ u. LeavesOthers z u i) (λ k t. MayFree z task n) rule
      (λ k t is may. by_free task may.old _ k t is may.spent)
  effect_leaves p (event.FreeTask task) (item.Frees (freeable.Joined n number)) maker rule =
      of_current z i (freed z task _) (λ u. LeavesOthers z u i) (λ k t. MayFreeMember z task n number) rule
      (λ k t is may. by_free task may.old _ k t is may.spent)
  effect_leaves p (event.FreeTask task) y maker rule = tt
  effect_leaves p (event.FreeRegion region) (item.Frees (freeable.Joined n number)) maker (k, t, is, may) =
      by_free_region region (ap (λ (x : Rid). x.0.creator) may.same ∙ maker n number refl) may.empty
  effect_leaves p (event.FreeRegion region) y maker rule = tt
  effect_leaves p e y maker rule = if_others (effect p z i e y) (effect_all p e y refl rule)

-- ---- a step

-- a list that moves on
list_leaves : (s : State) (i : ℕ) (zs : List Item) → KnowsOwn s i → LeavesAll s (with_list s i zs) i
list_leaves s i zs knows = list_moves s i zs (λ u. LeavesAll s u i)
    (λ k is. by_task s i knows k (relisted zs) (λ t live. inl (knows.thread k t (record { name = is; live = live }))))
    (λ none. by_thread s i knows _)

list_lives : (s : State) (i : ℕ) (zs : List Item) → (k : Tid) (x : Task) → task_of s k ≡ Some x
    → (y : Task) × (task_of (with_list s i zs) k ≡ Some y) × (y.region ≡ x.region)
list_lives s i zs = list_moves s i zs
    (λ u. (k : Tid) (x : Task) → task_of s k ≡ Some x → (y : Task) × (task_of u k ≡ Some y) × (y.region ≡ x.region))
    (λ n is k x live. later_on (λ (a b : Task). b.region ≡ a.region) (λ a. refl) s.tasks n.0 (relisted zs) (λ a e. refl) k.0 x live)
    (λ none k x live. (x, live, refl))

knows_moved : (s : State) (i : ℕ) (zs : List Item) → KnowsOwn s i → KnowsOwn (with_list s i zs) i
knows_moved s i zs knows =
    let o = is_relisted s i zs in
    record {
      thread = λ k t is.
          let (v, xs, live, same) = o.tasks k t is.live in
          ap (λ (u : Task). u.thread) same ∙ knows.thread k v (record { name = sym (o.currents i) ∙ is.name; live = live });
      member = λ k t r is found.
          let (v, xs, live, same) = o.tasks k t is.live in
          let there : region_of s v.region ≡ Some r =
          subst (λ (u : Task). region_of s u.region ≡ Some r) same (sym (o.regions t.region) ∙ found) in
          let (m, at, runs) =
          knows.member k v r (record { name = sym (o.currents i) ∙ is.name; live = live }) there in
          (m, subst (λ (u : Task). slice_get r.team u.number ≡ Some m) (sym same) at, runs);
      goes_on = λ k t is n u from there.
          let (v, xs, live, same) = o.tasks k t is.live in
          let (w, ys, was, alike) = o.tasks n u there in
          ap (λ (x : Task). x.thread) alike
          ∙ knows.goes_on k v (record { name = sym (o.currents i) ∙ is.name; live = live }) n w (goes_before t v same n from) was;
    }
  where
    goes_before : (t v : Task) {xs : Option Freeable × List Item} → t ≡ relisted_to xs v → (n : Tid)
        → IsGoingOn (with_list s i zs) t n → IsGoingOn s v n
    goes_before t v same n (inl from) = inl (ap (λ (x : Task). x.scheduling) (sym same) ∙ from)
    goes_before t v same n (inr (r, found, im, first, from)) =
        inr (r, ap (λ (x : Task). region_of s x.region) (sym same) ∙ (sym ((is_relisted s i zs).regions t.region) ∙ found), ap (λ (x : Task). x.implicit) (sym same) ∙ im, ap (λ (x : Task). x.number) (sym same) ∙ first, from)

pub step_leaves : (p : Program) (s : State) (i : ℕ) (e : Event) (next : State) (knows : KnowsOwn s i)
    → (step : Step p s i e next) → IsMaker s i knows (move_of p s i e next step).item → LeavesOthers s next i
step_leaves p s i e next knows step maker =
    let m = move_of p s i e next step in
    let middle : State = moved_on s i e m.item m.behind in
    let own : KnowsOwn middle i = knows_moved s i _ knows in
    leaves_behind s middle next i (list_leaves s i _ knows) (list_lives s i _)
    (from_some (λ u. LeavesOthers middle u i) (effect p middle i e m.item) next m.effect_is (effect_leaves middle i own p e m.item maker m.rule_moved))

-- ---- what is known of a reached state

pub known_own : (p : Program) (events : List (ℕ × Event)) (s : State) → Reached p events s → (i : ℕ)
    → KnowsOwn s i
known_own p events s reached i = record {
  thread = λ k t is. let (ks, chain) = have_chains p events s reached i in on_chain k t is ks chain;
  member = λ k t r is found. member k t r is found t.implicit refl;
  goes_on = λ k t is n u from there. let (ks, chain) = have_chains p events s reached i in below k t is n u (scheduled_from k t is n from) there ks chain;
}
  where
    -- member 0 was scheduled from the task that encountered its region
    scheduled_from : (k : Tid) (t : Task) → IsCurrent s i k t → (n : Tid) → IsGoingOn s t n → t.scheduling ≡ Some n
    scheduled_from k t is n (inl from) = from
    scheduled_from k t is n (inr (r, found, im, first, from)) =
        ((members_known p events s reached).encountered k t is.live).scheduling im r found
        ∙ (ap (λ j. if j == 0 then r.encountering else None) first ∙ from)

    below : (k : Tid) (t : Task) → IsCurrent s i k t → (n : Tid) (u : Task) → t.scheduling ≡ Some n
        → task_of s n ≡ Some u → (ks : List Tid) → IsChain s i (s.threads i).current ks → u.thread ≡ i
    below k t is n u from there ks chain =
        let (ns, v, list, apart, live, mine, begun, rest) = top_of s i (s.threads i).current ks k is.name chain in
        let on : v.scheduling ≡ Some n = ap (λ (x : Task). x.scheduling) (some_same live is.live) ∙ from in
        let (ms, w, list_n, apart_n, live_n, mine_n, begun_n, rest_n) = top_of s i v.scheduling ns n on rest in
        ap (λ (x : Task). x.thread) (some_same there live_n) ∙ mine_n

    on_chain : (k : Tid) (t : Task) → IsCurrent s i k t → (ks : List Tid)
        → IsChain s i (s.threads i).current ks → t.thread ≡ i
    on_chain k t is [] none = absurd (none_some none is.name)
    on_chain k t is (n ∷ ns) (u, top, apart, live, thread, begun, rest) =
        let same : n ≡ k = some_same top is.name in
        let one : u ≡ t = some_same (subst (λ (x : Tid). task_of s x ≡ Some u) same live) is.live in
        ap (λ (x : Task). x.thread) (sym one) ∙ thread

    runs : (k : Tid) (t : Task) → IsCurrent s i k t → t.thread ≡ i
    runs k t is = let (ks, chain) = have_chains p events s reached i in on_chain k t is ks chain

    member : (k : Tid) (t : Task) (r : Region) → IsCurrent s i k t → region_of s t.region ≡ Some r
        → (b : Bool) → t.implicit ≡ b
        → (m : Tid × ℕ) × (slice_get r.team t.number ≡ Some m) × (m.1 ≡ i)
    member k t r is found true e =
        let (q, live, at) = (members_known p events s reached).tasks k t is.live e in
        let same : q ≡ r = some_same live found in
        ((k, t.thread), ap (λ (x : Region). slice_get x.team t.number) (sym same) ∙ at, runs k t is)
    member k t r is found false e =
        let (ks, chain) = have_chains p events s reached i in
        let (q, m, live, at, thread) =
        ((encounters p events s reached).explicit k t is.live e).thread (undeferred k t is ks chain) in
        let same : q ≡ r = some_same live found in
        (m, ap (λ (x : Region). slice_get x.team t.number) (sym same) ∙ at, thread ∙ runs k t is)
      where
        undeferred : (k : Tid) (t : Task) → IsCurrent s i k t → (ks : List Tid)
            → IsChain s i (s.threads i).current ks → t.progress ≡ Deferred → ⊥
        undeferred k t is [] none d = absurd (none_some none is.name)
        undeferred k t is (n ∷ ns) (u, top, apart, live, thread, begun, rest) d =
            let same : n ≡ k = some_same top is.name in
            let one : u ≡ t = some_same (subst (λ (x : Tid). task_of s x ≡ Some u) same live) is.live in
            cc (sym begun, ap (λ (x : Task). x.progress) one, d)

-- what a thread gives back behind a join stands in front of its current task's list
maker : (p : Program) (events : List (ℕ × Event)) (s : State) (reached : Reached p events s) (i : ℕ) (e : Event) (next : State)
    (step : Step p s i e next) → IsMaker s i (known_own p events s reached i) (move_of p s i e next step).item
maker p events s reached i e next step n number is =
    let m = move_of p s i e next step in
    let (k, t, current) = frees_current s i e m.item (freeable.Joined n number) is m.rule
    (ap (fits e) (sym is) ∙ take_fits p (encounter s i) e (ahead_of s i) m.item m.behind m.taken) in
    (joined_freed p events s reached i k t n number current
    (item_front p events s reached i e next step k t current (freeable.Joined n number) is)).creator
  where
    -- a thread that gives something back has a current task
    frees_current : (s : State) (i : ℕ) (e : Event) (y : Item) (f : Freeable) → y ≡ item.Frees f → Rule s i e y
        → fits e (item.Frees f) ≡ true → (k : Tid) × (t : Task) × IsCurrent s i k t
    frees_current s i (event.FreeTask task) (item.Frees (freeable.Finished g)) f is (k, t, current, may) fit = (k, t, current)
    frees_current s i (event.FreeTask task) (item.Frees (freeable.Joined g j)) f is (k, t, current, may) fit = (k, t, current)
    frees_current s i (event.FreeRegion region) (item.Frees (freeable.Joined g j)) f is (k, t, current, may) fit = (k, t, current)
    frees_current s i e y f is rule fit = absurd (cc (is, fit))

pub events_leave_others : EventsLeaveOthers
events_leave_others =
    λ p events s reached i e next step. step_leaves p s i e next (known_own p events s reached i) step (maker p events s reached i e next step)

-- every event leaves the environment of the program
pub step_environment : (p : Program) (events : List (ℕ × Event)) (s : State) → Reached p events s → (i : ℕ)
    (e : Event) (next : State) → Step p s i e next → next.environment ≡ s.environment
step_environment p events s reached i e next step =
    let m = move_of p s i e next step in
    let middle : State = moved_on s i e m.item m.behind in
    from_some (λ u. u.environment ≡ middle.environment) (effect p middle i e m.item) next m.effect_is
    (of_event middle (knows_moved s i _ (known_own p events s reached i)) e m.item m.rule_moved)
    ∙ (list_leaves s i _ (known_own p events s reached i)).environment
  where
    go : (z : State) (o : Option State) → IfSome o (λ u. LeavesAll z u i)
        → IfSome o (λ u. u.environment ≡ z.environment)
    go z None h = tt
    go z (Some u) h = h.environment

    of_event : (z : State) → KnowsOwn z i → (e : Event) (y : Item) → Rule z i e y
        → IfSome (effect p z i e y) (λ u. u.environment ≡ z.environment)
    of_event z knows (event.FreeTask task) (item.Frees (freeable.Finished n)) rule =
        of_current z i (freed z task _) (λ u. u.environment ≡ z.environment) _ rule (λ k t is h. refl)
    of_event z knows (event.FreeTask task) (item.Frees (freeable.Joined n number)) rule =
        of_current z i (freed z task _) (λ u. u.environment ≡ z.environment) _ rule (λ k t is h. refl)
    of_event z knows (event.FreeTask task) y rule = tt
    of_event z knows (event.FreeRegion region) (item.Frees (freeable.Joined n number)) rule = refl
    of_event z knows (event.FreeRegion region) y rule = tt
    of_event z knows e y rule = go z (effect p z i e y) (effect_all z i knows p e y refl rule)
