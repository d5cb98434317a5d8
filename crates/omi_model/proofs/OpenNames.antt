-- Each name that an object or a thread holds stays the name of a live object; the task that encountered a region as long as the region is not joined.
use Rattle.std.proofs.Common.{◌≡◌, ◌==◌, ℕ, zero, suc, Bool, true, false, List, [], ◌∷◌, slice_get, Some, None, if◌then◌else◌, refl, sym, ap, ◌∙◌, subst}
use Rattle.omi_script.specs.declared.program.Program.{Program}
use Rattle.omi_model.specs.declared.event.Event.{Event}
use Rattle.omi_model.specs.declared.id.Id.{Id}
use Rattle.omi_model.specs.declared.id.Rid.{Rid}
use Rattle.omi_model.specs.declared.id.Tid.{Tid}
use Rattle.omi_model.specs.declared.item.Item.{Item}
use Rattle.omi_model.specs.declared.progress.Progress.TheVariants.{Deferred, NotBegun, Begun}
use Rattle.omi_model.specs.declared.region.Region.{Region}
use Rattle.omi_model.specs.declared.task.Task.{Task}
use Rattle.omi_model.specs.declared.thread.Thread.{Thread}
use Rattle.omi_model.specs.Changes.{IsCurrent}
use Rattle.omi_model.specs.LawNames.{IsLiveRegion, IsLiveTask, IsMemberTask, NamesOfTask}
use Rattle.omi_model.specs.LawStays.{IsNeeded, IsNeededRegion, Stays}
use Rattle.omi_model.specs.Opening.{initial_task, opening, opening_region, opening_task}
use Rattle.omi_model.specs.Reached.{Reached, Step}
use Rattle.omi_model.specs.State.{State, region_of, task_of}
use Rattle.omi_model.specs.Teams.{master_of, member_task}
use Rattle.omi_model.proofs.EachObject.{EachRegion, EachTask, IsRegionLaw, IsTaskLaw, region_step, task_step}
use Rattle.omi_model.proofs.EachThread.{EachThread, IsThreadLaw, law_of_current, thread_step}
use Rattle.omi_model.proofs.MembersKnown.{first_scheduled, members_known}
use Rattle.omi_model.proofs.NamesKept.{names_kept}
use Rattle.omi_model.proofs.NeededTasks.{needed_current, needed_encountering, needed_scheduling}
use Rattle.omi_model.proofs.OpeningObjects.{each_first_thread, first_alone_named}
use Rattle.omi_model.proofs.ReachedStates.{over_reached}
use Rattle.omi_model.proofs.Slots.{false_true, none_some, some_same}
use Rattle.omi_model.proofs.Steps.{IsRelisted}
use Rattle.omi_model.proofs.StaysKept.{needed_enclosing, needed_generating, needed_member, needed_region, needed_waiting, stays_step}
use Rattle.omi_model.proofs.TeamsMade.{names_made}

-- What a region names. The task that encountered it and its members' tasks are live while it is not joined.
pub record OpenNamesOfRegion (s : State) (n : Rid) (r : Region) : Type 0 where
  pub enclosing : (o : Rid) → r.enclosing ≡ Some o → IsLiveRegion s o
  pub encountering : r.joined ≡ false → (k : Tid) → r.encountering ≡ Some k → IsLiveTask s k
  pub team : r.joined ≡ false → (j : ℕ) (m : Tid × ℕ) → slice_get r.team j ≡ Some m → IsMemberTask s n j m
  pub members : (j : ℕ) (m : Tid × ℕ) → slice_get r.team j ≡ Some m → (t : Task) → task_of s m.0 ≡ Some t
      → IsMemberTask s n j m

pub record AreOpenNamesLive (s : State) : Type 0 where
  pub currents : (i : ℕ) (k : Tid) → (s.threads i).current ≡ Some k → IsLiveTask s k
  pub tasks : (k : Tid) (t : Task) → task_of s k ≡ Some t → NamesOfTask s t
  pub regions : (n : Rid) (r : Region) → region_of s n ≡ Some r → OpenNamesOfRegion s n r

-- ---- later states

live_task : (s u : State) → Stays s u → (k : Tid) → IsLiveTask s k
    → ((t : Task) → task_of s k ≡ Some t → IsNeeded s k t) → IsLiveTask u k
live_task s u stay k (t, e, un) need = let (v, f, same) = stay.tasks k t e (need t e) in (v, f, same.started un)

pub live_region : (s u : State) → Stays s u → (n : Rid) → IsLiveRegion s n
    → ((r : Region) → IsNeededRegion s n r) → IsLiveRegion u n
live_region s u stay n (r, e) need = let (q, f, same) = stay.regions n r e (need r) in (q, f)

-- a member whose task lives later is the same one
pub member_alike : (s u : State) → Stays s u → (n : Rid) (j : ℕ) (m : Tid × ℕ) → IsMemberTask s n j m → (v : Task)
    → task_of u m.0 ≡ Some v → IsMemberTask u n j m
member_alike s u stay n j m is v found =
    let same = stay.alike m.0 is.task v is.live found in
    record {
      task = v;
      live = found;
      implicit = same.implicit ∙ is.implicit;
      undeferred = same.started is.undeferred;
      region = same.region ∙ is.region;
      number = same.number is.undeferred ∙ is.number;
      thread = same.thread is.undeferred ∙ is.thread;
    }

pub member_stays : (s u : State) → Stays s u → (n : Rid) (j : ℕ) (m : Tid × ℕ) (r : Region) → region_of s n ≡ Some r
    → r.joined ≡ false → IsMemberTask s n j m → IsMemberTask u n j m
member_stays s u stay n j m r here unjoined is =
    let need = needed_member s m.0 is.task is.implicit r (ap (region_of s) is.region ∙ here) unjoined in
    let (v, found, same) = stay.tasks m.0 is.task is.live need in member_alike s u stay n j m is v found

not_waiting : (t : Task) → t.progress ≡ NotBegun → t.progress ≡ Deferred → ⊥
not_waiting t e f = cc

not_deferred : (b : Bool) → (if b then Begun else NotBegun) ≡ Deferred → ⊥
not_deferred true g = cc
not_deferred false g = cc

-- a name by a test
when : (s : State) (b : Bool) (k n : Tid) → IsLiveTask s k → (if b then Some k else None) ≡ Some n
    → IsLiveTask s n
when s true k n live e = subst (IsLiveTask s) (some_same refl e) live
when s false k n live e = absurd (none_some refl e)

first_name : (s : State) (team : List (Tid × ℕ)) (k : Tid)
    → ((j : ℕ) (m : Tid × ℕ) → slice_get team j ≡ Some m → IsLiveTask s m.0) → master_of team ≡ Some k
    → IsLiveTask s k
first_name s [] k all e = absurd (none_some refl e)
first_name s (m ∷ ms) k all e = subst (IsLiveTask s) (some_same refl e) (all 0 m refl)

module _ (p : Program) (events : List (ℕ × Event)) (s : State) (reached : Reached p events s) (i : ℕ)
    (e : Event) (next : State) (step : Step p s i e next) (names : AreOpenNamesLive s) where
  stay : Stays s next
  stay = stays_step p s i e next step

  -- what a thread, a task and a region name
  current_stays : (j : ℕ) (k : Tid) → (s.threads j).current ≡ Some k → IsLiveTask next k
  current_stays j k name =
      live_task s next stay k (names.currents j k name)
      (λ t live. needed_current p events s reached j k t name live)

  scheduling_stays : (k : Tid) (t : Task) → task_of s k ≡ Some t → (n : Tid) → t.scheduling ≡ Some n
      → IsLiveTask next n
  scheduling_stays k t live n is =
      live_task s next stay n ((names.tasks k t live).scheduling n is)
      (λ v found. needed_scheduling p events s reached k t live n v is found)

  names_of_task : (k : Tid) (t : Task) → task_of s k ≡ Some t → NamesOfTask next t
  names_of_task k t live = record {
    region = live_region s next stay t.region (names.tasks k t live).region (λ r. needed_region s k t live r);
    generating = λ n is. live_task s next stay n ((names.tasks k t live).generating n is) (λ v found. needed_generating s k t live n v is);
    scheduling = scheduling_stays k t live;
  }

  names_of_region : (n : Rid) (r : Region) → region_of s n ≡ Some r → OpenNamesOfRegion next n r
  names_of_region n r live =
      let of = names.regions n r live in
      record {
        enclosing = λ o is. live_region s next stay o (of.enclosing o is) (λ q. needed_enclosing s n o r q live is);
        encountering = λ unjoined k is.
            live_task s next stay k (of.encountering unjoined k is)
            (λ t found. needed_encountering p events s reached n r live (of.team unjoined) k t is);
        team = λ unjoined j m at. member_stays s next stay n j m r live unjoined (of.team unjoined j m at);
        members = λ j m at t found.
            let made = (names_made p events s reached n r live).team j m at in
            let (v, was) = (names_kept p s i e next step).1.back m.0.0 t made found in
            member_alike s next stay n j m (of.members j m at v was) t found;
      }

  task_law : (middle : State) (y : Item) → IsRelisted s middle → Stays middle next
      → EachTask (λ k t. NamesOfTask next t) middle
      → IsTaskLaw p middle i e y next (λ k t. NamesOfTask next t)
  task_law middle y before later all = record {
    frees = λ k t free how q. record { region = q.region; generating = q.generating; scheduling = q.scheduling };
    shows = λ k t x q. record { region = q.region; generating = q.generating; scheduling = q.scheduling };
    tools = λ k t x q. record { region = q.region; generating = q.generating; scheduling = q.scheduling };
    groups = λ k t count is how q. record { region = q.region; generating = q.generating; scheduling = q.scheduling };
    sets = λ k t icv value v f at_set q. record { region = q.region; generating = q.generating; scheduling = q.scheduling };
    begins = λ k t waits mine by q. record { region = q.region; generating = q.generating; scheduling = q.scheduling };
    finishes = λ k t is over q. record { region = q.region; generating = q.generating; scheduling = q.scheduling };
    starts = λ k u j t x is live ex de may of by q. record { region = q.region; generating = q.generating; scheduling = λ n f. subst (IsLiveTask next) (some_same refl f) (current j t is) };
    members = λ region team f k t r is found may new of by j m at. record {
      region = (_, new);
      generating = λ n g. subst (IsLiveTask next) (some_same refl g) (current k t is);
      scheduling = λ n g. when next (j == 0) k n (current k t is) g;
    };
    deferred = λ task f final seen k t is of fresh. record {
      region = (all k t is.live).region;
      generating = λ n g. subst (IsLiveTask next) (some_same refl g) (current k t is);
      scheduling = λ n g. absurd (none_some refl g);
    };
    made = λ task f final k t is of fresh by. record {
      region = (all k t is.live).region;
      generating = λ n g. subst (IsLiveTask next) (some_same refl g) (current k t is);
      scheduling = λ n g. subst (IsLiveTask next) (some_same refl g) (current k t is);
    };
  }
    where
      current : (k : Tid) (t : Task) → IsCurrent middle i k t → IsLiveTask next k
      current k t is = current_stays i k (sym (before.currents i) ∙ is.name)

  region_law : (middle : State) → IsRelisted s middle → Stays middle next
      → IsRegionLaw p middle i next (λ n r. OpenNamesOfRegion next n r)
  region_law middle before later = record {
    arrives = λ k t r is found q. record { enclosing = q.enclosing; encountering = q.encountering; team = q.team; members = q.members };
    releases = λ k t r is found may q. record { enclosing = q.enclosing; encountering = q.encountering; team = q.team; members = q.members };
    ends = λ k t r is found im other q. record { enclosing = q.enclosing; encountering = q.encountering; team = q.team; members = q.members };
    joins = λ k t r is found may q. record {
      enclosing = q.enclosing;
      encountering = λ unjoined. absurd (false_true (sym unjoined));
      team = λ unjoined. absurd (false_true (sym unjoined));
      members = q.members;
    };
    forks = λ region team f k t r is found may new. record {
      enclosing = λ o g.
          let here = live_region middle next later t.region (r, found) (λ q. needed_region middle k t is.live q) in
          subst (IsLiveRegion next) (some_same refl g) here;
      encountering = λ unjoined n g. subst (IsLiveTask next) (some_same refl g) (current_stays i k (sym (before.currents i) ∙ is.name));
      team = λ unjoined. member region team f k t r new;
      members = λ j m at u live. member region team f k t r new j m at;
    };
  }
    where
      member : (region : Rid) (team : List (Tid × ℕ)) (f : ℕ) (k : Tid) (t : Task) (r : Region)
          → ((j : ℕ) (m : Tid × ℕ) → slice_get team j ≡ Some m → task_of next m.0 ≡ Some (member_task p region k t r f j m.1))
          → (j : ℕ) (m : Tid × ℕ) → slice_get team j ≡ Some m → IsMemberTask next region j m
      member region team f k t r new j m at = record {
        task = member_task p region k t r f j m.1;
        live = new j m at;
        implicit = refl;
        undeferred = not_deferred (j == 0);
        region = refl;
        number = refl;
        thread = refl;
      }

  abbrev Current : ℕ → Thread → Type 0
  Current j h = (k : Tid) → h.current ≡ Some k → IsLiveTask next k

  next_tasks : EachTask (λ k t. NamesOfTask next t) next
  next_tasks =
      task_step p (λ k t. NamesOfTask next t) s i e next step
      (λ k t y ys is taken q. record { region = q.region; generating = q.generating; scheduling = q.scheduling }) task_law
      names_of_task

  next_regions : EachRegion (λ n r. OpenNamesOfRegion next n r) next
  next_regions =
      region_step p (λ n r. OpenNamesOfRegion next n r) s i e next step region_law
      names_of_region

  thread_law : (middle : State) → IsRelisted s middle → Stays middle next → EachThread Current middle
      → IsThreadLaw p middle i e next Current
  thread_law middle before later all = law_of_current p middle i e next Current (record {
    forks = λ region team f k t r is found may new q n g. first_name next team n (λ j m at. (_, new j m at, not_deferred (j == 0))) g;
    joins_team = λ task may of q n g. subst (IsLiveTask next) (some_same refl g) (live_task middle next later task (may.member, may.live, λ d. not_waiting may.member may.waiting d) (λ t live. needed_waiting middle task t (ap (λ (x : Task). x.progress) (some_same live may.live) ∙ may.waiting)));
    ends = λ k t r is found im other over q n g. absurd (none_some refl g);
    joins = λ k t r is found may of q n g. from_scheduling k t is n (first_scheduled s middle (members_known p events s reached) before k t r is.live may.implicit may.first found ∙ g);
    makes = λ task f final k t is new q n g. subst (IsLiveTask next) (some_same refl g) (_, new, λ d. not_deferred true d);
    starts = λ task x k t is may (u, found, begun, from) q n g. subst (IsLiveTask next) (some_same refl g) (u, found, λ d. not_deferred true (sym begun ∙ d));
    finishes = λ k t is ex over q n g. from_scheduling k t is n g;
  })
    where
      from_scheduling : (k : Tid) (t : Task) → IsCurrent middle i k t → (n : Tid) → t.scheduling ≡ Some n
          → IsLiveTask next n
      from_scheduling k t is n g =
          let (v, xs, live, same) = before.tasks k t is.live in
          scheduling_stays k v live n (ap (λ (x : Task). x.scheduling) (sym same) ∙ g)

  next_currents : EachThread Current next
  next_currents =
      thread_step p Current s i e next step (λ y ys none taken q. q) thread_law
      current_stays

  pub open_names_step : AreOpenNamesLive next
  open_names_step = record { currents = next_currents; tasks = next_tasks; regions = next_regions }

-- ---- the opening state

pub open_names_first : (p : Program) → AreOpenNamesLive (opening p)
open_names_first p = record {
  currents = λ i k. each_first_thread p (λ j h. h.current ≡ Some k → IsLiveTask (opening p) k) (λ e. subst (IsLiveTask (opening p)) (some_same refl e) first) (λ j e. absurd (none_some refl e)) i;
  tasks = λ k t e. subst (NamesOfTask (opening p)) (sym (first_alone_named (opening_task p) k.0 t e).1) (record { region = (opening_region p, refl); generating = λ n g. absurd (none_some refl g); scheduling = λ n g. absurd (none_some refl g) });
  regions = λ n r e.
      let (name, is) = first_alone_named (opening_region p) n.0 r e in
      subst (OpenNamesOfRegion (opening p) n) (sym is) (record {
        enclosing = λ o g. absurd (none_some refl g);
        encountering = λ unjoined k g. absurd (none_some refl g);
        team = λ unjoined j m g. member n name j m g;
        members = λ j m g t live. member n name j m g;
      });
}
  where
    first : IsLiveTask (opening p) initial_task
    first = (opening_task p, refl, λ d. not_deferred true d)

    member : (n : Rid) → n.0 ≡ record { creator = 0; slot = 0; generation = 0 } → (j : ℕ) (m : Tid × ℕ)
        → slice_get (opening_region p).team j ≡ Some m → IsMemberTask (opening p) n j m
    member n name zero m g =
        let is : (initial_task, 0) ≡ m = some_same refl g in
        subst (IsMemberTask (opening p) n 0) is
        (record { task = opening_task p; live = refl; implicit = refl; undeferred = λ h. cc; region = ap (λ (a : Id). record { 0 = a }) (sym name); number = refl; thread = refl })
    member n name (suc j) m g = absurd (none_some refl g)

pub open_names : (p : Program) (events : List (ℕ × Event)) (s : State) → Reached p events s → AreOpenNamesLive s
open_names p events s reached =
    over_reached p AreOpenNamesLive
    (λ first u first_reached i e next step h. open_names_step p first u first_reached i e next step h) []
    (opening p) refl events s reached (open_names_first p)
