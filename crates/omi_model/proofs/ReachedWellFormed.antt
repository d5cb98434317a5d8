-- Every reached state is well formed.
use Rattle.std.proofs.Common.{◌≡◌, ◌<◌, ◌≤◌, ◌+◌, ◌⊎◌, inl, inr, ℕ, Bool, true, false, List, length, get_or, Some, MatchBool, refl, sym, ap, ◌∙◌, subst, arith}
use Rattle.std.proofs.lemmas.List.{length-drop}
use Rattle.std.proofs.lemmas.Option.{slice_get-get_or}
use Rattle.omi_script.proofs.RuleLemmas.{Rules-from_accepted}
use Rattle.omi_script.specs.declared.program.Program.{Program}
use Rattle.omi_model.specs.declared.event.Event.{Event}
use Rattle.omi_model.specs.declared.group.Group.{Group}
use Rattle.omi_model.specs.declared.id.Rid.{Rid}
use Rattle.omi_model.specs.declared.id.Tid.{Tid}
use Rattle.omi_model.specs.declared.progress.Progress.{Progress}
use Rattle.omi_model.specs.declared.progress.Progress.TheVariants.{Begun, Deferred, Finished, NotBegun}
use Rattle.omi_model.specs.declared.task.Task.{Task}
use Rattle.omi_model.specs.LawNames.{AreNamesLive, IsLiveTask, IsMemberTask}
use Rattle.omi_model.specs.Reached.{Reached}
use Rattle.omi_model.specs.State.{State, region_of, task_of}
use Rattle.omi_model.specs.Visible.{HasStarted, IsVisibleRegion, IsVisibleTask}
use Rattle.omi_model.specs.WellFormed.{AreInRange, HasBegun, IsMember, IsRegionRight, IsTaskRight, IsWellFormed}
use Rattle.omi_model.proofs.ChainsKept.{current_begun}
use Rattle.omi_model.proofs.LevelsCount.{levels_count}
use Rattle.omi_model.proofs.members.EncounterLaws.{encounters, open_around, visible_open}
use Rattle.omi_model.proofs.members.Encounters.{child_region}
use Rattle.omi_model.proofs.GeneratingChains.{have_line, on_lineage}
use Rattle.omi_model.proofs.members.WholeTeams.{AreWhole, are_whole, live_of}
use Rattle.omi_model.proofs.MembersKnown.{first_at, members_known}
use Rattle.omi_model.proofs.NamesLive.{names_live}
use Rattle.omi_model.proofs.NthreadsShortened.{nthreads_shortened}
use Rattle.omi_model.proofs.ReleaseAmong.{undeferred}
use Rattle.omi_model.proofs.ScheduledFrom.{IsLiveImplicit, IsOwnedBy, scheduled_from}
use Rattle.omi_model.proofs.SchedulingChains.{scheduling_right}
use Rattle.omi_model.proofs.Slots.{false_true, some_same}
use Rattle.omi_model.proofs.Tables.{in_tables}
use Rattle.omi_model.proofs.TaskThreads.{AreManned, are_manned}

has_started : (q : Progress) → (q ≡ Deferred → ⊥) → (q ≡ NotBegun → ⊥) → HasStarted q
has_started Deferred a b = absurd (a refl)
has_started NotBegun a b = absurd (b refl)
has_started Begun a b = tt
has_started Finished a b = tt

not_deferred : (q : Progress) → HasStarted q → q ≡ Deferred → ⊥
not_deferred Deferred h e = h
not_deferred NotBegun h e = h
not_deferred Begun h e = cc
not_deferred Finished h e = cc

begun_finished : Begun ≡ Finished → ⊥
begun_finished e = cc

module _ (p : Program) (events : List (ℕ × Event)) (s : State) (reached : Reached p events s) where
  names : AreNamesLive s
  names = names_live p events s reached

  whole : AreWhole s
  whole = are_whole p events s reached

  -- a live task that is not deferred is seen, where its region is
  seen_task : (k : Tid) (t : Task) → task_of s k ≡ Some t → (t.progress ≡ Deferred → ⊥)
      → (t.implicit ≡ true → IsVisibleRegion s t.region) → IsVisibleTask s k
  seen_task k t live un around = record { task = t; live = live; shown = go t.implicit refl }
    where
      go : (kind : Bool) → t.implicit ≡ kind
          → MatchBool kind (IsVisibleRegion s t.region) (HasStarted t.progress)
      go true im = around im
      go false ex =
          has_started t.progress un
          (λ w. false_true (sym ex ∙ (((members_known p events s reached).encountered k t live).waiting w).0))

  -- a task that is seen is not deferred
  seen_undeferred : (k : Tid) (seen : IsVisibleTask s k) → seen.task.progress ≡ Deferred → ⊥
  seen_undeferred k seen = go seen.task.implicit refl seen.shown
    where
      go : (kind : Bool) → seen.task.implicit ≡ kind
          → MatchBool kind (IsVisibleRegion s seen.task.region) (HasStarted seen.task.progress)
          → seen.task.progress ≡ Deferred → ⊥
      go true im shown = undeferred p events s reached k seen.task seen.live im
      go false ex shown = not_deferred seen.task.progress shown

  manned : AreManned s
  manned = are_manned p events s reached

  -- the region of a task that is seen
  seen_around : (k : Tid) (seen : IsVisibleTask s k) → IsVisibleRegion s seen.task.region
  seen_around k seen = go seen.task.implicit refl seen.shown
    where
      go : (kind : Bool) → seen.task.implicit ≡ kind
          → MatchBool kind (IsVisibleRegion s seen.task.region) (HasStarted seen.task.progress)
          → IsVisibleRegion s seen.task.region
      go true im shown = shown
      go false ex shown = whole.explicit k seen.task seen.live ex

  -- a member of a region that is seen
  module _ (n : Rid) (seen : IsVisibleRegion s n) where
    member_of : (j : ℕ) (d : Tid × ℕ) → j < length seen.region.team → IsMemberTask s n j (get_or seen.region.team j d)
    member_of j d within =
        let (t, live) = live_of (task_of s (get_or seen.region.team j d).0) (seen.team j d within) in
        let at = slice_get-get_or seen.region.team j d within in
        (names.regions n seen.region seen.live).members j (get_or seen.region.team j d) at t live

    member_right : (j : ℕ) (m : Tid × ℕ) → IsMemberTask s n j m → IsMember s m.0 m.1
    member_right j m is = record {
      visible = seen_task m.0 is.task is.live is.undeferred (λ im. subst (IsVisibleRegion s) (sym is.region) seen);
      same = λ t live'. ap (λ (x : Task). x.thread) (some_same live' is.live) ∙ is.thread;
      begun = subst (HasBegun s) is.thread (manned.tasks m.0 is.task is.live is.undeferred);
    }

    -- the task that encountered the region
    seen_encountering : (k : Tid) (t : Task) → seen.region.encountering ≡ Some k → task_of s k ≡ Some t
        → (t.progress ≡ Deferred → ⊥) → IsVisibleTask s k
    seen_encountering k t met live un =
        let is = (encounters p events s reached).encountered n seen.region k t seen.live met live in
        let one : is.task ≡ t = some_same is.live live in
        seen_task k t live un
        (λ im. whole.enclosing n seen.region seen.live t.region (is.enclosing ∙ ap (λ (x : Task). Some x.region) one))

    region_right : IsRegionRight s seen.region
    region_right = record {
      enclosing = λ o e. whole.enclosing n seen.region seen.live o e;
      encountering = met;
      members = λ j d within. member_right j (get_or seen.region.team j d) (member_of j d within);
      some = some;
      few = manned.regions n seen.region seen.live;
      ends = (levels_count p events s reached n seen.region seen.live).ends;
    }
      where
        some : 1 ≤ length seen.region.team
        some = ((members_known p events s reached).regions n seen.region seen.live).some

        met : (k : Tid) → seen.region.encountering ≡ Some k → IsVisibleTask s k
        met k e =
            let (a, at) = first_at seen.region.team some in
            let is = member_of 0 a some in
            let made = (members_known p events s reached).encountered (get_or seen.region.team 0 a).0 is.task is.live in
            let by = made.generating is.implicit seen.region (ap (region_of s) is.region ∙ seen.live) in
            let (t, live, un) = (names.tasks (get_or seen.region.team 0 a).0 is.task is.live).generating k (by ∙ e) in
            seen_encountering k t e live un

  in_range : (k : Tid) (t : Task) → task_of s k ≡ Some t → AreInRange t.variables
  in_range k t live =
      let (r, found, is) = nthreads_shortened p events s reached k t live in
      let kind = ((in_tables p events s reached).tasks k t live).1 in
      record {
        some = is.some;
        few = omega (arith, length-drop 1 t.variables.nthreads, length-drop (r.levels + 1) p.env.nthreads, ap (λ (xs : List ℕ). length xs) is.rest, (Rules-from_accepted p).count.1);
        kind_from = kind.0;
        kind_to = kind.1;
      }

  -- a task that another one names
  module _ (k : Tid) (t : Task) (live : task_of s k ≡ Some t) (around : IsVisibleRegion s t.region) where
    seen_generating : (n : Tid) → t.generating ≡ Some n → IsVisibleTask s n
    seen_generating n by = go t.implicit refl ((names.tasks k t live).generating n by)
      where
        go : (kind : Bool) → t.implicit ≡ kind → IsLiveTask s n → IsVisibleTask s n
        go true im (u, live_u, un) =
            let made = ((members_known p events s reached).encountered k t live).generating im around.region around.live in
            seen_encountering t.region around n u (sym made ∙ by) live_u un
        go false ex (u, live_u, un) =
            let (gs, chain, owners) = have_line p events s reached k t live in
            let same = child_region s t u n gs chain ex by live_u in
            seen_task n u live_u un (λ im. subst (IsVisibleRegion s) (sym same) around)

    -- the owner of its group
    seen_owner : (g : Group) → t.group ≡ Some g → IsVisibleTask s g.owner
    seen_owner g is =
        let (gs, chain, owners) = have_line p events s reached k t live in
        let (u, found, region, begun) =
        on_lineage s t.implicit t.region t.generating gs chain g.owner (owners g is) in
        seen_task g.owner u found (not_deferred u.progress begun) (λ im. subst (IsVisibleRegion s) (sym region) around)

    seen_scheduling : (n : Tid) → t.scheduling ≡ Some n → IsVisibleTask s n
    seen_scheduling n is = go (scheduled_from p events s reached k t live n is) ((names.tasks k t live).scheduling n is)
      where
        go : (t.generating ≡ Some n) ⊎ (IsOwnedBy t n ⊎ ((t.implicit ≡ false) × IsLiveImplicit s n t.region))
            → IsLiveTask s n
            → IsVisibleTask s n
        go (inl by) of = seen_generating n by
        go (inr (inl (g, member, own))) of = subst (IsVisibleTask s) own (seen_owner g member)
        go (inr (inr (ex, (v, found, im, region)))) (u, live_u, un) =
            let here = ap (λ (x : Task). x.region) (some_same live_u found) ∙ region in
            seen_task n u live_u un (λ im. subst (IsVisibleRegion s) (sym here) around)

  task_right : (k : Tid) (seen : IsVisibleTask s k) → IsTaskRight s seen.task
  task_right k seen =
      let around = seen_around k seen in
      record {
        region = around;
        generating = λ n e. seen_generating k seen.task seen.live around n e;
        scheduling = λ n e. seen_scheduling k seen.task seen.live around n e;
        owner = λ g e. seen_owner k seen.task seen.live around g e;
        begun = manned.tasks k seen.task seen.live (seen_undeferred k seen);
        ends = (scheduling_right p events s reached k seen.task seen.live).ends;
        variables = in_range k seen.task seen.live;
      }

  -- the current task of a thread has begun, so its region is not joined
  seen_current : (i : ℕ) (k : Tid) → (s.threads i).current ≡ Some k → IsVisibleTask s k
  seen_current i k name =
      let (t, live, un) = names.currents i k name in
      let begun = (current_begun p events s reached i k t name live).0 in
      let (r, found, unjoined) = open_around p events s reached k t live (λ f. begun_finished (sym begun ∙ f)) in
      seen_task k t live un (λ im. visible_open p events s reached t.region r found unjoined)

  pub well_formed : IsWellFormed s
  well_formed = record {
    currents = λ i k known e. seen_current i k e;
    states = λ i known. ((in_tables p events s reached).threads i).1;
    regions = λ n seen. region_right n seen;
    tasks = λ k seen. task_right k seen;
  }

pub reached_well_formed : (p : Program) (events : List (ℕ × Event)) (s : State) → Reached p events s
    → IsWellFormed s
reached_well_formed p events s reached = well_formed p events s reached
