-- Scheduling tasks: each is the generating task, the owner of the task's group or a member of the region, and their chains end.
use Rattle.std.proofs.Common.{◌≡◌, ◌==◌, ◌⊎◌, inl, inr, ℕ, zero, suc, Bool, true, false, List, [], Option, Some, None, if◌then◌else◌, refl, sym, ap, ◌∙◌}
use Rattle.std.specs.Option.{option_and_then}
use Rattle.omi_script.specs.declared.program.Program.{Program}
use Rattle.omi_model.specs.declared.event.Event.{Event}
use Rattle.omi_model.specs.declared.group.Group.{Group}
use Rattle.omi_model.specs.declared.id.Tid.{Tid}
use Rattle.omi_model.specs.declared.item.Item.{Item}
use Rattle.omi_model.specs.declared.progress.Progress.{Progress}
use Rattle.omi_model.specs.declared.progress.Progress.TheVariants.{Begun, Deferred, NotBegun}
use Rattle.omi_model.specs.declared.task.Task.{Task}
use Rattle.omi_model.specs.Changes.{IsCurrent}
use Rattle.omi_model.specs.LawNames.{IsLiveTask}
use Rattle.omi_model.specs.LawScheduling.{IsScheduled, IsScheduledRightly, IsUnderOwner}
use Rattle.omi_model.specs.LawStays.{IsNeeded, Stays}
use Rattle.omi_model.specs.Opening.{opening}
use Rattle.omi_model.specs.Reached.{Reached, Step}
use Rattle.omi_model.specs.State.{State, scheduling_of, task_of}
use Rattle.omi_model.specs.Tasking.{MayStartAt}
use Rattle.omi_model.specs.WellFormed.{Ends, along}
use Rattle.omi_model.proofs.ChainsKept.{current_begun}
use Rattle.omi_model.proofs.EachObject.{EachTask, IsTaskLaw, task_step_from, stays_after}
use Rattle.omi_model.proofs.OpenNames.{AreOpenNamesLive, open_names}
use Rattle.omi_model.proofs.NeededTasks.{needed_scheduling}
use Rattle.omi_model.proofs.OpeningObjects.{each_first_task}
use Rattle.omi_model.proofs.ReachedStates.{over_reached}
use Rattle.omi_model.proofs.ScheduledFrom.{IsStartedUnder, starts_under, was}
use Rattle.omi_model.proofs.Slots.{false_true, none_some}
use Rattle.omi_model.proofs.StaysKept.{needed_begun, stays_step}
use Rattle.omi_model.proofs.Steps.{IsMove, move_of, moved_on}

begun_not_deferred : (q : Progress) → q ≡ Begun → q ≡ Deferred → ⊥
begun_not_deferred q a b = cc

-- ---- chains in a later state

module _ (p : Program) (events : List (ℕ × Event)) (s : State) (reached : Reached p events s) (u : State)
    (stay : Stays s u) where
  names : AreOpenNamesLive s
  names = open_names p events s reached

  pub chain_stays : (m : ℕ) (o : Option Tid) → ((k : Tid) → o ≡ Some k → IsLiveTask s k)
      → ((k : Tid) (t : Task) → o ≡ Some k → task_of s k ≡ Some t → IsNeeded s k t)
      → along (scheduling_of u) m o ≡ along (scheduling_of s) m o
  chain_stays zero o live need = refl
  chain_stays (suc m) None live need =
      chain_stays m None (λ k e. absurd (none_some refl e)) (λ k t e found. absurd (none_some refl e))
  chain_stays (suc m) (Some k) live need =
      let (t, found, un) = live k refl in
      let (v, found_v, same) = stay.tasks k t found (need k t refl found) in
      let here : scheduling_of s k ≡ t.scheduling = ap (option_and_then (λ (x : Task). x.scheduling)) found in
      let there : scheduling_of u k ≡ t.scheduling =
      ap (option_and_then (λ (x : Task). x.scheduling)) found_v ∙ same.scheduling un in
      ap (along (scheduling_of u) m) there
      ∙
      (chain_stays m t.scheduling (names.tasks k t found).scheduling (λ n w is found_w. needed_scheduling p events s reached k t found n w is found_w) ∙ ap (along (scheduling_of s) m) (sym here))

  ends_later : (k : Tid) (t : Task) → task_of s k ≡ Some t → Ends (scheduling_of s) t.scheduling
      → Ends (scheduling_of u) t.scheduling
  ends_later k t live (m, e) =
      (m, chain_stays m t.scheduling (names.tasks k t live).scheduling (λ n w is found. needed_scheduling p events s reached k t live n w is found) ∙ e)

rightly_later : (s u : State) → Stays s u → (k : Tid) (t : Task) → task_of s k ≡ Some t → IsScheduledRightly s t
    → IsScheduledRightly u t
rightly_later s u stay k t live h ex un = go (h ex un)
  where
    go : (t.scheduling ≡ t.generating) ⊎ (IsUnderOwner t ⊎ ((k : Tid) × (v : Task) × (t.scheduling ≡ Some k) × (task_of s k ≡ Some v) × (v.implicit ≡ true) × (v.region ≡ t.region)))
        → (t.scheduling ≡ t.generating) ⊎ (IsUnderOwner t ⊎ ((k : Tid) × (v : Task) × (t.scheduling ≡ Some k) × (task_of u k ≡ Some v) × (v.implicit ≡ true) × (v.region ≡ t.region)))
    go (inl e) = inl e
    go (inr (inl under)) = inr (inl under)
    go (inr (inr (n, v, is, found, im, region))) =
        let (w, found_w, same) = stay.tasks n v found (inl (im, inr (inl (k, t, live, ex, sym region)))) in
        inr (inr (n, w, is, found_w, same.implicit ∙ im, same.region ∙ region))

-- the owner of a task's group, as the task that it is scheduled from
abbrev UnderOwner : Tid → Task → Type 0
UnderOwner j u = (g : Group) × (u.group ≡ Some g) × (◌≡◌ {A = Option Tid} (Some j) (Some g.owner))

module _ (p : Program) (events : List (ℕ × Event)) (s : State) (reached : Reached p events s) (i : ℕ)
    (e : Event) (next : State) (step : Step p s i e next) (all : EachTask (λ k u. IsScheduled s u) s) where
  m : IsMove p s i e next
  m = move_of p s i e next step

  abbrev middle : State
  middle = moved_on s i e m.item m.behind

  stay : Stays s next
  stay = stays_step p s i e next step

  later : Stays middle next
  later = stays_after p s i e next m

  begun : (k : Tid) (t : Task) → IsCurrent middle i k t → t.progress ≡ Begun
  begun k t is =
      let (v, xs, current, same) = was p events s reached i e next step m k t is in
      ap (λ (x : Task). x.progress) same ∙ (current_begun p events s reached i k v current.name current.live).0

  started : (k : Tid) (t : Task) → IsCurrent middle i k t → t.progress ≡ Deferred → ⊥
  started k t is d = begun_not_deferred t.progress (begun k t is) d

  ends_current : EachTask (λ k u. IsScheduled next u) middle → (k : Tid) (t : Task) → IsCurrent middle i k t
      → Ends (scheduling_of next) (Some k)
  ends_current of_tasks k t is =
      let (n, e') = (of_tasks k t is.live).ends in
      let (v, found, same) = later.tasks k t is.live (needed_begun middle k t (begun k t is)) in
      (suc n, ap (along (scheduling_of next) n) (ap (option_and_then (λ (x : Task). x.scheduling)) found ∙ same.scheduling (started k t is)) ∙ e')

  law : EachTask (λ k u. IsScheduled next u) middle
      → IsTaskLaw p middle i e m.item next (λ k u. IsScheduled next u)
  law of_tasks = record {
    frees = λ k t free how q. record { rightly = q.rightly; ends = q.ends };
    shows = λ k t x q. record { rightly = q.rightly; ends = q.ends };
    tools = λ k t x q. record { rightly = q.rightly; ends = q.ends };
    groups = λ k t count is how q. record { rightly = q.rightly; ends = q.ends };
    sets = λ k t icv value v f at_set q. record { rightly = q.rightly; ends = q.ends };
    begins = λ k t waits mine by q. record { rightly = λ ex un. q.rightly ex (λ d. waits_not t waits d); ends = q.ends };
    finishes = λ k t is over q. record { rightly = λ ex un. q.rightly ex (started k t is); ends = q.ends };
    starts = λ k u j t x is live ex de may of by q. record { rightly = λ ex' un. under_here x of j t is u may; ends = ends_current of_tasks j t is };
    members = λ region team f k t r is found may new of by j n at. record { rightly = λ ex un. absurd (false_true (sym ex)); ends = of_first (j == 0) k (ends_current of_tasks k t is) };
    deferred = λ task f final seen k t is of fresh. record { rightly = λ ex un. absurd (un refl); ends = (0, refl) };
    made = λ task f final k t is of fresh by. record { rightly = λ ex un. inl refl; ends = ends_current of_tasks k t is };
  }
    where
      waits_not : (t : Task) → t.progress ≡ NotBegun → t.progress ≡ Deferred → ⊥
      waits_not t a d = cc

      of_first : (b : Bool) (k : Tid) → Ends (scheduling_of next) (Some k)
          → Ends (scheduling_of next) (if b then Some k else None)
      of_first true k h = h
      of_first false k h = (0, refl)

      under_here : (x : Item) → m.item ≡ x → (j : Tid) (t : Task) → IsCurrent middle i j t → (u : Task)
          → MayStartAt x j t u
          → (◌≡◌ {A = Option Tid} (Some j) u.generating) ⊎ (UnderOwner j u ⊎ ((k : Tid) × (v : Task) × (◌≡◌ {A = Option Tid} (Some j) (Some k)) × (task_of next k ≡ Some v) × (v.implicit ≡ true) × (v.region ≡ u.region)))
      under_here x of j t is u may = go (starts_under p events s reached i e next step m x of j t is u may)
        where
          go : IsStartedUnder next j u
              → (◌≡◌ {A = Option Tid} (Some j) u.generating) ⊎ (UnderOwner j u ⊎ ((k : Tid) × (v : Task) × (◌≡◌ {A = Option Tid} (Some j) (Some k)) × (task_of next k ≡ Some v) × (v.implicit ≡ true) × (v.region ≡ u.region)))
          go (inl by) = inl (sym by)
          go (inr (inl (g, member, own))) = inr (inl (g, member, ap (λ (x : Tid). Some x) (sym own)))
          go (inr (inr (v, found, im, region))) = inr (inr (j, v, refl, found, im, region))

  pub scheduled_step : EachTask (λ k u. IsScheduled next u) next
  scheduled_step =
      task_step_from p (λ k u. IsScheduled next u) (λ k u. IsScheduled next u) s i e next m
      (λ k t is taken q. record { rightly = q.rightly; ends = q.ends }) (λ k t ne live q. q) law
      (λ k t live. record {
        rightly = rightly_later s next stay k t live (all k t live).rightly;
        ends = ends_later p events s reached next stay k t live (all k t live).ends;
      })

-- ---- every reached state

pub scheduling_right : (p : Program) (events : List (ℕ × Event)) (s : State) → Reached p events s
    → (k : Tid) (u : Task) → task_of s k ≡ Some u → IsScheduled s u
scheduling_right p events s reached =
    over_reached p (λ v. EachTask (λ k u. IsScheduled v u) v)
    (λ before u before_reached i e next step h. scheduled_step p before u before_reached i e next step h) []
    (opening p) refl events s reached
    (each_first_task p (λ k u. IsScheduled (opening p) u) (record { rightly = λ ex un. absurd (false_true (sym ex)); ends = (0, refl) }))
