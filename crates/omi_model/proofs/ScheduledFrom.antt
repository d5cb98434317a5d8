-- The scheduling task of a task: its generating task, or, of an explicit task, the owner of its group or a live implicit one of its region.
use Rattle.std.proofs.Common.{◌≡◌, ◌==◌, ◌⊎◌, inl, inr, ℕ, Bool, true, false, List, [], Option, Some, None, if◌then◌else◌, refl, sym, ap, ◌∙◌, subst}
use Rattle.omi_script.specs.declared.program.Program.{Program}
use Rattle.omi_model.specs.declared.event.Event.{Event}
use Rattle.omi_model.specs.declared.event.Event.TheVariants as event
use Rattle.omi_model.specs.declared.freeable.Freeable.{Freeable}
use Rattle.omi_model.specs.declared.group.Group.{Group}
use Rattle.omi_model.specs.declared.id.Rid.{Rid}
use Rattle.omi_model.specs.declared.id.Tid.{Tid}
use Rattle.omi_model.specs.declared.item.Item.{Item}
use Rattle.omi_model.specs.declared.item.Item.TheVariants as item
use Rattle.omi_model.specs.declared.task.Task.{Task}
use Rattle.omi_model.specs.Changes.{IsCurrent, encounter}
use Rattle.omi_model.specs.Groups.{IsInInnermost}
use Rattle.omi_model.specs.LawScheduling.{IsInBarrier}
use Rattle.omi_model.specs.LawStays.{Stays}
use Rattle.omi_model.specs.Lists.{fits, stays, take_item}
use Rattle.omi_model.specs.Opening.{opening}
use Rattle.omi_model.specs.Reached.{Reached, Step}
use Rattle.omi_model.specs.State.{State, task_of}
use Rattle.omi_model.specs.Tasking.{MayStartAt}
use Rattle.omi_model.proofs.ChainsKept.{current_begun}
use Rattle.omi_model.proofs.Innermost.{innermost_own}
use Rattle.omi_model.proofs.EachObject.{EachTask, IsTaskLaw, ahead_of_current, law_of_lasting, task_step_from}
use Rattle.omi_model.proofs.ListLaws.{take_fits, taken_plain}
use Rattle.omi_model.proofs.OpeningObjects.{each_first_task}
use Rattle.omi_model.proofs.ReachedStates.{over_reached}
use Rattle.omi_model.proofs.Scheduling.{at_item}
use Rattle.omi_model.proofs.Slots.{false_true, none_some, some_same}
use Rattle.omi_model.proofs.StaysKept.{needed_begun, stays_step}
use Rattle.omi_model.proofs.Steps.{IsMove, IsRelisted, is_relisted, move_of, moved_on, relisted_to}

-- the wait at which a task starts is taken by a start
starts_only : (e : Event) (state : ℕ) → fits e (item.Tasks state) ≡ true
    → (task : Tid) × (e ≡ event.Start task)
starts_only (event.Start task) state fit = (task, refl)
starts_only e state fit = absurd (false_true fit)

-- a live implicit task of a region
abbrev pub IsLiveImplicit : State → Tid → Rid → Type 0
IsLiveImplicit s k region = (v : Task) × (task_of s k ≡ Some v) × (v.implicit ≡ true) × (v.region ≡ region)

-- the group of a task is of this owner
abbrev pub IsOwnedBy : Task → Tid → Type 0
IsOwnedBy t n = (g : Group) × (t.group ≡ Some g) × (g.owner ≡ n)

abbrev pub IsScheduledFrom : State → Tid → Task → Type 0
IsScheduledFrom s k t = (n : Tid) → t.scheduling ≡ Some n
    → (t.generating ≡ Some n) ⊎ (IsOwnedBy t n ⊎ ((t.implicit ≡ false) × IsLiveImplicit s n t.region))

-- a task was made by this one, is a member of a group of this one, or is of the region of this live implicit one
abbrev pub IsStartedUnder : State → Tid → Task → Type 0
IsStartedUnder s j u = (u.generating ≡ Some j) ⊎ (IsOwnedBy u j ⊎ IsLiveImplicit s j u.region)

module _ (p : Program) (events : List (ℕ × Event)) (s : State) (reached : Reached p events s) (i : ℕ)
    (e : Event) (next : State) (step : Step p s i e next) (m : IsMove p s i e next) where
  abbrev middle : State
  middle = moved_on s i e m.item m.behind

  stay : Stays s next
  stay = stays_step p s i e next step

  before : IsRelisted s middle
  before = is_relisted s i (stays (encounter s i) e m.item m.behind)

  -- the current task, in the state before
  pub was : (k : Tid) (t : Task) → IsCurrent middle i k t
      → (v : Task) × (xs : Option Freeable × List Item) × IsCurrent s i k v × (t ≡ relisted_to xs v)
  was k t is =
      let (v, xs, live, same) = before.tasks k t is.live in
      let current : IsCurrent s i k v = record { name = sym (before.currents i) ∙ is.name; live = live } in (v, xs, current, same)

  -- a task starts from this item under the current one
  under : (x : Item) → m.item ≡ x → (k : Tid) (t : Task) → IsCurrent s i k t → (u : Task) → MayStartAt x k t u
      → (u.generating ≡ Some k) ⊎ (IsInInnermost k t u ⊎ (IsInBarrier t × (u.region ≡ t.region)))
  under (item.Tasks state) of k t is u may =
      let taken : take_item p (encounter s i) e t.list ≡ Some (item.Tasks state, m.behind) =
      taken_plain p (encounter s i) e t.frees t.list (item.Tasks state) m.behind refl
      (ap (take_item p (encounter s i) e) (sym (ahead_of_current s i k t is))
      ∙ (m.taken ∙ ap (λ (y : Item). Some (y, m.behind)) of)) in
      let (task, starts) =
      starts_only e state (take_fits p (encounter s i) e t.list (item.Tasks state) m.behind taken) in
      at_item p events s reached (item.Tasks state) m.behind k t u i task
      (subst (λ (x : Event). take_item p (encounter s i) x t.list ≡ Some (item.Tasks state, m.behind)) starts taken) is.live may
  under item.OneTask of k t is u may = inl may
  under x of k t is u may = absurd may

  may_before : (x : Item) (j : Tid) (t v u : Task) (xs : Option Freeable × List Item) → t ≡ relisted_to xs v → MayStartAt x j t u
      → MayStartAt x j v u
  may_before (item.Tasks state) j t v u xs same may =
      subst (λ (y : Task). MayStartAt (item.Tasks state) j y u) same may
  may_before item.OneTask j t v u xs same may = may
  may_before x j t v u xs same may = absurd may

  -- a task that starts is scheduled from its generating task, or from an implicit task of its region
  pub starts_under : (x : Item) → m.item ≡ x → (j : Tid) (t : Task) → IsCurrent middle i j t → (u : Task)
      → MayStartAt x j t u → IsStartedUnder next j u
  starts_under x of j t is u may =
      let (v, xs, current, same) = was j t is in
      go v current (under x of j v current u (may_before x j t v u xs same may))
    where
      go : (v : Task) → IsCurrent s i j v
          → (u.generating ≡ Some j) ⊎ (IsInInnermost j v u ⊎ (IsInBarrier v × (u.region ≡ v.region)))
          → IsStartedUnder next j u
      go v current (inl by) = inl by
      go v current (inr (inl (g, innermost_is, member))) = inr (inl (g, member, (innermost_own j v g innermost_is).0))
      go v current (inr (inr (barrier, region))) =
          let (w, found, kept) = stay.tasks j v current.live (needed_begun s j v (current_begun p events s reached i j v current.name current.live).0) in
          inr (inr (w, found, kept.implicit ∙ barrier.implicit, kept.region ∙ sym region))

  from_current : (j : Tid) (u : Task) → u.implicit ≡ false → IsStartedUnder next j u → (n : Tid)
      → ◌≡◌ {A = Option Tid} (Some j) (Some n)
      → (u.generating ≡ Some n) ⊎ (IsOwnedBy u n ⊎ ((u.implicit ≡ false) × IsLiveImplicit next n u.region))
  from_current j u ex (inl by) n is = inl (by ∙ is)
  from_current j u ex (inr (inl (g, member, own))) n is = inr (inl (g, member, own ∙ some_same refl is))
  from_current j u ex (inr (inr (v, found, im, region))) n is =
      inr (inr (ex, (v, ap (task_of next) (sym (some_same refl is)) ∙ found, im, region)))

  from_law : EachTask (IsScheduledFrom next) middle
      → IsTaskLaw p middle i e m.item next (IsScheduledFrom next)
  from_law all = law_of_lasting p middle i e m.item next (IsScheduledFrom next) (record {
    starts = λ k u j t x is live ex de may of by q. from_current j u ex (starts_under x of j t is u may);
    members = λ region team f k t r is found may new of by j n at. of_first region (j == 0) k;
    deferred = λ task f final seen k t is of fresh n from. absurd (none_some refl from);
    made = λ task f final k t is of fresh by n from. inl from;
  })
    where
      of_first : (region : Rid) (b : Bool) (k n : Tid) → (if b then Some k else None) ≡ Some n
          → (◌≡◌ {A = Option Tid} (Some k) (Some n))
          ⊎ (((g : Group) × (◌≡◌ {A = Option Group} None (Some g)) × (g.owner ≡ n)) ⊎ ((true ≡ false) × IsLiveImplicit next n region))
      of_first region true k n from = inl from
      of_first region false k n from = absurd (none_some refl from)

  from_step : EachTask (IsScheduledFrom s) s → EachTask (IsScheduledFrom next) next
  from_step all =
      task_step_from p (IsScheduledFrom next) (IsScheduledFrom next) s i e next m (λ k t is taken q. q)
      (λ k t ne live q. q) from_law (λ k t live n is. later k t live n (all k t live n is))
    where
      later : (k : Tid) (t : Task) → task_of s k ≡ Some t → (n : Tid)
          → (t.generating ≡ Some n) ⊎ (IsOwnedBy t n ⊎ ((t.implicit ≡ false) × IsLiveImplicit s n t.region))
          → (t.generating ≡ Some n) ⊎ (IsOwnedBy t n ⊎ ((t.implicit ≡ false) × IsLiveImplicit next n t.region))
      later k t live n (inl by) = inl by
      later k t live n (inr (inl own)) = inr (inl own)
      later k t live n (inr (inr (ex, (v, found, im, region)))) =
          let (w, found_w, same) = stay.tasks n v found (inl (im, inr (inl (k, t, live, ex, sym region)))) in
          inr (inr (ex, (w, found_w, same.implicit ∙ im, same.region ∙ region)))

pub scheduled_from : (p : Program) (events : List (ℕ × Event)) (s : State) → Reached p events s
    → EachTask (IsScheduledFrom s) s
scheduled_from p events s reached =
    over_reached p (λ v. EachTask (IsScheduledFrom v) v)
    (λ first u first_reached i e next step h. from_step p first u first_reached i e next step (move_of p u i e next step) h) []
    (opening p) refl events s reached
    (each_first_task p (IsScheduledFrom (opening p)) (λ n from. absurd (none_some refl from)))
