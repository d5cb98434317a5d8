-- Past the last release of a region no explicit task of it lives.
use Rattle.std.proofs.Common.{◌≡◌, ◌⊎◌, inl, inr, ℕ, ◌+◌, ◌<◌, ◌≤◌, Bool, true, false, List, [], ◌∷◌, ◌++◌, slice_index, Some, refl, sym, ap, ◌∙◌, subst, arith}
use Rattle.omi_script.specs.declared.program.Program.{Program}
use Rattle.omi_model.specs.declared.event.Event.{Event}
use Rattle.omi_model.specs.declared.event.Event.TheVariants as event
use Rattle.omi_model.specs.declared.id.Id.{Id}
use Rattle.omi_model.specs.declared.id.Rid.{Rid}
use Rattle.omi_model.specs.declared.id.Tid.{Tid}
use Rattle.omi_model.specs.declared.item.Item.{Item}
use Rattle.omi_model.specs.declared.item.Item.TheVariants as item
use Rattle.omi_model.specs.declared.region.Region.{Region}
use Rattle.omi_model.specs.declared.task.Task.{Task}
use Rattle.omi_model.specs.Barriers.{HasNoExplicit}
use Rattle.omi_model.specs.Changes.{IsCurrent, ahead_of, encounter}
use Rattle.omi_model.specs.LawEnds.{IsLast}
use Rattle.omi_model.specs.LawStays.{Stays, is_free}
use Rattle.omi_model.specs.Lists.{fits, stays, take_item}
use Rattle.omi_model.specs.Opening.{opening}
use Rattle.omi_model.specs.Reached.{Leads, Reached, Step}
use Rattle.omi_model.specs.Rules.{Legal, Rule}
use Rattle.omi_model.specs.State.{State, region_of, task_of}
use Rattle.omi_model.proofs.BarrierCounts.{barriers_of, counted}
use Rattle.omi_model.proofs.BarrierLaw.{Stands, near, number_met, placed}
use Rattle.omi_model.proofs.BarrierOrder.{IsReady, Outside, Phase, Released, Waiting, Wrong, is_barrier_event, is_outside, left, order, take_ready}
use Rattle.omi_model.proofs.BarrierSteps.{Changes, IsUntouched, region_changed}
use Rattle.omi_model.proofs.Covered.{Covers, HasBehind, main_covers, member_covers, stays_covers, take_covers}
use Rattle.omi_model.proofs.EachObject.{EachTask, IsTaskLaw, ahead_of_current, law_of_lasting, over_events, task_step, task_step_from}
use Rattle.omi_model.proofs.LastItems.{Closes, main_closes, member_closes, start_closes, stays_closes, take_closes, task_closes}
use Rattle.omi_model.proofs.ListLaws.{by_taken, is_frees, take_fits, taken_other, taken_plain}
use Rattle.omi_model.proofs.OpenNames.{open_names}
use Rattle.omi_model.proofs.OpeningObjects.{each_first_task}
use Rattle.omi_model.proofs.ReachedStates.{over_reached}
use Rattle.omi_model.proofs.Slots.{false_true, found_live, same_or_not, some_same}
use Rattle.omi_model.proofs.StaysKept.{stays_step}
use Rattle.omi_model.proofs.StaysLater.{stays_leads}
use Rattle.omi_model.proofs.Steps.{IsMove, IsRelisted, is_relisted, move_of, moved_on}

-- ---- lists of implicit tasks

abbrev IsCovered : Program → Tid → Task → Type 0
IsCovered p k t = t.implicit ≡ true → Covers (barriers_of p) t.list

covered_step : (p : Program) (s : State) (i : ℕ) (e : Event) (next : State) → Step p s i e next
    → EachTask (IsCovered p) s → EachTask (IsCovered p) next
covered_step p s i e next step all = task_step p (IsCovered p) s i e next step
    (λ k t y ys is taken h im.
    by_taken p (encounter s i) e t.frees t.list y ys (λ f z zs. Covers (barriers_of p) (stays (encounter s i) f z zs)) taken
    (λ from. stays_covers (barriers_of p) (encounter s i) e y ys (take_covers (barriers_of p) p (encounter s i) e t.list y ys from (h im))) (λ task n. h im)) law all
  where
    law : (middle : State) (y : Item) → IsRelisted s middle → Stays middle next
        → EachTask (IsCovered p) middle → IsTaskLaw p middle i e y next (IsCovered p)
    law middle y before later of_tasks = law_of_lasting p middle i e y next (IsCovered p) (record {
      starts = λ k u j t x is live ex de may of by q im. absurd (false_true (sym ex ∙ im));
      members = λ region team f k t r is found may new of by j m at im. member_covers (barriers_of p) p (record { debug = p.env.debug; number = j; level = r.levels + 1; is_final = false }) f;
      deferred = λ task f final seen k t is of fresh im. absurd (false_true im);
      made = λ task f final k t is of fresh by im. absurd (false_true im);
    })

covered : (p : Program) (events : List (ℕ × Event)) (s : State) → Reached p events s
    → EachTask (IsCovered p) s
covered p events s reached =
    over_events p (EachTask (IsCovered p)) (λ u i e next step h. covered_step p u i e next step h)
    (opening p) events s reached
    (each_first_task p (IsCovered p) (λ im. main_covers (barriers_of p) p (record { debug = p.env.debug; number = 0; level = 0; is_final = false })))

-- ---- regions past their last release

abbrev IsRested : Program → Region → Type 0
IsRested p r = barriers_of p r.function + 1 ≤ r.released

-- a task of such a region is none of its explicit ones
abbrev Rests : Program → State → Tid → Task → Type 0
Rests p s k t = t.implicit ≡ false → (r : Region) → region_of s t.region ≡ Some r → IsRested p r → ⊥

defers_only : (e : Event) (seen f : ℕ) (final : Bool) → fits e (item.Defer seen f final) ≡ true
    → is_barrier_event e ≡ false
defers_only event.Arrive seen f final fit = absurd (false_true fit)
defers_only event.Release seen f final fit = absurd (false_true fit)
defers_only event.Pass seen f final fit = absurd (false_true fit)
defers_only e seen f final fit = refl

starts_now_only : (e : Event) (f : ℕ) (final : Bool) → fits e (item.StartNow f final) ≡ true
    → is_barrier_event e ≡ false
starts_now_only event.Arrive f final fit = absurd (false_true fit)
starts_now_only event.Release f final fit = absurd (false_true fit)
starts_now_only event.Pass f final fit = absurd (false_true fit)
starts_now_only e f final fit = refl

untouched_by : (s : State) (i : ℕ) (e : Event) (n : Rid) (r q : Region) → is_barrier_event e ≡ false
    → Changes s i e n r q → IsUntouched r q
untouched_by s i event.Arrive n r q other change = absurd (false_true (sym other))
untouched_by s i event.Release n r q other change = absurd (false_true (sym other))
untouched_by s i e n r q other change = change

-- the released barriers are as they were, or it was a release and no explicit task of the region lives
raised_by : (s : State) (i : ℕ) (e : Event) (y : Item) → Rule s i e y → (n : Rid) (r q : Region)
    → Changes s i e n r q → (q.released ≡ r.released) ⊎ HasNoExplicit s n
raised_by s i event.Arrive y (k, t, r0, is, found, im) n r q change = inl (change k t is).2
raised_by s i event.Release y (k, t, r0, is, found, may) n r q change = go (same_or_not t.region.0 n.0)
  where
    go : (t.region.0 ≡ n.0) ⊎ (t.region.0 ≡ n.0 → ⊥) → (q.released ≡ r.released) ⊎ HasNoExplicit s n
    go (inl same) = inr (subst (HasNoExplicit s) (ap (λ (a : Id). record { 0 = a }) same) may.alone)
    go (inr other) = inl ((change k t is).1 (λ h. other (ap (λ (a : Rid). a.0) h)))
raised_by s i e y rule n r q change = inl change.1

module _ (p : Program) (events : List (ℕ × Event)) (s : State) (reached : Reached p events s) (i : ℕ)
    (e : Event) (next : State) (step : Step p s i e next) (all : EachTask (Rests p s) s) where
  m : IsMove p s i e next
  m = move_of p s i e next step

  abbrev middle : State
  middle = moved_on s i e m.item m.behind

  before : IsRelisted s middle
  before = is_relisted s i (stays (encounter s i) e m.item m.behind)

  -- the region in the state before
  was : (n : Rid) (q : Region) (r : Region) → region_of s n ≡ Some r → region_of next n ≡ Some q
      → Changes s i e n r q × (q.function ≡ r.function)
  was n q r found found_q =
      let same = (stays_step p s i e next step).alike_regions n r q found found_q in
      (region_changed p s i e next m n r q found found_q, same.function)

  -- a task that makes another one is in no region past its last release
  makes_open : (k : Tid) (t : Task) → IsCurrent s i k t
      → (HasBehind (barriers_of p) m.item m.behind → 0 < left (barriers_of p) m.behind)
      → is_frees m.item ≡ false → is_barrier_event e ≡ false → (q : Region) → region_of next t.region ≡ Some q
      → IsRested p q → ⊥
  makes_open k t is behind makes plain q found_q rested = go t.implicit refl
    where
      taken : take_item p (encounter s i) e t.list ≡ Some (m.item, m.behind)
      taken =
          taken_plain p (encounter s i) e t.frees t.list m.item m.behind makes
          (ap (take_item p (encounter s i) e) (sym (ahead_of_current s i k t is)) ∙ m.taken)

      go : (kind : Bool) → t.implicit ≡ kind → ⊥
      go true im =
          let (r, found, member) = ((placed p events s reached).places k t is.live).0 im in
          let (change, function) = was t.region q r found found_q in
          let released : q.released ≡ r.released = (untouched_by s i e t.region r q plain change).1 in
          let number = number_met s i k t is in
          let ready = subst (λ n. IsReady (barriers_of p) n member.phase member.ahead (m.item ∷ m.behind)) number
          (take_ready p (barriers_of p) (counted p) (encounter s i) e member.phase member.ahead t.list m.item m.behind taken (subst (λ n. IsReady (barriers_of p) n member.phase member.ahead t.list) (sym number) member.ready)) in
          let more : 0 < left (barriers_of p) m.behind =
          behind
          (take_covers (barriers_of p) p (encounter s i) e t.list m.item m.behind taken (covered p events s reached k t is.live im)).0 in
          let above =
          (near member.phase t.number (slice_index r.arrivals t.number) r.released member.stands).0 in
          let count = ready.barriers in
          let sum = member.barriers in
          let same : barriers_of p q.function ≡ barriers_of p r.function = ap (barriers_of p) function in
          let last : barriers_of p q.function + 1 ≤ q.released = rested in
          omega arith
      go false ex =
          let (r, found) = ((open_names p events s reached).tasks k t is.live).region in
          let (change, function) = was t.region q r found found_q in
          let released : q.released ≡ r.released = (untouched_by s i e t.region r q plain change).1 in
          let same : barriers_of p q.function ≡ barriers_of p r.function = ap (barriers_of p) function in
          let now : barriers_of p q.function + 1 ≤ q.released = rested in
          let last : barriers_of p r.function + 1 ≤ r.released = omega (arith, same, now, released) in
          all k t is.live ex r found last

  -- a fact of the current task in the middle, by the state before
  current_before : (k : Tid) (t : Task) → IsCurrent middle i k t
      → (v : Task) × IsCurrent s i k v × (t.region ≡ v.region)
  current_before k t is =
      let (v, xs, live, same) = before.tasks k t is.live in
      let current : IsCurrent s i k v = record { name = sym (before.currents i) ∙ is.name; live = live } in (v, current, ap (λ (x : Task). x.region) same)

  fits_item : (y : Item) → m.item ≡ y → fits e y ≡ true
  fits_item y of =
      subst (λ (x : Item). fits e x ≡ true) of
      (take_fits p (encounter s i) e (ahead_of s i) m.item m.behind m.taken)

  no_new : (k : Tid) (t : Task) → IsCurrent middle i k t → (y : Item) → m.item ≡ y
      → (HasBehind (barriers_of p) y m.behind → 0 < left (barriers_of p) m.behind) → is_frees y ≡ false
      → is_barrier_event e ≡ false → (q : Region) → region_of next t.region ≡ Some q → IsRested p q → ⊥
  no_new k t is y of behind makes plain q found_q rested =
      let (v, current, region) = current_before k t is in
      makes_open k v current
      (λ h. behind (subst (λ (x : Item). HasBehind (barriers_of p) x m.behind) of h)) (ap is_frees of ∙ makes) plain q
      (ap (region_of next) (sym region) ∙ found_q) rested

  no_new_now : (k : Tid) (t : Task) → IsCurrent middle i k t → (f : ℕ) (final : Bool)
      → (m.item ≡ item.StartNow f final) ⊎ ((seen : ℕ) × (m.item ≡ item.Defer seen f final)) → (q : Region)
      → region_of next t.region ≡ Some q → IsRested p q → ⊥
  no_new_now k t is f final (inl of) =
      no_new k t is (item.StartNow f final) of (λ h. h) refl
      (starts_now_only e f final (fits_item (item.StartNow f final) of))
  no_new_now k t is f final (inr (seen, of)) =
      no_new k t is (item.Defer seen f final) of (λ h. h) refl
      (defers_only e seen f final (fits_item (item.Defer seen f final) of))

  rest_law : EachTask (Rests p next) middle → IsTaskLaw p middle i e m.item next (Rests p next)
  rest_law of_tasks = law_of_lasting p middle i e m.item next (Rests p next) (record {
    starts = λ k u j t x is live ex de may of by q. q;
    members = λ region team f k t r is found may new of by j n at ex. absurd (false_true (sym ex));
    deferred = λ task f final seen k t is of fresh ex r found rested.
        no_new k t is (item.Defer seen f final) of (λ h. h) refl (defers_only e seen f final (fits_item (item.Defer seen f final) of)) r found rested;
    made = λ task f final k t is of fresh by ex r found rested. no_new_now k t is f final of r found rested;
  })

  -- a task that was there
  still : (k : Tid) (t : Task) → task_of s k ≡ Some t → Rests p s k t → Rests p next k t
  still k t live h ex q found_q rested =
      let (r, found) = ((open_names p events s reached).tasks k t live).region in
      let (change, function) = was t.region q r found found_q in
      go r found function (raised_by s i e m.item m.rule t.region r q change)
    where
      go : (r : Region) → region_of s t.region ≡ Some r → q.function ≡ r.function
          → (q.released ≡ r.released) ⊎ HasNoExplicit s t.region → ⊥
      go r found function (inl same) =
          let all_of : barriers_of p q.function ≡ barriers_of p r.function = ap (barriers_of p) function in
          let now : barriers_of p q.function + 1 ≤ q.released = rested in
          h ex r found (omega (arith, all_of, now, same))
      go r found function (inr alone) =
          alone k.0.creator k.0.slot t
          (found_live k.0.generation (s.tasks k.0.creator k.0.slot) t live) ex refl

  pub rests_step : EachTask (Rests p next) next
  rests_step =
      task_step_from p (Rests p s) (Rests p next) s i e next m (λ k t is taken q. still k t is.live q)
      (λ k t ne live q. still k t live q) rest_law all

pub rests : (p : Program) (events : List (ℕ × Event)) (s : State) → Reached p events s
    → EachTask (Rests p s) s
rests p events s reached =
    over_reached p (λ u. EachTask (Rests p u) u)
    (λ first u first_reached i e next step h. rests_step p first u first_reached i e next step h) []
    (opening p) refl events s reached
    (each_first_task p (Rests p (opening p)) (λ ex. absurd (false_true (sym ex))))

-- ---- the last event of a member

-- only an implicit task has the end of the program
abbrev pub MayClose : Bool → Item → Type 0
MayClose implicit x = x ≡ item.Done → implicit ≡ true

abbrev HasLast : Tid → Task → Type 0
HasLast k t = Closes (MayClose t.implicit) t.list

lasts_step : (p : Program) (s : State) (i : ℕ) (e : Event) (next : State) → Step p s i e next
    → EachTask HasLast s → EachTask HasLast next
lasts_step p s i e next step all = task_step p HasLast s i e next step
    (λ k t y ys is taken h.
    by_taken p (encounter s i) e t.frees t.list y ys (λ f z zs. Closes (MayClose t.implicit) (stays (encounter s i) f z zs)) taken
    (λ from. stays_closes (MayClose t.implicit) (encounter s i) e y ys (take_closes (MayClose t.implicit) p (encounter s i) e t.list y ys from h)) (λ task n. h)) law all
  where
    law : (middle : State) (y : Item) → IsRelisted s middle → Stays middle next → EachTask HasLast middle
        → IsTaskLaw p middle i e y next HasLast
    law middle y relists later of_tasks = law_of_lasting p middle i e y next HasLast (record {
      starts = λ k u j t x is live ex de may of by q. start_closes (MayClose u.implicit) x (encounter middle i) u.list q;
      members = λ region team f k t r is found may new of by j m at. member_closes (MayClose true) p (record { debug = p.env.debug; number = j; level = r.levels + 1; is_final = false }) f (λ done. refl);
      deferred = λ task f final seen k t is of fresh. task_closes (MayClose false) p (λ done. absurd (cc done)) f;
      made = λ task f final k t is of fresh by. task_closes (MayClose false) p (λ done. absurd (cc done)) f;
    })

lasts : (p : Program) (events : List (ℕ × Event)) (s : State) → Reached p events s → EachTask HasLast s
lasts p events s reached =
    over_events p (EachTask HasLast) (λ u i e next step h. lasts_step p u i e next step h)
    (opening p) events s reached
    (each_first_task p HasLast (main_closes (MayClose true) p (λ done. refl) (record { debug = p.env.debug; number = 0; level = 0; is_final = false })))

pub outside_is : (ph : Phase) → is_outside ph ≡ true → ph ≡ Outside
outside_is Outside h = refl
outside_is Waiting h = absurd (false_true h)
outside_is Released h = absurd (false_true h)
outside_is Wrong h = absurd (false_true h)

-- where the last event of a member stands at the head, the member has no barrier ahead
pub at_the_end : (p : Program) (e : Event) (y : Item) (ys : List Item) (t : Task) (ph : Phase) (w : ℕ)
    → IsLast e → fits e y ≡ true → Closes (MayClose t.implicit) (y ∷ ys)
    → IsReady (barriers_of p) t.number ph w (y ∷ ys) → (w ≡ 0) × (ph ≡ Outside)
at_the_end p (event.ImplicitEnd task) item.ImplicitEnd ys t ph w last fit h ready = ended ys h.1 ready
  where
    ended : (ys : List Item) → ys ≡ [] → IsReady (barriers_of p) t.number ph w (item.ImplicitEnd ∷ ys)
        → (w ≡ 0) × (ph ≡ Outside)
    ended ys none r' =
        (sym (subst (λ zs. left (barriers_of p) (item.ImplicitEnd ∷ zs) ≡ w) none r'.barriers), outside_is ph (subst (λ zs. order t.number ph (item.ImplicitEnd ∷ zs) ≡ true) none r'.in_order))
at_the_end p (event.Join region) item.Join ys t ph w last fit h ready = ended ys h.1 ready
  where
    ended : (ys : List Item) → ys ≡ [] → IsReady (barriers_of p) t.number ph w (item.Join ∷ ys)
        → (w ≡ 0) × (ph ≡ Outside)
    ended ys none r' =
        (sym (subst (λ zs. left (barriers_of p) (item.Join ∷ zs) ≡ w) none r'.barriers), outside_is ph (subst (λ zs. order t.number ph (item.Join ∷ zs) ≡ true) none r'.in_order))
at_the_end p event.Done item.Done ys t ph w last fit h ready = ended ys h.1 ready
  where
    ended : (ys : List Item) → ys ≡ [] → IsReady (barriers_of p) t.number ph w (item.Done ∷ ys)
        → (w ≡ 0) × (ph ≡ Outside)
    ended ys none r' =
        (sym (subst (λ zs. left (barriers_of p) (item.Done ∷ zs) ≡ w) none r'.barriers), outside_is ph (subst (λ zs. order t.number ph (item.Done ∷ zs) ≡ true) none r'.in_order))
at_the_end p (event.ImplicitEnd task) y ys t ph w last fit h ready = absurd (false_true fit)
at_the_end p (event.Join region) y ys t ph w last fit h ready = absurd (false_true fit)
at_the_end p event.Done y ys t ph w last fit h ready = absurd (false_true fit)
at_the_end p e y ys t ph w last fit h ready = absurd last

-- ---- the law

pub leads_append : (p : Program) (s : State) (xs : List (ℕ × Event)) (u : State) (ys : List (ℕ × Event)) (w : State)
    → Leads p s xs u → Leads p u ys w → Leads p s (xs ++ ys) w
leads_append p s [] u ys w same leads = subst (λ x. Leads p x ys w) same leads
leads_append p s (x ∷ xs) u ys w (mid, step, first) leads =
    (mid, step, leads_append p mid xs u ys w first leads)

implicit_last : (p : Program) (s : State) (i : ℕ) (e : Event) (y : Item) (ys : List Item) (k : Tid) (t : Task)
    → IsLast e → fits e y ≡ true → Rule s i e y → IsCurrent s i k t → Closes (MayClose t.implicit) (y ∷ ys)
    → t.implicit ≡ true
implicit_last p s i (event.ImplicitEnd task) y ys k t last fit (k0, t0, r0, is0, found0, may) is h =
    ap (λ (x : Task). x.implicit) (some_same is.live (ap (task_of s) (some_same is.name is0.name) ∙ is0.live))
    ∙ may.implicit
implicit_last p s i (event.Join region) y ys k t last fit (k0, t0, r0, is0, found0, may) is h =
    ap (λ (x : Task). x.implicit) (some_same is.live (ap (task_of s) (some_same is.name is0.name) ∙ is0.live))
    ∙ may.implicit
implicit_last p s i event.Done item.Done ys k t last fit rule is h = h.0 refl
implicit_last p s i event.Done y ys k t last fit rule is h = absurd (false_true fit)
implicit_last p s i e y ys k t last fit rule is h = absurd last

last_other : (e : Event) → IsLast e → is_free e ≡ false
last_other (event.ImplicitEnd task) last = refl
last_other (event.Join region) last = refl
last_other event.Done last = refl
last_other e last = absurd last

-- where the last event of a member is legal, all barriers of its region are released
pub last_rested : (p : Program) (events : List (ℕ × Event)) (s : State) → Reached p events s → (i : ℕ) (e : Event)
    (k : Tid) (t : Task) → IsLast e → Legal p s i e → IsCurrent s i k t
    → (r : Region) × (region_of s t.region ≡ Some r) × (r.released ≡ barriers_of p r.function + 1)
last_rested p events s reached i e k t last legal is =
    let at = encounter s i in
    let taken : take_item p at e t.list ≡ Some (legal.item, legal.behind) =
    taken_other p at e t.frees t.list (legal.item, legal.behind) (last_other e last)
    (ap (take_item p at e) (sym (ahead_of_current s i k t is)) ∙ legal.taken) in
    let fit = take_fits p at e t.list legal.item legal.behind taken in
    let h : Closes (MayClose t.implicit) (legal.item ∷ legal.behind) =
    take_closes (MayClose t.implicit) p at e t.list legal.item legal.behind taken
    (lasts p events s reached k t is.live) in
    let im = implicit_last p s i e legal.item legal.behind k t last fit legal.rule is h in
    let (r, found, member) = ((placed p events s reached).places k t is.live).0 im in
    let number = number_met s i k t is in
    let ready : IsReady (barriers_of p) t.number member.phase member.ahead (legal.item ∷ legal.behind) =
    subst (λ j. IsReady (barriers_of p) j member.phase member.ahead (legal.item ∷ legal.behind)) number
    (take_ready p (barriers_of p) (counted p) at e member.phase member.ahead t.list legal.item legal.behind taken (subst (λ j. IsReady (barriers_of p) j member.phase member.ahead t.list) (sym number) member.ready)) in
    let (none, outside) =
    at_the_end p e legal.item legal.behind t member.phase member.ahead last fit h ready in
    let stood : slice_index r.arrivals t.number ≡ r.released =
    subst (λ ph. Stands ph t.number (slice_index r.arrivals t.number) r.released) outside member.stands in
    let sum = member.barriers in
    let all_released : r.released ≡ barriers_of p r.function + 1 = omega arith in
    (r, found, all_released)

pub regions_end : (p : Program) (events more : List (ℕ × Event)) (s u : State) → Reached p events s
    → (i : ℕ) (e : Event) (k : Tid) (t : Task) → IsLast e → Legal p s i e → IsCurrent s i k t
    → Leads p s more u
    → (n : Tid) (v : Task) → task_of u n ≡ Some v → v.implicit ≡ false → v.region ≡ t.region → ⊥
regions_end p events more s u reached i e k t last legal is leads n v live ex region =
    let (r, found, stood) = last_rested p events s reached i e k t last legal is in
    let reached_u : Reached p (events ++ more) u = leads_append p (opening p) events s more u reached leads in
    let (q, found_q) = ((open_names p (events ++ more) u reached_u).tasks n v live).region in
    let same = (stays_leads p s more u leads).alike_regions t.region r q found (ap (region_of u) (sym region) ∙ found_q) in
    let function : barriers_of p q.function ≡ barriers_of p r.function = ap (barriers_of p) same.function in
    let rested : barriers_of p q.function + 1 ≤ q.released = omega (arith, function, same.released, stood) in
    rests p (events ++ more) u reached_u n v live ex q found_q rested
