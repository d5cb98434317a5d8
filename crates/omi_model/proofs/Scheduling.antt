-- The task scheduling constraint over every event.
use Rattle.std.proofs.Common.{◌≡◌, ◌==◌, ◌+◌, ◌⊎◌, inl, inr, ℕ, Bool, true, false, List, [], ◌∷◌, Some, None, MatchBool, refl, sym, ap, ◌∙◌, subst, zero, suc, eq-eqb, if◌then◌else◌}
use Rattle.omi_script.specs.declared.program.Program.{Program}
use Rattle.omi_script.specs.declared.statement.Stmt.{Stmt}
use Rattle.omi_script.specs.declared.statement.Stmt.TheVariants as stmt
use Rattle.omi_model.specs.declared.encounter.Encounter.{Encounter}
use Rattle.omi_model.specs.declared.event.Event.{Event}
use Rattle.omi_model.specs.declared.event.Event.TheVariants as event
use Rattle.omi_model.specs.declared.freeable.Freeable.TheVariants as freeable
use Rattle.omi_model.specs.declared.id.Tid.{Tid}
use Rattle.omi_model.specs.declared.item.Item.{Item}
use Rattle.omi_model.specs.declared.item.Item.TheVariants as item
use Rattle.omi_model.specs.declared.task.Task.{Task}
use Rattle.omi_model.specs.Changes.{IsCurrent, encounter}
use Rattle.omi_model.specs.Groups.{IsInInnermost}
use Rattle.omi_model.specs.LawScheduling.{IsInBarrier, passes_next}
use Rattle.omi_model.specs.LawStays.{Stays}
use Rattle.omi_model.specs.Lists.{fits, may_drop, opened, take_item, stays}
use Rattle.omi_model.specs.Rows.{first_of}
use Rattle.omi_numbers.specs.declared.states.TheConstants.{WAIT_TASKGROUP, WAIT_TASKWAIT}
use Rattle.omi_model.specs.Opening.{opening}
use Rattle.omi_model.specs.Reached.{Reached, Step}
use Rattle.omi_model.specs.Rules.{Legal}
use Rattle.omi_model.specs.State.{State, task_of}
use Rattle.omi_model.specs.Tasking.{MayStartAt}
use Rattle.omi_model.proofs.BarrierLaw.{placed}
use Rattle.omi_model.proofs.BarrierOrder.{Outside, order, wrong}
use Rattle.omi_model.proofs.EachObject.{EachTask, IsTaskLaw, ahead_of_current, law_of_lasting, over_events, task_step}
use Rattle.omi_model.proofs.OpeningObjects.{each_first_task}
use Rattle.omi_model.proofs.Slots.{false_true, none_some, some_same}
use Rattle.omi_model.proofs.Steps.{IsRelisted}
use Rattle.omi_model.proofs.WaitLists.{Waits, main_waits, member_waits, start_waits, stays_waits, take_waits, task_waits}
use Rattle.omi_model.proofs.ListLaws.{by_taken, taken_other}

abbrev TaskWaits : Tid → Task → Type 0
TaskWaits k t = Waits t.list

waits_step : (p : Program) (s : State) (i : ℕ) (e : Event) (next : State) → Step p s i e next
    → EachTask TaskWaits s → EachTask TaskWaits next
waits_step p s i e next step all = task_step p TaskWaits s i e next step
    (λ k t y ys is taken h.
    by_taken p (encounter s i) e t.frees t.list y ys (λ f z zs. Waits (stays (encounter s i) f z zs)) taken
    (λ from. stays_waits (encounter s i) e y ys (take_waits p (encounter s i) e t.list y ys from h)) (λ task n. h)) law all
  where
    law : (middle : State) (y : Item) → IsRelisted s middle → Stays middle next → EachTask TaskWaits middle
        → IsTaskLaw p middle i e y next TaskWaits
    law middle y before later of_tasks = law_of_lasting p middle i e y next TaskWaits (record {
      starts = λ k u j t x is live ex de may of by q. start_waits x (encounter middle i) u.list q;
      members = λ region team f k t r is found may new of by j m at. member_waits p (record { debug = p.env.debug; number = j; level = r.levels + 1; is_final = false }) f;
      deferred = λ task f final seen k t is of fresh. task_waits p f;
      made = λ task f final k t is of fresh by. task_waits p f;
    })

pub waits_reached : (p : Program) (events : List (ℕ × Event)) (s : State) → Reached p events s
    → EachTask TaskWaits s
waits_reached p events s reached =
    over_events p (EachTask TaskWaits) (λ u i e next step h. waits_step p u i e next step h)
    (opening p) events s reached
    (each_first_task p TaskWaits (main_waits p (record { debug = p.env.debug; number = 0; level = 0; is_final = false })))

-- a list that stands in a barrier is none of an explicit task
not_outside : (n : ℕ) (xs : List Item) → passes_next xs ≡ true → order n Outside xs ≡ true → ⊥
not_outside n [] h o = false_true h
not_outside n (item.Release ∷ xs) h o = wrong n xs o
not_outside n (item.Pass ∷ xs) h o = wrong n xs o
not_outside n (item.Arrive ∷ xs) h o = false_true h
not_outside n (item.Do s ∷ xs) h o = false_true h
not_outside n (x ∷ xs) h o = not_outside n xs h o

-- ---- where a start is legal

first_fits : (at : Encounter) (task : Tid) (s : Stmt) → fits (event.Start task) (first_of at s) ≡ true → ⊥
first_fits at task (stmt.Only m f) h = go (at.number == m) h
  where
    go : (b : Bool) → fits (event.Start task) (if b then item.Call f else item.Skip) ≡ true → ⊥
    go true e = false_true e
    go false e = false_true e
first_fits at task (stmt.Repeat zero f) h = false_true h
first_fits at task (stmt.Repeat (suc n) f) h = false_true h
first_fits at task s h = false_true h

-- a list from which such an event takes a wait stands in the barrier in which the wait does
module _ (p : Program) (at : Encounter) (task : Tid) (state : ℕ) (ys : List Item)
    (passes : passes_next ys ≡ true) where
  head_passes : (x : Item) (xs : List Item) → fits (event.Start task) (opened p at x xs).0 ≡ true
      → opened p at x xs ≡ (item.Tasks state, ys) → passes_next (x ∷ xs) ≡ true
  head_passes (item.Do s) xs fit is = absurd (first_fits at task s fit)
  head_passes (item.Tasks w) xs fit is = ap passes_next (ap (λ (o : Item × List Item). o.1) is) ∙ passes
  head_passes item.OneTask xs fit is =
      absurd (let same : item.OneTask ≡ item.Tasks state = ap (λ (o : Item × List Item). o.0) is in cc)
  head_passes x xs fit is = absurd (false_true fit)

  drop_passes : (x : Item) (xs : List Item) → may_drop x ≡ true → passes_next xs ≡ true
      → passes_next (x ∷ xs) ≡ true
  drop_passes item.Asks xs may h = h
  drop_passes (item.Tasks w) xs may h = h
  drop_passes item.OneTask xs may h = h
  drop_passes (item.Frees (freeable.Finished n)) xs may h = h
  drop_passes x xs may h = absurd (false_true may)

  passes_back : (xs : List Item) → take_item p at (event.Start task) xs ≡ Some (item.Tasks state, ys)
      → passes_next xs ≡ true
  passes_back [] is = absurd (none_some refl is)
  passes_back (x ∷ xs) is = fit (passes_back xs) (fits (event.Start task) (opened p at x xs).0) refl is
    where
      dropped : (take_item p at (event.Start task) xs ≡ Some (item.Tasks state, ys) → passes_next xs ≡ true)
          → (d : Bool) → may_drop x ≡ d
          → (if d then take_item p at (event.Start task) xs else None) ≡ Some (item.Tasks state, ys)
          → passes_next (x ∷ xs) ≡ true
      dropped more true may t = drop_passes x xs may (more t)
      dropped more false may t = absurd (none_some refl t)

      fit : (take_item p at (event.Start task) xs ≡ Some (item.Tasks state, ys) → passes_next xs ≡ true)
          → (d : Bool) → fits (event.Start task) (opened p at x xs).0 ≡ d
          → (if d then Some (opened p at x xs) else (if may_drop x then take_item p at (event.Start task) xs else None)) ≡ Some (item.Tasks state, ys) → passes_next (x ∷ xs) ≡ true
      fit more true f t = head_passes x xs f (some_same refl t)
      fit more false f t = dropped more (may_drop x) refl t

module _ (p : Program) (events : List (ℕ × Event)) (s : State) (reached : Reached p events s) where
  -- a current task whose list stands in a barrier is a member
  in_barrier : (k : Tid) (t : Task) → task_of s k ≡ Some t → passes_next t.list ≡ true → IsInBarrier t
  in_barrier k t live passes = go t.implicit refl
    where
      go : (kind : Bool) → t.implicit ≡ kind → IsInBarrier t
      go true im = record { implicit = im; passes = passes }
      go false ex =
          absurd
          (not_outside t.number t.list passes (((placed p events s reached).places k t live).1 ex).in_order)

  pub at_item : (x : Item) (ys : List Item) (k : Tid) (t u : Task) (i : ℕ) (task : Tid)
      → take_item p (encounter s i) (event.Start task) t.list ≡ Some (x, ys) → task_of s k ≡ Some t
      → MayStartAt x k t u
      → (u.generating ≡ Some k) ⊎ (IsInInnermost k t u ⊎ (IsInBarrier t × (u.region ≡ t.region)))
  at_item (item.Tasks state) ys k t u i task taken live may =
      go (state == WAIT_TASKWAIT) refl (state == WAIT_TASKGROUP) refl may
    where
      waits : Waits (item.Tasks state ∷ ys)
      waits =
          take_waits p (encounter s i) (event.Start task) t.list (item.Tasks state) ys taken
          (waits_reached p events s reached k t live)

      in_wait : state == WAIT_TASKWAIT ≡ false → state == WAIT_TASKGROUP ≡ false
          → (state ≡ WAIT_TASKWAIT) ⊎ ((state ≡ WAIT_TASKGROUP) ⊎ (passes_next ys ≡ true))
          → passes_next ys ≡ true
      in_wait e f (inl same) = absurd (false_true (sym e ∙ eq-eqb state WAIT_TASKWAIT same))
      in_wait e f (inr (inl same)) = absurd (false_true (sym f ∙ eq-eqb state WAIT_TASKGROUP same))
      in_wait e f (inr (inr passes)) = passes

      go : (b : Bool) → state == WAIT_TASKWAIT ≡ b → (c : Bool) → state == WAIT_TASKGROUP ≡ c
          → MatchBool b (u.generating ≡ Some k) (MatchBool c (IsInInnermost k t u) (u.region ≡ t.region))
          → (u.generating ≡ Some k) ⊎ (IsInInnermost k t u ⊎ (IsInBarrier t × (u.region ≡ t.region)))
      go true e c f h = inl h
      go false e true f h = inr (inl h)
      go false e false f h =
          inr
          (inr (in_barrier k t live (passes_back p (encounter s i) task state ys (in_wait e f waits.0) t.list taken), h))
  at_item item.OneTask ys k t u i task taken live may = inl may
  at_item x ys k t u i task taken live may = absurd may

  pub starts_constrained : (i : ℕ) (task k : Tid) (t u : Task) → Legal p s i (event.Start task)
      → IsCurrent s i k t → task_of s task ≡ Some u
      → (u.generating ≡ Some k) ⊎ (IsInInnermost k t u ⊎ (IsInBarrier t × (u.region ≡ t.region)))
  starts_constrained i task k t u legal is live =
      let (k0, t0, is0, may) = legal.rule in
      let one_name : k0 ≡ k = some_same is0.name is.name in
      let one : t0 ≡ t = some_same is0.live (ap (task_of s) one_name ∙ is.live) in
      let new : may.new ≡ u = some_same may.live live in
      let allowed : MayStartAt legal.item k t u =
      subst (λ (a : Tid). MayStartAt legal.item a t u) one_name
      (subst (λ (x : Task). MayStartAt legal.item k0 x u) one (subst (MayStartAt legal.item k0 t0) new may.allowed)) in
      at_item legal.item legal.behind k t u i task
      (taken_other p (encounter s i) (event.Start task) t.frees t.list (legal.item, legal.behind) refl
      (ap (take_item p (encounter s i) (event.Start task)) (sym (ahead_of_current s i k t is)) ∙ legal.taken)) is.live allowed

pub starts_are_constrained : (p : Program) (events : List (ℕ × Event)) (s : State) → Reached p events s
    → (i : ℕ) (task k : Tid) (t u : Task) → Legal p s i (event.Start task) → IsCurrent s i k t
    → task_of s task ≡ Some u
    → (u.generating ≡ Some k) ⊎ (IsInInnermost k t u ⊎ (IsInBarrier t × (u.region ≡ t.region)))
starts_are_constrained p events s reached = starts_constrained p events s reached
