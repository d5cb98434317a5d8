-- What barriers say of a thread stays while another thread makes an event: the arrivals at its barrier, the releases by member 0, and that no explicit task of the region is unfinished.
use Rattle.std.proofs.Common.{◌≡◌, ◌≢◌, ◌+◌, ◌<◌, ◌⊎◌, inl, inr, ℕ, zero, suc, ◌++◌, Bool, true, false, List, [], ◌∷◌, length, slice_get, slice_index, slice_set, Some, refl, sym, ap, ◌∙◌, subst, arith}
use Rattle.std.specs.List.{All}
use Rattle.std.proofs.lemmas.List.{get_or-set_same}
use Rattle.std.proofs.lemmas.Option.{slice_get_within}
use Rattle.omi_script.specs.declared.program.Program.{Program}
use Rattle.omi_script.specs.declared.statement.Stmt.{Stmt}
use Rattle.omi_model.specs.declared.event.Event.{Event}
use Rattle.omi_model.specs.declared.event.Event.TheVariants as event
use Rattle.omi_model.specs.declared.id.Id.{Id}
use Rattle.omi_model.specs.declared.id.Rid.{Rid}
use Rattle.omi_model.specs.declared.id.Tid.{Tid}
use Rattle.omi_model.specs.declared.item.Item.{Item}
use Rattle.omi_model.specs.declared.item.Item.TheVariants as item
use Rattle.omi_model.specs.declared.progress.Progress.TheVariants as progress
use Rattle.omi_model.specs.declared.region.Region.{Region}
use Rattle.omi_model.specs.declared.task.Task.{Task}
use Rattle.omi_model.specs.Barriers.{HasNoExplicit, HaveArrived}
use Rattle.omi_model.specs.Changes.{IsCurrent, encounter}
use Rattle.omi_model.specs.LawOrder.{Arrived, IsInOrder, Outside, Released, Stage, Waiting}
use Rattle.omi_model.specs.Lists.{may_drop, take_item}
use Rattle.omi_model.specs.Opening.{opening}
use Rattle.omi_model.specs.Reached.{Reached, Step}
use Rattle.omi_model.specs.Rules.{Rule as Lawful}
use Rattle.omi_model.specs.State.{State, region_of, task_of}
use Rattle.omi_model.proofs.BarrierLaw.{Stands, placed}
use Rattle.omi_model.proofs.BarrierOrder.{Phase, order, wrong}
use Rattle.omi_model.proofs.BarrierOrder as phase
use Rattle.omi_model.proofs.BarrierSteps.{Changes, region_changed}
use Rattle.omi_model.proofs.ChainsKept.{current_begun}
use Rattle.omi_model.proofs.EachObject.{EachTask, IsTaskLaw, ahead_of_current, task_step_from}
use Rattle.omi_model.proofs.ListLaws.{take_keeps, is_frees, taken_plain}
use Rattle.omi_model.proofs.members.ListOrder.{barriers_ordered}
use Rattle.omi_model.proofs.MembersKnown.{members_known}
use Rattle.omi_model.proofs.ReleaseAmong.{arrivals_near}
use Rattle.omi_model.proofs.ReachedStates.{leads_on}
use Rattle.omi_model.proofs.Slots.{false_true, found_live, same_or_not, some_same}
use Rattle.omi_model.proofs.StaysKept.{needed_begun, stays_step}
use Rattle.omi_model.proofs.Steps.{IsMove, is_relisted, move_of, moved_on}
use Rattle.omi_pc.specs.declared.actor.Actor.{Actor}
use Rattle.omi_pc.specs.declared.counter.Counter.TheVariants as counter
use Rattle.omi_pc.specs.declared.team_counter.BarrierCounter.{BarrierCounter}
use Rattle.omi_pc.specs.declared.team_counter.BarrierCounter.TheVariants as barrier
use Rattle.omi_pc.specs.Fits.{FitsCounter}
use Rattle.omi_layout.specs.Memory.{Memory}
use Rattle.omi_rule.specs.Chains.{KeepsContext}
use Rattle.omi_rule.specs.LeavesOthers.{IsSameForOthers, LeavesOthers}
use Rattle.omi_rule.specs.Rows.{HasReleased, KeepsBarrierRow, OfRegion}
use Rattle.omi_rule.specs.Rule.{Rule}
use Rattle.omi_rule.proofs.Others.{events_leave_others}
use Rattle.omi_rule.proofs.RowsStay.{context_of}
use Rattle.omi_rule.proofs.Named.{task_named}

-- ---- lists between an arrival and its pass

-- what is left of a barrier stands at the front
abbrev IsInside : ℕ → List Item → Type 0
IsInside n xs = IsInOrder n Arrived xs ⊎ (IsInOrder n Waiting xs ⊎ IsInOrder n Released xs)

-- a member that waits in a barrier is in it
not_outside : (n : ℕ) (xs : List Item) → order n phase.Waiting xs ≡ true → IsInOrder n Outside xs → ⊥
not_outside n [] o h = false_true o
not_outside n (item.Arrive ∷ xs) o h = wrong n xs o
not_outside n (item.Release ∷ xs) o h = h
not_outside n (item.Pass ∷ xs) o h = h
not_outside n (item.Do s ∷ xs) o h = wrong n xs o
not_outside n (x ∷ xs) o h = not_outside n xs o h

inside : (n : ℕ) (xs : List Item) → order n phase.Waiting xs ≡ true → (stage : Stage) → IsInOrder n stage xs
    → IsInside n xs
inside n xs o Outside h = absurd (not_outside n xs o h)
inside n xs o Arrived h = inl h
inside n xs o Waiting h = inr (inl h)
inside n xs o Released h = inr (inr h)

drops : (n : ℕ) (x : Item) (xs : List Item) → may_drop x ≡ true → IsInside n (x ∷ xs) → IsInside n xs
drops n (item.Tasks state) xs may (inl h) = inr (inl h)
drops n (item.Tasks state) xs may (inr (inl h)) = absurd h
drops n (item.Tasks state) xs may (inr (inr h)) = absurd h
drops n item.Asks xs may (inl h) = absurd h
drops n item.Asks xs may (inr (inl h)) = absurd h
drops n item.Asks xs may (inr (inr h)) = absurd h
drops n item.OneTask xs may (inl h) = absurd h
drops n item.OneTask xs may (inr (inl h)) = absurd h
drops n item.OneTask xs may (inr (inr h)) = absurd h
drops n (item.Frees m) xs may (inl h) = absurd h
drops n (item.Frees m) xs may (inr (inl h)) = absurd h
drops n (item.Frees m) xs may (inr (inr h)) = absurd h
drops n x xs may h = absurd (false_true may)

no_statement : (n : ℕ) (s : Stmt) (xs : List Item) (P : Type 0) → IsInside n (item.Do s ∷ xs) → P
no_statement n s xs P (inl h) = absurd h
no_statement n s xs P (inr (inl h)) = absurd h
no_statement n s xs P (inr (inr h)) = absurd h

no_defer : (n seen f : ℕ) (final : Bool) (xs : List Item) → IsInside n (item.Defer seen f final ∷ xs) → ⊥
no_defer n seen f final xs (inl h) = h
no_defer n seen f final xs (inr (inl h)) = h
no_defer n seen f final xs (inr (inr h)) = h

no_start : (n f : ℕ) (final : Bool) (xs : List Item) → IsInside n (item.StartNow f final ∷ xs) → ⊥
no_start n f final xs (inl h) = h
no_start n f final xs (inr (inl h)) = h
no_start n f final xs (inr (inr h)) = h

-- a member with one arrival more than its region's releases waits
waits : (ph : phase.Phase) (n a r : ℕ) → Stands ph n a r → a ≡ r + 1 → ph ≡ phase.Waiting
waits phase.Outside n a r h e = absurd (let same : a ≡ r = h in omega (arith, same, e))
waits phase.Waiting n a r h e = refl
waits phase.Released n a r h e = absurd (let same : a ≡ r = h in omega (arith, same, e))
waits phase.Wrong n a r h e = absurd h

-- ---- a region at which all have arrived

begun_over : progress.Begun ≡ progress.Finished → ⊥
begun_over h = cc

module _ (p : Program) (events : List (ℕ × Event)) (s : State) (reached : Reached p events s) (i : ℕ)
    (e : Event) (next : State) (step : Step p s i e next) (n : Rid) (r : Region)
    (found : region_of s n ≡ Some r) (arrived : HaveArrived r) where
  m : IsMove p s i e next
  m = move_of p s i e next step

  reached_next : Reached p (events ++ (i, e) ∷ []) next
  reached_next = leads_on p (opening p) events s (i, e) next reached step

  -- the arrivals of a member of the region
  member_arrived : (k : Tid) (t : Task) → task_of s k ≡ Some t → t.implicit ≡ true → t.region ≡ n
      → (t.number < length r.arrivals) × (slice_index r.arrivals t.number ≡ r.released + 1)
  member_arrived k t live im same =
      let known = members_known p events s reached in
      let (q, found_q, at) = known.tasks k t live im in
      let one : q ≡ r = some_same found_q (ap (region_of s) same ∙ found) in
      let sizes = known.regions n r found in
      let within : t.number < length q.team = slice_get_within q.team t.number (k, t.thread) at in
      let below : t.number < length r.arrivals =
      omega (arith, subst (λ (x : Region). t.number < length x.team) one within, sizes.arrivals) in
      (below, arrived t.number 0 below)

  -- a member of the region takes an item of its barrier
  takes_inside : (k : Tid) (t : Task) → IsCurrent s i k t → is_frees m.item ≡ false → t.implicit ≡ true
      → t.region ≡ n → IsInside t.number (m.item ∷ m.behind)
  takes_inside k t is makes im same =
      let (q, found_q, member) = ((placed p events s reached).places k t is.live).0 im in
      let one : q ≡ r = some_same found_q (ap (region_of s) same ∙ found) in
      let here : slice_index q.arrivals t.number ≡ q.released + 1 =
      subst (λ (x : Region). slice_index x.arrivals t.number ≡ x.released + 1) (sym one)
      (member_arrived k t is.live im same).1 in
      let in_barrier : member.phase ≡ phase.Waiting =
      waits member.phase t.number (slice_index q.arrivals t.number) q.released member.stands here in
      let (stage, in_order) = (barriers_ordered p events s reached k t is.live).member im in
      take_keeps p (encounter s i) (IsInside t.number) (drops t.number)
      (λ x xs h. no_statement t.number x xs _ h) e t.list m.item m.behind
      (taken_plain p (encounter s i) e t.frees t.list m.item m.behind makes
      (ap (take_item p (encounter s i) e) (sym (ahead_of_current s i k t is)) ∙ m.taken))
      (inside t.number t.list (subst (λ (ph : phase.Phase). order t.number ph t.list ≡ true) in_barrier member.ready.in_order) stage in_order)

  -- ---- arrivals

  -- no member arrives again
  none_arrives : (k : Tid) (t : Task) → IsCurrent s i k t → t.implicit ≡ true → t.region ≡ n → (q : Region)
      → region_of next n ≡ Some q
      → q.arrivals ≡ slice_set r.arrivals t.number (slice_index r.arrivals t.number + 1)
      → q.released ≡ r.released → ⊥
  none_arrives k t is im same q found_q set released =
      let (below, was) = member_arrived k t is.live im same in
      let begun = (current_begun p events s reached i k t is.name is.live).0 in
      let (v, live, alike) = (stays_step p s i e next step).tasks k t is.live (needed_begun s k t begun) in
      let region : v.region ≡ n = alike.region ∙ same in
      let place : v.number ≡ t.number = alike.number (λ d. cc (sym begun, d)) in
      let near =
      arrivals_near p (events ++ (i, e) ∷ []) next reached_next k v q live (alike.implicit ∙ im)
      (ap (region_of next) region ∙ found_q) in
      let now : slice_index q.arrivals v.number ≡ slice_index r.arrivals t.number + 1 =
      ap (λ j. slice_index q.arrivals j) place
      ∙ ap (λ xs. slice_index xs t.number) set
      ∙ get_or-set_same r.arrivals t.number (slice_index r.arrivals t.number + 1) 0 below in
      let most = near.1 in omega (arith, most, now, was, released)

  arrivals_stay : (of : Event) (y : Item) → Lawful s i of y → (q : Region) → region_of next n ≡ Some q
      → Changes s i of n r q → q.arrivals ≡ r.arrivals
  arrivals_stay event.Arrive y (k, t, r0, is, found0, im) q found_q change = go (same_or_not t.region.0 n.0)
    where
      go : (t.region.0 ≡ n.0) ⊎ (t.region.0 ≡ n.0 → ⊥) → q.arrivals ≡ r.arrivals
      go (inl same) =
          let region : t.region ≡ n = ap (λ (a : Id). record { 0 = a }) same in
          absurd (none_arrives k t is im region q found_q ((change k t is).0 region) (change k t is).2)
      go (inr other) = (change k t is).1 (λ h. other (ap (λ (a : Rid). a.0) h))
  arrivals_stay event.Release y (k, t, r0, is, found0, may) q found_q change = (change k t is).2
  arrivals_stay of y rule q found_q change = change.0

  pub still_arrived : (q : Region) → region_of next n ≡ Some q → q.released ≡ r.released → HaveArrived q
  still_arrived q found_q released =
      let same : q.arrivals ≡ r.arrivals =
      arrivals_stay e m.item m.rule q found_q (region_changed p s i e next m n r q found found_q) in
      subst (λ (xs : List ℕ). All (λ x. x ≡ q.released + 1) xs) (sym same)
      (subst (λ c. All (λ x. x ≡ c + 1) r.arrivals) (sym released) arrived)

  -- ---- explicit tasks

  module _ (alone : HasNoExplicit s n) where
    abbrev IsApart : Tid → Task → Type 0
    IsApart k t = t.implicit ≡ false → t.region ≡ n → ⊥

    over : EachTask IsApart s
    over k t live =
        alone k.0.creator k.0.slot t (found_live k.0.generation (s.tasks k.0.creator k.0.slot) t live)

    abbrev middle : State
    middle = moved_on s i e m.item m.behind

    -- a task of the region makes none
    makes_none : (y : Item) → is_frees y ≡ false → ((j : ℕ) → IsInside j (y ∷ m.behind) → ⊥) → m.item ≡ y
        → (k : Tid) (t : Task) → IsCurrent middle i k t → t.region ≡ n → ⊥
    makes_none y makes never of k t is same =
        let before = is_relisted s i _ in
        let (v, xs, live, alike) = before.tasks k t is.live in
        let current : IsCurrent s i k v = record { name = sym (before.currents i) ∙ is.name; live = live } in
        go v current (ap (λ (x : Task). x.region) (sym alike) ∙ same) v.implicit refl
      where
        go : (v : Task) → IsCurrent s i k v → v.region ≡ n → (kind : Bool) → v.implicit ≡ kind → ⊥
        go v current region true im =
            never v.number
            (subst (λ (x : Item). IsInside v.number (x ∷ m.behind)) of (takes_inside k v current (ap is_frees of ∙ makes) im region))
        go v current region false ex = over k v current.live ex region

    none_now : (f : ℕ) (final : Bool) (k : Tid) (t : Task) → IsCurrent middle i k t
        → (m.item ≡ item.StartNow f final) ⊎ ((seen : ℕ) × (m.item ≡ item.Defer seen f final)) → t.region ≡ n
        → ⊥
    none_now f final k t is (inl of) same =
        makes_none (item.StartNow f final) refl (λ j h. no_start j f final m.behind h) of k t is same
    none_now f final k t is (inr (seen, of)) same =
        makes_none (item.Defer seen f final) refl (λ j h. no_defer j seen f final m.behind h) of k t is same

    law : EachTask IsApart middle → IsTaskLaw p middle i e m.item next IsApart
    law of_tasks = record {
      frees = λ k t free how h. h;
      shows = λ k t x h. h;
      tools = λ k t x h. h;
      groups = λ k t n is how h. h;
      sets = λ k t icv value v at_set of h. h;
      begins = λ k t waits mine by h ex same. h ex same;
      finishes = λ k t is end h ex same. h ex same;
      starts = λ k u j t x is live ex de may of by h ex' same. h ex' same;
      members = λ region team f k t r0 is found0 may new of by j m at ex. absurd (false_true (sym ex));
      deferred = λ task f final seen k t is of fresh ex same. absurd (makes_none (item.Defer seen f final) refl (λ j h. no_defer j seen f final m.behind h) of k t is same);
      made = λ task f final k t is of fresh by ex same. absurd (none_now f final k t is of same);
    }

    pub still_alone : HasNoExplicit next n
    still_alone c k t live ex same =
        let o = task_named p (events ++ (i, e) ∷ []) next reached_next c k t live in
        task_step_from p IsApart IsApart s i e next m (λ j u is taken h. h)
        (λ j u other there h. h) law over o.name t o.live ex same

-- ---- the rows

module _ (p : Program) (w : List ℕ) (m : Memory) (events : List (ℕ × Event)) (s : State) (actors : ℕ → Actor)
    (rule : Rule p w m events s actors) (i : ℕ) (e : Event) (u : State)
    (step : Step p s i e u) (j : ℕ)
    (known : j < s.count) (other : j ≢ i) where
  leaves : LeavesOthers s u i
  leaves = events_leave_others p events s rule.reached i e u step

  top : (c : BarrierCounter) → (actors j).counter ≡ counter.Barrier c → KeepsContext s j (actors j).context
  top c at = context_of p s j (actors j) (λ d f. cc (sym at, f)) (rule.threads j known).stands

  region_stays : (c : BarrierCounter) → (actors j).counter ≡ counter.Barrier c → (r : Region)
      → region_of s (actors j).context.region ≡ Some r
      → (q : Region) × (region_of u (actors j).context.region ≡ Some q) × IsSameForOthers i r q
  region_stays c at r found =
      let o = top c at in
      let (q, now, same) = leaves.regions (actors j).context.task o.task r o.live (ap (region_of s) o.region_is ∙ found) in
      (q, ap (region_of u) (sym o.region_is) ∙ now, same)

  -- only the thread of member 0 releases
  still_released : (c : BarrierCounter) → (actors j).counter ≡ counter.Barrier c
      → (actors j).context.number ≡ 0 → (r q : Region) → region_of s (actors j).context.region ≡ Some r
      → IsSameForOthers i r q → q.released ≡ r.released
  still_released c at first r q found same =
      let o = top c at in
      let one : o.region ≡ r = some_same o.found found in
      same.released ((actors j).context.row, j)
      (ap (λ h. slice_get r.team h) (sym first) ∙ ap (λ (x : Region). slice_get x.team (actors j).context.number) (sym one) ∙ o.row) other

  fits : (c : BarrierCounter) → (actors j).counter ≡ counter.Barrier c
      → FitsCounter p (actors j) (counter.Barrier c)
  fits c at = subst (FitsCounter p (actors j)) at (rule.threads j known).fits.counter

  arrived_stays : (c : BarrierCounter) → (actors j).counter ≡ counter.Barrier c
      → (actors j).context.number ≡ 0 → OfRegion s (actors j) HaveArrived → OfRegion u (actors j) HaveArrived
  arrived_stays c at first (r, found, all) =
      let (q, now, same) = region_stays c at r found in
      (q, now, still_arrived p events s rule.reached i e u step (actors j).context.region r found all q now (still_released c at first r q found same))

  released_stays : (c : BarrierCounter) → (actors j).counter ≡ counter.Barrier c → (h : ℕ)
      → (actors j).context.number ≡ h → HasReleased s (actors j) h → HasReleased u (actors j) h
  released_stays c at zero first (r, found, is) =
      let (q, now, same) = region_stays c at r found in
      (q, now, still_released c at first r q found same ∙ is)
  released_stays c at (suc h) first o = tt

  pub row_of_barrier_stays : (c : BarrierCounter) → (actors j).counter ≡ counter.Barrier c
      → KeepsBarrierRow s (actors j) c → KeepsBarrierRow u (actors j) c
  row_of_barrier_stays (barrier.State b) at o = tt
  row_of_barrier_stays (barrier.Arrive b) at o = tt
  row_of_barrier_stays (barrier.LoadArrived b) at o = tt
  row_of_barrier_stays (barrier.LoadPending b) at o =
      arrived_stays (barrier.LoadPending b) at (fits (barrier.LoadPending b) at).1 o
  row_of_barrier_stays (barrier.Release b) at ((r, found, all), alone) = (
    arrived_stays (barrier.Release b) at (fits (barrier.Release b) at).1 (r, found, all),
    still_alone p events s rule.reached i e u step (actors j).context.region r found all alone,
  )
  row_of_barrier_stays (barrier.LoadReleased b) at o =
      released_stays (barrier.LoadReleased b) at (actors j).context.number refl o

pub barrier_rows_stay : (p : Program) (w : List ℕ) (m : Memory) (events : List (ℕ × Event)) (s : State) (actors : ℕ → Actor)
    → Rule p w m events s actors → (i : ℕ) → i < s.count → (e : Event) (u : State) → Step p s i e u
    → (j : ℕ) → j < s.count → j ≢ i → (c : BarrierCounter) → (actors j).counter ≡ counter.Barrier c → KeepsBarrierRow s (actors j) c → KeepsBarrierRow u (actors j) c
barrier_rows_stay p w m events s actors rule i there e u step j known other c at o =
    row_of_barrier_stays p w m events s actors rule i e u step j known other c at o
