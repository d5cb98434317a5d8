-- The chain of tasks of each thread, over every event.
use Rattle.std.proofs.Common.{◌≡◌, ◌==◌, ◌≤◌, ◌⊎◌, inl, inr, ℕ, Bool, true, false, List, [], ◌∷◌, ◌++◌, length, get_or, Option, Some, None, if◌then◌else◌, refl, sym, ap, ◌∙◌, subst, arith}
use Rattle.std.specs.Prelude.{IfSome, ⊤}
use Rattle.std.specs.Option.{option_map}
use Rattle.omi_script.specs.declared.program.Program.{Program}
use Rattle.omi_model.specs.declared.claim.Claim.TheVariants as claim
use Rattle.omi_model.specs.declared.event.Event.{Event}
use Rattle.omi_model.specs.declared.event.Event.TheVariants as event
use Rattle.omi_model.specs.declared.freeable.Freeable.TheVariants as freeable
use Rattle.omi_model.specs.declared.id.Rid.{Rid}
use Rattle.omi_model.specs.declared.id.Tid.{Tid}
use Rattle.omi_model.specs.declared.item.Item.{Item}
use Rattle.omi_model.specs.declared.item.Item.TheVariants as item
use Rattle.omi_model.specs.declared.progress.Progress.{Progress}
use Rattle.omi_model.specs.declared.progress.Progress.TheVariants.{Begun, Deferred, Finished, NotBegun}
use Rattle.omi_model.specs.declared.region.Region.{Region}
use Rattle.omi_model.specs.declared.task.Task.{Task}
use Rattle.omi_model.specs.declared.thread.Thread.{Thread}
use Rattle.omi_model.specs.Barriers.{arrived, released}
use Rattle.omi_model.specs.Changes.{IsCurrent, encounter, on_task, on_thread}
use Rattle.omi_model.specs.Freeing.{freed, region_freed}
use Rattle.omi_model.specs.Fresh.{IsFresh}
use Rattle.omi_model.specs.LawChains.{IsApart, IsChain}
use Rattle.omi_model.specs.Groups.{group_begun, group_ended}
use Rattle.omi_model.specs.LawStays.{Stays, stage_of}
use Rattle.omi_model.specs.Put.{put}
use Rattle.omi_model.specs.Reached.{Step}
use Rattle.omi_model.specs.Rows.{working}
use Rattle.omi_model.specs.Rules.{Rule, effect}
use Rattle.omi_model.specs.Settings.{entered, left, with_tool}
use Rattle.omi_model.specs.State.{State, region_of, task_of}
use Rattle.omi_model.specs.Tasking.{MayFinish, MayStart, deferred, deferred_task, finished, scheduled, started, started_alone, started_now}
use Rattle.omi_model.specs.Teams.{MayFork, MayJoin, forked, joined, member_task, task_ended}
use Rattle.omi_model.proofs.EachObject.{EachTask, IsTaskLaw, is_end, members_found, task_step}
use Rattle.omi_model.proofs.Slots.{each_put, false_true, found_live, made_same, none_some, on_same, put_same, some_same}
use Rattle.omi_model.proofs.StaysKept.{fresh_empty, needed_begun, new_team, stays_step}
use Rattle.omi_model.proofs.Steps.{IsRelisted, of_current, of_current_region, of_region, of_set}

-- ---- which tasks finish

begun_finished : Begun ≡ Finished → ⊥
begun_finished e = cc

-- a task that is finished was so before, or was the current one at an end
abbrev FinishedBy : State → ℕ → Event → Tid → Task → Type 0
FinishedBy s i e k v =
    v.progress ≡ Finished → ((t : Task) × (task_of s k ≡ Some t) × (t.progress ≡ Finished)) ⊎ (((s.threads i).current ≡ Some k) × (is_end e ≡ true))

finished_step : (p : Program) (s : State) (i : ℕ) (e : Event) (next : State) → Step p s i e next
    → EachTask (FinishedBy s i e) next
finished_step p s i e next step =
    task_step p (FinishedBy s i e) s i e next step (λ k t y ys is taken q. q) law
    (λ k t live f. inl (t, live, f))
  where
    member_finished : (b : Bool) → (if b then Begun else NotBegun) ≡ Finished → ⊥
    member_finished true g = cc
    member_finished false g = cc

    law : (middle : State) (y : Item) → IsRelisted s middle → Stays middle next
        → EachTask (FinishedBy s i e) middle → IsTaskLaw p middle i e y next (FinishedBy s i e)
    law middle y before later all = record {
      frees = λ k t free how q. q;
      shows = λ k t x q. q;
      tools = λ k t x q. q;
      groups = λ k t count is how q. q;
      sets = λ k t icv value v f at_set q. q;
      begins = λ k t waits mine by q f. absurd (begun_finished f);
      finishes = λ k t is over q f. inr (sym (before.currents i) ∙ is.name, over);
      starts = λ k u j t x is live ex de may of by q f. absurd (begun_finished f);
      members = λ region team g k t r is found may new of by j m at f. absurd (member_finished (j == 0) f);
      deferred = λ task g final seen k t is of fresh f. absurd (member_finished_deferred f);
      made = λ task g final k t is of fresh by f. absurd (begun_finished f);
    }
      where
        member_finished_deferred : Deferred ≡ Finished → ⊥
        member_finished_deferred g = cc

-- a task that has begun goes on, where it is not the current one at an end
by_stage : (q : Progress) → 1 ≤ stage_of q → (q ≡ Finished → ⊥) → q ≡ Begun
by_stage Deferred h ne = absurd (omega (arith, h))
by_stage NotBegun h ne = absurd (omega (arith, h))
by_stage Begun h ne = refl
by_stage Finished h ne = absurd (ne refl)

abbrev pub GoesOn : State → ℕ → Event → State → Type 0
GoesOn s i e u =
    (k : Tid) (t v : Task) → task_of s k ≡ Some t → t.progress ≡ Begun → task_of u k ≡ Some v → ((s.threads i).current ≡ Some k → is_end e ≡ true → ⊥) → v.progress ≡ Begun

pub goes_on : (p : Program) (s : State) (i : ℕ) (e : Event) (next : State) → Step p s i e next
    → GoesOn s i e next
goes_on p s i e next step k t v live begun found other =
    let stage : stage_of t.progress ≤ stage_of v.progress =
    ((stays_step p s i e next step).alike k t v live found).stage in
    by_stage v.progress (subst (λ q. stage_of q ≤ stage_of v.progress) begun stage)
    (λ f. go (finished_step p s i e next step k v found f))
  where
    go : ((t' : Task) × (task_of s k ≡ Some t') × (t'.progress ≡ Finished)) ⊎ (((s.threads i).current ≡ Some k) × (is_end e ≡ true))
        → ⊥
    go (inl (t', live', f)) =
        begun_finished (sym begun ∙ (ap (λ (x : Task). x.progress) (some_same live live') ∙ f))
    go (inr (name, over)) = other name over

-- ---- chains in a later state

abbrev pub HasChain : State → ℕ → Option Tid → Type 0
HasChain s i top = (ks : List Tid) × IsChain s i top ks

not_deferred : Begun ≡ Deferred → ⊥
not_deferred e = cc

-- the tasks of a chain go on where each that is not excluded does
pub chain_later : (s u : State) → Stays s u → (gone : Tid → Type 0)
    → ((k : Tid) (t v : Task) → task_of s k ≡ Some t → t.progress ≡ Begun → task_of u k ≡ Some v → (gone k → ⊥) → v.progress ≡ Begun)
    → (j : ℕ) (top : Option Tid) (ks : List Tid) → IsChain s j top ks → ((k : Tid) (t : Task) → task_of s k ≡ Some t → t.thread ≡ j → (IsApart k ks → ⊥) → gone k → ⊥) → IsChain u j top ks
chain_later s u stay gone keeps j top [] chain free = chain
chain_later s u stay gone keeps j top (k ∷ ks) (t, is, apart, live, mine, begun, rest) free =
    let (v, found, same) = stay.tasks k t live (needed_begun s k t begun) in
    let un : t.progress ≡ Deferred → ⊥ = λ d. not_deferred (sym begun ∙ d) in
    let goes = keeps k t v live begun found (free k t live mine (λ h. h.0 refl)) in (
      v,
      is,
      apart,
      found,
      same.thread un ∙ mine,
      goes,
      subst (λ o. IsChain u j o ks) (sym (same.scheduling un)) (chain_later s u stay gone keeps j t.scheduling ks rest (λ n w e own on. free n w e own (λ h. on h.1))),
    )

-- a name that is on no chain of a state
new_apart : (s : State) (j : ℕ) (k : Tid) → ((t : Task) → task_of s k ≡ Some t → t.progress ≡ Begun → ⊥)
    → (top : Option Tid) (ks : List Tid) → IsChain s j top ks → IsApart k ks
new_apart s j k new top [] chain = tt
new_apart s j k new top (n ∷ ns) (t, is, apart, live, mine, begun, rest) =
    (λ same. new t (ap (task_of s) same ∙ live) begun, new_apart s j k new t.scheduling ns rest)

-- the top of a chain
pub top_of : (s : State) (j : ℕ) (top : Option Tid) (ks : List Tid) (k : Tid) → top ≡ Some k
    → IsChain s j top ks
    → (ns : List Tid) × (t : Task) × (ks ≡ k ∷ ns) × IsApart k ns × (task_of s k ≡ Some t) × (t.thread ≡ j) × (t.progress ≡ Begun) × IsChain s j t.scheduling ns
top_of s j top [] k is chain = absurd (none_some chain is)
top_of s j top (n ∷ ns) k is (t, here, apart, live, mine, begun, rest) =
    let same : n ≡ k = some_same here is in
    (ns, t, ap (λ (x : Tid). x ∷ ns) same, subst (λ (x : Tid). IsApart x ns) same apart, ap (task_of s) (sym same) ∙ live, mine, begun, rest)

-- ---- the chain of the thread that an event is by

module _ (s : State) (i : ℕ) (e : Event) (chain : HasChain s i (s.threads i).current) where
  kept_chain : (u : State) → Stays s u → GoesOn s i e u → is_end e ≡ false
      → IsChain u i (s.threads i).current chain.0
  kept_chain u stay goes no_end =
      chain_later s u stay (λ k. ⊥)
      (λ k t v live begun found ne. goes k t v live begun found (λ n over. false_true (sym no_end ∙ over))) i
      (s.threads i).current chain.0 chain.1 (λ k t live mine on h. h)

  keep : (u : State) → (u.threads i).current ≡ (s.threads i).current → is_end e ≡ false → Stays s u
      → GoesOn s i e u → HasChain u i (u.threads i).current
  keep u same no_end stay goes =
      (chain.0, subst (λ o. IsChain u i o chain.0) (sym same) (kept_chain u stay goes no_end))

  push : (u : State) (k : Tid) (t : Task) → (u.threads i).current ≡ Some k → task_of u k ≡ Some t
      → t.thread ≡ i → t.progress ≡ Begun → t.scheduling ≡ (s.threads i).current
      → ((v : Task) → task_of s k ≡ Some v → v.progress ≡ Begun → ⊥) → is_end e ≡ false → Stays s u → GoesOn s i e u → HasChain u i (u.threads i).current
  push u k t name found mine begun below new no_end stay goes =
      (k ∷ chain.0, (t, name, new_apart s i k new (s.threads i).current chain.0 chain.1, found, mine, begun, subst (λ o. IsChain u i o chain.0) (sym below) (kept_chain u stay goes no_end)))

  pop : (u : State) (k : Tid) (t : Task) → IsCurrent s i k t → (u.threads i).current ≡ t.scheduling
      → Stays s u → GoesOn s i e u → HasChain u i (u.threads i).current
  pop u k t is same stay goes =
      let (ns, v, list, apart, live, mine, begun, rest) =
      top_of s i (s.threads i).current chain.0 k is.name chain.1 in
      let one : v ≡ t = some_same live is.live in (
        ns,
        subst (λ o. IsChain u i o ns) (ap (λ (x : Task). x.scheduling) one ∙ sym same)
            (chain_later s u stay (λ n. n ≡ k) (λ n x w live' begun' found ne. goes n x w live' begun' found (λ name over. ne (some_same name is.name))) i v.scheduling ns rest
            (λ n x live' mine' on h. on (subst (λ (a : Tid). IsApart a ns) (sym h) apart))),
      )

-- a current task that is given
given : (u : State) (i : ℕ) (o : Option Tid)
    → ((on_thread u i (λ h. record h { current = o })).threads i).current ≡ o
given u i o = ap (λ (h : Thread). h.current) (put_same u.threads i (record (u.threads i) { current = o }))

module _ (p : Program) (s : State) (i : ℕ) (chain : HasChain s i (s.threads i).current)
    (first : (k : Tid) (t : Task) (r : Region) → task_of s k ≡ Some t → t.implicit ≡ true → t.number ≡ 0 → region_of s t.region ≡ Some r → t.scheduling ≡ r.encountering)
    (loose : (k : Tid) (t : Task) → task_of s k ≡ Some t → t.progress ≡ NotBegun → t.scheduling ≡ None) where
  abbrev pub Chained : Event → State → Type 0
  Chained e u = Stays s u → GoesOn s i e u → HasChain u i (u.threads i).current

  -- a change of the thread that leaves the current task
  thread_chain : (e : Event) (f : Thread → Thread) → (f (s.threads i)).current ≡ (s.threads i).current
      → is_end e ≡ false → Chained e (on_thread s i f)
  thread_chain e f same no_end =
      keep s i e chain (on_thread s i f)
      (ap (λ (h : Thread). h.current) (put_same s.threads i (f (s.threads i))) ∙ same) no_end

  same_chain : (e : Event) (u : State) → (u.threads i).current ≡ (s.threads i).current → is_end e ≡ false
      → Chained e u
  same_chain e u same no_end = keep s i e chain u same no_end

  unnamed : (k : Tid) → IsFresh s.tasks i k.0 → (v : Task) → task_of s k ≡ Some v → v.progress ≡ Begun → ⊥
  unnamed k fresh v live begun =
      none_some (fresh_empty s.tasks i k.0 fresh)
      (found_live k.0.generation (s.tasks k.0.creator k.0.slot) v live)

  fork_chain : (region : Rid) (team : List (Tid × ℕ)) (f : ℕ) (k : Tid) (t : Task) (r : Region)
      → IsCurrent s i k t → MayFork s i region team
      → Chained (event.Fork region team) (forked p s i region team f k t r)
  fork_chain region [] f k t r is may stay goes =
      absurd (let none = ap (λ (xs : List ℕ). length xs) may.threads in omega arith)
  fork_chain region (m ∷ ms) f k t r is may stay goes =
      let new =
      members_found (member_task p region k t r f) (m ∷ ms) s.tasks i
      (new_team s.tasks i (m ∷ ms) may.tasks_new may.distinct) 0 m refl in
      let mine : m.1 ≡ i = ap (λ (xs : List ℕ). get_or xs 0 0) may.threads in
      push s i (event.Fork region (m ∷ ms)) chain (forked p s i region (m ∷ ms) f k t r) m.0
      (member_task p region k t r f 0 m.1)
      (ap (λ (h : Thread). h.current) (put_same s.threads i (record (s.threads i) { current = Some m.0 }))) new mine refl
      (sym is.name) (unnamed m.0 (may.tasks_new 0 m (omega arith))) refl stay goes

  start_chain : (task : Tid) (g : Task → Task) (k : Tid) (t : Task) (x : Item) → IsCurrent s i k t
      → MayStart s task x k t → ((u : Task) → (g u).thread ≡ i) → ((u : Task) → (g u).progress ≡ Begun)
      → ((u : Task) → (g u).scheduling ≡ Some k)
      → Chained (event.Start task) (on_thread (on_task s task g) i (λ h. record h { current = Some task }))
  start_chain task g k t x is may mine begun below stay goes =
      push s i (event.Start task) chain
      (on_thread (on_task s task g) i (λ h. record h { current = Some task })) task (g may.new)
      (given (on_task s task g) i (Some task))
      (on_same s.tasks task.0 g ∙ ap (option_map g) may.live) (mine may.new) (begun may.new)
      (below may.new ∙ sym is.name)
      (λ v live h. not_deferred (sym h ∙ (ap (λ (y : Task). y.progress) (some_same live may.live) ∙ may.deferred))) refl stay goes

  make_chain : (task : Tid) (f : ℕ) (final : Bool) (k : Tid) (t : Task) → IsCurrent s i k t
      → IsFresh s.tasks i task.0 → Chained (event.StartNow task) (started_now p s i task f final k t)
  make_chain task f final k t is fresh stay goes =
      push s i (event.StartNow task) chain (started_now p s i task f final k t) task
      (scheduled i k t (deferred_task p k t f final 0))
      (ap (λ (h : Thread). h.current) (put_same s.threads i (record (s.threads i) { current = Some task })))
      (made_same s.tasks task.0 (scheduled i k t (deferred_task p k t f final 0))) refl refl (sym is.name)
      (unnamed task fresh) refl stay goes

  pub own_effect : (e : Event) (y : Item) → Rule s i e y → IfSome (effect p s i e y) (Chained e)
  own_effect event.Begin y rule = thread_chain event.Begin (λ h. record h { begun = true }) refl refl
  own_effect event.Offer y rule = thread_chain event.Offer (λ h. record h { claim = claim.Free }) refl refl
  own_effect (event.Want n) y rule =
      thread_chain (event.Want n) (λ h. record h { wanted = n; asks = [] }) refl refl
  own_effect (event.Ask w true) y rule =
      let listed : State = on_thread s i (λ h. record h { asks = h.asks ++ (w, true) ∷ [] }) in
      same_chain (event.Ask w true) (on_thread listed w (λ h. record h { claim = claim.By i }))
      (each_put (λ j (h : Thread). h.current ≡ (listed.threads j).current) listed.threads w (record (listed.threads w) { claim = claim.By i }) refl i (λ ne. refl)
      ∙ ap (λ (h : Thread). h.current) (put_same s.threads i (record (s.threads i) { asks = (s.threads i).asks ++ (w, true) ∷ [] }))) refl
  own_effect (event.Ask w false) y rule =
      thread_chain (event.Ask w false) (λ h. record h { asks = h.asks ++ (w, false) ∷ [] }) refl refl
  own_effect (event.Fork region team) (item.Fork f) rule =
      of_region s i (forked p s i region team f) (Chained (event.Fork region team))
      (λ k t r. MayFork s i region team) rule (λ k t r is found may. fork_chain region team f k t r is may)
  own_effect (event.Fork region team) y rule = tt
  own_effect (event.ImplicitBegin task) y rule =
      λ stay goes.
      let g : Task → Task = λ t. record t { progress = Begun } in
      (task ∷ [], (g rule.member, given (on_task s task g) i (Some task), tt, on_same s.tasks task.0 g ∙ ap (option_map g) rule.live, rule.mine, refl, loose task rule.member rule.live rule.waiting))
  own_effect (event.State state wait) y rule =
      thread_chain (event.State state wait) (λ h. record h { state = state; wait = wait }) refl refl
  own_effect event.Enter y rule =
      of_current s i (entered s) (Chained event.Enter) (λ k t. ⊤) rule
      (λ k t is h. same_chain event.Enter (entered s k t) refl refl)
  own_effect event.Leave y rule =
      of_current s i (left s) (Chained event.Leave) (λ k t. ⊤) rule
      (λ k t is h. same_chain event.Leave (left s k t) refl refl)
  own_effect event.Arrive y rule =
      of_current_region s i (λ k t. arrived s t) (Chained event.Arrive) _ rule
      (λ k t r is found h. same_chain event.Arrive (arrived s t) refl refl)
  own_effect event.Release y rule =
      of_current_region s i (λ k t. released s t) (Chained event.Release) _ rule
      (λ k t r is found h. same_chain event.Release (released s t) refl refl)
  own_effect (event.ImplicitEnd task) y rule =
      of_current_region s i (task_ended s i) (Chained (event.ImplicitEnd task)) _ rule
      (λ k t r is found h stay goes. ([], ap (λ (x : Thread). x.current) (put_same s.threads i (record (s.threads i) { current = None }))))
  own_effect (event.Join region) y rule =
      of_region s i (joined s i) (Chained (event.Join region)) (λ k t r. MayJoin region t r) rule
      (λ k t r is found may. pop s i (event.Join region) chain (joined s i k t r) k t is
      (ap (λ (x : Thread). x.current) (put_same s.threads i (record (s.threads i) { current = r.encountering })) ∙ sym (first k t r is.live may.implicit may.first found)))
  own_effect (event.FreeTask task) (item.Frees (freeable.Finished n)) rule =
      of_current s i (freed s task _) (Chained (event.FreeTask task)) _ rule
      (λ k t is h. same_chain (event.FreeTask task) (freed s task _ k t) refl refl)
  own_effect (event.FreeTask task) (item.Frees (freeable.Joined n number)) rule =
      of_current s i (freed s task _) (Chained (event.FreeTask task)) _ rule
      (λ k t is h. same_chain (event.FreeTask task) (freed s task _ k t) refl refl)
  own_effect (event.FreeTask task) y rule = tt
  own_effect (event.FreeRegion region) (item.Frees (freeable.Joined n number)) rule =
      same_chain (event.FreeRegion region) (region_freed s region) refl refl
  own_effect (event.FreeRegion region) y rule = tt
  own_effect (event.Defer task) (item.Defer seen f final) rule =
      of_current s i (deferred p s task f final seen) (Chained (event.Defer task)) _ rule
      (λ k t is h. same_chain (event.Defer task) (deferred p s task f final seen k t) refl refl)
  own_effect (event.Defer task) y rule = tt
  own_effect (event.StartNow task) (item.Defer seen f final) rule =
      of_current s i (started_now p s i task f final) (Chained (event.StartNow task))
      (λ k t. IsFresh s.tasks i task.0) rule (λ k t is fresh. make_chain task f final k t is fresh)
  own_effect (event.StartNow task) (item.StartNow f final) rule =
      of_current s i (started_now p s i task f final) (Chained (event.StartNow task))
      (λ k t. IsFresh s.tasks i task.0) rule (λ k t is fresh. make_chain task f final k t is fresh)
  own_effect (event.StartNow task) y rule = tt
  own_effect (event.Start task) (item.Tasks state) rule =
      of_current s i (started s i task) (Chained (event.Start task)) (MayStart s task (item.Tasks state)) rule
      (λ k t is may. start_chain task (λ u. record (scheduled i k t u) { list = working (encounter s i) u.list }) k t (item.Tasks state) is may (λ u. refl) (λ u. refl) (λ u. refl))
  own_effect (event.Start task) item.OneTask rule =
      of_current s i (started_alone s i task) (Chained (event.Start task)) (MayStart s task item.OneTask) rule
      (λ k t is may. start_chain task (scheduled i k t) k t item.OneTask is may (λ u. refl) (λ u. refl) (λ u. refl))
  own_effect (event.Start task) y rule = tt
  own_effect (event.Finish task) y rule =
      of_current s i (finished s i) (Chained (event.Finish task)) (MayFinish task) rule
      (λ k t is h. pop s i (event.Finish task) chain (finished s i k t) k t is (ap (λ (x : Thread). x.current) (put_same s.threads i (record (s.threads i) { current = t.scheduling }))))
  own_effect event.GroupBegin y rule =
      of_current s i (group_begun s) (Chained event.GroupBegin) _ rule
      (λ k t is h. same_chain event.GroupBegin (group_begun s k t) refl refl)
  own_effect event.GroupEnd y rule =
      of_current s i (group_ended s) (Chained event.GroupEnd) _ rule
      (λ k t is h. same_chain event.GroupEnd (group_ended s k t) refl refl)
  own_effect (event.Set icv value) y rule =
      of_set s i icv value (Chained (event.Set icv value)) rule
      (same_chain (event.Set icv value) (record s { max_active = value }) refl refl)
      (λ k t v is h. same_chain (event.Set icv value) (on_task s k (λ u. record u { variables = v })) refl refl)
  own_effect (event.SetTool x) y rule =
      of_current s i (λ k t. with_tool s x k) (Chained (event.SetTool x)) (λ k t. ⊤) rule
      (λ k t is h. same_chain (event.SetTool x) (with_tool s x k) refl refl)
  own_effect (event.Lock k) y rule =
      same_chain (event.Lock k) (record s { locks = put s.locks k (Some i) }) refl refl
  own_effect (event.Unlock k) y rule =
      same_chain (event.Unlock k) (record s { locks = put s.locks k None }) refl refl
  own_effect e y rule = same_chain e s refl refl
