-- The holder of each lock over every event.
use Rattle.std.proofs.Common.{◌≡◌, ◌==◌, ◌⊎◌, inl, inr, ℕ, zero, suc, ◌+◌, Bool, true, false, List, [], ◌∷◌, Option, Some, None, MatchOption, if◌then◌else◌, refl, sym, ap, ◌∙◌, subst, eqb-true, eq-eqb, ne_eqb}
use Rattle.std.specs.Prelude.{IfSome, ⊤}
use Rattle.std.specs.Option.{option_and_then, option_map_or}
use Rattle.std.proofs.lemmas.Bool.{cases_eq}
use Rattle.std.proofs.lemmas.Option.{get_or_from_slice_get, slice_get_within}
use Rattle.omi_script.specs.declared.program.Program.{Program}
use Rattle.omi_model.specs.declared.encounter.Encounter.{Encounter}
use Rattle.omi_model.specs.declared.event.Event.{Event}
use Rattle.omi_model.specs.declared.event.Event.TheVariants as event
use Rattle.omi_model.specs.declared.freeable.Freeable.TheVariants as freeable
use Rattle.omi_model.specs.declared.id.Tid.{Tid}
use Rattle.omi_model.specs.declared.item.Item.{Item}
use Rattle.omi_model.specs.declared.item.Item.TheVariants as item
use Rattle.omi_model.specs.declared.progress.Progress.TheVariants.{Begun, Deferred, Finished}
use Rattle.omi_model.specs.declared.task.Task.{Task}
use Rattle.omi_model.specs.declared.thread.Thread.{Thread}
use Rattle.omi_model.specs.Barriers.{arrived, released}
use Rattle.omi_model.specs.Changes.{IsCurrent, ahead_of, encounter, in_front}
use Rattle.omi_model.specs.Fresh.{IsFresh}
use Rattle.omi_model.specs.Groups.{group_begun, group_ended}
use Rattle.omi_model.specs.LawLocks.{IsHeldBy, gives_back}
use Rattle.omi_model.specs.LawNames.{IsLiveTask}
use Rattle.omi_model.specs.LawStays.{Stays}
use Rattle.omi_model.specs.Lists.{fits, may_drop, stays, take_item}
use Rattle.omi_model.specs.Opening.{opening}
use Rattle.omi_model.specs.Put.{put}
use Rattle.omi_model.specs.Reached.{Reached, Step}
use Rattle.omi_model.specs.Rows.{shown}
use Rattle.omi_model.specs.Rules.{Rule, effect}
use Rattle.omi_model.specs.Settings.{entered, left, with_lock, with_tool}
use Rattle.omi_model.specs.State.{State, task_of}
use Rattle.omi_model.specs.Freeing.{freed}
use Rattle.omi_model.specs.Tasking.{deferred, finished, started, started_alone, started_now}
use Rattle.omi_model.specs.Teams.{forked, joined, task_ended}
use Rattle.omi_model.proofs.ChainsKept.{current_begun}
use Rattle.omi_model.proofs.EachObject.{EachTask, IsTaskLaw, ahead_of_current, law_of_lasting, start_list, task_step_from}
use Rattle.omi_model.proofs.EachThread.{EachThread, of_lists, thread_step}
use Rattle.omi_model.proofs.ListLaws.{take_fits, take_keeps, by_taken}
use Rattle.omi_model.proofs.LockLists.{Gives, is_lock_event, main_back, member_back, start_back, stays_back, take_back, task_back}
use Rattle.omi_model.proofs.members.ClosingItems.{lists_right}
use Rattle.omi_model.proofs.OpenNames.{open_names}
use Rattle.omi_model.proofs.NeededTasks.{needed_current}
use Rattle.omi_model.proofs.OpeningObjects.{each_first_task, each_first_thread}
use Rattle.omi_model.proofs.ReachedStates.{over_reached}
use Rattle.omi_model.proofs.Slots.{false_true, found_live, none_some, put_other, put_same, some_same}
use Rattle.omi_model.proofs.StaysKept.{fresh_empty, list_keeps, stays_step}
use Rattle.omi_model.proofs.Steps.{IsMove, IsRelisted, from_some, is_relisted, list_moves, move_of, moved_on, of_current, of_current_region, of_region, of_set, relisted}

-- ---- the lists of threads without a task have no lock

abbrev NoLocks : List Item → Type 0
NoLocks [] = Unit {0}
NoLocks (item.Lock k ∷ xs) = ⊥
NoLocks (item.Unlock k ∷ xs) = ⊥
NoLocks (item.Do s ∷ xs) = ⊥
NoLocks (x ∷ xs) = NoLocks xs

no_drop : (x : Item) (xs : List Item) → may_drop x ≡ true → NoLocks (x ∷ xs) → NoLocks xs
no_drop item.Asks xs may h = h
no_drop (item.Tasks state) xs may h = h
no_drop item.OneTask xs may h = h
no_drop (item.Frees n) xs may h = h
no_drop x xs may h = absurd (false_true may)

no_shown : (at : Encounter) (state wait : ℕ) (xs : List Item) → NoLocks xs → NoLocks (shown at state wait xs)
no_shown at state wait xs h = go at.debug
  where
    go : (d : Bool) → NoLocks (if d then item.State state wait ∷ xs else xs)
    go true = h
    go false = h

no_stays : (at : Encounter) (e : Event) (y : Item) (ys : List Item) → NoLocks (y ∷ ys)
    → NoLocks (stays at e y ys)
no_stays at e (item.Lock k) ys h = absurd h
no_stays at e (item.Unlock k) ys h = absurd h
no_stays at e (item.Do s) ys h = absurd h
no_stays at e item.Asks ys h = h
no_stays at e item.Serve ys h = no_shown at _ 0 (item.Offer ∷ item.Serve ∷ ys) h
no_stays at e (item.Tasks state) ys h = no_shown at state 0 (item.Tasks state ∷ ys) h
no_stays at (event.Seen j) (item.Defer seen f final) ys h = h
no_stays at e y ys h = h

no_take : (p : Program) (at : Encounter) (e : Event) (xs : List Item) (y : Item) (ys : List Item)
    → take_item p at e xs ≡ Some (y, ys) → NoLocks xs → NoLocks (y ∷ ys)
no_take p at = take_keeps p at NoLocks no_drop (λ s xs h. absurd h)

abbrev IdleLists : ℕ → Thread → Type 0
IdleLists j h = NoLocks h.list

idle_step : (p : Program) (s : State) (i : ℕ) (e : Event) (next : State) → Step p s i e next
    → EachThread IdleLists s → EachThread IdleLists next
idle_step p s i e next step all = thread_step p IdleLists s i e next step
    (λ y ys none taken q. no_stays (encounter s i) e y ys (no_take p (encounter s i) e (s.threads i).list y ys taken q))
    (λ middle before later all_lists. of_lists p middle i e next (λ j xs. NoLocks xs)) all

-- ---- which events change the locks

locks_effect : (p : Program) (s : State) (i : ℕ) (e : Event) (y : Item) → Rule s i e y
    → is_lock_event e ≡ false → IfSome (effect p s i e y) (λ u. u.locks ≡ s.locks)
locks_effect p s i (event.Ask w true) y rule other = refl
locks_effect p s i (event.Ask w false) y rule other = refl
locks_effect p s i (event.Fork region team) (item.Fork f) rule other =
    of_region s i (forked p s i region team f) (λ u. u.locks ≡ s.locks) _ rule (λ k t r is found may. refl)
locks_effect p s i (event.Fork region team) y rule other = tt
locks_effect p s i event.Enter y rule other =
    of_current s i (entered s) (λ u. u.locks ≡ s.locks) (λ k t. ⊤) rule (λ k t is h. refl)
locks_effect p s i event.Leave y rule other =
    of_current s i (left s) (λ u. u.locks ≡ s.locks) (λ k t. ⊤) rule (λ k t is h. refl)
locks_effect p s i event.Arrive y rule other =
    of_current_region s i (λ k t. arrived s t) (λ u. u.locks ≡ s.locks) _ rule (λ k t r is found h. refl)
locks_effect p s i event.Release y rule other =
    of_current_region s i (λ k t. released s t) (λ u. u.locks ≡ s.locks) _ rule (λ k t r is found h. refl)
locks_effect p s i (event.ImplicitEnd task) y rule other =
    of_current_region s i (task_ended s i) (λ u. u.locks ≡ s.locks) _ rule (λ k t r is found h. refl)
locks_effect p s i (event.Join region) y rule other =
    of_region s i (joined s i) (λ u. u.locks ≡ s.locks) _ rule (λ k t r is found h. refl)
locks_effect p s i (event.FreeTask task) (item.Frees (freeable.Finished n)) rule other =
    of_current s i (freed s task _) (λ u. u.locks ≡ s.locks) _ rule (λ k t is h. refl)
locks_effect p s i (event.FreeTask task) (item.Frees (freeable.Joined n number)) rule other =
    of_current s i (freed s task _) (λ u. u.locks ≡ s.locks) _ rule (λ k t is h. refl)
locks_effect p s i (event.FreeTask task) y rule other = tt
locks_effect p s i (event.FreeRegion region) (item.Frees (freeable.Joined n number)) rule other = refl
locks_effect p s i (event.FreeRegion region) y rule other = tt
locks_effect p s i (event.Defer task) (item.Defer seen f final) rule other =
    of_current s i (deferred p s task f final seen) (λ u. u.locks ≡ s.locks) _ rule (λ k t is h. refl)
locks_effect p s i (event.Defer task) y rule other = tt
locks_effect p s i (event.StartNow task) (item.Defer seen f final) rule other =
    of_current s i (started_now p s i task f final) (λ u. u.locks ≡ s.locks) _ rule (λ k t is h. refl)
locks_effect p s i (event.StartNow task) (item.StartNow f final) rule other =
    of_current s i (started_now p s i task f final) (λ u. u.locks ≡ s.locks) _ rule (λ k t is h. refl)
locks_effect p s i (event.StartNow task) y rule other = tt
locks_effect p s i (event.Start task) (item.Tasks state) rule other =
    of_current s i (started s i task) (λ u. u.locks ≡ s.locks) _ rule (λ k t is h. refl)
locks_effect p s i (event.Start task) item.OneTask rule other =
    of_current s i (started_alone s i task) (λ u. u.locks ≡ s.locks) _ rule (λ k t is h. refl)
locks_effect p s i (event.Start task) y rule other = tt
locks_effect p s i (event.Finish task) y rule other =
    of_current s i (finished s i) (λ u. u.locks ≡ s.locks) _ rule (λ k t is h. refl)
locks_effect p s i event.GroupBegin y rule other =
    of_current s i (group_begun s) (λ u. u.locks ≡ s.locks) _ rule (λ k t is h. refl)
locks_effect p s i event.GroupEnd y rule other =
    of_current s i (group_ended s) (λ u. u.locks ≡ s.locks) _ rule (λ k t is h. refl)
locks_effect p s i (event.Set icv value) y rule other =
    of_set s i icv value (λ u. u.locks ≡ s.locks) rule refl (λ k t v is e. refl)
locks_effect p s i (event.SetTool x) y rule other =
    of_current s i (λ k t. with_tool s x k) (λ u. u.locks ≡ s.locks) (λ k t. ⊤) rule (λ k t is h. refl)
locks_effect p s i (event.Lock k) y rule other = absurd (false_true (sym other))
locks_effect p s i (event.Unlock k) y rule other = absurd (false_true (sym other))
locks_effect p s i e y rule other = refl

-- ---- one lock

abbrev pub Owns : ℕ → Option Tid → Tid → Task → Type 0
Owns k holder n t = ((holder ≡ Some n) × Gives k 1 t.list) ⊎ ((holder ≡ Some n → ⊥) × Gives k 0 t.list)

abbrev pub IsThreadOf : State → ℕ → Option Tid → Type 0
IsThreadOf s k holder =
    MatchOption holder (s.locks k ≡ None)
    (λ n. (t : Task) × (task_of s n ≡ Some t) × (s.locks k ≡ Some t.thread) × (t.progress ≡ Deferred → ⊥))

module _ (k : ℕ) (p : Program) (events : List (ℕ × Event)) (s : State) (reached : Reached p events s) (i : ℕ)
    (e : Event) (next : State) (step : Step p s i e next) (idle : EachThread IdleLists s) where
  m : IsMove p s i e next
  m = move_of p s i e next step

  abbrev middle : State
  middle = moved_on s i e m.item m.behind

  stay : Stays s next
  stay = stays_step p s i e next step

  locks_moved : middle.locks ≡ s.locks
  locks_moved =
      list_moves s i (stays (encounter s i) e m.item m.behind) (λ u. u.locks ≡ s.locks) (λ n is. refl)
      (λ none. refl)

  item_fits : fits e m.item ≡ true
  item_fits = take_fits p (encounter s i) e (ahead_of s i) m.item m.behind m.taken

  -- what is given back behind an item
  given : (w : ℕ) (t : Task) → take_item p (encounter s i) e (in_front t.frees t.list) ≡ Some (m.item, m.behind)
      → Gives k w t.list → Gives k w (m.item ∷ m.behind)
  given w t taken gives =
      by_taken p (encounter s i) e t.frees t.list m.item m.behind (λ f y ys. Gives k w (y ∷ ys)) taken
      (λ from. take_back k w p (encounter s i) e t.list m.item m.behind from gives) (λ task n. gives)

  -- the tasks' lists, from one holder to the next one
  tasks_next : (holder after_holder : Option Tid)
      →
      ((n : Tid) (t : Task) → IsCurrent s i n t → take_item p (encounter s i) e (in_front t.frees t.list) ≡ Some (m.item, m.behind) → Owns k holder n t → Owns k after_holder n (relisted (stays (encounter s i) e m.item m.behind) t))
      →
      ((n : Tid) (t : Task) → ((s.threads i).current ≡ Some n → ⊥) → task_of s n ≡ Some t → Owns k holder n t → Owns k after_holder n t)
      → ((n : Tid) → after_holder ≡ Some n → IsLiveTask s n) → EachTask (Owns k holder) s → EachTask (Owns k after_holder) next
  tasks_next holder after_holder own others live all =
      task_step_from p (Owns k holder) (Owns k after_holder) s i e next m own others law all
    where
      before : IsRelisted s middle
      before = is_relisted s i (stays (encounter s i) e m.item m.behind)

      -- a new name is no holder's
      new_name : (n : Tid) → IsFresh middle.tasks i n.0 → after_holder ≡ Some n → ⊥
      new_name n fresh is =
          let (t, found, un) = live n is in
          let (v, found_v, same) =
          list_keeps s i (stays (encounter s i) e m.item m.behind) n t found in
          none_some (fresh_empty middle.tasks i n.0 fresh)
          (found_live n.0.generation (middle.tasks n.0.creator n.0.slot) v found_v)

      of_start : (n : Tid) (u : Task) (x : Item) → task_of middle n ≡ Some u → u.progress ≡ Deferred
          → Owns k after_holder n u
          → (after_holder ≡ Some n → ⊥) × Gives k 0 (start_list x (encounter middle i) u.list)
      of_start n u x found de (inl (is, gives)) =
          let (t, found_t, un) = live n is in
          let (v, xs, found_v, same) = before.tasks n u found in
          absurd
          (un (ap (λ (y : Task). y.progress) (some_same found_t found_v) ∙ (ap (λ (y : Task). y.progress) (sym same) ∙ de)))
      of_start n u x found de (inr (apart, gives)) = (apart, start_back k x (encounter middle i) u.list gives)

      law : EachTask (Owns k after_holder) middle → IsTaskLaw p middle i e m.item next (Owns k after_holder)
      law of_tasks = law_of_lasting p middle i e m.item next (Owns k after_holder) (record {
        starts = λ n u j t x is found ex de may of by q. inr (of_start n u x found de q);
        members = λ region team f n t r is found may new of by j a at.
            inr (
              new_name a.0 (subst (λ (b : Tid × ℕ). IsFresh middle.tasks i b.0.0) (get_or_from_slice_get team j a a at) (may.tasks_new j a (slice_get_within team j a at))),
              member_back k p (record { debug = p.env.debug; number = j; level = r.levels + 1; is_final = false }) f,
            );
        deferred = λ task f final seen n t is of fresh. inr (new_name task fresh, task_back k p f);
        made = λ task f final n t is of fresh by. inr (new_name task fresh, task_back k p f);
      })

  -- the same holder, where the lock is as it was
  thread_next : (holder : Option Tid) → next.locks k ≡ s.locks k → IsThreadOf s k holder
      → EachTask (Owns k holder) s → IsThreadOf next k holder
  thread_next None same h all = same ∙ h
  thread_next (Some n) same (t, found, lock, un) all =
      let (v, found_v, kept) = stay.tasks n t found (inr (inl (not_over (all n t found)))) in
      (v, found_v, same ∙ (lock ∙ ap (λ j. Some j) (sym (kept.thread un))), kept.started un)
    where
      -- a task that gives a lock back has something ahead
      not_over : Owns k (Some n) n t → t.progress ≡ Finished → ⊥
      not_over (inr (apart, gives)) over = apart refl
      not_over (inl (is, gives)) over =
          false_true (subst (Gives k 1) ((lists_right p events s reached n t found).finished over) gives)

  holder_live : (holder : Option Tid) → IsThreadOf s k holder → (n : Tid) → holder ≡ Some n → IsLiveTask s n
  holder_live None h n is = absurd (none_some refl is)
  holder_live (Some a) (t, found, lock, un) n is =
      let same : a ≡ n = some_same refl is in (t, ap (task_of s) (sym same) ∙ found, un)

  abbrev Next : Type 0
  Next = (holder : Option Tid) × IsThreadOf next k holder × EachTask (Owns k holder) next

  -- what is taken off a list leaves as much to give back
  kept_own : (holder : Option Tid)
      → ((w : ℕ) → Gives k w (m.item ∷ m.behind) → Gives k w (stays (encounter s i) e m.item m.behind))
      → (n : Tid) (t : Task) → take_item p (encounter s i) e (in_front t.frees t.list) ≡ Some (m.item, m.behind) → Owns k holder n t → Owns k holder n (relisted (stays (encounter s i) e m.item m.behind) t)
  kept_own holder keeps n t taken (inl (is, gives)) =
      inl (is, keeps 1 (given 1 t taken gives))
  kept_own holder keeps n t taken (inr (apart, gives)) =
      inr (apart, keeps 0 (given 0 t taken gives))

  same_holder : (holder : Option Tid) → next.locks k ≡ s.locks k
      → ((w : ℕ) → Gives k w (m.item ∷ m.behind) → Gives k w (stays (encounter s i) e m.item m.behind))
      → IsThreadOf s k holder → EachTask (Owns k holder) s → Next
  same_holder holder same keeps thread all =
      (holder, thread_next holder same thread all, tasks_next holder holder (λ n t is taken own. kept_own holder keeps n t taken own) (λ n t ne found own. own) (holder_live holder thread) all)

  -- ---- a lock is taken or given back

  lock_item : (l : ℕ) (y : Item) → fits (event.Lock l) y ≡ true → y ≡ item.Lock l
  lock_item l (item.Lock x) fit = ap item.Lock (sym (eqb-true l x fit))
  lock_item l y fit = absurd (false_true fit)

  unlock_item : (l : ℕ) (y : Item) → fits (event.Unlock l) y ≡ true → y ≡ item.Unlock l
  unlock_item l (item.Unlock x) fit = ap item.Unlock (sym (eqb-true l x fit))
  unlock_item l y fit = absurd (false_true fit)

  -- the event's thread has a task, since other threads' lists have no lock
  by_task : (NoLocks (m.item ∷ m.behind) → ⊥) → (n : Tid) × (t : Task) × IsCurrent s i n t
  by_task locked = go (s.threads i).current refl
    where
      go : (o : Option Tid) → (s.threads i).current ≡ o → (n : Tid) × (t : Task) × IsCurrent s i n t
      go None none =
          let list : ahead_of s i ≡ (s.threads i).list =
          ap
          (λ (o : Option Tid). option_map_or (λ (u : Task). in_front u.frees u.list) (option_and_then (task_of s) o) (s.threads i).list) none in
          absurd
          (locked (no_take p (encounter s i) e (s.threads i).list m.item m.behind (ap (take_item p (encounter s i) e) (sym list) ∙ m.taken) (idle i)))
      go (Some n) name =
          let (t, live, un) = (open_names p events s reached).currents i n name in
          let current : IsCurrent s i n t = record { name = name; live = live } in (n, t, current)

  gone_lock : (l w : ℕ) → m.item ≡ item.Lock l → Gives k w (m.item ∷ m.behind)
      → gives_back k (stays (encounter s i) e m.item m.behind) (if l == k then suc w else w) ≡ true
  gone_lock l w of h =
      subst
      (λ (y : Item). gives_back k (stays (encounter s i) e y m.behind) (if l == k then suc w else w) ≡ true)
      (sym of) (subst (λ (y : Item). Gives k w (y ∷ m.behind)) of h)

  gone_unlock : (l w : ℕ) → m.item ≡ item.Unlock l → Gives k (suc w) (m.item ∷ m.behind)
      → gives_back k (stays (encounter s i) e m.item m.behind) (if l == k then w else suc w) ≡ true
  gone_unlock l w of h =
      subst
      (λ (y : Item). gives_back k (stays (encounter s i) e y m.behind) (if l == k then w else suc w) ≡ true)
      (sym of) (subst (λ (y : Item). Gives k (suc w) (y ∷ m.behind)) of h)

  none_unlock : (l : ℕ) → m.item ≡ item.Unlock l → Gives k 0 (m.item ∷ m.behind)
      → (if l == k then false else gives_back k (stays (encounter s i) e m.item m.behind) 0) ≡ true
  none_unlock l of h =
      subst
      (λ (y : Item). (if l == k then false else gives_back k (stays (encounter s i) e y m.behind) 0) ≡ true)
      (sym of) (subst (λ (y : Item). Gives k 0 (y ∷ m.behind)) of h)

  take_lock : (l : ℕ) → e ≡ event.Lock l → (holder : Option Tid) → IsThreadOf s k holder
      → EachTask (Owns k holder) s → Next
  take_lock l is holder thread all = go (cases_eq l k)
    where
      of : m.item ≡ item.Lock l
      of = lock_item l m.item (subst (λ (x : Event). fits x m.item ≡ true) is item_fits)

      after_locks : next.locks ≡ put s.locks l (Some i)
      after_locks =
          let made : Some (with_lock middle l (Some i)) ≡ Some next =
          subst (λ (x : Event). effect p middle i x m.item ≡ Some next) is m.effect_is in
          ap (λ (u : State). u.locks) (sym (some_same refl made))
          ∙ ap (λ (f : ℕ → Option ℕ). put f l (Some i)) locks_moved

      free : s.locks l ≡ None
      free = subst (λ (x : Event). Rule s i x m.item) is m.rule

      -- nobody held it
      nobody : l ≡ k → holder ≡ None
      nobody same = of_holder holder thread
        where
          of_holder : (o : Option Tid) → IsThreadOf s k o → o ≡ None
          of_holder None h = refl
          of_holder (Some a) (t, found, lock, un) = absurd (none_some (ap s.locks (sym same) ∙ free) lock)

      go : (l ≡ k) ⊎ (l ≡ k → ⊥) → Next
      go (inr ne) =
          same_holder holder
          (ap (λ (f : ℕ → Option ℕ). f k) after_locks ∙ put_other s.locks l k (Some i) (λ h. ne (sym h)))
          (λ w h. subst (λ b. gives_back k (stays (encounter s i) e m.item m.behind) (if b then suc w else w) ≡ true) (ne_eqb l k ne) (gone_lock l w of h)) thread all
      go (inl same) =
          let (n, t, current) = by_task (λ h. subst (λ (y : Item). NoLocks (y ∷ m.behind)) of h) in
          let (v, found_v, kept) = stay.tasks n t current.live (needed_current p events s reached i n t current.name current.live) in
          let runs = current_begun p events s reached i n t current.name current.live in
          let un : t.progress ≡ Deferred → ⊥ = λ d. not_begun (sym runs.0 ∙ d) in
          let held : next.locks k ≡ Some i = ap (λ (f : ℕ → Option ℕ). f k) after_locks ∙ (ap (put s.locks l (Some i)) (sym same) ∙ put_same s.locks l (Some i)) in (
            Some n,
            (v, found_v, held ∙ ap (λ j. Some j) (sym (kept.thread un ∙ runs.1)), kept.started un),
            tasks_next holder (Some n) (own n current.name) (others n current.name)
                (λ a h. subst (IsLiveTask s) (some_same refl h) (t, current.live, un)) all,
          )
        where
          not_begun : Begun ≡ Deferred → ⊥
          not_begun h = cc

          own : (n : Tid) → (s.threads i).current ≡ Some n → (a : Tid) (t : Task) → IsCurrent s i a t
              → take_item p (encounter s i) e (in_front t.frees t.list) ≡ Some (m.item, m.behind) → Owns k holder a t
              → Owns k (Some n) a (relisted (stays (encounter s i) e m.item m.behind) t)
          own n current a t is' taken (inl (h, gives)) = absurd (none_some (nobody same) h)
          own n current a t is' taken (inr (apart, gives)) =
              inl (
                sym current ∙ is'.name,
                subst
                    (λ b. gives_back k (stays (encounter s i) e m.item m.behind) (if b then 1 else 0) ≡ true)
                    (eq-eqb l k same)
                    (gone_lock l 0 of (given 0 t taken gives)),
              )

          others : (n : Tid) → (s.threads i).current ≡ Some n → (a : Tid) (t : Task)
              → ((s.threads i).current ≡ Some a → ⊥) → task_of s a ≡ Some t → Owns k holder a t
              → Owns k (Some n) a t
          others n current a t ne found (inl (h, gives)) = absurd (none_some (nobody same) h)
          others n current a t ne found (inr (apart, gives)) = inr (λ h. ne (current ∙ h), gives)

  give_lock : (l : ℕ) → e ≡ event.Unlock l → (holder : Option Tid) → IsThreadOf s k holder
      → EachTask (Owns k holder) s → Next
  give_lock l is holder thread all = go (cases_eq l k)
    where
      of : m.item ≡ item.Unlock l
      of = unlock_item l m.item (subst (λ (x : Event). fits x m.item ≡ true) is item_fits)

      after_locks : next.locks ≡ put s.locks l None
      after_locks =
          let made : Some (with_lock middle l None) ≡ Some next =
          subst (λ (x : Event). effect p middle i x m.item ≡ Some next) is m.effect_is in
          ap (λ (u : State). u.locks) (sym (some_same refl made))
          ∙ ap (λ (f : ℕ → Option ℕ). put f l None) locks_moved

      passes : (l ≡ k → ⊥) → (w : ℕ) → Gives k w (m.item ∷ m.behind)
          → Gives k w (stays (encounter s i) e m.item m.behind)
      passes ne zero h =
          subst (λ b. (if b then false else gives_back k (stays (encounter s i) e m.item m.behind) 0) ≡ true)
          (ne_eqb l k ne) (none_unlock l of h)
      passes ne (suc w) h =
          subst (λ b. gives_back k (stays (encounter s i) e m.item m.behind) (if b then w else suc w) ≡ true)
          (ne_eqb l k ne) (gone_unlock l w of h)

      -- a task that gives it back now is the holder
      is_holder : l ≡ k → (n : Tid) (t : Task) → IsCurrent s i n t → Owns k holder n t → holder ≡ Some n
      is_holder same n t current (inl (h, gives)) = h
      is_holder same n t current (inr (apart, gives)) =
          absurd (false_true (subst (λ b. (if b then false else gives_back k (stays (encounter s i) e m.item m.behind) 0) ≡ true) (eq-eqb l k same)
          (none_unlock l of (given 0 t (ap (take_item p (encounter s i) e) (sym (ahead_of_current s i n t current)) ∙ m.taken) gives))))

      go : (l ≡ k) ⊎ (l ≡ k → ⊥) → Next
      go (inr ne) =
          same_holder holder
          (ap (λ (f : ℕ → Option ℕ). f k) after_locks ∙ put_other s.locks l k None (λ h. ne (sym h)))
          (passes ne) thread all
      go (inl same) =
          let (n, t, current) = by_task (λ h. subst (λ (y : Item). NoLocks (y ∷ m.behind)) of h) in
          let here : holder ≡ Some n = is_holder same n t current (all n t current.live) in (
            None,
            ap (λ (f : ℕ → Option ℕ). f k) after_locks ∙ (ap (put s.locks l None) (sym same) ∙ put_same s.locks l None),
            tasks_next holder None own (others n current.name here) (λ a h. absurd (none_some refl h)) all,
          )
        where
          own : (a : Tid) (t : Task) → IsCurrent s i a t
              → take_item p (encounter s i) e (in_front t.frees t.list) ≡ Some (m.item, m.behind) → Owns k holder a t
              → Owns k None a (relisted (stays (encounter s i) e m.item m.behind) t)
          own a t is' taken (inl (h, gives)) =
              inr (
                λ x. none_some refl x,
                subst
                    (λ b. gives_back k (stays (encounter s i) e m.item m.behind) (if b then 0 else 1) ≡ true)
                    (eq-eqb l k same)
                    (gone_unlock l 0 of (given 1 t taken gives)),
              )
          own a t is' taken (inr (apart, gives)) =
              absurd (apart (is_holder same a t is' (inr (apart, gives))))

          others : (n : Tid) → (s.threads i).current ≡ Some n → holder ≡ Some n → (a : Tid) (t : Task)
              → ((s.threads i).current ≡ Some a → ⊥) → task_of s a ≡ Some t → Owns k holder a t
              → Owns k None a t
          others n name here a t ne found (inl (h, gives)) = absurd (ne (name ∙ (sym here ∙ h)))
          others n name here a t ne found (inr (apart, gives)) = inr (λ x. none_some refl x, gives)

  held_next : (e' : Event) → e ≡ e' → (holder : Option Tid) → IsThreadOf s k holder
      → EachTask (Owns k holder) s → Next
  held_next (event.Lock l) is = take_lock l is
  held_next (event.Unlock l) is = give_lock l is
  held_next e' is = λ holder thread all.
      let other : is_lock_event e ≡ false = ap is_lock_event is in
      same_holder holder
      (ap (λ (f : ℕ → Option ℕ). f k) (from_some (λ u. u.locks ≡ middle.locks) (effect p middle i e m.item) next m.effect_is (locks_effect p middle i e m.item m.rule_moved other) ∙ locks_moved))
      (λ w h. stays_back k w (encounter s i) e m.item m.behind item_fits other h) thread all

-- ---- every reached state

abbrev Held : ℕ → State → Type 0
Held k s =
    EachThread IdleLists s × ((holder : Option Tid) × IsThreadOf s k holder × EachTask (Owns k holder) s)

pub locks_held : (p : Program) (events : List (ℕ × Event)) (s : State) → Reached p events s → (k : ℕ)
    → (holder : Option Tid) × IsHeldBy s k holder
locks_held p events s reached k = result held.1
  where
    held : Held k s
    held = over_reached p (Held k)
        (λ first u first_reached i e next step h. let (o, thread, all) = h.1 in (idle_step p u i e next step h.0, held_next k p first u first_reached i e next step h.0 e refl o thread all))
        [] (opening p) refl events s reached
        (each_first_thread p IdleLists tt (λ j. tt), (None, refl, each_first_task p (Owns k None) (inr (λ x. none_some refl x, main_back k p (record { debug = p.env.debug; number = 0; level = 0; is_final = false })))))

    result : ((holder : Option Tid) × IsThreadOf s k holder × EachTask (Owns k holder) s)
        → (holder : Option Tid) × IsHeldBy s k holder
    result (None, free, all) =
        (None, record { thread = free; others = λ n t found no_one. of_owns None n t no_one (all n t found) })
      where
        of_owns : (o : Option Tid) (n : Tid) (t : Task) → (o ≡ Some n → ⊥) → Owns k o n t → Gives k 0 t.list
        of_owns o n t ne (inl (h, gives)) = absurd (ne h)
        of_owns o n t ne (inr (apart, gives)) = gives
    result (Some a, (t, found, lock, un), all) =
        (Some a, record { thread = (t, found, lock, mine (all a t found)); others = λ n u found_u ne. of_owns n u ne (all n u found_u) })
      where
        mine : Owns k (Some a) a t → Gives k 1 t.list
        mine (inl (h, gives)) = gives
        mine (inr (apart, gives)) = absurd (apart refl)

        of_owns : (n : Tid) (u : Task) → (◌≡◌ {A = Option Tid} (Some a) (Some n) → ⊥) → Owns k (Some a) n u
            → Gives k 0 u.list
        of_owns n u ne (inl (h, gives)) = absurd (ne h)
        of_owns n u ne (inr (apart, gives)) = gives
