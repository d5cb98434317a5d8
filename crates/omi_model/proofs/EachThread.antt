-- A law of each thread: what has to be shown of it, once for all events.
use Rattle.std.proofs.Common.{◌≡◌, ◌≢◌, ℕ, Bool, true, false, List, [], ◌∷◌, ◌++◌, slice_get, Option, Some, None, refl, sym, ap, ◌∙◌}
use Rattle.std.specs.Prelude.{IfSome, ⊤}
use Rattle.std.specs.Option.{option_and_then, option_map, option_map_or}
use Rattle.omi_script.specs.declared.program.Program.{Program}
use Rattle.omi_model.specs.declared.claim.Claim.TheVariants as claim
use Rattle.omi_model.specs.declared.event.Event.{Event}
use Rattle.omi_model.specs.declared.event.Event.TheVariants as event
use Rattle.omi_model.specs.declared.freeable.Freeable.TheVariants as freeable
use Rattle.omi_model.specs.declared.id.Rid.{Rid}
use Rattle.omi_model.specs.declared.id.Tid.{Tid}
use Rattle.omi_model.specs.declared.item.Item.{Item}
use Rattle.omi_model.specs.declared.item.Item.TheVariants as item
use Rattle.omi_model.specs.declared.region.Region.{Region}
use Rattle.omi_model.specs.declared.task.Task.{Task}
use Rattle.omi_model.specs.declared.thread.Thread.{Thread}
use Rattle.omi_model.specs.Barriers.{arrived, released}
use Rattle.omi_model.specs.Changes.{IsCurrent, OfCurrentRegion, encounter, in_front, on_task, on_thread, with_list}
use Rattle.omi_model.specs.Freeing.{freed}
use Rattle.omi_model.specs.Fresh.{IsFresh}
use Rattle.omi_model.specs.Groups.{group_begun, group_ended}
use Rattle.omi_model.specs.LawStays.{Stays}
use Rattle.omi_model.specs.Lists.{stays, take_item}
use Rattle.omi_model.specs.Put.{put}
use Rattle.omi_model.specs.Reached.{Step}
use Rattle.omi_model.specs.Rules.{Rule, effect}
use Rattle.omi_model.specs.Settings.{entered, left, with_tool}
use Rattle.omi_model.specs.State.{State, region_of, task_of}
use Rattle.omi_model.specs.Tasking.{MayFinish, MayStart, deferred, deferred_task, finished, scheduled, started, started_alone, started_now}
use Rattle.omi_model.specs.Teams.{MayAsk, MayBegin, MayBeginTask, MayEnd, MayFork, MayJoin, MayOffer, forked, joined, master_of, member_task, task_ended, wanted_size}
use Rattle.omi_model.specs.Rows.{working}
use Rattle.omi_model.specs.declared.progress.Progress.TheVariants.{Begun}
use Rattle.omi_model.proofs.Slots.{each_put, made_same, none_some, on_same}
use Rattle.omi_model.proofs.StaysKept.{new_team}
use Rattle.omi_model.proofs.Steps.{IsMove, IsRelisted, from_some, is_relisted, list_moves, move_of, moved_on, of_current, of_current_region, of_region, of_set}
use Rattle.omi_model.proofs.EachObject.{is_end, members_found, stays_after}

abbrev pub EachThread : (ℕ → Thread → Type 0) → State → Type 0
EachThread R s = (j : ℕ) → R j (s.threads j)

-- what has to be shown of a thread whose current task changes: it forks, begins its task of a team, ends it, joins, makes a task that starts at once, or
-- starts or finishes one
abbrev pub AtFork : Program → State → ℕ → Event → State → (ℕ → Thread → Type 0) → Type 0
AtFork p s i e next R = (region : Rid) (team : List (Tid × ℕ)) (f : ℕ) (k : Tid) (t : Task) (r : Region)
    → IsCurrent s i k t → region_of s t.region ≡ Some r → MayFork s i region team
    → ((j : ℕ) (m : Tid × ℕ) → slice_get team j ≡ Some m → task_of next m.0 ≡ Some (member_task p region k t r f j m.1)) → R i (s.threads i) → R i (record (s.threads i) { current = master_of team })

abbrev pub AtImplicitBegin : State → ℕ → Event → (ℕ → Thread → Type 0) → Type 0
AtImplicitBegin s i e R = (task : Tid) → MayBeginTask s i task → e ≡ event.ImplicitBegin task → R i (s.threads i)
    → R i (record (s.threads i) { current = Some task })

abbrev pub AtImplicitEnd : State → ℕ → Event → (ℕ → Thread → Type 0) → Type 0
AtImplicitEnd s i e R = (k : Tid) (t : Task) (r : Region) → IsCurrent s i k t → region_of s t.region ≡ Some r
    → t.implicit ≡ true → t.number ≢ 0 → is_end e ≡ true → R i (s.threads i)
    → R i (record (s.threads i) { current = None })

abbrev pub AtJoin : State → ℕ → Event → (ℕ → Thread → Type 0) → Type 0
AtJoin s i e R = (k : Tid) (t : Task) (r : Region) → IsCurrent s i k t → region_of s t.region ≡ Some r
    → MayJoin t.region t r → e ≡ event.Join t.region → R i (s.threads i)
    → R i (record (s.threads i) { current = r.encountering })

abbrev pub AtStartNow : Program → State → ℕ → State → (ℕ → Thread → Type 0) → Type 0
AtStartNow p s i next R = (task : Tid) (f : ℕ) (is_final : Bool) (k : Tid) (t : Task) → IsCurrent s i k t
    → task_of next task ≡ Some (scheduled i k t (deferred_task p k t f is_final 0)) → R i (s.threads i)
    → R i (record (s.threads i) { current = Some task })

abbrev pub AtStart : State → ℕ → State → (ℕ → Thread → Type 0) → Type 0
AtStart s i next R = (task : Tid) (x : Item) (k : Tid) (t : Task) → IsCurrent s i k t → MayStart s task x k t
    → ((u : Task) × (task_of next task ≡ Some u) × (u.progress ≡ Begun) × (u.scheduling ≡ Some k))
    → R i (s.threads i) → R i (record (s.threads i) { current = Some task })

abbrev pub AtFinish : State → ℕ → Event → (ℕ → Thread → Type 0) → Type 0
AtFinish s i e R = (k : Tid) (t : Task) → IsCurrent s i k t → t.implicit ≡ false → is_end e ≡ true
    → R i (s.threads i) → R i (record (s.threads i) { current = t.scheduling })

-- a law of each thread over the effect of an event of thread i
pub record IsThreadLaw (p : Program) (s : State) (i : ℕ) (e : Event) (next : State) (R : ℕ → Thread → Type 0) : Type 0 where
  pub begins : MayBegin (s.threads i) → R i (s.threads i) → R i (record (s.threads i) { begun = true })
  pub offers : MayOffer (s.threads i) → e ≡ event.Offer → R i (s.threads i)
      → R i (record (s.threads i) { claim = claim.Free })
  pub wants : (n : ℕ) (num : Option ℕ) → OfCurrentRegion s i (λ k t r. n ≡ wanted_size s t r num)
      → e ≡ event.Want n → R i (s.threads i) → R i (record (s.threads i) { wanted = n; asks = [] })
  pub asks : (w : ℕ) (got : Bool) → MayAsk s i w got → e ≡ event.Ask w got → R i (s.threads i)
      → R i (record (s.threads i) { asks = (s.threads i).asks ++ (w, got) ∷ [] })
  pub claims : (w : ℕ) → MayAsk s i w true → e ≡ event.Ask w true → R w (s.threads w)
      → R w (record (s.threads w) { claim = claim.By i })
  pub shows : (state wait : ℕ) → e ≡ event.State state wait → R i (s.threads i)
      → R i (record (s.threads i) { state = state; wait = wait })
  pub forks : AtFork p s i e next R
  pub joins_team : AtImplicitBegin s i e R
  pub ends : AtImplicitEnd s i e R
  pub joins : AtJoin s i e R
  pub makes : AtStartNow p s i next R
  pub starts : AtStart s i next R
  pub finishes : AtFinish s i e R

-- A thread but for its current task and its list: the other fields are the same for all. So a fact of what is left has to be shown where the current task
-- changes, alone.
abbrev pub with_task : Thread → Thread
with_task h = record h { begun = false; state = 0; wait = 0; claim = claim.Own; wanted = 0; asks = [] }

abbrev pub OfTask : (ℕ → Thread → Type 0) → ℕ → Thread → Type 0
OfTask R j h = R j (with_task h)

pub record IsCurrentLaw (p : Program) (s : State) (i : ℕ) (e : Event) (next : State) (R : ℕ → Thread → Type 0) : Type 0 where
  pub forks : AtFork p s i e next R
  pub joins_team : AtImplicitBegin s i e R
  pub ends : AtImplicitEnd s i e R
  pub joins : AtJoin s i e R
  pub makes : AtStartNow p s i next R
  pub starts : AtStart s i next R
  pub finishes : AtFinish s i e R

pub law_of_current : (p : Program) (s : State) (i : ℕ) (e : Event) (next : State) (R : ℕ → Thread → Type 0)
    → IsCurrentLaw p s i e next (OfTask R) → IsThreadLaw p s i e next (OfTask R)
law_of_current p s i e next R law = record {
  begins = λ may q. q;
  offers = λ may of q. q;
  wants = λ n num may of q. q;
  asks = λ w got may of q. q;
  claims = λ w may of q. q;
  shows = λ state wait of q. q;
  forks = law.forks;
  joins_team = law.joins_team;
  ends = law.ends;
  joins = law.joins;
  makes = law.makes;
  starts = law.starts;
  finishes = law.finishes;
}

-- a law of lists alone: an effect leaves them
pub of_lists : (p : Program) (s : State) (i : ℕ) (e : Event) (next : State) (P : ℕ → List Item → Type 0)
    → IsThreadLaw p s i e next (λ j h. P j h.list)
of_lists p s i e next P = law_of_current p s i e next (λ j h. P j h.list) (record {
  forks = λ region team f k t r is found may new q. q;
  joins_team = λ task may of q. q;
  ends = λ k t r is found im other over q. q;
  joins = λ k t r is found may of q. q;
  makes = λ task f final k t is new q. q;
  starts = λ task x k t is may new q. q;
  finishes = λ k t is ex over q. q;
})

-- a task that starts has begun afterwards
started_found : (s : State) (k j : Tid) (f : Task → Task) (t : Task) → task_of s k ≡ Some t
    → ((u : Task) → (f u).progress ≡ Begun) → ((u : Task) → (f u).scheduling ≡ Some j)
    → (u : Task) × (task_of (on_task s k f) k ≡ Some u) × (u.progress ≡ Begun) × (u.scheduling ≡ Some j)
started_found s k j f t live begun from =
    (f t, on_same s.tasks k.0 f ∙ ap (option_map f) live, begun t, from t)

module _ (p : Program) (R : ℕ → Thread → Type 0) where
  abbrev of_law : State → ℕ → Event → State → Type 0
  of_law s i e u = IsThreadLaw p s i e u R → EachThread R u

  each_thread : (s : State) (i : ℕ) (x : Thread) → EachThread R s → R i x → (j : ℕ)
      → R j (put s.threads i x j)
  each_thread s i x all here j = each_put R s.threads i x here j (λ ne. all j)

  thread_effect : (s : State) (i : ℕ) (e : Event) (y : Item) → Rule s i e y → EachThread R s
      → IfSome (effect p s i e y) (of_law s i e)
  thread_effect s i event.Begin y rule all =
      λ law. each_thread s i (record (s.threads i) { begun = true }) all (law.begins rule (all i))
  thread_effect s i event.Offer y rule all =
      λ law. each_thread s i (record (s.threads i) { claim = claim.Free }) all (law.offers rule refl (all i))
  thread_effect s i (event.Want n) (item.Want num) rule all =
      λ law. each_thread s i (record (s.threads i) { wanted = n; asks = [] }) all (law.wants n num rule refl (all i))
  thread_effect s i (event.Want n) y rule all = absurd rule
  thread_effect s i (event.Ask w true) y rule all =
      λ law.
      let listed : State = on_thread s i (λ h. record h { asks = h.asks ++ (w, true) ∷ [] }) in
      let first : EachThread R listed =
      each_thread s i (record (s.threads i) { asks = (s.threads i).asks ++ (w, true) ∷ [] }) all
      (law.asks w true rule refl (all i)) in
      each_thread listed w (record (listed.threads w) { claim = claim.By i }) first
      (each_put (λ j h. j ≡ w → R j (record h { claim = claim.By i })) s.threads i (record (s.threads i) { asks = (s.threads i).asks ++ (w, true) ∷ [] })
      (λ same. absurd (rule.other (sym same))) w (λ ne same. law.claims w rule refl (all w)) refl)
  thread_effect s i (event.Ask w false) y rule all =
      λ law. each_thread s i (record (s.threads i) { asks = (s.threads i).asks ++ (w, false) ∷ [] }) all (law.asks w false rule refl (all i))
  thread_effect s i (event.Fork region team) (item.Fork f) rule all =
      of_region s i (forked p s i region team f) (of_law s i (event.Fork region team))
      (λ k t r. MayFork s i region team) rule
      (λ k t r is found may law. each_thread s i (record (s.threads i) { current = master_of team }) all
      (law.forks region team f k t r is found may (members_found (member_task p region k t r f) team s.tasks i (new_team s.tasks i team may.tasks_new may.distinct)) (all i)))
  thread_effect s i (event.Fork region team) y rule all = tt
  thread_effect s i (event.ImplicitBegin task) y rule all =
      λ law. each_thread s i (record (s.threads i) { current = Some task }) all (law.joins_team task rule refl (all i))
  thread_effect s i (event.State state wait) y rule all =
      λ law. each_thread s i (record (s.threads i) { state = state; wait = wait }) all (law.shows state wait refl (all i))
  thread_effect s i event.Enter y rule all =
      of_current s i (entered s) (of_law s i event.Enter) (λ k t. ⊤) rule (λ k t is h law. all)
  thread_effect s i event.Leave y rule all =
      of_current s i (left s) (of_law s i event.Leave) (λ k t. ⊤) rule (λ k t is h law. all)
  thread_effect s i event.Arrive y rule all =
      of_current_region s i (λ k t. arrived s t) (of_law s i event.Arrive) _ rule
      (λ k t r is found h law. all)
  thread_effect s i event.Release y rule all =
      of_current_region s i (λ k t. released s t) (of_law s i event.Release) _ rule
      (λ k t r is found h law. all)
  thread_effect s i (event.ImplicitEnd task) y rule all =
      of_current_region s i (task_ended s i) (of_law s i (event.ImplicitEnd task))
      (λ k t r. MayEnd task k t) rule
      (λ k t r is found h law. each_thread s i (record (s.threads i) { current = None }) all (law.ends k t r is found h.implicit h.other refl (all i)))
  thread_effect s i (event.Join region) y rule all =
      of_region s i (joined s i) (of_law s i (event.Join region)) (λ k t r. MayJoin region t r) rule
      (λ k t r is found h law. each_thread s i (record (s.threads i) { current = r.encountering }) all
      (law.joins k t r is found (record { mine = refl; implicit = h.implicit; first = h.first; ended = h.ended }) (ap (λ (n : Rid). event.Join n) h.mine) (all i)))
  thread_effect s i (event.FreeTask task) (item.Frees (freeable.Finished n)) rule all =
      of_current s i (freed s task _) (of_law s i (event.FreeTask task)) _ rule (λ k t is h law. all)
  thread_effect s i (event.FreeTask task) (item.Frees (freeable.Joined n number)) rule all =
      of_current s i (freed s task _) (of_law s i (event.FreeTask task)) _ rule (λ k t is h law. all)
  thread_effect s i (event.FreeTask task) y rule all = tt
  thread_effect s i (event.FreeRegion region) (item.Frees (freeable.Joined n number)) rule all =
      λ law. all
  thread_effect s i (event.FreeRegion region) y rule all = tt
  thread_effect s i (event.Defer task) (item.Defer seen f final) rule all =
      of_current s i (deferred p s task f final seen) (of_law s i (event.Defer task)) _ rule
      (λ k t is fresh law. all)
  thread_effect s i (event.Defer task) y rule all = tt
  thread_effect s i (event.StartNow task) (item.Defer seen f final) rule all =
      of_current s i (started_now p s i task f final) (of_law s i (event.StartNow task))
      (λ k t. IsFresh s.tasks i task.0) rule
      (λ k t is fresh law. each_thread s i (record (s.threads i) { current = Some task }) all
      (law.makes task f final k t is (made_same s.tasks task.0
      (scheduled i k t (deferred_task p k t f final 0))) (all i)))
  thread_effect s i (event.StartNow task) (item.StartNow f final) rule all =
      of_current s i (started_now p s i task f final) (of_law s i (event.StartNow task))
      (λ k t. IsFresh s.tasks i task.0) rule
      (λ k t is fresh law. each_thread s i (record (s.threads i) { current = Some task }) all
      (law.makes task f final k t is (made_same s.tasks task.0
      (scheduled i k t (deferred_task p k t f final 0))) (all i)))
  thread_effect s i (event.StartNow task) y rule all = tt
  thread_effect s i (event.Start task) (item.Tasks state) rule all =
      of_current s i (started s i task) (of_law s i (event.Start task))
      (MayStart s task (item.Tasks state)) rule
      (λ k t is may law. each_thread s i (record (s.threads i) { current = Some task }) all
      (law.starts task (item.Tasks state) k t is may
      (started_found s task k (λ u. record (scheduled i k t u) { list = working (encounter s i) u.list })
      may.new may.live (λ u. refl) (λ u. refl)) (all i)))
  thread_effect s i (event.Start task) item.OneTask rule all =
      of_current s i (started_alone s i task) (of_law s i (event.Start task))
      (MayStart s task item.OneTask) rule
      (λ k t is may law. each_thread s i (record (s.threads i) { current = Some task }) all
      (law.starts task item.OneTask k t is may
      (started_found s task k (scheduled i k t) may.new may.live (λ u. refl) (λ u. refl)) (all i)))
  thread_effect s i (event.Start task) y rule all = tt
  thread_effect s i (event.Finish task) y rule all =
      of_current s i (finished s i) (of_law s i (event.Finish task)) (MayFinish task) rule
      (λ k t is h law. each_thread s i (record (s.threads i) { current = t.scheduling }) all (law.finishes k t is h.explicit refl (all i)))
  thread_effect s i event.GroupBegin y rule all =
      of_current s i (group_begun s) (of_law s i event.GroupBegin) _ rule (λ k t is h law. all)
  thread_effect s i event.GroupEnd y rule all =
      of_current s i (group_ended s) (of_law s i event.GroupEnd) _ rule (λ k t is h law. all)
  thread_effect s i (event.Set icv value) y rule all =
      of_set s i icv value (of_law s i (event.Set icv value)) rule (λ law. all) (λ k t v is e law. all)
  thread_effect s i (event.SetTool x) y rule all =
      of_current s i (λ k t. with_tool s x k) (of_law s i (event.SetTool x)) (λ k t. ⊤) rule
      (λ k t is h law. all)
  thread_effect s i (event.Lock k) y rule all = λ law. all
  thread_effect s i (event.Unlock k) y rule all = λ law. all
  thread_effect s i e y rule all = λ law. all

  -- the move of the list of a thread without a task
  abbrev pub ListMoves : State → ℕ → Event → Type 0
  ListMoves s i e =
      (y : Item) (ys : List Item) → (s.threads i).current ≡ None
      → take_item p (encounter s i) e (s.threads i).list ≡ Some (y, ys) → R i (s.threads i)
      → R i (record (s.threads i) { list = stays (encounter s i) e y ys })

-- the law of each thread over a step, from a fact of each thread before it
pub thread_step_from : (p : Program) (P Q : ℕ → Thread → Type 0) (s : State) (i : ℕ) (e : Event) (next : State)
    → (m : IsMove p s i e next)
    →
    ((s.threads i).current ≡ None → take_item p (encounter s i) e (s.threads i).list ≡ Some (m.item, m.behind)
    → P i (s.threads i) → Q i (record (s.threads i) { list = stays (encounter s i) e m.item m.behind }))
    → ((j : ℕ) → (j ≡ i → (s.threads i).current ≡ None → ⊥) → P j (s.threads j) → Q j (s.threads j))
    → (EachThread Q (moved_on s i e m.item m.behind) → IsThreadLaw p (moved_on s i e m.item m.behind) i e next Q) → EachThread P s → EachThread Q next
thread_step_from p P Q s i e after_step m moves others law all =
    let zs : List Item = stays (encounter s i) e m.item m.behind in
    let middle : EachThread Q (with_list s i zs) = list_moves s i zs (EachThread Q)
    (λ k is j. others j (λ same none. none_some none is) (all j))
    (λ none j. each_put Q s.threads i (record (s.threads i) { list = zs })
    (moves none (ap (take_item p (encounter s i) e)
    (sym (ap (λ (o : Option Tid). option_map_or (λ (u : Task). in_front u.frees u.list)
    (option_and_then (task_of s) o) (s.threads i).list) none)) ∙ m.taken) (all i))
    j (λ ne. others j (λ same. absurd (ne same)) (all j))) in
    from_some (of_law p Q (with_list s i zs) i e)
    (effect p (with_list s i zs) i e m.item) after_step m.effect_is
    (thread_effect p Q (with_list s i zs) i e m.item m.rule_moved middle) (law middle)

-- the law of each thread over a step
pub thread_step : (p : Program) (R : ℕ → Thread → Type 0) (s : State) (i : ℕ) (e : Event) (next : State)
    → Step p s i e next → ListMoves p R s i e
    → ((middle : State) → IsRelisted s middle → Stays middle next → EachThread R middle → IsThreadLaw p middle i e next R) → EachThread R s → EachThread R next
thread_step p R s i e after_step step moves law all =
    let m = move_of p s i e after_step step in
    let zs : List Item = stays (encounter s i) e m.item m.behind in
    thread_step_from p R R s i e after_step m (λ none taken h. moves m.item m.behind none taken h)
    (λ j other h. h)
    (law (with_list s i zs) (is_relisted s i zs) (stays_after p s i e after_step m)) all
