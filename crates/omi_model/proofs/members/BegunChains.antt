-- Each task that has begun and not finished stands on its thread's chain.
use Rattle.std.proofs.Common.{◌≡◌, ◌≢◌, ◌==◌, ◌⊎◌, inl, inr, ℕ, zero, suc, Bool, true, false, List, [], ◌∷◌, map, slice_get, Option, Some, None, if◌then◌else◌, refl, sym, ap, ◌∙◌, subst, arith, eq-eqb, ne_eqb}
use Rattle.std.specs.Prelude.{IfSome}
use Rattle.std.specs.Option.{option_and_then}
use Rattle.std.specs.List.{Contains}
use Rattle.std.proofs.lemmas.Bool.{cases_eq}
use Rattle.omi_script.specs.declared.program.Program.{Program}
use Rattle.omi_model.specs.declared.event.Event.{Event}
use Rattle.omi_model.specs.declared.event.Event.TheVariants as event
use Rattle.omi_model.specs.declared.id.Id.{Id}
use Rattle.omi_model.specs.declared.id.Rid.{Rid}
use Rattle.omi_model.specs.declared.id.Tid.{Tid}
use Rattle.omi_model.specs.declared.item.Item.{Item}
use Rattle.omi_model.specs.declared.item.Item.TheVariants as item
use Rattle.omi_model.specs.declared.progress.Progress.TheVariants.{Begun, Deferred, Finished, NotBegun}
use Rattle.omi_model.specs.declared.region.Region.{Region}
use Rattle.omi_model.specs.declared.task.Task.{Task}
use Rattle.omi_model.specs.declared.thread.Thread.{Thread}
use Rattle.omi_model.specs.Changes.{IsCurrent, encounter}
use Rattle.omi_model.specs.LawChains.{IsChain}
use Rattle.omi_model.specs.LawNames.{IsLiveTask}
use Rattle.omi_model.specs.LawStays.{Stays}
use Rattle.omi_model.specs.Lists.{stays}
use Rattle.omi_model.specs.Opening.{opening}
use Rattle.omi_model.specs.Reached.{Reached, Step}
use Rattle.omi_model.specs.Rules.{Rule, effect}
use Rattle.omi_model.specs.State.{State, region_of, scheduling_of, task_of}
use Rattle.omi_model.specs.Tasking.{MayStart, started, started_alone, started_now}
use Rattle.omi_model.specs.Teams.{MayFork, forked, got_threads, master_of, member_task}
use Rattle.omi_model.specs.WellFormed.{along}
use Rattle.omi_model.proofs.claims.AsksOrder.{at_contains, map_at}
use Rattle.omi_model.proofs.BarrierSteps.{current_after}
use Rattle.omi_model.proofs.ChainsKept.{current_kept, have_chains}
use Rattle.omi_model.proofs.EachObject.{EachTask, IsTaskLaw, is_end, task_step_from}
use Rattle.omi_model.proofs.EachThread.{EachThread, IsThreadLaw, law_of_current, thread_step}
use Rattle.omi_model.proofs.members.MemberEnds.{ends_as_finished, over_finished}
use Rattle.omi_model.proofs.MembersKnown.{members_known}
use Rattle.omi_model.proofs.OpenNames.{open_names}
use Rattle.omi_model.proofs.OpeningObjects.{each_first_task}
use Rattle.omi_model.proofs.NeededTasks.{needed_current, needed_scheduling}
use Rattle.omi_model.proofs.ReachedStates.{over_reached}
use Rattle.omi_model.proofs.SchedulingChains.{chain_stays}
use Rattle.omi_model.proofs.Slots.{false_true, none_some, put_same, same_or_not, some_same}
use Rattle.omi_model.proofs.StaysKept.{stays_step}
use Rattle.omi_model.proofs.Steps.{IsMove, IsRelisted, from_some, is_relisted, move_of, moved_on, of_current, of_region, relisted}

-- ---- which task is current after an event that begins one

abbrev Names : Event → Option Tid → Type 0
Names (event.ImplicitBegin task) o = o ≡ Some task
Names (event.Start task) o = o ≡ Some task
Names (event.StartNow task) o = o ≡ Some task
Names (event.Fork region team) o = o ≡ master_of team
Names e o = Unit {0}

module _ (p : Program) (s : State) (i : ℕ) where
  abbrev NamesIn : Event → State → Type 0
  NamesIn e u = Names e (u.threads i).current

  any : (o : Option State) → IfSome o (λ u. Unit {0})
  any None = tt
  any (Some u) = tt

  names_effect : (e : Event) (y : Item) → Rule s i e y → IfSome (effect p s i e y) (NamesIn e)
  names_effect (event.ImplicitBegin task) y rule =
      ap (λ (h : Thread). h.current) (put_same s.threads i (record (s.threads i) { current = Some task }))
  names_effect (event.Start task) (item.Tasks state) rule =
      of_current s i (started s i task) (NamesIn (event.Start task)) (MayStart s task (item.Tasks state)) rule
      (λ k t is may. ap (λ (h : Thread). h.current) (put_same s.threads i (record (s.threads i) { current = Some task })))
  names_effect (event.Start task) item.OneTask rule =
      of_current s i (started_alone s i task) (NamesIn (event.Start task)) (MayStart s task item.OneTask) rule
      (λ k t is may. ap (λ (h : Thread). h.current) (put_same s.threads i (record (s.threads i) { current = Some task })))
  names_effect (event.Start task) y rule = tt
  names_effect (event.StartNow task) (item.Defer seen f final) rule =
      of_current s i (started_now p s i task f final) (NamesIn (event.StartNow task)) _ rule
      (λ k t is fresh. ap (λ (h : Thread). h.current) (put_same s.threads i (record (s.threads i) { current = Some task })))
  names_effect (event.StartNow task) (item.StartNow f final) rule =
      of_current s i (started_now p s i task f final) (NamesIn (event.StartNow task)) _ rule
      (λ k t is fresh. ap (λ (h : Thread). h.current) (put_same s.threads i (record (s.threads i) { current = Some task })))
  names_effect (event.StartNow task) y rule = tt
  names_effect (event.Fork region team) (item.Fork f) rule =
      of_region s i (forked p s i region team f) (NamesIn (event.Fork region team))
      (λ k t r. MayFork s i region team) rule
      (λ k t r is found may. ap (λ (h : Thread). h.current) (put_same s.threads i (record (s.threads i) { current = master_of team })))
  names_effect (event.Fork region team) y rule = tt
  names_effect e y rule = any (effect p s i e y)

-- ---- the first of a team

first_member : (i : ℕ) (team : List (Tid × ℕ)) (got : List ℕ) → map (λ a. a.1) team ≡ i ∷ got
    → (a : Tid × ℕ) × (slice_get team 0 ≡ Some a) × (a.1 ≡ i)
first_member i [] got same = cc
first_member i (a ∷ team) got same =
    (a, refl, some_same (map_at (λ (x : Tid × ℕ). x.1) (a ∷ team) 0 a refl) (ap (λ xs. slice_get xs 0) same))

master_at : (team : List (Tid × ℕ)) (a : Tid × ℕ) → slice_get team 0 ≡ Some a → master_of team ≡ Some a.0
master_at [] a at = absurd (none_some refl at)
master_at (b ∷ team) a at = ap (λ (x : Tid × ℕ). Some x.0) (some_same refl at)

suc_zero : (n : ℕ) → suc n ≡ 0 → ⊥
suc_zero n e = omega (arith, e)

-- ---- chains

-- a task stands on the chain of a thread
abbrev pub IsOnChain : State → ℕ → Tid → Type 0
IsOnChain s j k = (n : ℕ) × (along (scheduling_of s) n (s.threads j).current ≡ Some k)

abbrev pub BegunOnChain : State → Tid → Task → Type 0
BegunOnChain s k t = t.progress ≡ Begun → IsOnChain s t.thread k

along_none : (s : State) (n : ℕ) → along (scheduling_of s) n None ≡ None
along_none s zero = refl
along_none s (suc n) = along_none s n

begun_finished : Begun ≡ Finished → ⊥
begun_finished e = cc

finished_begun : Finished ≡ Begun → ⊥
finished_begun e = cc

deferred_begun : Deferred ≡ Begun → ⊥
deferred_begun e = cc

waits_begun : NotBegun ≡ Begun → ⊥
waits_begun e = cc

module _ (p : Program) (events : List (ℕ × Event)) (s : State) (reached : Reached p events s) (i : ℕ)
    (e : Event) (next : State) (step : Step p s i e next) (all : EachTask (BegunOnChain s) s) where
  abbrev m : IsMove p s i e next
  m = move_of p s i e next step

  abbrev middle : State
  middle = moved_on s i e m.item m.behind

  before : IsRelisted s middle
  before = is_relisted s i (stays (encounter s i) e m.item m.behind)

  stay : Stays s next
  stay = stays_step p s i e next step

  -- the current task that begins
  names_now : (of : Event) → e ≡ of → Names of (next.threads i).current
  names_now of same =
      subst (λ (x : Event). Names x (next.threads i).current) same
      (from_some (NamesIn p middle i e) (effect p middle i e m.item) next m.effect_is (names_effect p middle i e m.item m.rule_moved))

  -- how the chain of the thread moves
  record IsPushed (o : Option Tid) : Type 0 where
    pub top : Tid
    pub is : o ≡ Some top
    pub under : scheduling_of next top ≡ (s.threads i).current

  record IsPopped (o : Option Tid) : Type 0 where
    pub top : Tid
    pub was : (s.threads i).current ≡ Some top
    pub under : scheduling_of s top ≡ o
    pub over : is_end e ≡ true

  abbrev Moves : Option Tid → Type 0
  Moves o = (o ≡ (s.threads i).current) ⊎ (IsPushed o ⊎ (IsPopped o ⊎ ((s.threads i).current ≡ None)))

  abbrev MovesOwn : ℕ → Thread → Type 0
  MovesOwn j h = j ≡ i → Moves h.current

  chain_moves : EachThread MovesOwn next
  chain_moves =
      thread_step p MovesOwn s i e next step (λ y ys none taken q. q) law
      (λ j same. inl (ap (λ h. (s.threads h).current) same))
    where
      law : (u : State) → IsRelisted s u → Stays u next → EachThread MovesOwn u
          → IsThreadLaw p u i e next MovesOwn
      law u relists later of_threads = law_of_current p u i e next MovesOwn (record {
        forks = λ region team f k t r is found may new q own. inr (inl (of_team region team f k t r is may new));
        joins_team = λ task may of q own. inr (inr (inr (sym (relists.currents i) ∙ may.idle)));
        ends = λ k t r is found im other over q own. inr (inr (inl (popped k t is over (ended k t r is found im other))));
        joins = λ k t r is found may of q own. inr (inr (inl (popped k t is (subst (λ (x : Event). is_end x ≡ true) (sym of) refl) (first k t r is found may.implicit may.first))));
        makes = λ task f final k t is new q own. inr (inl (pushed task k t is (ap (option_and_then (λ (x : Task). x.scheduling)) new)));
        starts = λ task x k t is may (v, found, begun, from) q own. inr (inl (pushed task k t is (ap (option_and_then (λ (x : Task). x.scheduling)) found ∙ from)));
        finishes = λ k t is ex over q own. inr (inr (inl (popped k t is over refl)));
      })
        where
          name : (k : Tid) (t : Task) → IsCurrent u i k t → (s.threads i).current ≡ Some k
          name k t is = sym (relists.currents i) ∙ is.name

          pushed : (task k : Tid) (t : Task) → IsCurrent u i k t → scheduling_of next task ≡ Some k
              → IsPushed (Some task)
          pushed task k t is from = record { top = task; is = refl; under = from ∙ sym (name k t is) }

          popped : {o : Option Tid} (k : Tid) (t : Task) → IsCurrent u i k t → is_end e ≡ true
              → t.scheduling ≡ o → IsPopped o
          popped k t is over under =
              let (v, xs, live, same) = relists.tasks k t is.live in
              record { top = k; was = name k t is; under = ap (option_and_then (λ (x : Task). x.scheduling)) live ∙ (ap (λ (x : Task). x.scheduling) (sym same) ∙ under); over = over }

          met : (k : Tid) (t : Task) (r : Region) → IsCurrent u i k t → region_of u t.region ≡ Some r
              → t.implicit ≡ true → t.scheduling ≡ (if t.number == 0 then r.encountering else None)
          met k t r is found im =
              let (v, xs, live, same) = relists.tasks k t is.live in
              let known = (members_known p events s reached).encountered k v live in
              subst (λ (x : Task). x.scheduling ≡ (if x.number == 0 then r.encountering else None)) (sym same)
              (known.scheduling (ap (λ (x : Task). x.implicit) (sym same) ∙ im) r (ap (λ (x : Task). region_of s x.region) (sym same) ∙ (sym (relists.regions t.region) ∙ found)))

          ended : (k : Tid) (t : Task) (r : Region) → IsCurrent u i k t → region_of u t.region ≡ Some r
              → t.implicit ≡ true → t.number ≢ 0 → t.scheduling ≡ None
          ended k t r is found im other =
              met k t r is found im ∙ ap (λ b. if b then r.encountering else None) (ne_eqb t.number 0 other)

          first : (k : Tid) (t : Task) (r : Region) → IsCurrent u i k t → region_of u t.region ≡ Some r
              → t.implicit ≡ true → t.number ≡ 0 → t.scheduling ≡ r.encountering
          first k t r is found im zero_number =
              met k t r is found im
              ∙ ap (λ b. if b then r.encountering else None) (eq-eqb t.number 0 zero_number)

          of_team : (region : Rid) (team : List (Tid × ℕ)) (f : ℕ) (k : Tid) (t : Task) (r : Region)
              → IsCurrent u i k t → MayFork u i region team
              → ((j : ℕ) (a : Tid × ℕ) → slice_get team j ≡ Some a → task_of next a.0 ≡ Some (member_task p region k t r f j a.1)) → IsPushed (master_of team)
          of_team region team f k t r is may new =
              let (a, at, own) = first_member i team (got_threads (u.threads i).asks) may.threads in
              record { top = a.0; is = master_at team a at; under = ap (option_and_then (λ (x : Task). x.scheduling)) (new 0 a at) ∙ sym (name k t is) }

  -- a task that was there stays on its chain, but for one that is over
  abbrev IsOver : Tid → Type 0
  IsOver k = ((s.threads i).current ≡ Some k) × (is_end e ≡ true)

  names_of : (o : Option Tid) (j : ℕ) → o ≡ (s.threads j).current → (k : Tid) → o ≡ Some k → IsLiveTask s k
  names_of o j same k is = (open_names p events s reached).currents j k (sym same ∙ is)

  kept : (k : Tid) (t : Task) → task_of s k ≡ Some t → t.progress ≡ Begun → (IsOver k → ⊥)
      → IsOnChain next t.thread k
  kept k t live begun still = go (cases_eq t.thread i) (all k t live begun)
    where
      same_along : (n j : ℕ)
          → along (scheduling_of next) n (s.threads j).current ≡ along (scheduling_of s) n (s.threads j).current
      same_along n j =
          chain_stays p events s reached next stay n (s.threads j).current
          (names_of (s.threads j).current j refl)
          (λ a x is live. needed_current p events s reached j a x is live)

      own : (n : ℕ) → along (scheduling_of s) n (s.threads i).current ≡ Some k
          → Moves (next.threads i).current → IsOnChain next i k
      own n h (inl same) = (n, ap (along (scheduling_of next) n) same ∙ (same_along n i ∙ h))
      own n h (inr (inl push)) =
          (suc n, ap (along (scheduling_of next) (suc n)) push.is ∙ (ap (along (scheduling_of next) n) push.under ∙ (same_along n i ∙ h)))
      own zero h (inr (inr (inl pop))) = absurd (still (h, pop.over))
      own (suc n) h (inr (inr (inl pop))) =
          let (v, live_v, un) = (open_names p events s reached).currents i pop.top pop.was in
          let under : v.scheduling ≡ (next.threads i).current =
          ap (option_and_then (λ (x : Task). x.scheduling)) (sym live_v) ∙ pop.under in
          let was : along (scheduling_of s) n (next.threads i).current ≡ Some k =
          ap (along (scheduling_of s) n) (sym pop.under)
          ∙ (ap (λ (o : Option Tid). along (scheduling_of s) (suc n) o) (sym pop.was) ∙ h) in
          (n, chain_stays p events s reached next stay n (next.threads i).current (λ a is. ((open_names p events s reached).tasks pop.top v live_v).scheduling a (under ∙ is)) (λ a x is live. needed_scheduling p events s reached pop.top v live_v a x (under ∙ is) live) ∙ was)
      own n h (inr (inr (inr none))) =
          absurd (none_some (ap (along (scheduling_of s) n) none ∙ along_none s n) h)

      go : (t.thread ≡ i) ⊎ (t.thread ≢ i) → IsOnChain s t.thread k → IsOnChain next t.thread k
      go (inl same) (n, h) =
          subst (λ j. IsOnChain next j k) (sym same)
          (own n (ap (λ j. along (scheduling_of s) n (s.threads j).current) (sym same) ∙ h) (chain_moves i refl))
      go (inr other) (n, h) =
          (n, ap (along (scheduling_of next) n) (current_kept p s i e next step t.thread other) ∙ (same_along n t.thread ∙ h))

  abbrev OnChainNow : Tid → Task → Type 0
  OnChainNow k t = t.progress ≡ Begun → (IsOver k → ⊥) → IsOnChain next t.thread k

  on_chain_now : EachTask OnChainNow next
  on_chain_now =
      task_step_from p (BegunOnChain s) OnChainNow s i e next m
      (λ k t is taken q begun still. kept k t is.live begun still)
      (λ k t ne live q begun still. kept k t live begun still) law all
    where
      law : EachTask OnChainNow middle → IsTaskLaw p middle i e m.item next OnChainNow
      law of_tasks = record {
        frees = λ k t free how q. q;
        shows = λ k t x q. q;
        tools = λ k t x q. q;
        groups = λ k t count is how q. q;
        sets = λ k t icv value v f at_set q. q;
        begins = λ k t waits mine by q begun still. (0, ap (λ j. (next.threads j).current) mine ∙ names_now (event.ImplicitBegin k) by);
        finishes = λ k t is over q begun still. absurd (finished_begun begun);
        starts = λ k u j t x is live ex de may of by q begun still. (0, names_now (event.Start k) by);
        members = λ region team f k t r is found may new of by j n at begun still. of_number region team by (got_threads (middle.threads i).asks) may.threads j n at begun;
        deferred = λ task f final seen k t is of fresh begun still. absurd (deferred_begun begun);
        made = λ task f final k t is of fresh by begun still. (0, names_now (event.StartNow task) by);
      }
        where
          of_number : (region : Rid) (team : List (Tid × ℕ)) → e ≡ event.Fork region team → (got : List ℕ)
              → map (λ a. a.1) team ≡ i ∷ got → (j : ℕ) (n : Tid × ℕ) → slice_get team j ≡ Some n
              → (if j == 0 then Begun else NotBegun) ≡ Begun → IsOnChain next n.1 n.0
          of_number region team by got threads zero n at begun =
              let (a, at_a, own) = first_member i team got threads in
              let same : a ≡ n = some_same at_a at in
              (0, ap (λ j. (next.threads j).current) (ap (λ (x : Tid × ℕ). x.1) (sym same) ∙ own) ∙ (names_now (event.Fork region team) by ∙ master_at team n at))
          of_number region team by got threads (suc j) n at begun =
              absurd
              (waits_begun (ap (λ b. if b then Begun else NotBegun) (sym (ne_eqb (suc j) 0 (suc_zero j))) ∙ begun))

  pub chain_step : EachTask (BegunOnChain next) next
  chain_step k t live begun = go (s.threads i).current refl (is_end e) refl
    where
      of_name : (n : Tid) → (s.threads i).current ≡ Some n → is_end e ≡ true → (n.0 ≡ k.0) ⊎ (n.0 ≡ k.0 → ⊥)
          → IsOnChain next t.thread k
      of_name n name over (inr other) =
          on_chain_now k t live begun (λ (name', over'). other (ap (λ (a : Tid). a.0) (some_same name name')))
      of_name n name over (inl same) =
          let current : (s.threads i).current ≡ Some k =
          name ∙ ap (λ (a : Id). Some (record { 0 = a })) same in
          let (v, live_v, un) = (open_names p events s reached).currents i k current in
          let zs : List Item = stays (encounter s i) e m.item m.behind in
          let is : IsCurrent middle i k (relisted zs v) =
          current_after s i zs k v (record { name = current; live = live_v }) in
          absurd
          (begun_finished (sym begun ∙ over_finished p events s reached i e next step (ends_as_finished p events s reached) e m.item over m.rule_moved k (relisted zs v) is m.effect_is t live))

      go : (o : Option Tid) → (s.threads i).current ≡ o → (b : Bool) → is_end e ≡ b
          → IsOnChain next t.thread k
      go None none b over = on_chain_now k t live begun (λ (name, over'). none_some none name)
      go (Some n) name false over =
          on_chain_now k t live begun (λ (name', over'). false_true (sym over ∙ over'))
      go (Some n) name true over = of_name n name over (same_or_not n.0 k.0)

pub on_chains : (p : Program) (events : List (ℕ × Event)) (s : State) → Reached p events s
    → EachTask (BegunOnChain s) s
on_chains p events s reached =
    over_reached p (λ u. EachTask (BegunOnChain u) u)
    (λ first u first_reached i e next step h. chain_step p first u first_reached i e next step h) []
    (opening p) refl events s reached
    (each_first_task p (BegunOnChain (opening p)) (λ begun. (0, refl)))

-- ---- so a task that a begun one is scheduled from has begun, and not finished

chain_begun : (s : State) (j : ℕ) (n : ℕ) (o : Option Tid) (ks : List Tid) (k : Tid) → IsChain s j o ks
    → along (scheduling_of s) n o ≡ Some k → (t : Task) × (task_of s k ≡ Some t) × (t.progress ≡ Begun)
chain_begun s j n o [] k none at =
    absurd (none_some (ap (along (scheduling_of s) n) none ∙ along_none s n) at)
chain_begun s j zero o (a ∷ ks) k (t, top, apart, live, mine, begun, rest) at =
    (t, ap (task_of s) (some_same at top) ∙ live, begun)
chain_begun s j (suc n) o (a ∷ ks) k (t, top, apart, live, mine, begun, rest) at =
    chain_begun s j n t.scheduling ks k rest
    (ap (along (scheduling_of s) n) (sym (ap (option_and_then (scheduling_of s)) top ∙ ap (option_and_then (λ (x : Task). x.scheduling)) live)) ∙ at)

along_next : (s : State) (n : ℕ) (o : Option Tid) (k : Tid) → along (scheduling_of s) n o ≡ Some k
    → along (scheduling_of s) (suc n) o ≡ scheduling_of s k
along_next s zero o k at = ap (option_and_then (scheduling_of s)) at
along_next s (suc n) o k at = along_next s n (option_and_then (scheduling_of s) o) k at

pub scheduling_begun : (p : Program) (events : List (ℕ × Event)) (s : State) → Reached p events s
    → (k : Tid) (t : Task) → task_of s k ≡ Some t → t.progress ≡ Begun → (g : Tid) → t.scheduling ≡ Some g
    → (u : Task) × (task_of s g ≡ Some u) × (u.progress ≡ Begun)
scheduling_begun p events s reached k t live begun g from =
    let (n, at) = on_chains p events s reached k t live begun in
    let (ks, chain) = have_chains p events s reached t.thread in
    chain_begun s t.thread (suc n) (s.threads t.thread).current ks g chain
    (along_next s n (s.threads t.thread).current k at ∙ (ap (option_and_then (λ (x : Task). x.scheduling)) live ∙ from))

-- ---- each stands in the list of the chain

chain_has : (s : State) (j : ℕ) (n : ℕ) (o : Option Tid) (ks : List Tid) (k : Tid) → IsChain s j o ks
    → along (scheduling_of s) n o ≡ Some k → (a : ℕ) × (slice_get ks a ≡ Some k)
chain_has s j n o [] k none at = absurd (none_some (ap (along (scheduling_of s) n) none ∙ along_none s n) at)
chain_has s j zero o (a ∷ ks) k (t, top, apart, live, mine, begun, rest) at =
    (0, ap (λ (x : Tid). Some x) (some_same top at))
chain_has s j (suc n) o (a ∷ ks) k (t, top, apart, live, mine, begun, rest) at =
    let (b, there) =
    chain_has s j n t.scheduling ks k rest
    (ap (along (scheduling_of s) n) (sym (ap (option_and_then (scheduling_of s)) top ∙ ap (option_and_then (λ (x : Task). x.scheduling)) live)) ∙ at) in
    (suc b, there)

pub begun_on_chains : (p : Program) (events : List (ℕ × Event)) (s : State) → Reached p events s
    → (k : Tid) (t : Task) → task_of s k ≡ Some t → t.progress ≡ Begun
    → (ks : List Tid) → IsChain s t.thread (s.threads t.thread).current ks → Contains ks k
begun_on_chains p events s reached k t live begun ks chain =
    let (n, at) = on_chains p events s reached k t live begun in
    let (a, there) = chain_has s t.thread n (s.threads t.thread).current ks k chain at in
    at_contains ks k a there
