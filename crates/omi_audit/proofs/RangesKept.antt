-- In every reached state the numbers of tasks, regions and threads lie in their ranges, and no region is nested deeper than a program nests them.
use Rattle.std.proofs.Common.{◌≡◌, ◌==◌, ◌⊎◌, inl, inr, ℕ, zero, suc, ◌+◌, ◌<◌, ◌≤◌, Bool, true, false, not, List, [], ◌∷◌, length, Option, Some, None, IfSome, if◌then◌else◌, refl, sym, ap, ◌∙◌, subst, arith, eqb-true}
use Rattle.std.specs.Prelude.{slice_index}
use Rattle.std.specs.Option.{option_and_then, option_map, option_map_or}
use Rattle.omi_script.proofs.RuleLemmas.{Rules-from_accepted}
use Rattle.omi_script.specs.Rules.{IsSize}
use Rattle.omi_script.specs.Schedules.{kind_in, chunk_in}
use Rattle.omi_script.specs.declared.limits.TheConstants.{MAX_CHUNK, MAX_DEPTH, MAX_DEVICE, MAX_LEVELS}
use Rattle.omi_script.specs.declared.program.Program.{Program}
use Rattle.omi_numbers.specs.declared.variables.TheConstants.{DEFAULT_DEVICE_VAR, DYN_VAR, MAX_ACTIVE_LEVELS_VAR, NTHREADS_VAR, RUN_SCHED_VAR}
use Rattle.omi_model.specs.declared.encounter.Encounter.{Encounter}
use Rattle.omi_model.specs.declared.event.Event.{Event}
use Rattle.omi_model.specs.declared.event.Event.TheVariants as event
use Rattle.omi_model.specs.declared.freeable.Freeable.TheVariants as freeable
use Rattle.omi_model.specs.declared.id.Tid.{Tid}
use Rattle.omi_model.specs.declared.item.Item.{Item}
use Rattle.omi_model.specs.declared.item.Item.TheVariants as item
use Rattle.omi_model.specs.declared.region.Region.{Region}
use Rattle.omi_model.specs.declared.task.Task.{Task}
use Rattle.omi_model.specs.declared.task.Variables.{Variables}
use Rattle.omi_model.specs.declared.thread.Thread.{Thread}
use Rattle.omi_model.specs.Barriers.{arrived, released}
use Rattle.omi_model.specs.Changes.{IsCurrent, ahead_of, by_current, by_region, encounter, in_front, on_task, with_list}
use Rattle.omi_model.specs.Freeing.{above, freed}
use Rattle.omi_model.specs.Groups.{group_begun, group_ended}
use Rattle.omi_model.specs.LawStays.{Stays}
use Rattle.omi_model.specs.Lists.{fits, stays, take_item}
use Rattle.omi_model.specs.Opening.{opening, opening_region}
use Rattle.omi_model.specs.Reached.{Reached, Step}
use Rattle.omi_model.specs.Rules.{effect}
use Rattle.omi_model.specs.Settings.{entered, left, with_head, with_set, with_task_variable, with_tool, with_variable, with_variable_of}
use Rattle.omi_model.specs.State.{State, region_of, task_of}
use Rattle.omi_model.specs.Tasking.{deferred, finished, started, started_alone, started_now}
use Rattle.omi_model.specs.Teams.{forked, joined, new_region, shortened, task_ended}
use Rattle.omi_model.proofs.BarrierOrder.{and_left, and_right}
use Rattle.omi_model.proofs.EachObject.{EachTask, IsTaskLaw, ahead_of_current, over_events, start_list, stays_after, task_step_from}
use Rattle.omi_model.proofs.EachThread.{EachThread, IsThreadLaw, thread_step}
use Rattle.omi_model.proofs.ListLaws.{take_fits}
use Rattle.omi_model.proofs.OpeningObjects.{each_first_task, each_first_thread}
use Rattle.omi_model.proofs.Slots.{false_true, none_some, some_same}
use Rattle.omi_model.proofs.StaysKept.{needed_region, stays_step}
use Rattle.omi_model.proofs.Steps.{IsMove, IsRelisted, relisted, from_some, is_relisted, list_moves, move_of, moved_on}
use Rattle.omi_audit.proofs.ItemRanges.{AreIn, IsFunction, IsItemIn, IsSetIn, IsWait, depth, front_in, main_in, member_in, nests_most, stays_in, take_in, task_in, worker_in, working_in}

-- the variables of a data environment
pub record VariablesIn (v : Variables) : Type 0 where
  pub sizes : (k : ℕ) → k < length v.nthreads → IsSize (slice_index v.nthreads k)
  pub chunk : v.schedule.chunk ≤ MAX_CHUNK
  pub device : v.device ≤ MAX_DEVICE

module _ (p : Program) where
  -- a task in its region, under which so many more may be nested
  abbrev pub TaskIn : State → Tid → Task → Type 0
  TaskIn s k t = (r : Region) × (d : ℕ) × (region_of s t.region ≡ Some r) × (r.levels + d ≤ MAX_DEPTH)
      × AreIn p d t.list × (t.function < length p.funcs) × VariablesIn t.variables × (r.function < length p.funcs)

  abbrev pub ThreadIn : ℕ → Thread → Type 0
  ThreadIn j h = AreIn p 0 h.list × IsWait h.wait

  pub record InRanges (s : State) : Type 0 where
    pub tasks : EachTask (TaskIn s) s
    pub threads : EachThread ThreadIn s
    pub environment : s.environment ≡ p.env
    pub max_active : s.max_active ≤ MAX_LEVELS

-- ---- variables

-- the first of the sizes is set
head_sizes : (value : ℕ) (xs : List ℕ) → IsSize value → ((k : ℕ) → k < length xs → IsSize (slice_index xs k))
    → (k : ℕ) → k < length (with_head value xs) → IsSize (slice_index (with_head value xs) k)
head_sizes value [] is each k within = absurd (omega (arith, within))
head_sizes value (x ∷ xs) is each zero within = is
head_sizes value (x ∷ xs) is each (suc k) within = each (suc k) within

-- a member's sizes
shorter_sizes : (xs : List ℕ) → ((k : ℕ) → k < length xs → IsSize (slice_index xs k))
    → (k : ℕ) → k < length (shortened xs) → IsSize (slice_index (shortened xs) k)
shorter_sizes [] each k within = absurd (omega (arith, within))
shorter_sizes (x ∷ []) each k within = each k within
shorter_sizes (x ∷ y ∷ xs) each k within = each (suc k) (omega (arith, within))

set_in : (icv value : ℕ) (v w : Variables) → IsSetIn icv value → VariablesIn v → with_variable icv value v ≡ Some w → VariablesIn w
set_in icv value v w is h e = by_dyn (icv == DYN_VAR) e
  where
    same : {x : Variables} → ◌≡◌ {A = Option Variables} (Some x) (Some w) → VariablesIn x → VariablesIn w
    same f h' = subst VariablesIn (some_same refl f) h'

    by_device : (b : Bool) → icv == DEFAULT_DEVICE_VAR ≡ b → (if b then Some (record v { device = value }) else None) ≡ Some w → VariablesIn w
    by_device true at f = same f (record { sizes = h.sizes; chunk = h.chunk; device = is.device (eqb-true icv DEFAULT_DEVICE_VAR at) })
    by_device false at f = absurd (none_some refl f)

    by_sched : (b : Bool) → icv == RUN_SCHED_VAR ≡ b
        → (if b then Some (record v { schedule = record { kind = kind_in value; chunk = chunk_in value } }) else
        (if icv == DEFAULT_DEVICE_VAR then Some (record v { device = value }) else None)) ≡ Some w
        → VariablesIn w
    by_sched true at f = same f (record { sizes = h.sizes; chunk = is.chunk (eqb-true icv RUN_SCHED_VAR at); device = h.device })
    by_sched false at f = by_device (icv == DEFAULT_DEVICE_VAR) refl f

    by_nthreads : (b : Bool) → icv == NTHREADS_VAR ≡ b → (if b then Some (record v { nthreads = with_head value v.nthreads })
        else (if icv == RUN_SCHED_VAR then Some (record v { schedule = record { kind = kind_in value; chunk = chunk_in value } })
        else (if icv == DEFAULT_DEVICE_VAR then Some (record v { device = value }) else None))) ≡ Some w
        → VariablesIn w
    by_nthreads true at f = same f (record { sizes = head_sizes value v.nthreads (is.size (eqb-true icv NTHREADS_VAR at)) h.sizes; chunk = h.chunk; device = h.device })
    by_nthreads false at f = by_sched (icv == RUN_SCHED_VAR) refl f

    by_dyn : (b : Bool) → (if b then Some (record v { dynamic = not (value == 0) })
        else (if icv == NTHREADS_VAR then Some (record v { nthreads = with_head value v.nthreads })
        else (if icv == RUN_SCHED_VAR then Some (record v { schedule = record { kind = kind_in value; chunk = chunk_in value } })
        else (if icv == DEFAULT_DEVICE_VAR then Some (record v { device = value }) else None)))) ≡ Some w
        → VariablesIn w
    by_dyn true f = same f (record { sizes = h.sizes; chunk = h.chunk; device = h.device })
    by_dyn false f = by_nthreads (icv == NTHREADS_VAR) refl f

-- ---- what the event's item says

shown_wait : (p : Program) (d state wait : ℕ) (y : Item) → fits (event.State state wait) y ≡ true → IsItemIn p d y → IsWait wait
shown_wait p d state wait (item.State s w) fit is =
    subst IsWait (sym (eqb-true wait w (and_right (state == s) (wait == w) fit))) is
shown_wait p d state wait y fit is = absurd (false_true fit)

set_item : (p : Program) (d icv value : ℕ) (y : Item) → fits (event.Set icv value) y ≡ true → IsItemIn p d y → IsSetIn icv value
set_item p d icv value (item.Set v x) fit is =
    subst (λ n. IsSetIn n value) (sym (eqb-true icv v (and_left (icv == v) (value == x) fit)))
    (subst (λ n. IsSetIn v n) (sym (eqb-true value x (and_right (icv == v) (value == x) fit))) is)
set_item p d icv value y fit is = absurd (false_true fit)

start_in : (p : Program) (d : ℕ) (x : Item) (at : Encounter) (zs : List Item) → AreIn p d zs → AreIn p d (start_list x at zs)
start_in p d (item.Tasks state) at zs h = working_in p d at zs h
start_in p d x at zs h = h

-- ---- max-active-levels-var and the environment

-- an event leaves the environment, and sets max-active-levels-var at most
abbrev Leaves : Event → State → State → Type 0
Leaves e s u = (u.environment ≡ s.environment)
    × ((u.max_active ≡ s.max_active) ⊎ ((value : ℕ) × (e ≡ event.Set MAX_ACTIVE_LEVELS_VAR value) × (u.max_active ≡ value)))

if_and_then : {A B : Type 0} (P : B → Type 0) (f : A → Option B) (o : Option A) → ((x : A) → IfSome (f x) P)
    → IfSome (option_and_then f o) P
if_and_then P f None each = tt
if_and_then P f (Some x) each = each x

if_map : {A B : Type 0} (P : B → Type 0) (f : A → B) (o : Option A) → ((x : A) → P (f x)) → IfSome (option_map f o) P
if_map P f None each = tt
if_map P f (Some x) each = each x

module _ (p : Program) (s : State) (i : ℕ) where
  at_current : (e : Event) (f : Tid → Task → State) → ((k : Tid) (t : Task) → Leaves e s (f k t)) → IfSome (by_current s i f) (Leaves e s)
  at_current e f each =
      if_and_then (Leaves e s) (λ k. option_map (f k) (task_of s k)) (s.threads i).current
      (λ k. if_map (Leaves e s) (f k) (task_of s k) (each k))

  at_region : (e : Event) (f : Tid → Task → Region → State) → ((k : Tid) (t : Task) (r : Region) → Leaves e s (f k t r))
      → IfSome (by_region s i f) (Leaves e s)
  at_region e f each =
      if_and_then (Leaves e s) (λ k. option_and_then (λ t. option_map (f k t) (region_of s t.region)) (task_of s k)) (s.threads i).current
      (λ k. if_and_then (Leaves e s) (λ t. option_map (f k t) (region_of s t.region)) (task_of s k)
      (λ t. if_map (Leaves e s) (f k t) (region_of s t.region) (each k t)))

  leaves_set : (icv value : ℕ) → IfSome (with_set s i icv value) (Leaves (event.Set icv value) s)
  leaves_set icv value = by_test (icv == MAX_ACTIVE_LEVELS_VAR) refl
    where
      by_test : (b : Bool) → icv == MAX_ACTIVE_LEVELS_VAR ≡ b
          → IfSome (if b then Some (record s { max_active = value }) else with_task_variable s i icv value) (Leaves (event.Set icv value) s)
      by_test true e = (refl, inr (value, ap (λ n. event.Set n value) (eqb-true icv MAX_ACTIVE_LEVELS_VAR e), refl))
      by_test false e =
          if_and_then (Leaves (event.Set icv value) s) (λ k. option_and_then (with_variable_of s icv value k) (task_of s k)) (s.threads i).current
          (λ k. if_and_then (Leaves (event.Set icv value) s) (with_variable_of s icv value k) (task_of s k)
          (λ t. if_map (Leaves (event.Set icv value) s) (λ v. on_task s k (λ u. record u { variables = v })) (with_variable icv value t.variables) (λ v. (refl, inl refl))))

  leaves : (e : Event) (y : Item) → IfSome (effect p s i e y) (Leaves e s)
  leaves event.Begin y = (refl, inl refl)
  leaves event.Offer y = (refl, inl refl)
  leaves (event.Want n) y = (refl, inl refl)
  leaves (event.Ask w true) y = (refl, inl refl)
  leaves (event.Ask w false) y = (refl, inl refl)
  leaves (event.Fork region team) (item.Fork f) = at_region (event.Fork region team) (forked p s i region team f) (λ k t r. (refl, inl refl))
  leaves (event.Fork region team) y = tt
  leaves (event.ImplicitBegin task) y = (refl, inl refl)
  leaves (event.State state wait) y = (refl, inl refl)
  leaves event.Enter y = at_current event.Enter (entered s) (λ k t. (refl, inl refl))
  leaves event.Leave y = at_current event.Leave (left s) (λ k t. (refl, inl refl))
  leaves event.Arrive y = at_current event.Arrive (λ k t. arrived s t) (λ k t. (refl, inl refl))
  leaves event.Release y = at_current event.Release (λ k t. released s t) (λ k t. (refl, inl refl))
  leaves event.Pass y = (refl, inl refl)
  leaves (event.ImplicitEnd task) y = at_current (event.ImplicitEnd task) (task_ended s i) (λ k t. (refl, inl refl))
  leaves (event.Join region) y = at_region (event.Join region) (joined s i) (λ k t r. (refl, inl refl))
  leaves (event.FreeTask task) (item.Frees (freeable.Finished n)) = at_current (event.FreeTask task) (freed s task (above s task)) (λ k t. (refl, inl refl))
  leaves (event.FreeTask task) (item.Frees (freeable.Joined n number)) = at_current (event.FreeTask task) (freed s task (Some (freeable.Joined n (number + 1)))) (λ k t. (refl, inl refl))
  leaves (event.FreeTask task) y = tt
  leaves (event.FreeRegion region) (item.Frees (freeable.Joined n number)) = (refl, inl refl)
  leaves (event.FreeRegion region) y = tt
  leaves (event.Seen j) y = (refl, inl refl)
  leaves (event.Defer task) (item.Defer seen f final) = at_current (event.Defer task) (deferred p s task f final seen) (λ k t. (refl, inl refl))
  leaves (event.Defer task) y = tt
  leaves (event.StartNow task) (item.Defer seen f final) = at_current (event.StartNow task) (started_now p s i task f final) (λ k t. (refl, inl refl))
  leaves (event.StartNow task) (item.StartNow f final) = at_current (event.StartNow task) (started_now p s i task f final) (λ k t. (refl, inl refl))
  leaves (event.StartNow task) y = tt
  leaves (event.Start task) (item.Tasks state) = at_current (event.Start task) (started s i task) (λ k t. (refl, inl refl))
  leaves (event.Start task) item.OneTask = at_current (event.Start task) (started_alone s i task) (λ k t. (refl, inl refl))
  leaves (event.Start task) y = tt
  leaves (event.Finish task) y = at_current (event.Finish task) (finished s i) (λ k t. (refl, inl refl))
  leaves event.WaitDone y = (refl, inl refl)
  leaves event.GroupBegin y = at_current event.GroupBegin (group_begun s) (λ k t. (refl, inl refl))
  leaves event.GroupEnd y = at_current event.GroupEnd (group_ended s) (λ k t. (refl, inl refl))
  leaves event.Yield y = (refl, inl refl)
  leaves (event.Set icv value) y = leaves_set icv value
  leaves (event.SetTool x) y = at_current (event.SetTool x) (λ k t. with_tool s x k) (λ k t. (refl, inl refl))
  leaves (event.Lock k) y = (refl, inl refl)
  leaves (event.Unlock k) y = (refl, inl refl)
  leaves event.Work y = (refl, inl refl)
  leaves (event.Call f) y = (refl, inl refl)
  leaves event.Skip y = (refl, inl refl)
  leaves event.Ret y = (refl, inl refl)
  leaves event.Done y = (refl, inl refl)

-- ---- a step

module _ (p : Program) (s : State) (i : ℕ) (e : Event) (next : State) (step : Step p s i e next) (m : IsMove p s i e next) (ranges : InRanges p s) where
  abbrev middle : State
  middle = moved_on s i e m.item m.behind

  before : IsRelisted s middle
  before = is_relisted s i (stays (encounter s i) e m.item m.behind)

  later : Stays middle next
  later = stays_after p s i e next m

  -- the item that the event takes, of a list under which so many more regions are nested
  list_some : (d : ℕ) × AreIn p d (ahead_of s i)
  list_some = by_name (s.threads i).current
    where
      of_task : (o : Option Task) → ((t : Task) → o ≡ Some t → (d : ℕ) × AreIn p d t.list)
          → (d : ℕ) × AreIn p d (option_map_or (λ t. in_front t.frees t.list) o (s.threads i).list)
      of_task None all = (0, (ranges.threads i).0)
      of_task (Some t) all = let own = all t refl in (own.0, front_in p own.0 t.frees t.list own.1)

      by_name : (o : Option Tid)
          → (d : ℕ) × AreIn p d (option_map_or (λ t. in_front t.frees t.list) (option_and_then (task_of s) o) (s.threads i).list)
      by_name None = (0, (ranges.threads i).0)
      by_name (Some k) = of_task (task_of s k) (λ t live. (let own = ranges.tasks k t live in (own.1, own.4)))

  item_some : (d : ℕ) × IsItemIn p d m.item
  item_some =
      let own = list_some in
      (own.0, (take_in p own.0 (encounter s i) e (ahead_of s i) m.item m.behind m.taken own.1).0)

  item_fits : fits e m.item ≡ true
  item_fits = take_fits p (encounter s i) e (ahead_of s i) m.item m.behind m.taken

  -- the item of the current task, in its region
  record OfCurrentItem (t : Task) : Type 0 where
    region : Region
    rest : ℕ
    found : region_of next t.region ≡ Some region
    same : (r : Region) → region_of middle t.region ≡ Some r → region.levels ≡ r.levels
    levels : region.levels + rest ≤ MAX_DEPTH
    item : IsItemIn p rest m.item
    function : region.function < length p.funcs

  current_item : (k : Tid) (t : Task) → IsCurrent middle i k t → OfCurrentItem t
  current_item k t is =
      let was = before.tasks k t is.live in
      let v = was.0 in
      let current : IsCurrent s i k v = record { name = sym (before.currents i) ∙ is.name; live = was.2 } in
      let own = ranges.tasks k v was.2 in
      let region : t.region ≡ v.region = ap (λ (u : Task). u.region) was.3 in
      let found : region_of middle t.region ≡ Some own.0 = ap (region_of middle) region ∙ before.regions v.region ∙ own.2 in
      let on = later.regions t.region own.0 found (needed_region middle k t is.live own.0) in
      let stays_same = on.2 in
      let level = stays_same.levels in
      let low = own.3 in
      record {
        region = on.0;
        rest = own.1;
        found = on.1;
        same = λ r there. (level ∙ ap (λ (x : Region). x.levels) (some_same found there));
        levels = omega (arith, level, low);
        item = (take_in p own.1 (encounter s i) e (in_front v.frees v.list) m.item m.behind
            (ap (take_item p (encounter s i) e) (sym (ahead_of_current s i k v current)) ∙ m.taken) (front_in p own.1 v.frees v.list own.4)).0;
        function = subst (λ f. f < length p.funcs) (sym stays_same.function) own.7;
      }

  -- what holds of the tasks of the state holds of them in the regions of the next one
  on_later : EachTask (TaskIn p next) s
  on_later k t live =
      let own = ranges.tasks k t live in
      let on = (stays_step p s i e next step).regions t.region own.0 own.2 (needed_region s k t live own.0) in
      let same = on.2 in
      let level = same.levels in
      let low = own.3 in
      (on.0, own.1, on.1, omega (arith, level, low), own.4, own.5, own.6, subst (λ f. f < length p.funcs) (sym same.function) own.7)

  moved_in : (k : Tid) (t : Task) → IsCurrent s i k t
      → take_item p (encounter s i) e (in_front t.frees t.list) ≡ Some (m.item, m.behind) → TaskIn p next k t
      → TaskIn p next k (relisted (stays (encounter s i) e m.item m.behind) t)
  moved_in k t is taken own = (
    own.0,
    own.1,
    own.2,
    own.3,
    stays_in p own.1 (encounter s i) e m.item m.behind
        (take_in p own.1 (encounter s i) e (in_front t.frees t.list) m.item m.behind taken (front_in p own.1 t.frees t.list own.4)),
    own.5,
    own.6,
    own.7,
  )

  task_law : EachTask (TaskIn p next) middle → IsTaskLaw p middle i e m.item next (TaskIn p next)
  task_law of_tasks = record {
    frees = λ k t free how q. q;
    shows = λ k t x q. q;
    tools = λ k t x q. q;
    groups = λ k t n is how q. q;
    begins = λ k t waits mine by q. q;
    finishes = λ k t is over q. q;
    sets = λ k t icv value v f at_set q.
        let own = item_some in (
          q.0,
          q.1,
          q.2,
          q.3,
          q.4,
          q.5,
          set_in icv value t.variables v (set_item p own.0 icv value m.item (subst (λ (x : Event). fits x m.item ≡ true) at_set item_fits) own.1) q.6 f,
          q.7,
        );
    starts = λ k u j t x is live ex de may of by q.
        (q.0, q.1, q.2, q.3, start_in p q.1 x (encounter middle i) u.list q.4, q.5, q.6, q.7);
    members = λ region team f k t r is found may new of by j n at.
        let own = current_item k t is in
        let parent = of_tasks k t is.live in
        let fork : IsItemIn p own.rest (item.Fork f) = subst (IsItemIn p own.rest) of own.item in
        let nests = fork.nests in
        let low = own.levels in
        let level = own.same r found in
        let known : IsFunction p (depth p f) f = record { known = fork.known; nests = omega arith } in (
          new_region k t r team f,
          depth p f,
          new,
          omega (arith, nests, low, level),
          member_in p (depth p f) (record { debug = p.env.debug; number = j; level = r.levels + 1; is_final = false }) f known,
          fork.known,
          record { sizes = shorter_sizes t.variables.nthreads parent.6.sizes; chunk = parent.6.chunk; device = parent.6.device },
          fork.known,
        );
    deferred = λ task f final seen k t is of fresh.
        let own = current_item k t is in
        let parent = of_tasks k t is.live in
        let defers : IsItemIn p own.rest (item.Defer seen f final) = subst (IsItemIn p own.rest) of own.item in
        (own.region, own.rest, own.found, own.levels, task_in p own.rest f defers, defers.known, parent.6, own.function);
    made = λ task f final k t is of fresh by.
        let own = current_item k t is in
        let parent = of_tasks k t is.live in
        let starts : IsFunction p own.rest f = elim of [
          | inl now ↦ (let at : IsItemIn p own.rest (item.StartNow f final) = subst (IsItemIn p own.rest) now own.item in at)
          | inr full ↦ (let at : IsItemIn p own.rest (item.Defer full.0 f final) = subst (IsItemIn p own.rest) full.1 own.item in at)
        ] in
        (own.region, own.rest, own.found, own.levels, task_in p own.rest f starts, starts.known, parent.6, own.function);
  }

  thread_law : (u : State) → IsRelisted s u → Stays u next → EachThread (ThreadIn p) u → IsThreadLaw p u i e next (ThreadIn p)
  thread_law u relisted_as stays_on of_threads = record {
    begins = λ may q. q;
    offers = λ may of q. q;
    wants = λ n num may of q. q;
    asks = λ w got may of q. q;
    claims = λ w may of q. q;
    shows = λ state wait of q.
        (let own = item_some in (q.0, shown_wait p own.0 state wait m.item (subst (λ (x : Event). fits x m.item ≡ true) of item_fits) own.1));
    forks = λ region team f k t r is found may new q. q;
    joins_team = λ task may of q. q;
    ends = λ k t r is found im other over q. q;
    joins = λ k t r is found may of q. q;
    makes = λ task f final k t is new q. q;
    starts = λ task x k t is may new q. q;
    finishes = λ k t is ex over q. q;
  }

  list_leaves : (zs : List Item) → ((with_list s i zs).environment ≡ s.environment) × ((with_list s i zs).max_active ≡ s.max_active)
  list_leaves zs =
      list_moves s i zs (λ u. (u.environment ≡ s.environment) × (u.max_active ≡ s.max_active)) (λ k is. (refl, refl)) (λ none. (refl, refl))

  whole_left : Leaves e middle next
  whole_left = from_some (Leaves e middle) (effect p middle i e m.item) next m.effect_is (leaves p middle i e m.item)

  max_left : next.max_active ≤ MAX_LEVELS
  max_left = elim whole_left.1 [
    | inl same ↦ (let was = (list_leaves (stays (encounter s i) e m.item m.behind)).1 in let low = ranges.max_active in omega (arith, same, was, low))
    | inr set ↦
        (let own = item_some in
        let is = set_item p own.0 MAX_ACTIVE_LEVELS_VAR set.0 m.item (subst (λ (x : Event). fits x m.item ≡ true) set.1 item_fits) own.1 in
        let low = is.levels refl in
        let same = set.2 in
        omega (arith, low, same))
  ]

  ranges_step : InRanges p next
  ranges_step = record {
    tasks = task_step_from p (TaskIn p next) (TaskIn p next) s i e next m moved_in (λ k t ne live h. h) task_law on_later;
    threads = thread_step p (ThreadIn p) s i e next step
        (λ y ys none taken q. (stays_in p 0 (encounter s i) e y ys (take_in p 0 (encounter s i) e (s.threads i).list y ys taken q.0), q.1)) thread_law ranges.threads;
    environment = whole_left.0 ∙ (list_leaves (stays (encounter s i) e m.item m.behind)).0 ∙ ranges.environment;
    max_active = max_left;
  }

pub in_ranges : (p : Program) (events : List (ℕ × Event)) (s : State) → Reached p events s → InRanges p s
in_ranges p events s reached =
    let rules = Rules-from_accepted p in
    over_events p (InRanges p) (λ u i e next step h. ranges_step p u i e next step (move_of p u i e next step) h) (opening p) events s reached
    (record {
      tasks = each_first_task p (TaskIn p (opening p)) (
        opening_region p,
        MAX_DEPTH,
        refl,
        omega arith,
        main_in p MAX_DEPTH (record { debug = p.env.debug; number = 0; level = 0; is_final = false }) (nests_most p p.main rules.main),
        rules.main,
        record { sizes = rules.sizes; chunk = rules.schedule.2; device = rules.device },
        rules.main,
      );
      threads = each_first_thread p (ThreadIn p) (tt, omega arith) (λ j. (worker_in p 0, omega arith));
      environment = refl;
      max_active = rules.max_active;
    })
