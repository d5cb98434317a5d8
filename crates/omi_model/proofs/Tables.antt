-- States that threads show are in the table of states, and schedules are of the four kinds.
use Rattle.std.proofs.Common.{◌≡◌, ◌==◌, ◌⊎◌, inl, inr, ℕ, ◌%◌, ◌/◌, ◌+◌, Bool, true, false, not, List, Option, Some, None, if◌then◌else◌, refl, sym, ap, ◌∙◌, subst, arith, eqb-true}
use Rattle.std.specs.List.{Contains}
use Rattle.std.specs.Option.{option_and_then, option_map_or}
use Rattle.omi_script.proofs.RuleLemmas.{Rules-from_accepted}
use Rattle.omi_script.specs.declared.program.Program.{Program}
use Rattle.omi_model.specs.declared.encounter.Encounter.{Encounter}
use Rattle.omi_model.specs.declared.event.Event.{Event}
use Rattle.omi_model.specs.declared.event.Event.TheVariants as event
use Rattle.omi_model.specs.declared.freeable.Freeable.{Freeable}
use Rattle.omi_model.specs.declared.id.Tid.{Tid}
use Rattle.omi_model.specs.declared.item.Item.{Item}
use Rattle.omi_model.specs.declared.item.Item.TheVariants as item
use Rattle.omi_model.specs.declared.task.Task.{Task}
use Rattle.omi_model.specs.declared.task.Variables.{Variables}
use Rattle.omi_model.specs.declared.thread.Thread.{Thread}
use Rattle.omi_model.specs.Changes.{ahead_of, encounter, in_front}
use Rattle.omi_model.specs.LawStays.{Stays}
use Rattle.omi_model.specs.Lists.{fits}
use Rattle.omi_numbers.specs.declared.variables.TheConstants.{DEFAULT_DEVICE_VAR, DYN_VAR, NTHREADS_VAR, RUN_SCHED_VAR}
use Rattle.omi_numbers.specs.States.{state_numbers}
use Rattle.omi_model.specs.Opening.{opening}
use Rattle.omi_model.specs.Reached.{Reached, Step}
use Rattle.omi_model.specs.Settings.{with_head, with_variable}
use Rattle.omi_model.specs.State.{State, task_of}
use Rattle.omi_model.proofs.EachObject.{EachTask, IsTaskLaw, over_events, start_list, task_step}
use Rattle.omi_model.proofs.EachThread.{EachThread, IsThreadLaw, thread_step}
use Rattle.omi_model.proofs.BarrierOrder.{and_left, and_right}
use Rattle.omi_model.proofs.ListLaws.{take_fits}
use Rattle.omi_model.proofs.OpeningObjects.{each_first_task, each_first_thread}
use Rattle.omi_model.proofs.Slots.{false_true, none_some, some_same}
use Rattle.omi_model.proofs.Steps.{IsMove, IsRelisted, move_of}
use Rattle.omi_model.proofs.TableItems.{AreRight, IsItemRight, IsKind, main_right, member_right, stays_right, take_right, task_right, worker_right, working_right}

abbrev pub TaskTables : Tid → Task → Type 0
TaskTables k t = AreRight t.list × IsKind t.variables.schedule.kind

abbrev pub ThreadTables : ℕ → Thread → Type 0
ThreadTables j h = AreRight h.list × Contains state_numbers h.state

pub record InTables (s : State) : Type 0 where
  pub tasks : EachTask TaskTables s
  pub threads : EachThread ThreadTables s

-- the kind of the schedule is as it was, or it was set
set_kind : (icv value : ℕ) (v w : Variables) → with_variable icv value v ≡ Some w
    → (w.schedule.kind ≡ v.schedule.kind) ⊎ ((icv ≡ RUN_SCHED_VAR) × (w.schedule.kind ≡ value % 8))
set_kind icv value v w e = by_dyn (icv == DYN_VAR) e
  where
    kind_of : {x : Variables} → ◌≡◌ {A = Option Variables} (Some x) (Some w)
        → w.schedule.kind ≡ x.schedule.kind
    kind_of f = ap (λ (x : Variables). x.schedule.kind) (sym (some_same refl f))

    by_device : (b : Bool) → (if b then Some (record v { device = value }) else None) ≡ Some w
        → (w.schedule.kind ≡ v.schedule.kind) ⊎ ((icv ≡ RUN_SCHED_VAR) × (w.schedule.kind ≡ value % 8))
    by_device true f = inl (kind_of f)
    by_device false f = absurd (none_some refl f)

    by_sched : (b : Bool) → icv == RUN_SCHED_VAR ≡ b → (if b then Some (record v { schedule = record { kind = value % 8; chunk = value / 8 } }) else (if icv == DEFAULT_DEVICE_VAR then Some (record v { device = value }) else None)) ≡ Some w
        → (w.schedule.kind ≡ v.schedule.kind) ⊎ ((icv ≡ RUN_SCHED_VAR) × (w.schedule.kind ≡ value % 8))
    by_sched true is f = inr (eqb-true icv RUN_SCHED_VAR is, kind_of f)
    by_sched false is f = by_device (icv == DEFAULT_DEVICE_VAR) f

    by_nthreads : (b : Bool) → (if b then Some (record v { nthreads = with_head value v.nthreads })
        else (if icv == RUN_SCHED_VAR then Some (record v { schedule = record { kind = value % 8; chunk = value / 8 } }) else (if icv == DEFAULT_DEVICE_VAR then Some (record v { device = value }) else None))) ≡ Some w
        → (w.schedule.kind ≡ v.schedule.kind) ⊎ ((icv ≡ RUN_SCHED_VAR) × (w.schedule.kind ≡ value % 8))
    by_nthreads true f = inl (kind_of f)
    by_nthreads false f = by_sched (icv == RUN_SCHED_VAR) refl f

    by_dyn : (b : Bool) → (if b then Some (record v { dynamic = not (value == 0) })
        else (if icv == NTHREADS_VAR then Some (record v { nthreads = with_head value v.nthreads })
        else (if icv == RUN_SCHED_VAR then Some (record v { schedule = record { kind = value % 8; chunk = value / 8 } }) else (if icv == DEFAULT_DEVICE_VAR then Some (record v { device = value }) else None)))) ≡ Some w
        → (w.schedule.kind ≡ v.schedule.kind) ⊎ ((icv ≡ RUN_SCHED_VAR) × (w.schedule.kind ≡ value % 8))
    by_dyn true f = inl (kind_of f)
    by_dyn false f = by_nthreads (icv == NTHREADS_VAR) f

-- what the event's item says
shown_item : (state wait : ℕ) (y : Item) → fits (event.State state wait) y ≡ true → IsItemRight y
    → Contains state_numbers state
shown_item state wait (item.State s w) fit is =
    subst (Contains state_numbers) (sym (eqb-true state s (and_left (state == s) (wait == w) fit))) is
shown_item state wait y fit is = absurd (false_true fit)

set_item : (icv value : ℕ) (y : Item) → fits (event.Set icv value) y ≡ true → IsItemRight y
    → icv ≡ RUN_SCHED_VAR → IsKind (value % 8)
set_item icv value (item.Set v x) fit is sched =
    let icv_is = eqb-true icv v (and_left (icv == v) (value == x) fit) in
    subst (λ n. IsKind (n % 8)) (sym (eqb-true value x (and_right (icv == v) (value == x) fit)))
    (is.0 (sym icv_is ∙ sched))
set_item icv value y fit is sched = absurd (false_true fit)

start_right : (x : Item) (at : Encounter) (zs : List Item) → AreRight zs → AreRight (start_list x at zs)
start_right (item.Tasks state) at zs h = working_right at zs h
start_right x at zs h = h

module _ (p : Program) (s : State) (i : ℕ) (e : Event) (next : State) (step : Step p s i e next)
    (tables : InTables s) where
  pub m : IsMove p s i e next
  m = move_of p s i e next step

  front_right : (f : Option Freeable) (xs : List Item) → AreRight xs → AreRight (in_front f xs)
  front_right None xs h = h
  front_right (Some n) xs h = (tt, h)

  pub list_right : AreRight (ahead_of s i)
  list_right = of_current (s.threads i).current
    where
      of_task : (o : Option Task) → ((t : Task) → o ≡ Some t → AreRight t.list)
          → AreRight (option_map_or (λ t. in_front t.frees t.list) o (s.threads i).list)
      of_task None all = (tables.threads i).0
      of_task (Some t) all = front_right t.frees t.list (all t refl)

      of_current : (o : Option Tid)
          → AreRight (option_map_or (λ t. in_front t.frees t.list) (option_and_then (task_of s) o) (s.threads i).list)
      of_current None = (tables.threads i).0
      of_current (Some k) = of_task (task_of s k) (λ t live. (tables.tasks k t live).0)

  pub item_right : IsItemRight m.item
  item_right = (take_right p (encounter s i) e (ahead_of s i) m.item m.behind m.taken list_right).0

  pub item_fits : fits e m.item ≡ true
  item_fits = take_fits p (encounter s i) e (ahead_of s i) m.item m.behind m.taken

  task_law : (middle : State) (y : Item) → IsRelisted s middle → Stays middle next
      → EachTask TaskTables middle → IsTaskLaw p middle i e y next TaskTables
  task_law middle y before later of_tasks = record {
    frees = λ k t free how q. q;
    shows = λ k t x q. q;
    tools = λ k t x q. q;
    groups = λ k t count is how q. q;
    begins = λ k t waits mine by q. q;
    finishes = λ k t is over q. q;
    sets = λ k t icv value v f at_set q. (q.0, of_set icv value t.variables v f at_set q.1);
    starts = λ k u j t x is live ex de may of by q. (start_right x (encounter middle i) u.list q.0, q.1);
    members = λ region team f k t r is found may new of by j n at. (member_right p (record { debug = p.env.debug; number = j; level = r.levels + 1; is_final = false }) f, (of_tasks k t is.live).1);
    deferred = λ task f final seen k t is of fresh. (task_right p f, (of_tasks k t is.live).1);
    made = λ task f final k t is of fresh by. (task_right p f, (of_tasks k t is.live).1);
  }
    where
      of_set : (icv value : ℕ) (v w : Variables) → with_variable icv value v ≡ Some w
          → e ≡ event.Set icv value → IsKind v.schedule.kind → IsKind w.schedule.kind
      of_set icv value v w f at_set kind = go (set_kind icv value v w f)
        where
          go : (w.schedule.kind ≡ v.schedule.kind) ⊎ ((icv ≡ RUN_SCHED_VAR) × (w.schedule.kind ≡ value % 8))
              → IsKind w.schedule.kind
          go (inl same) = subst IsKind (sym same) kind
          go (inr (sched, is)) =
              subst IsKind (sym is)
              (set_item icv value m.item (subst (λ (x : Event). fits x m.item ≡ true) at_set item_fits) item_right sched)

  thread_law : (middle : State) → IsRelisted s middle → Stays middle next → EachThread ThreadTables middle
      → IsThreadLaw p middle i e next ThreadTables
  thread_law middle before later of_threads = record {
    begins = λ may q. q;
    offers = λ may of q. q;
    wants = λ n num may of q. q;
    asks = λ w got may of q. q;
    claims = λ w may of q. q;
    shows = λ state wait of q. (q.0, shown_item state wait m.item (subst (λ (x : Event). fits x m.item ≡ true) of item_fits) item_right);
    forks = λ region team f k t r is found may new q. q;
    joins_team = λ task may of q. q;
    ends = λ k t r is found im other over q. q;
    joins = λ k t r is found may of q. q;
    makes = λ task f final k t is new q. q;
    starts = λ task x k t is may new q. q;
    finishes = λ k t is ex over q. q;
  }

  pub tables_step : InTables next
  tables_step = record {
    tasks = task_step p TaskTables s i e next step (λ k t y ys is taken q. (stays_right (encounter s i) e y ys (take_right p (encounter s i) e (in_front t.frees t.list) y ys taken (front_right t.frees t.list q.0)), q.1)) task_law tables.tasks;
    threads = thread_step p ThreadTables s i e next step (λ y ys none taken q. (stays_right (encounter s i) e y ys (take_right p (encounter s i) e (s.threads i).list y ys taken q.0), q.1)) thread_law tables.threads;
  }

pub in_tables : (p : Program) (events : List (ℕ × Event)) (s : State) → Reached p events s → InTables s
in_tables p events s reached =
    over_events p InTables (λ u i e next step h. tables_step p u i e next step h) (opening p) events s reached
    (record {
      tasks = each_first_task p TaskTables (main_right p (record { debug = p.env.debug; number = 0; level = 0; is_final = false }), let range = (Rules-from_accepted p).schedule in (range.0, range.1));
      threads = each_first_thread p ThreadTables (tt, (0, omega arith, refl)) (λ j. (worker_right, (7, omega arith, refl)));
    })
