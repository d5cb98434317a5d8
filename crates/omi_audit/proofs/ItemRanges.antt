-- The items of to-do lists name functions of the program, set variables to values in their ranges, wait for no other locks, and nest no more than so many parallel regions.
use Rattle.std.proofs.Common.{◌≡◌, ◌≢◌, ◌==◌, ℕ, zero, suc, ◌+◌, ◌/◌, ◌<◌, ◌≤◌, ◌||◌, Bool, true, false, List, [], ◌∷◌, map, length, Option, Some, None, if◌then◌else◌, refl, sym, ap, ◌∙◌, arith}
use Rattle.std.specs.Prelude.{slice_get}
use Rattle.std.specs.Option.{option_map}
use Rattle.std.proofs.lemmas.Option.{slice_get-map}
use Rattle.omi_script.proofs.RuleLemmas.{Rules-from_accepted}
use Rattle.omi_script.specs.Bodies.{body_of, named_by}
use Rattle.omi_script.specs.Reach.{depth_of, greatest, reach_in, reaches}
use Rattle.omi_script.specs.Rules.{IsSize}
use Rattle.omi_script.specs.declared.limits.TheConstants.{MAX_CHUNK, MAX_DEPTH, MAX_DEVICE, MAX_LEVELS, MAX_LOCK}
use Rattle.omi_script.specs.declared.program.Program.{Program}
use Rattle.omi_script.specs.declared.statement.Stmt.{Stmt}
use Rattle.omi_script.specs.declared.statement.Stmt.TheVariants as stmt
use Rattle.omi_numbers.specs.Holders.{lock_wait}
use Rattle.omi_numbers.specs.declared.states.TheConstants.{IDLE, OVERHEAD, WAIT_BARRIER_EXPLICIT, WAIT_BARRIER_IMPLICIT_PARALLEL, WAIT_CRITICAL, WAIT_TASKGROUP, WAIT_TASKWAIT}
use Rattle.omi_numbers.specs.declared.variables.TheConstants.{DYN_VAR, DEFAULT_DEVICE_VAR, MAX_ACTIVE_LEVELS_VAR, NTHREADS_VAR, RUN_SCHED_VAR}
use Rattle.omi_model.specs.declared.encounter.Encounter.{Encounter}
use Rattle.omi_model.specs.declared.event.Event.{Event}
use Rattle.omi_model.specs.declared.event.Event.TheVariants as event
use Rattle.omi_model.specs.declared.freeable.Freeable.{Freeable}
use Rattle.omi_model.specs.declared.item.Item.{Item}
use Rattle.omi_model.specs.declared.item.Item.TheVariants as item
use Rattle.omi_model.specs.declared.shape.Shape.{Shape}
use Rattle.omi_model.specs.declared.shape.Shape.TheVariants as shape
use Rattle.omi_model.specs.Changes.{in_front}
use Rattle.omi_model.specs.Lists.{stays, take_item}
use Rattle.omi_model.specs.Rows.{barrier_items, body_items, call_items, end_of_group, end_of_member, last_of_member, main_items, member_items, task_items, worker_items, shown, work_state, working, first_item, items_behind}
use Rattle.omi_model.specs.Shapes.{shape_of}
use Rattle.omi_model.proofs.ListLaws.{take_keeps}

-- the values to which variables are set
abbrev pub IsSetIn : ℕ → ℕ → Type 0
IsSetIn icv value = record {
  size : icv ≡ NTHREADS_VAR → IsSize value;
  chunk : icv ≡ RUN_SCHED_VAR → value / 8 ≤ MAX_CHUNK;
  device : icv ≡ DEFAULT_DEVICE_VAR → value ≤ MAX_DEVICE;
  levels : icv ≡ MAX_ACTIVE_LEVELS_VAR → value ≤ MAX_LEVELS;
}

-- a wait id: none, or that of a lock
abbrev pub IsWait : ℕ → Type 0
IsWait wait = wait ≤ lock_wait MAX_LOCK

-- none of the numbers is greater than the greatest
greatest_at : (ns : List ℕ) (k n : ℕ) → slice_get ns k ≡ Some n → n ≤ greatest ns
greatest_at [] k n is = absurd (cc)
greatest_at (x ∷ xs) zero n is = let same : x ≡ n = cc in omega (arith, same)
greatest_at (x ∷ xs) (suc k) n is = let rest = greatest_at xs k n is in omega (arith, rest)

module _ (p : Program) where
  -- how deep a function nests parallel regions
  abbrev pub depth : ℕ → ℕ
  depth f = (reach_in p.funcs f).depth

  -- a function of the program that nests so many more regions
  pub record IsFunction (d f : ℕ) : Type 0 where
    pub known : f < length p.funcs
    pub nests : depth f ≤ d

  module _ (d : ℕ) where
    abbrev pub IsShapeIn : Shape → Type 0
    IsShapeIn (shape.Parallel f num) = record { known : f < length p.funcs; nests : depth f + 1 ≤ d }
    IsShapeIn (shape.Task f undeferred final) = IsFunction d f
    IsShapeIn (shape.Critical k f) = record { lock : k ≤ MAX_LOCK; function : IsFunction d f }
    IsShapeIn (shape.Taskgroup f) = IsFunction d f
    IsShapeIn (shape.Call f) = IsFunction d f
    IsShapeIn (shape.Only m f) = IsFunction d f
    IsShapeIn (shape.Repeat n f) = IsFunction d f
    IsShapeIn (shape.Sets variable word) = IsSetIn variable word
    IsShapeIn q = Unit {0}

    abbrev pub IsItemIn : Item → Type 0
    IsItemIn (item.Do s) = IsShapeIn (shape_of s)
    IsItemIn (item.Fork f) = record { known : f < length p.funcs; nests : depth f + 1 ≤ d }
    IsItemIn (item.Defer seen f final) = IsFunction d f
    IsItemIn (item.StartNow f final) = IsFunction d f
    IsItemIn (item.State state wait) = IsWait wait
    IsItemIn (item.Set icv value) = IsSetIn icv value
    IsItemIn x = Unit {0}

    abbrev pub AreIn : List Item → Type 0
    AreIn [] = Unit {0}
    AreIn (x ∷ xs) = IsItemIn x × AreIn xs

    -- ---- parts of rows

    shown_in : (at : Encounter) (state wait : ℕ) (xs : List Item) → IsWait wait → AreIn xs → AreIn (shown at state wait xs)
    shown_in at state wait xs is h = go at.debug
      where
        go : (b : Bool) → AreIn (if b then item.State state wait ∷ xs else xs)
        go true = (is, h)
        go false = h

    pub working_in : (at : Encounter) (xs : List Item) → AreIn xs → AreIn (working at xs)
    working_in at xs h = shown_in at (work_state at.level) 0 xs (omega arith) h

    barrier_in : (at : Encounter) (state : ℕ) (rest : List Item) → AreIn rest → AreIn (barrier_items at state rest)
    barrier_in at state rest h =
        shown_in at state 0
        (item.Arrive ∷ item.Tasks state ∷ (if at.number == 0 then item.Release ∷ item.Pass ∷ rest else item.Pass ∷ rest)) (omega arith)
        (go (at.number == 0))
      where
        go : (b : Bool)
            → AreIn (item.Arrive ∷ item.Tasks state ∷ (if b then item.Release ∷ item.Pass ∷ rest else item.Pass ∷ rest))
        go true = (tt, (tt, (tt, (tt, h))))
        go false = (tt, (tt, (tt, h)))

    -- ---- statements

    -- a statement of a function that nests so many regions
    module _ (f k : ℕ) (s : Stmt) (at : slice_get (body_of p.funcs f) k ≡ Some s) (is : IsFunction d f) where
      nested : depth_of (reaches [] p.funcs) s ≤ d
      nested =
          let most = greatest_at (map (depth_of (reaches [] p.funcs)) (body_of p.funcs f)) k (depth_of (reaches [] p.funcs) s)
          (slice_get-map (depth_of (reaches [] p.funcs)) (body_of p.funcs f) k ∙ ap (option_map (depth_of (reaches [] p.funcs))) at) in
          let whole = (Rules-from_accepted p).reach f is.known in
          let same : depth f ≡ greatest (map (depth_of (reaches [] p.funcs)) (body_of p.funcs f)) = ap (λ r. r.depth) whole in
          let low = is.nests in
          omega (arith, most, same, low)

      named_function : (g : ℕ) → named_by s ≡ Some g → g < length p.funcs
      named_function g by =
          let above = (Rules-from_accepted p).above f g s (k, at) by in
          let known = is.known in
          omega (arith, above, known)

    -- what is set
    set_other : (icv value : ℕ) → icv ≢ NTHREADS_VAR → icv ≢ RUN_SCHED_VAR → icv ≢ DEFAULT_DEVICE_VAR
        → icv ≢ MAX_ACTIVE_LEVELS_VAR → IsSetIn icv value
    set_other icv value a b c e = record {
      size = λ is. absurd (a is);
      chunk = λ is. absurd (b is);
      device = λ is. absurd (c is);
      levels = λ is. absurd (e is);
    }

    stmt_in : (f k : ℕ) (s : Stmt) → slice_get (body_of p.funcs f) k ≡ Some s → IsFunction d f → IsShapeIn (shape_of s)
    stmt_in f k (stmt.Parallel g num) at is =
        record { known = named_function f k (stmt.Parallel g num) at is g refl; nests = nested f k (stmt.Parallel g num) at is }
    stmt_in f k (stmt.Task g undeferred final) at is =
        record { known = named_function f k (stmt.Task g undeferred final) at is g refl; nests = nested f k (stmt.Task g undeferred final) at is }
    stmt_in f k (stmt.Critical l g) at is = record {
      lock = (Rules-from_accepted p).ranges f (stmt.Critical l g) (k, at);
      function = record { known = named_function f k (stmt.Critical l g) at is g refl; nests = nested f k (stmt.Critical l g) at is };
    }
    stmt_in f k (stmt.Taskgroup g) at is =
        record { known = named_function f k (stmt.Taskgroup g) at is g refl; nests = nested f k (stmt.Taskgroup g) at is }
    stmt_in f k (stmt.Call g) at is =
        record { known = named_function f k (stmt.Call g) at is g refl; nests = nested f k (stmt.Call g) at is }
    stmt_in f k (stmt.Only m g) at is =
        record { known = named_function f k (stmt.Only m g) at is g refl; nests = nested f k (stmt.Only m g) at is }
    stmt_in f k (stmt.Repeat n g) at is =
        record { known = named_function f k (stmt.Repeat n g) at is g refl; nests = nested f k (stmt.Repeat n g) at is }
    stmt_in f k (stmt.SetNumThreads n) at is = record {
      size = λ e. (Rules-from_accepted p).ranges f (stmt.SetNumThreads n) (k, at);
      chunk = λ e. absurd (let other : NTHREADS_VAR ≡ RUN_SCHED_VAR = e in omega (arith, other));
      device = λ e. absurd (let other : NTHREADS_VAR ≡ DEFAULT_DEVICE_VAR = e in omega (arith, other));
      levels = λ e. absurd (let other : NTHREADS_VAR ≡ MAX_ACTIVE_LEVELS_VAR = e in omega (arith, other));
    }
    stmt_in f k (stmt.SetSchedule s) at is =
        let range = (Rules-from_accepted p).ranges f (stmt.SetSchedule s) (k, at) in
        let high = range.2 in
        let kind = range.1 in
        record {
          size = λ e. absurd (let other : RUN_SCHED_VAR ≡ NTHREADS_VAR = e in omega (arith, other));
          chunk = λ e. omega (arith, high, kind);
          device = λ e. absurd (let other : RUN_SCHED_VAR ≡ DEFAULT_DEVICE_VAR = e in omega (arith, other));
          levels = λ e. absurd (let other : RUN_SCHED_VAR ≡ MAX_ACTIVE_LEVELS_VAR = e in omega (arith, other));
        }
    stmt_in f k (stmt.SetDynamic b) at is =
        set_other DYN_VAR _ (λ e. omega (arith, e)) (λ e. omega (arith, e)) (λ e. omega (arith, e)) (λ e. omega (arith, e))
    stmt_in f k (stmt.SetMaxActive n) at is = record {
      size = λ e. absurd (let other : MAX_ACTIVE_LEVELS_VAR ≡ NTHREADS_VAR = e in omega (arith, other));
      chunk = λ e. absurd (let other : MAX_ACTIVE_LEVELS_VAR ≡ RUN_SCHED_VAR = e in omega (arith, other));
      device = λ e. absurd (let other : MAX_ACTIVE_LEVELS_VAR ≡ DEFAULT_DEVICE_VAR = e in omega (arith, other));
      levels = λ e. (Rules-from_accepted p).ranges f (stmt.SetMaxActive n) (k, at);
    }
    stmt_in f k (stmt.SetDevice n) at is = record {
      size = λ e. absurd (let other : DEFAULT_DEVICE_VAR ≡ NTHREADS_VAR = e in omega (arith, other));
      chunk = λ e. absurd (let other : DEFAULT_DEVICE_VAR ≡ RUN_SCHED_VAR = e in omega (arith, other));
      device = λ e. (Rules-from_accepted p).ranges f (stmt.SetDevice n) (k, at);
      levels = λ e. absurd (let other : DEFAULT_DEVICE_VAR ≡ MAX_ACTIVE_LEVELS_VAR = e in omega (arith, other));
    }
    stmt_in f k s at is = tt

    by_place : (ss : List Stmt) (rest : List Item) → ((k : ℕ) (s : Stmt) → slice_get ss k ≡ Some s → IsShapeIn (shape_of s))
        → AreIn rest → AreIn (body_items ss rest)
    by_place [] rest each h = h
    by_place (s ∷ ss) rest each h = (each 0 s refl, by_place ss rest (λ k x at. each (suc k) x at) h)

    pub body_in : (f : ℕ) (rest : List Item) → IsFunction d f → AreIn rest → AreIn (body_items (body_of p.funcs f) rest)
    body_in f rest is h = by_place (body_of p.funcs f) rest (λ k s at. stmt_in f k s at is) h

    call_in : (f : ℕ) (rest : List Item) → IsFunction d f → AreIn rest → AreIn (call_items p f rest)
    call_in f rest is h = body_in f (item.Ret ∷ rest) is (tt, h)

    -- ---- rows

    group_end_in : (at : Encounter) (rest : List Item) → AreIn rest → AreIn (end_of_group at rest)
    group_end_in at rest h =
        (tt, shown_in at WAIT_TASKGROUP 0 (item.Tasks WAIT_TASKGROUP ∷ item.GroupEnd ∷ working at (item.Leave ∷ rest)) (omega arith) (tt, (tt, working_in at (item.Leave ∷ rest) (tt, h))))

    row_in : (at : Encounter) (q : Shape) (rest : List Item) → IsShapeIn q × AreIn rest
        → AreIn (first_item at q ∷ items_behind p at q rest)
    row_in at (shape.Parallel f num) rest (is, h) =
        (tt, shown_in at OVERHEAD 0 (item.Want num ∷ item.Asks ∷ item.Fork f ∷ working at (item.Leave ∷ rest)) (omega arith) (tt, (tt, (is, working_in at (item.Leave ∷ rest) (tt, h)))))
    row_in at (shape.Task f undeferred final) rest (is, h) = go (undeferred || at.is_final)
      where
        go : (c : Bool)
            → AreIn (item.Enter ∷ (if c then item.StartNow f (final || at.is_final) else item.Defer 0 f (final || at.is_final)) ∷ item.Leave ∷ rest)
        go true = (tt, (is, (tt, h)))
        go false = (tt, (is, (tt, h)))
    row_in at shape.Taskwait rest (is, h) =
        (tt, shown_in at WAIT_TASKWAIT 0 (item.Tasks WAIT_TASKWAIT ∷ item.WaitDone ∷ working at (item.Leave ∷ rest)) (omega arith) (tt, (tt, working_in at (item.Leave ∷ rest) (tt, h))))
    row_in at shape.Taskyield rest (is, h) = (tt, (tt, (tt, (tt, h))))
    row_in at shape.Barrier rest (is, h) =
        (tt, barrier_in at WAIT_BARRIER_EXPLICIT (working at (item.Leave ∷ rest)) (working_in at (item.Leave ∷ rest) (tt, h)))
    row_in at (shape.Critical k f) rest (is, h) =
        let lock = is.lock in (
          tt,
          shown_in at WAIT_CRITICAL (k + 1)
              (item.Lock k ∷ working at (item.Leave ∷ item.Call f ∷ call_items p f (item.Unlock k ∷ rest))) (omega (arith, lock))
              (tt, working_in at (item.Leave ∷ item.Call f ∷ call_items p f (item.Unlock k ∷ rest)) (tt, (tt, call_in f (item.Unlock k ∷ rest) is.function (tt, h)))),
        )
    row_in at (shape.Taskgroup f) rest (is, h) = (tt, (tt, call_in f (end_of_group at rest) is (group_end_in at rest h)))
    row_in at (shape.Call f) rest (is, h) = (tt, call_in f rest is h)
    row_in at (shape.Only m f) rest (is, h) = go (at.number == m)
      where
        go : (c : Bool) → AreIn ((if c then item.Call f else item.Skip) ∷ (if c then call_items p f rest else rest))
        go true = (tt, call_in f rest is h)
        go false = (tt, h)
    row_in at (shape.Repeat zero f) rest (is, h) = (tt, h)
    row_in at (shape.Repeat (suc n) f) rest (is, h) =
        (tt, call_in f (item.Do (stmt.Repeat n f) ∷ rest) is (is, h))
    row_in at (shape.Sets variable word) rest (is, h) = (is, h)
    row_in at (shape.Tool x) rest (is, h) = (tt, h)
    row_in at shape.Work rest (is, h) = (tt, h)

    pub take_in : (at : Encounter) (e : Event) (xs : List Item) (y : Item) (ys : List Item)
        → take_item p at e xs ≡ Some (y, ys) → AreIn xs → AreIn (y ∷ ys)
    take_in at = take_keeps p at AreIn (λ x xs may h. h.1) (λ s. row_in at (shape_of s))

    pub front_in : (f : Option Freeable) (xs : List Item) → AreIn xs → AreIn (in_front f xs)
    front_in None xs h = h
    front_in (Some n) xs h = (tt, h)

    pub stays_in : (at : Encounter) (e : Event) (y : Item) (ys : List Item) → AreIn (y ∷ ys) → AreIn (stays at e y ys)
    stays_in at e item.Asks ys h = h
    stays_in at e item.Serve ys h = shown_in at IDLE 0 (item.Offer ∷ item.Serve ∷ ys) (omega arith) (tt, h)
    stays_in at e (item.Tasks state) ys h = shown_in at state 0 (item.Tasks state ∷ ys) (omega arith) h
    stays_in at (event.Seen j) (item.Defer seen f final) ys h = h
    stays_in at e y ys h = h.1

    -- ---- first lists

    pub task_in : (f : ℕ) → IsFunction d f → AreIn (task_items p f)
    task_in f is = body_in f (item.Finish ∷ []) is (tt, tt)

    end_in : (at : Encounter) (x : Item) → IsItemIn x → AreIn (end_of_member at (x ∷ []))
    end_in at x h = barrier_in at WAIT_BARRIER_IMPLICIT_PARALLEL (x ∷ []) (h, tt)

    last_in : (n : ℕ) → IsItemIn (last_of_member n)
    last_in n = go (n == 0)
      where
        go : (c : Bool) → IsItemIn (if c then item.Join else item.ImplicitEnd)
        go true = tt
        go false = tt

    pub member_in : (at : Encounter) (f : ℕ) → IsFunction d f → AreIn (member_items p at f)
    member_in at f is =
        working_in at _ (body_in f (end_of_member at (last_of_member at.number ∷ [])) is (end_in at (last_of_member at.number) (last_in at.number)))

    pub main_in : (at : Encounter) → IsFunction d p.main → AreIn (main_items at (body_of p.funcs p.main))
    main_in at is = body_in p.main (end_of_member at (item.Done ∷ [])) is (end_in at item.Done tt)

    pub worker_in : AreIn worker_items
    worker_in = (tt, (tt, (tt, tt)))

-- ---- how deep functions nest

greatest_most : (ns : List ℕ) (m : ℕ) → ((k n : ℕ) → slice_get ns k ≡ Some n → n ≤ m) → greatest ns ≤ m
greatest_most [] m each = omega arith
greatest_most (x ∷ xs) m each =
    let first = each 0 x refl in
    let rest = greatest_most xs m (λ k n is. each (suc k) n is) in
    omega (arith, first, rest)

module _ (p : Program) where
  stmt_nests : (f k : ℕ) (s : Stmt) → slice_get (body_of p.funcs f) k ≡ Some s
      → ((g : ℕ) → g < f → depth p g ≤ MAX_DEPTH) → depth_of (reaches [] p.funcs) s ≤ MAX_DEPTH
  stmt_nests f k (stmt.Parallel g num) at below = (let low = (Rules-from_accepted p).depth f g num (k, at) in omega (arith, low))
  stmt_nests f k (stmt.Task g undeferred final) at below = below g ((Rules-from_accepted p).above f g (stmt.Task g undeferred final) (k, at) refl)
  stmt_nests f k (stmt.Critical l g) at below = below g ((Rules-from_accepted p).above f g (stmt.Critical l g) (k, at) refl)
  stmt_nests f k (stmt.Taskgroup g) at below = below g ((Rules-from_accepted p).above f g (stmt.Taskgroup g) (k, at) refl)
  stmt_nests f k (stmt.Call g) at below = below g ((Rules-from_accepted p).above f g (stmt.Call g) (k, at) refl)
  stmt_nests f k (stmt.Only m g) at below = below g ((Rules-from_accepted p).above f g (stmt.Only m g) (k, at) refl)
  stmt_nests f k (stmt.Repeat n g) at below = below g ((Rules-from_accepted p).above f g (stmt.Repeat n g) (k, at) refl)
  stmt_nests f k s at below = omega arith

  nests_below : (n f : ℕ) → f < n → f < length p.funcs → depth p f ≤ MAX_DEPTH
  nests_below zero f low known = absurd (omega (arith, low))
  nests_below (suc n) f low known =
      let whole = (Rules-from_accepted p).reach f known in
      let same : depth p f ≡ greatest (map (depth_of (reaches [] p.funcs)) (body_of p.funcs f)) = ap (λ r. r.depth) whole in
      let most =
      greatest_most (map (depth_of (reaches [] p.funcs)) (body_of p.funcs f)) MAX_DEPTH
      (λ k x is. each k x (slice_get (body_of p.funcs f) k) refl (sym (slice_get-map (depth_of (reaches [] p.funcs)) (body_of p.funcs f) k) ∙ is)
      (λ g under. nests_below n g (omega (arith, under, low)) (omega (arith, under, known)))) in
      omega (arith, same, most)
    where
      each : (k x : ℕ) (o : Option Stmt) → slice_get (body_of p.funcs f) k ≡ o → option_map (depth_of (reaches [] p.funcs)) o ≡ Some x
          → ((g : ℕ) → g < f → depth p g ≤ MAX_DEPTH) → x ≤ MAX_DEPTH
      each k x None at is below = absurd (cc)
      each k x (Some s) at is below =
          let same : depth_of (reaches [] p.funcs) s ≡ x = cc in
          let low = stmt_nests f k s at below in
          omega (arith, same, low)

  -- the greatest nesting of all
  pub nests_most : (f : ℕ) → f < length p.funcs → IsFunction p MAX_DEPTH f
  nests_most f known = record { known = known; nests = nests_below (suc f) f (omega arith) known }
