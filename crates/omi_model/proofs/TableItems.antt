-- The items of to-do lists have states of the table of states, schedules of the four kinds, and sizes of teams in their range.
use Rattle.std.proofs.Common.{◌≡◌, ◌≢◌, ◌==◌, ℕ, zero, suc, ◌+◌, ◌*◌, ◌%◌, ◌<◌, ◌≤◌, ◌||◌, Bool, true, false, List, [], ◌∷◌, slice_get, get_or, Some, if◌then◌else◌, refl, subst, arith}
use Rattle.std.specs.List.{Contains}
use Rattle.omi_script.proofs.RuleLemmas.{Rules-from_accepted}
use Rattle.omi_script.specs.Bodies.{HasStatement, body_of}
use Rattle.omi_script.specs.Rules.{IsSize}
use Rattle.omi_script.specs.declared.program.Program.{Program}
use Rattle.omi_script.specs.declared.statement.Stmt.{Stmt}
use Rattle.omi_script.specs.declared.statement.Stmt.TheVariants as stmt
use Rattle.omi_model.specs.declared.encounter.Encounter.{Encounter}
use Rattle.omi_model.specs.declared.event.Event.{Event}
use Rattle.omi_model.specs.declared.event.Event.TheVariants as event
use Rattle.omi_model.specs.declared.item.Item.{Item}
use Rattle.omi_model.specs.declared.item.Item.TheVariants as item
use Rattle.omi_model.specs.declared.shape.Shape.{Shape}
use Rattle.omi_model.specs.declared.shape.Shape.TheVariants as shape
use Rattle.omi_model.specs.Lists.{stays, take_item}
use Rattle.omi_numbers.specs.declared.variables.TheConstants.{DYN_VAR, DEFAULT_DEVICE_VAR, MAX_ACTIVE_LEVELS_VAR, NTHREADS_VAR, RUN_SCHED_VAR}
use Rattle.omi_numbers.specs.declared.states.TheConstants.{IDLE, OVERHEAD, WAIT_BARRIER_EXPLICIT, WAIT_BARRIER_IMPLICIT_PARALLEL, WAIT_CRITICAL, WAIT_TASKGROUP, WAIT_TASKWAIT}
use Rattle.omi_numbers.specs.States.{state_numbers}
use Rattle.omi_model.specs.Rows.{barrier_items, body_items, call_items, end_of_group, end_of_member, last_of_member, main_items, member_items, task_items, worker_items, shown, work_state, working, first_item, items_behind}
use Rattle.omi_model.specs.Shapes.{shape_of}
use Rattle.omi_model.proofs.ListLaws.{take_keeps}

-- a kind of schedule
abbrev pub IsKind : ℕ → Type 0
IsKind n = (1 ≤ n) × (n ≤ 4)

-- the word to which a variable is set
abbrev pub IsSetRight : ℕ → ℕ → Type 0
IsSetRight icv value = (icv ≡ RUN_SCHED_VAR → IsKind (value % 8)) × (icv ≡ NTHREADS_VAR → IsSize value)

abbrev pub IsShapeRight : Shape → Type 0
IsShapeRight (shape.Sets variable word) = IsSetRight variable word
IsShapeRight q = Unit {0}

abbrev pub IsStmtRight : Stmt → Type 0
IsStmtRight s = IsShapeRight (shape_of s)

abbrev pub IsItemRight : Item → Type 0
IsItemRight (item.Do s) = IsStmtRight s
IsItemRight (item.State state wait) = Contains state_numbers state
IsItemRight (item.Tasks state) = Contains state_numbers state
IsItemRight (item.Set icv value) = IsSetRight icv value
IsItemRight x = Unit {0}

abbrev pub AreRight : List Item → Type 0
AreRight [] = Unit {0}
AreRight (x ∷ xs) = IsItemRight x × AreRight xs

-- ---- states of the table

in_table : (state k : ℕ) → k < 9 → get_or state_numbers k state ≡ state → Contains state_numbers state
in_table state k h e = (k, h, e)

work_in_table : (level : ℕ) → Contains state_numbers (work_state level)
work_in_table level = go (level == 0)
  where
    go : (b : Bool) → Contains state_numbers (if b then 0x000 else 0x001)
    go true = in_table 0x000 0 (omega arith) refl
    go false = in_table 0x001 1 (omega arith) refl

shown_right : (at : Encounter) (state wait : ℕ) (xs : List Item) → Contains state_numbers state → AreRight xs
    → AreRight (shown at state wait xs)
shown_right at state wait xs in_states h = go at.debug
  where
    go : (d : Bool) → AreRight (if d then item.State state wait ∷ xs else xs)
    go true = (in_states, h)
    go false = h

pub working_right : (at : Encounter) (xs : List Item) → AreRight xs → AreRight (working at xs)
working_right at xs h = shown_right at (work_state at.level) 0 xs (work_in_table at.level) h

barrier_right : (at : Encounter) (state : ℕ) (rest : List Item) → Contains state_numbers state → AreRight rest
    → AreRight (barrier_items at state rest)
barrier_right at state rest in_states h =
    shown_right at state 0
    (item.Arrive ∷ item.Tasks state ∷ (if at.number == 0 then item.Release ∷ item.Pass ∷ rest else item.Pass ∷ rest)) in_states
    (go (at.number == 0))
  where
    go : (d : Bool)
        → AreRight (item.Arrive ∷ item.Tasks state ∷ (if d then item.Release ∷ item.Pass ∷ rest else item.Pass ∷ rest))
    go true = (tt, (in_states, (tt, (tt, h))))
    go false = (tt, (in_states, (tt, h)))

-- a variable that is neither has any word
other_right : (icv value : ℕ) → icv ≢ RUN_SCHED_VAR → icv ≢ NTHREADS_VAR → IsSetRight icv value
other_right icv value not_schedule not_size = (λ e. absurd (not_schedule e), λ e. absurd (not_size e))

kind_of : (chunk kind : ℕ) → kind < 8 → kind ≡ (chunk * 8 + kind) % 8
kind_of chunk kind less = grind arith

module _ (p : Program) where
  stmt_right : (f : ℕ) (s : Stmt) → HasStatement p.funcs f s → IsStmtRight s
  stmt_right f (stmt.SetNumThreads n) at =
      (λ e. absurd (let other : NTHREADS_VAR ≡ RUN_SCHED_VAR = e in omega arith), λ e. (Rules-from_accepted p).ranges f (stmt.SetNumThreads n) at)
  stmt_right f (stmt.SetSchedule s) at =
      let range = (Rules-from_accepted p).ranges f (stmt.SetSchedule s) at in
      (λ e. subst IsKind (kind_of s.chunk s.kind (omega (arith, range.1))) (range.0, range.1), λ e. absurd (let other : RUN_SCHED_VAR ≡ NTHREADS_VAR = e in omega arith))
  stmt_right f (stmt.SetDynamic b) at = other_right DYN_VAR _ (λ e. omega (arith, e)) (λ e. omega (arith, e))
  stmt_right f (stmt.SetMaxActive n) at =
      other_right MAX_ACTIVE_LEVELS_VAR n (λ e. omega (arith, e)) (λ e. omega (arith, e))
  stmt_right f (stmt.SetDevice d) at =
      other_right DEFAULT_DEVICE_VAR d (λ e. omega (arith, e)) (λ e. omega (arith, e))
  stmt_right f s at = tt

  by_place : (ss : List Stmt) (rest : List Item)
      → ((k : ℕ) (s : Stmt) → slice_get ss k ≡ Some s → IsStmtRight s) → AreRight rest
      → AreRight (body_items ss rest)
  by_place [] rest each h = h
  by_place (s ∷ ss) rest each h = (each 0 s refl, by_place ss rest (λ k x at. each (suc k) x at) h)

  body_right : (f : ℕ) (rest : List Item) → AreRight rest → AreRight (body_items (body_of p.funcs f) rest)
  body_right f rest h = by_place (body_of p.funcs f) rest (λ k s at. stmt_right f s (k, at)) h

  call_right : (f : ℕ) (rest : List Item) → AreRight rest → AreRight (call_items p f rest)
  call_right f rest h = body_right f (item.Ret ∷ rest) (tt, h)

  row_right : (at : Encounter) (q : Shape) (rest : List Item) → IsShapeRight q × AreRight rest
      → AreRight (first_item at q ∷ items_behind p at q rest)
  row_right at (shape.Parallel f num) rest (is, h) =
      (tt, shown_right at OVERHEAD 0 (item.Want num ∷ item.Asks ∷ item.Fork f ∷ working at (item.Leave ∷ rest)) (in_table OVERHEAD 8 (omega arith) refl) (tt, (tt, (tt, working_right at (item.Leave ∷ rest) (tt, h)))))
  row_right at (shape.Task f undeferred final) rest (is, h) = go (undeferred || at.is_final)
    where
      go : (c : Bool)
          → AreRight (item.Enter ∷ (if c then item.StartNow f (final || at.is_final) else item.Defer 0 f (final || at.is_final)) ∷ item.Leave ∷ rest)
      go true = (tt, (tt, (tt, h)))
      go false = (tt, (tt, (tt, h)))
  row_right at shape.Taskwait rest (is, h) =
      let wait = in_table WAIT_TASKWAIT 4 (omega arith) refl in
      (tt, shown_right at WAIT_TASKWAIT 0 (item.Tasks WAIT_TASKWAIT ∷ item.WaitDone ∷ working at (item.Leave ∷ rest)) wait (wait, (tt, working_right at (item.Leave ∷ rest) (tt, h))))
  row_right at shape.Taskyield rest (is, h) = (tt, (tt, (tt, (tt, h))))
  row_right at shape.Barrier rest (is, h) =
      (tt, barrier_right at WAIT_BARRIER_EXPLICIT (working at (item.Leave ∷ rest)) (in_table WAIT_BARRIER_EXPLICIT 3 (omega arith) refl) (working_right at (item.Leave ∷ rest) (tt, h)))
  row_right at (shape.Critical k f) rest (is, h) = (
    tt,
    shown_right at WAIT_CRITICAL (k + 1)
        (item.Lock k ∷ working at (item.Leave ∷ item.Call f ∷ call_items p f (item.Unlock k ∷ rest)))
        (in_table WAIT_CRITICAL 6 (omega arith) refl)
        (tt, working_right at (item.Leave ∷ item.Call f ∷ call_items p f (item.Unlock k ∷ rest)) (tt, (tt, call_right f (item.Unlock k ∷ rest) (tt, h)))),
  )
  row_right at (shape.Taskgroup f) rest (is, h) =
      let wait = in_table WAIT_TASKGROUP 5 (omega arith) refl in
      let ends : AreRight (end_of_group at rest) =
      (tt, shown_right at WAIT_TASKGROUP 0 (item.Tasks WAIT_TASKGROUP ∷ item.GroupEnd ∷ working at (item.Leave ∷ rest)) wait (wait, (tt, working_right at (item.Leave ∷ rest) (tt, h)))) in
      (tt, (tt, call_right f (end_of_group at rest) ends))
  row_right at (shape.Call f) rest (is, h) = (tt, call_right f rest h)
  row_right at (shape.Only m f) rest (is, h) = go (at.number == m)
    where
      go : (c : Bool)
          → AreRight ((if c then item.Call f else item.Skip) ∷ (if c then call_items p f rest else rest))
      go true = (tt, call_right f rest h)
      go false = (tt, h)
  row_right at (shape.Repeat zero f) rest (is, h) = (tt, h)
  row_right at (shape.Repeat (suc n) f) rest (is, h) =
      (tt, call_right f (item.Do (stmt.Repeat n f) ∷ rest) (tt, h))
  row_right at (shape.Sets variable word) rest (is, h) = (is, h)
  row_right at (shape.Tool x) rest (is, h) = (tt, h)
  row_right at shape.Work rest (is, h) = (tt, h)

  pub take_right : (at : Encounter) (e : Event) (xs : List Item) (y : Item) (ys : List Item)
      → take_item p at e xs ≡ Some (y, ys) → AreRight xs → AreRight (y ∷ ys)
  take_right at = take_keeps p at AreRight (λ x xs may h. h.1) (λ s. row_right at (shape_of s))

  pub task_right : (f : ℕ) → AreRight (task_items p f)
  task_right f = body_right f (item.Finish ∷ []) (tt, tt)

  end_right : (at : Encounter) (x : Item) → IsItemRight x → AreRight (end_of_member at (x ∷ []))
  end_right at x h =
      barrier_right at WAIT_BARRIER_IMPLICIT_PARALLEL (x ∷ [])
      (in_table WAIT_BARRIER_IMPLICIT_PARALLEL 2 (omega arith) refl) (h, tt)

  last_right : (n : ℕ) → IsItemRight (last_of_member n)
  last_right n = go (n == 0)
    where
      go : (c : Bool) → IsItemRight (if c then item.Join else item.ImplicitEnd)
      go true = tt
      go false = tt

  pub member_right : (at : Encounter) (f : ℕ) → AreRight (member_items p at f)
  member_right at f =
      working_right at _
      (body_right f (end_of_member at (last_of_member at.number ∷ [])) (end_right at (last_of_member at.number) (last_right at.number)))

  pub main_right : (at : Encounter) → AreRight (main_items at (body_of p.funcs p.main))
  main_right at = body_right p.main (end_of_member at (item.Done ∷ [])) (end_right at item.Done tt)

pub worker_right : AreRight worker_items
worker_right = (tt, (tt, (tt, tt)))

pub stays_right : (at : Encounter) (e : Event) (y : Item) (ys : List Item) → AreRight (y ∷ ys)
    → AreRight (stays at e y ys)
stays_right at e item.Asks ys h = h
stays_right at e item.Serve ys h =
    shown_right at IDLE 0 (item.Offer ∷ item.Serve ∷ ys) (in_table IDLE 7 (omega arith) refl) (tt, h)
stays_right at e (item.Tasks state) ys h = shown_right at state 0 (item.Tasks state ∷ ys) h.0 h
stays_right at (event.Seen j) (item.Defer seen f final) ys h = h
stays_right at e y ys h = h.1
