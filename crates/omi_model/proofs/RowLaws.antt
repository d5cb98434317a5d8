-- Rows keep a law of lists: where the law holds of a list, it holds with a row, a body or a call in front of it, and of the lists with which tasks begin.
use Rattle.std.proofs.Common.{◌≡◌, ◌==◌, ℕ, zero, suc, ◌+◌, ◌||◌, Bool, true, false, List, [], ◌∷◌, Option, if◌then◌else◌, refl}
use Rattle.omi_numbers.specs.declared.states.TheConstants.{OVERHEAD, WAIT_BARRIER_EXPLICIT, WAIT_CRITICAL, WAIT_TASKGROUP, WAIT_TASKWAIT}
use Rattle.omi_script.specs.Bodies.{body_of}
use Rattle.omi_script.specs.declared.program.Program.{Program}
use Rattle.omi_script.specs.declared.statement.Stmt.{Stmt}
use Rattle.omi_script.specs.declared.statement.Stmt.TheVariants as stmt
use Rattle.omi_model.specs.declared.encounter.Encounter.{Encounter}
use Rattle.omi_model.specs.declared.item.Item.{Item}
use Rattle.omi_model.specs.declared.item.Item.TheVariants as item
use Rattle.omi_model.specs.declared.shape.Shape.{Shape}
use Rattle.omi_model.specs.declared.shape.Shape.TheVariants as shape
use Rattle.omi_model.specs.Lists.{may_drop}
use Rattle.omi_model.specs.Rows.{barrier_items, body_items, call_items, end_of_group, end_of_member, first_item, items_behind, last_of_member, main_items, member_items, task_items, shown, work_state, working}
use Rattle.omi_model.proofs.EachObject.{start_list}
use Rattle.omi_model.proofs.Slots.{false_true}
use Rattle.omi_model.specs.declared.freeable.Freeable.{Freeable}

-- the items that are not of a fork, a wait, a barrier, a group or a lock, and that do not close a list
abbrev pub is_plain : Item → Bool
is_plain (item.Want num) = false
is_plain item.Asks = false
is_plain (item.Fork f) = false
is_plain (item.Tasks state) = false
is_plain item.Arrive = false
is_plain item.Release = false
is_plain item.Pass = false
is_plain item.GroupBegin = false
is_plain item.GroupEnd = false
is_plain (item.Lock k) = false
is_plain (item.Unlock k) = false
is_plain item.Join = false
is_plain item.ImplicitEnd = false
is_plain item.Finish = false
is_plain item.Done = false
is_plain (item.Frees n) = false
is_plain x = true

-- the law is kept where one of them is put in front
abbrev pub KeepsPlain : (List Item → Type 0) → Type 0
KeepsPlain P = (x : Item) (xs : List Item) → is_plain x ≡ true → P xs → P (x ∷ xs)

module _ (P : List Item → Type 0) (plain : KeepsPlain P) where
  pub shown_keeps : (at : Encounter) (state wait : ℕ) (xs : List Item) → P xs → P (shown at state wait xs)
  shown_keeps at state wait xs h = go at.debug
    where
      go : (d : Bool) → P (if d then item.State state wait ∷ xs else xs)
      go true = plain (item.State state wait) xs refl h
      go false = h

  pub working_keeps : (at : Encounter) (xs : List Item) → P xs → P (working at xs)
  working_keeps at xs h = shown_keeps at (work_state at.level) 0 xs h

  pub leaving_keeps : (at : Encounter) (xs : List Item) → P xs → P (working at (item.Leave ∷ xs))
  leaving_keeps at xs h = working_keeps at (item.Leave ∷ xs) (plain item.Leave xs refl h)

  pub body_keeps : (ss : List Stmt) (xs : List Item) → P xs → P (body_items ss xs)
  body_keeps [] xs h = h
  body_keeps (s ∷ ss) xs h = plain (item.Do s) (body_items ss xs) refl (body_keeps ss xs h)

  pub start_keeps : (x : Item) (at : Encounter) (xs : List Item) → P xs → P (start_list x at xs)
  start_keeps (item.Tasks state) at xs h = working_keeps at xs h
  start_keeps x at xs h = h

  module _ (p : Program) where
    pub call_keeps : (f : ℕ) (xs : List Item) → P xs → P (item.Call f ∷ call_items p f xs)
    call_keeps f xs h =
        plain (item.Call f) (call_items p f xs) refl
        (body_keeps (body_of p.funcs f) (item.Ret ∷ xs) (plain item.Ret xs refl h))

    -- the call under `critical`
    pub critical_keeps : (at : Encounter) (f : ℕ) (xs : List Item) → P xs
        → P (working at (item.Leave ∷ item.Call f ∷ call_items p f xs))
    critical_keeps at f xs h = leaving_keeps at (item.Call f ∷ call_items p f xs) (call_keeps f xs h)

    -- and those of `taskgroup`, behind the beginning of the group
    pub group_keeps : (at : Encounter) (f : ℕ) (xs : List Item)
        → ((ys : List Item) → P ys → P (item.Tasks WAIT_TASKGROUP ∷ item.GroupEnd ∷ ys)) → P xs
        → P (item.Call f ∷ call_items p f (end_of_group at xs))
    group_keeps at f xs ends h =
        call_keeps f (end_of_group at xs)
        (plain item.Enter (shown at WAIT_TASKGROUP 0 (item.Tasks WAIT_TASKGROUP ∷ item.GroupEnd ∷ working at (item.Leave ∷ xs))) refl
        (shown_keeps at WAIT_TASKGROUP 0 (item.Tasks WAIT_TASKGROUP ∷ item.GroupEnd ∷ working at (item.Leave ∷ xs))
        (ends (working at (item.Leave ∷ xs)) (leaving_keeps at xs h))))

    pub task_keeps : (f : ℕ) → P (item.Finish ∷ []) → P (task_items p f)
    task_keeps f h = body_keeps (body_of p.funcs f) (item.Finish ∷ []) h

    pub member_keeps : (at : Encounter) (f : ℕ) → P (end_of_member at (last_of_member at.number ∷ []))
        → P (member_items p at f)
    member_keeps at f h = working_keeps at _ (body_keeps (body_of p.funcs f) _ h)

    pub main_keeps : (at : Encounter) → P (end_of_member at (item.Done ∷ []))
        → P (main_items at (body_of p.funcs p.main))
    main_keeps at h = body_keeps (body_of p.funcs p.main) _ h

-- what a law has to keep besides, for the rows that a task encounters
pub record KeepsRows (p : Program) (at : Encounter) (P : List Item → Type 0) : Type 0 where
  pub plain : KeepsPlain P
  pub fork : (num : Option ℕ) (f : ℕ) (xs : List Item) → P xs
      → P (item.Want num ∷ item.Asks ∷ item.Fork f ∷ xs)
  pub taskwait : (xs : List Item) → P xs → P (item.Tasks WAIT_TASKWAIT ∷ xs)
  pub barrier : (state : ℕ) (xs : List Item) → at.number == 0 ≡ false → P xs
      → P (item.Arrive ∷ item.Tasks state ∷ item.Pass ∷ xs)
  pub first_barrier : (state : ℕ) (xs : List Item) → at.number == 0 ≡ true → P xs
      → P (item.Arrive ∷ item.Tasks state ∷ item.Release ∷ item.Pass ∷ xs)
  pub critical : (k f : ℕ) (xs : List Item) → P xs
      → P (item.Lock k ∷ working at (item.Leave ∷ item.Call f ∷ call_items p f (item.Unlock k ∷ xs)))
  pub taskgroup : (f : ℕ) (xs : List Item) → P xs
      → P (item.GroupBegin ∷ item.Call f ∷ call_items p f (end_of_group at xs))

module _ (p : Program) (at : Encounter) (P : List Item → Type 0) (keeps : KeepsRows p at P) where
  pub barrier_keeps : (state : ℕ) (xs : List Item) → P xs → P (barrier_items at state xs)
  barrier_keeps state xs h =
      shown_keeps P keeps.plain at state 0
      (item.Arrive ∷ item.Tasks state ∷ (if at.number == 0 then item.Release ∷ item.Pass ∷ xs else item.Pass ∷ xs))
      (go (at.number == 0) refl)
    where
      go : (d : Bool) → at.number == 0 ≡ d
          → P (item.Arrive ∷ item.Tasks state ∷ (if d then item.Release ∷ item.Pass ∷ xs else item.Pass ∷ xs))
      go true is = keeps.first_barrier state xs is h
      go false is = keeps.barrier state xs is h

  leaving : (xs : List Item) → P xs → P (working at (item.Leave ∷ xs))
  leaving xs h = leaving_keeps P keeps.plain at xs h

  waiting : (state wait : ℕ) (xs : List Item) → P xs → P (item.Enter ∷ shown at state wait xs)
  waiting state wait xs h =
      keeps.plain item.Enter (shown at state wait xs) refl (shown_keeps P keeps.plain at state wait xs h)

  pub row_keeps : (q : Shape) (xs : List Item) → P xs → P (first_item at q ∷ items_behind p at q xs)
  row_keeps (shape.Parallel f num) xs h =
      waiting OVERHEAD 0 (item.Want num ∷ item.Asks ∷ item.Fork f ∷ working at (item.Leave ∷ xs))
      (keeps.fork num f (working at (item.Leave ∷ xs)) (leaving xs h))
  row_keeps (shape.Task f undeferred final) xs h = go (undeferred || at.is_final)
    where
      left : P (item.Leave ∷ xs)
      left = keeps.plain item.Leave xs refl h

      go : (c : Bool)
          → P (item.Enter ∷ (if c then item.StartNow f (final || at.is_final) else item.Defer 0 f (final || at.is_final)) ∷ item.Leave ∷ xs)
      go true =
          keeps.plain item.Enter (item.StartNow f (final || at.is_final) ∷ item.Leave ∷ xs) refl
          (keeps.plain (item.StartNow f (final || at.is_final)) (item.Leave ∷ xs) refl left)
      go false =
          keeps.plain item.Enter (item.Defer 0 f (final || at.is_final) ∷ item.Leave ∷ xs) refl
          (keeps.plain (item.Defer 0 f (final || at.is_final)) (item.Leave ∷ xs) refl left)
  row_keeps shape.Taskwait xs h =
      waiting WAIT_TASKWAIT 0 (item.Tasks WAIT_TASKWAIT ∷ item.WaitDone ∷ working at (item.Leave ∷ xs))
      (keeps.taskwait (item.WaitDone ∷ working at (item.Leave ∷ xs)) (keeps.plain item.WaitDone (working at (item.Leave ∷ xs)) refl (leaving xs h)))
  row_keeps shape.Taskyield xs h =
      keeps.plain item.Enter (item.OneTask ∷ item.Yield ∷ item.Leave ∷ xs) refl
      (keeps.plain item.OneTask (item.Yield ∷ item.Leave ∷ xs) refl (keeps.plain item.Yield (item.Leave ∷ xs) refl (keeps.plain item.Leave xs refl h)))
  row_keeps shape.Barrier xs h =
      keeps.plain item.Enter (barrier_items at WAIT_BARRIER_EXPLICIT (working at (item.Leave ∷ xs))) refl
      (barrier_keeps WAIT_BARRIER_EXPLICIT (working at (item.Leave ∷ xs)) (leaving xs h))
  row_keeps (shape.Critical k f) xs h =
      waiting WAIT_CRITICAL (k + 1)
      (item.Lock k ∷ working at (item.Leave ∷ item.Call f ∷ call_items p f (item.Unlock k ∷ xs)))
      (keeps.critical k f xs h)
  row_keeps (shape.Taskgroup f) xs h = keeps.taskgroup f xs h
  row_keeps (shape.Call f) xs h = call_keeps P keeps.plain p f xs h
  row_keeps (shape.Only m f) xs h = go (at.number == m)
    where
      go : (c : Bool) → P ((if c then item.Call f else item.Skip) ∷ (if c then call_items p f xs else xs))
      go true = call_keeps P keeps.plain p f xs h
      go false = keeps.plain item.Skip xs refl h
  row_keeps (shape.Repeat zero f) xs h = keeps.plain item.Skip xs refl h
  row_keeps (shape.Repeat (suc n) f) xs h =
      call_keeps P keeps.plain p f (item.Do (stmt.Repeat n f) ∷ xs)
      (keeps.plain (item.Do (stmt.Repeat n f)) xs refl h)
  row_keeps (shape.Sets variable word) xs h = keeps.plain (item.Set variable word) xs refl h
  row_keeps (shape.Tool x) xs h = keeps.plain (item.SetTool x) xs refl h
  row_keeps shape.Work xs h = keeps.plain item.Work xs refl h

-- a law of the last item of a member
pub last_keeps : (P : List Item → Type 0) → P (item.Join ∷ []) → P (item.ImplicitEnd ∷ []) → (n : ℕ)
    → P (last_of_member n ∷ [])
last_keeps P join end n = go (n == 0)
  where
    go : (c : Bool) → P ((if c then item.Join else item.ImplicitEnd) ∷ [])
    go true = join
    go false = end

-- a law that is kept where one of the items is passed over that may be
pub drop_keeps : (P : List Item → Type 0) → ((xs : List Item) → P (item.Asks ∷ xs) → P xs)
    → ((state : ℕ) (xs : List Item) → P (item.Tasks state ∷ xs) → P xs)
    → ((xs : List Item) → P (item.OneTask ∷ xs) → P xs)
    → ((n : Freeable) (xs : List Item) → P (item.Frees n ∷ xs) → P xs)
    → (x : Item) (xs : List Item) → may_drop x ≡ true → P (x ∷ xs) → P xs
drop_keeps P asks tasks one frees item.Asks xs may h = asks xs h
drop_keeps P asks tasks one frees (item.Tasks state) xs may h = tasks state xs h
drop_keeps P asks tasks one frees item.OneTask xs may h = one xs h
drop_keeps P asks tasks one frees (item.Frees n) xs may h = frees n xs h
drop_keeps P asks tasks one frees x xs may h = absurd (false_true may)
