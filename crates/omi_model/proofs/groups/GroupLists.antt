-- Groups in to-do lists: each row ends the groups that it begins, and never has more of them open than a task may have.
use Rattle.std.proofs.Common.{◌≡◌, ◌<◌, ◌≤◌, ◌+◌, ◌-◌, ◌==◌, ◌||◌, ◌⊎◌, inl, inr, ℕ, zero, suc, max, Bool, true, false, List, [], ◌∷◌, length, map, slice_get, Option, Some, if◌then◌else◌, refl, sym, ap, subst, arith}
use Rattle.std.specs.Option.{option_map_or}
use Rattle.std.proofs.lemmas.Bool.{cases_lt}
use Rattle.std.proofs.lemmas.List.{get_or_past}
use Rattle.std.proofs.lemmas.Option.{slice_get_past}
use Rattle.omi_numbers.specs.Holders.{lock_wait}
use Rattle.omi_numbers.specs.declared.limits.TheConstants.{OPEN_GROUPS}
use Rattle.omi_numbers.specs.declared.states.TheConstants.{OVERHEAD, WAIT_BARRIER_EXPLICIT, WAIT_BARRIER_IMPLICIT_PARALLEL, WAIT_CRITICAL, WAIT_TASKGROUP, WAIT_TASKWAIT}
use Rattle.omi_script.proofs.RuleLemmas.{Rules-from_accepted}
use Rattle.omi_script.proofs.StateLemmas.{length-reaches}
use Rattle.omi_script.specs.Bodies.{HasStatement, body_of, named_by}
use Rattle.omi_script.specs.Reach.{Reach, greatest, reach_in, reaches}
use Rattle.omi_script.specs.Rules.{Rules}
use Rattle.omi_script.specs.declared.function.Func.{Func}
use Rattle.omi_script.specs.declared.program.Program.{Program}
use Rattle.omi_script.specs.declared.statement.Stmt.{Stmt}
use Rattle.omi_script.specs.declared.statement.Stmt.TheVariants as stmt
use Rattle.omi_model.specs.declared.encounter.Encounter.{Encounter}
use Rattle.omi_model.specs.declared.event.Event.{Event}
use Rattle.omi_model.specs.declared.event.Event.TheVariants as event
use Rattle.omi_model.specs.declared.item.Item.{Item}
use Rattle.omi_model.specs.declared.item.Item.TheVariants as item
use Rattle.omi_model.specs.LawGroups.{GroupsNest, group_depth}
use Rattle.omi_model.specs.Lists.{fits, stays, take_item}
use Rattle.omi_model.specs.Rows.{barrier_items, behind, body_items, call_items, end_of_group, end_of_member, first_of, last_of_member, main_items, member_items, shown, task_items, work_state, working}
use Rattle.omi_model.proofs.EachObject.{start_list}
use Rattle.omi_model.proofs.ListLaws.{take_keeps}
use Rattle.omi_model.proofs.RowLaws.{drop_keeps}
use Rattle.omi_model.proofs.Slots.{false_true, none_some, some_same}

-- ---- how deep functions nest their groups

greatest_most : (g : Stmt → ℕ) (n : ℕ) (ss : List Stmt)
    → ((k : ℕ) (s : Stmt) → slice_get ss k ≡ Some s → g s ≤ n) → greatest (map g ss) ≤ n
greatest_most g n [] each = omega arith
greatest_most g n (s ∷ ss) each = omega (arith, each 0 s refl, greatest_most g n ss (λ k x at. each (suc k) x at))

greatest_each : (g : Stmt → ℕ) (ss : List Stmt) (k : ℕ) (s : Stmt) → slice_get ss k ≡ Some s
    → g s ≤ greatest (map g ss)
greatest_each g [] k s at = absurd (none_some refl at)
greatest_each g (x ∷ xs) zero s at =
    let same : x ≡ s = some_same refl at in
    subst (λ (y : Stmt). g y ≤ max (g x) (greatest (map g xs))) same (omega arith)
greatest_each g (x ∷ xs) (suc k) s at = omega (arith, greatest_each g xs k s at)

module _ (p : Program) where
  rules : Rules p
  rules = Rules-from_accepted p

  abbrev depth_in : ℕ → ℕ
  depth_in f = (reach_in p.funcs f).groups

  -- a function nests as deep as its statements
  depth_of_body : (f : ℕ) → f < length p.funcs
      → depth_in f ≡ greatest (map (group_depth p) (body_of p.funcs f))
  depth_of_body f within = ap (λ (r : Reach). r.groups) (rules.reach f within)

  -- and none deeper than it may
  stmt_depth : (f : ℕ) (s : Stmt) → HasStatement p.funcs f s
      → ((g : ℕ) → named_by s ≡ Some g → depth_in g ≤ OPEN_GROUPS) → group_depth p s ≤ OPEN_GROUPS
  stmt_depth f (stmt.Taskgroup g) has each = omega (arith, rules.group_depth f g has)
  stmt_depth f (stmt.Call g) has each = each g refl
  stmt_depth f (stmt.Only m g) has each = each g refl
  stmt_depth f (stmt.Critical k g) has each = each g refl
  stmt_depth f (stmt.Repeat n g) has each = each g refl
  stmt_depth f s has each = omega arith

  depth_below : (n f : ℕ) → f < n → depth_in f ≤ OPEN_GROUPS
  depth_below zero f less = absurd (omega (arith, less))
  depth_below (suc n) f less = go (cases_lt f (length p.funcs)) (λ g near. depth_below n g near)
    where
      go : (f < length p.funcs) ⊎ (length p.funcs ≤ f) → ((g : ℕ) → g < n → depth_in g ≤ OPEN_GROUPS)
          → depth_in f ≤ OPEN_GROUPS
      go (inl within) shorter =
          let most = greatest_most (group_depth p) OPEN_GROUPS (body_of p.funcs f)
          (λ k s at. stmt_depth f s (k, at) (λ g named. shorter g (let above = rules.above f g s (k, at) named in omega (arith, above, less)))) in
          omega (arith, most, depth_of_body f within)
      go (inr past) shorter =
          let known : length (reaches [] p.funcs) ≡ 0 + length p.funcs = length-reaches [] p.funcs in
          let none : depth_in f ≡ 0 =
          ap (λ (r : Reach). r.groups) (get_or_past (reaches [] p.funcs) f (record { barrier = false; depth = 0; groups = 0 }) (omega (arith, past, known))) in
          omega (arith, none)

  depth_most : (f : ℕ) → depth_in f ≤ OPEN_GROUPS
  depth_most f = depth_below (suc f) f (omega arith)

  -- ---- parts of rows

  module _ (n : ℕ) where
    shown_nests : (at : Encounter) (state wait : ℕ) (xs : List Item) → GroupsNest p n xs
        → GroupsNest p n (shown at state wait xs)
    shown_nests at state wait xs h = go at.debug
      where
        go : (d : Bool) → GroupsNest p n (if d then item.State state wait ∷ xs else xs)
        go true = h
        go false = h

    working_nests : (at : Encounter) (xs : List Item) → GroupsNest p n xs → GroupsNest p n (working at xs)
    working_nests at xs h = shown_nests at (work_state at.level) 0 xs h

    barrier_nests : (at : Encounter) (state : ℕ) (xs : List Item) → GroupsNest p n xs
        → GroupsNest p n (barrier_items at state xs)
    barrier_nests at state xs h =
        shown_nests at state 0
        (item.Arrive ∷ item.Tasks state ∷ (if at.number == 0 then item.Release ∷ item.Pass ∷ xs else item.Pass ∷ xs))
        (go (at.number == 0))
      where
        go : (d : Bool) → GroupsNest p n (if d then item.Release ∷ item.Pass ∷ xs else item.Pass ∷ xs)
        go true = h
        go false = h

    by_place : (ss : List Stmt) (xs : List Item)
        → ((k : ℕ) (s : Stmt) → slice_get ss k ≡ Some s → n + group_depth p s ≤ OPEN_GROUPS)
        → GroupsNest p n xs → GroupsNest p n (body_items ss xs)
    by_place [] xs each h = h
    by_place (s ∷ ss) xs each h = (each 0 s refl, by_place ss xs (λ k x at. each (suc k) x at) h)

    body_nests : (f : ℕ) (xs : List Item) → n + depth_in f ≤ OPEN_GROUPS → GroupsNest p n xs
        → GroupsNest p n (body_items (body_of p.funcs f) xs)
    body_nests f xs room h = go (cases_lt f (length p.funcs))
      where
        go : (f < length p.funcs) ⊎ (length p.funcs ≤ f) → GroupsNest p n (body_items (body_of p.funcs f) xs)
        go (inl within) =
            by_place (body_of p.funcs f) xs
            (λ k s at. omega (arith, room, greatest_each (group_depth p) (body_of p.funcs f) k s at, depth_of_body f within)) h
        go (inr past) =
            subst (λ (o : Option Func). GroupsNest p n (body_items (option_map_or (λ g. g.body) o []) xs))
            (sym (slice_get_past p.funcs f past)) h

    call_nests : (f : ℕ) (xs : List Item) → n + depth_in f ≤ OPEN_GROUPS → GroupsNest p n xs
        → GroupsNest p n (call_items p f xs)
    call_nests f xs room h = body_nests f (item.Ret ∷ xs) room h

  -- ---- rows

  row_nests : (n : ℕ) (at : Encounter) (s : Stmt) (xs : List Item) → GroupsNest p n (item.Do s ∷ xs)
      → GroupsNest p n (first_of at s ∷ behind p at s xs)
  row_nests n at (stmt.Parallel f num) xs (room, h) =
      shown_nests n at OVERHEAD 0 (item.Want num ∷ item.Asks ∷ item.Fork f ∷ working at (item.Leave ∷ xs))
      (working_nests n at (item.Leave ∷ xs) h)
  row_nests n at (stmt.Task f undeferred final) xs (room, h) = go (undeferred || at.is_final)
    where
      go : (c : Bool)
          → GroupsNest p n ((if c then item.StartNow f (final || at.is_final) else item.Defer 0 f (final || at.is_final)) ∷ item.Leave ∷ xs)
      go true = h
      go false = h
  row_nests n at stmt.Taskwait xs (room, h) =
      shown_nests n at WAIT_TASKWAIT 0 (item.Tasks WAIT_TASKWAIT ∷ item.WaitDone ∷ working at (item.Leave ∷ xs))
      (working_nests n at (item.Leave ∷ xs) h)
  row_nests n at stmt.Taskyield xs (room, h) = h
  row_nests n at stmt.Barrier xs (room, h) =
      barrier_nests n at WAIT_BARRIER_EXPLICIT (working at (item.Leave ∷ xs)) (working_nests n at (item.Leave ∷ xs) h)
  row_nests n at (stmt.Critical k f) xs (room, h) =
      shown_nests n at WAIT_CRITICAL (lock_wait k)
      (item.Lock k ∷ working at (item.Leave ∷ item.Call f ∷ call_items p f (item.Unlock k ∷ xs)))
      (working_nests n at (item.Leave ∷ item.Call f ∷ call_items p f (item.Unlock k ∷ xs)) (call_nests n f (item.Unlock k ∷ xs) room h))
  row_nests n at (stmt.Taskgroup f) xs (room, h) = (
    omega (arith, room),
    call_nests (suc n) f (end_of_group at xs) (omega (arith, room))
        (shown_nests (suc n) at WAIT_TASKGROUP 0 (item.Tasks WAIT_TASKGROUP ∷ item.GroupEnd ∷ working at (item.Leave ∷ xs))
        (n, refl, working_nests n at (item.Leave ∷ xs) h)),
  )
  row_nests n at (stmt.Call f) xs (room, h) = call_nests n f xs room h
  row_nests n at (stmt.Only m f) xs (room, h) = go (at.number == m)
    where
      go : (c : Bool)
          → GroupsNest p n ((if c then item.Call f else item.Skip) ∷ (if c then call_items p f xs else xs))
      go true = call_nests n f xs room h
      go false = h
  row_nests n at (stmt.Repeat zero f) xs (room, h) = h
  row_nests n at (stmt.Repeat (suc m) f) xs (room, h) = call_nests n f (item.Do (stmt.Repeat m f) ∷ xs) room (room, h)
  row_nests n at s xs (room, h) = h

  pub take_nests : (n : ℕ) (at : Encounter) (e : Event) (xs : List Item) (y : Item) (ys : List Item)
      → take_item p at e xs ≡ Some (y, ys) → GroupsNest p n xs → GroupsNest p n (y ∷ ys)
  take_nests n at =
      take_keeps p at (GroupsNest p n)
      (drop_keeps (GroupsNest p n) (λ xs h. h) (λ state xs h. h) (λ xs h. h) (λ next xs h. h))
      (λ s xs h. row_nests n at s xs h)

  -- ---- first lists

  last_nests : (n : ℕ) → GroupsNest p 0 (last_of_member n ∷ [])
  last_nests n = go (n == 0)
    where
      go : (c : Bool) → GroupsNest p 0 ((if c then item.Join else item.ImplicitEnd) ∷ [])
      go true = refl
      go false = refl

  pub task_nests : (f : ℕ) → GroupsNest p 0 (task_items p f)
  task_nests f = body_nests 0 f (item.Finish ∷ []) (omega (arith, depth_most f)) refl

  pub member_nests : (at : Encounter) (f : ℕ) → GroupsNest p 0 (member_items p at f)
  member_nests at f =
      working_nests 0 at _
      (body_nests 0 f (end_of_member at (last_of_member at.number ∷ [])) (omega (arith, depth_most f))
      (barrier_nests 0 at WAIT_BARRIER_IMPLICIT_PARALLEL (last_of_member at.number ∷ []) (last_nests at.number)))

  pub main_nests : (at : Encounter) → GroupsNest p 0 (main_items at (body_of p.funcs p.main))
  main_nests at =
      body_nests 0 p.main (end_of_member at (item.Done ∷ [])) (omega (arith, depth_most p.main))
      (barrier_nests 0 at WAIT_BARRIER_IMPLICIT_PARALLEL (item.Done ∷ []) refl)

  pub start_nests : (n : ℕ) (x : Item) (at : Encounter) (xs : List Item) → GroupsNest p n xs
      → GroupsNest p n (start_list x at xs)
  start_nests n (item.Tasks state) at xs h = working_nests n at xs h
  start_nests n x at xs h = h

-- ---- the two events of groups, and all others

abbrev pub is_group : Event → Bool
is_group event.GroupBegin = true
is_group event.GroupEnd = true
is_group e = false

-- the number of open groups behind an event of a task that has so many open
abbrev pub count_behind : Event → ℕ → ℕ
count_behind event.GroupBegin n = suc n
count_behind event.GroupEnd n = n - 1
count_behind e n = n

pub count_same : (e : Event) (n : ℕ) → is_group e ≡ false → count_behind e n ≡ n
count_same event.GroupBegin n other = absurd (false_true (sym other))
count_same event.GroupEnd n other = absurd (false_true (sym other))
count_same e n other = refl

begin_only : (e : Event) → fits e item.GroupBegin ≡ true → e ≡ event.GroupBegin
begin_only event.GroupBegin fit = refl
begin_only e fit = absurd (false_true fit)

end_only : (e : Event) → fits e item.GroupEnd ≡ true → e ≡ event.GroupEnd
end_only event.GroupEnd fit = refl
end_only e fit = absurd (false_true fit)

abbrev is_group_item : Item → Bool
is_group_item item.GroupBegin = true
is_group_item item.GroupEnd = true
is_group_item y = false

pub other_event : (e : Event) (y : Item) → fits e y ≡ true → is_group_item y ≡ false → is_group e ≡ false
other_event event.GroupBegin item.GroupBegin fit other = absurd (false_true (sym other))
other_event event.GroupBegin y fit other = absurd (false_true fit)
other_event event.GroupEnd item.GroupEnd fit other = absurd (false_true (sym other))
other_event event.GroupEnd y fit other = absurd (false_true fit)
other_event e y fit other = refl

module _ (p : Program) (n : ℕ) where
  stays_other : (at : Encounter) (e : Event) (y : Item) (ys : List Item) → is_group_item y ≡ false
      → GroupsNest p n (y ∷ ys) → GroupsNest p n (stays at e y ys)
  stays_other at e item.GroupBegin ys other h = absurd (false_true (sym other))
  stays_other at e item.GroupEnd ys other h = absurd (false_true (sym other))
  stays_other at e (item.Do s) ys other h = h.1
  stays_other at e item.Asks ys other h = h
  stays_other at e item.Serve ys other h = shown_nests p n at _ 0 (item.Offer ∷ item.Serve ∷ ys) h
  stays_other at e (item.Tasks state) ys other h = shown_nests p n at state 0 (item.Tasks state ∷ ys) h
  stays_other at (event.Seen j) (item.Defer seen f final) ys other h = h
  stays_other at e y ys other h = h

  -- what stands behind an event nests at the number of groups that are open behind it
  pub stays_nests : (at : Encounter) (e : Event) (y : Item) (ys : List Item) → fits e y ≡ true
      → GroupsNest p n (y ∷ ys) → GroupsNest p (count_behind e n) (stays at e y ys)
  stays_nests at e y ys fit h = of_item y fit h
    where
      of_other : (x : Item) → fits e x ≡ true → is_group_item x ≡ false → GroupsNest p n (x ∷ ys)
          → GroupsNest p (count_behind e n) (stays at e x ys)
      of_other x fit other h =
          subst (λ c. GroupsNest p c (stays at e x ys)) (sym (count_same e n (other_event e x fit other)))
          (stays_other at e x ys other h)

      of_item : (x : Item) → fits e x ≡ true → GroupsNest p n (x ∷ ys)
          → GroupsNest p (count_behind e n) (stays at e x ys)
      of_item item.GroupBegin fit (less, rest) =
          subst (λ (x : Event). GroupsNest p (count_behind x n) ys) (sym (begin_only e fit)) rest
      of_item item.GroupEnd fit (m, is, rest) =
          let before : m ≡ n - 1 = omega (arith, is) in
          subst (λ (x : Event). GroupsNest p (count_behind x n) ys) (sym (end_only e fit))
          (subst (λ c. GroupsNest p c ys) before rest)
      of_item x fit h = of_other x fit refl h
