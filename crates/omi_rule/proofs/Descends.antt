-- Functions go down: a to-do list makes only tasks over smaller functions than its task's own, so each explicit task runs a smaller
-- function than the task that made it.
use Rattle.std.proofs.Common.{◌≡◌, ◌==◌, ◌<◌, ◌≤◌, ◌+◌, ◌⊎◌, inl, inr, ℕ, zero, suc, ◌||◌, Bool, true, false, List, [], ◌∷◌, slice_get, Some, if◌then◌else◌, refl, sym, ap, ◌∙◌, subst, arith}
use Rattle.std.specs.List.{Contains}
use Rattle.omi_script.specs.Bodies.{body_of, named_by}
use Rattle.omi_script.specs.declared.program.Program.{Program}
use Rattle.omi_script.specs.declared.statement.Stmt.{Stmt}
use Rattle.omi_script.specs.declared.statement.Stmt.TheVariants as stmt
use Rattle.omi_script.proofs.RuleLemmas.{Rules-from_accepted}
use Rattle.omi_model.specs.declared.encounter.Encounter.{Encounter}
use Rattle.omi_model.specs.declared.event.Event.{Event}
use Rattle.omi_model.specs.declared.event.Event.TheVariants as event
use Rattle.omi_model.specs.declared.group.Group.{Group}
use Rattle.omi_model.specs.declared.id.Tid.{Tid}
use Rattle.omi_model.specs.declared.item.Item.{Item}
use Rattle.omi_model.specs.declared.item.Item.TheVariants as item
use Rattle.omi_model.specs.declared.region.Region.{Region}
use Rattle.omi_model.specs.declared.task.Task.{Task}
use Rattle.omi_model.specs.Changes.{IsCurrent, encounter}
use Rattle.omi_model.specs.LawLineage.{HasLineage, IsLineage}
use Rattle.omi_model.specs.Lists.{may_drop, stays, take_item}
use Rattle.omi_numbers.specs.declared.states.TheConstants.{WAIT_TASKGROUP, WAIT_TASKWAIT}
use Rattle.omi_model.specs.Opening.{opening}
use Rattle.omi_model.specs.Reached.{Reached, Step}
use Rattle.omi_model.specs.Rows.{barrier_items, behind, body_items, call_items, end_of_group, first_of, function_items, last_of_member, main_items, member_items, task_items, shown, working}
use Rattle.omi_model.specs.State.{State, region_of, task_of}
use Rattle.omi_model.specs.Tasking.{deferred_task, scheduled}
use Rattle.omi_model.proofs.ChainsKept.{current_begun}
use Rattle.omi_model.proofs.EachObject.{EachTask, IsTaskLaw, ahead_of_current, start_list, stays_after, task_step_from}
use Rattle.omi_model.proofs.ListLaws.{take_keeps, by_taken}
use Rattle.omi_model.proofs.members.Lineages.{have_lineage}
use Rattle.omi_model.proofs.OpeningObjects.{each_first_task}
use Rattle.omi_model.proofs.Slots.{false_true, some_same}
use Rattle.omi_model.proofs.ReachedStates.{over_reached}
use Rattle.omi_model.proofs.StaysKept.{needed_begun, needed_generating, stays_step}
use Rattle.omi_model.proofs.Steps.{IsMove, is_relisted, move_of, moved_on}
use Rattle.omi_rule_words.specs.FreeKinds.{DescendsInRegion}
use Rattle.omi_rule.specs.Descends.{TasksDescend}
use Rattle.omi_rule.proofs.MemberFunctions.{member_function}

-- ---- lists

-- a statement names only functions below this one
abbrev NamesBelow : ℕ → Stmt → Type 0
NamesBelow f s = (g : ℕ) → named_by s ≡ Some g → g < f

-- each statement of a list, and each task that it makes
abbrev Below : ℕ → List Item → Type 0
Below f [] = Unit {0}
Below f (item.Do s ∷ xs) = NamesBelow f s × Below f xs
Below f (item.Defer seen g final ∷ xs) = (g < f) × Below f xs
Below f (item.StartNow g final ∷ xs) = (g < f) × Below f xs
Below f (x ∷ xs) = Below f xs

shown_below : (f : ℕ) (at : Encounter) (state wait : ℕ) (xs : List Item) → Below f xs
    → Below f (shown at state wait xs)
shown_below f at state wait xs h = go at.debug
  where
    go : (d : Bool) → Below f (if d then item.State state wait ∷ xs else xs)
    go true = h
    go false = h

working_below : (f : ℕ) (at : Encounter) (xs : List Item) → Below f xs → Below f (working at xs)
working_below f at xs h = shown_below f at _ 0 xs h

barrier_below : (f : ℕ) (at : Encounter) (state : ℕ) (rest : List Item) → Below f rest
    → Below f (barrier_items at state rest)
barrier_below f at state rest h = shown_below f at state 0 _ (go (at.number == 0))
  where
    go : (d : Bool)
        → Below f (item.Arrive ∷ item.Tasks state ∷ (if d then item.Release ∷ item.Pass ∷ rest else item.Pass ∷ rest))
    go true = h
    go false = h

body_below : (f : ℕ) (ss : List Stmt) (rest : List Item)
    → ((k : ℕ) (s : Stmt) → slice_get ss k ≡ Some s → NamesBelow f s) → Below f rest
    → Below f (body_items ss rest)
body_below f [] rest all h = h
body_below f (s ∷ ss) rest all h = (all 0 s refl, body_below f ss rest (λ k x e. all (suc k) x e) h)

module _ (p : Program) where
  -- a function names only functions below its own
  function_below : (f g : ℕ) (rest : List Item) → g ≤ f → Below f rest → Below f (function_items p g rest)
  function_below f g rest small h =
      body_below f (body_of p.funcs g) rest
      (λ k s e c names. let less : c < g = (Rules-from_accepted p).above g c s (k, e) names in omega arith) h

  call_below : (f g : ℕ) (rest : List Item) → g < f → Below f rest → Below f (call_items p g rest)
  call_below f g rest small h = function_below f g (item.Ret ∷ rest) (omega arith) h

  row_below : (f : ℕ) (at : Encounter) (s : Stmt) (rest : List Item) → Below f (item.Do s ∷ rest)
      → Below f (first_of at s ∷ behind p at s rest)
  row_below f at (stmt.Parallel g num) rest h =
      shown_below f at _ 0 (item.Want num ∷ item.Asks ∷ item.Fork g ∷ working at (item.Leave ∷ rest))
      (working_below f at (item.Leave ∷ rest) h.1)
  row_below f at (stmt.Task g undeferred final) rest h = go (undeferred || at.is_final)
    where
      go : (c : Bool)
          → Below f (item.Enter ∷ (if c then item.StartNow g (final || at.is_final) else item.Defer 0 g (final || at.is_final)) ∷ item.Leave ∷ rest)
      go true = (h.0 g refl, h.1)
      go false = (h.0 g refl, h.1)
  row_below f at stmt.Taskwait rest h =
      shown_below f at _ 0 (item.Tasks WAIT_TASKWAIT ∷ item.WaitDone ∷ working at (item.Leave ∷ rest))
      (working_below f at (item.Leave ∷ rest) h.1)
  row_below f at (stmt.Taskgroup g) rest h =
      call_below f g (end_of_group at rest) (h.0 g refl)
      (shown_below f at _ 0 (item.Tasks WAIT_TASKGROUP ∷ item.GroupEnd ∷ working at (item.Leave ∷ rest))
      (working_below f at (item.Leave ∷ rest) h.1))
  row_below f at stmt.Barrier rest h =
      barrier_below f at _ (working at (item.Leave ∷ rest)) (working_below f at (item.Leave ∷ rest) h.1)
  row_below f at (stmt.Critical k g) rest h =
      shown_below f at _ _
      (item.Lock k ∷ working at (item.Leave ∷ item.Call g ∷ call_items p g (item.Unlock k ∷ rest)))
      (working_below f at (item.Leave ∷ item.Call g ∷ call_items p g (item.Unlock k ∷ rest)) (call_below f g (item.Unlock k ∷ rest) (h.0 g refl) h.1))
  row_below f at (stmt.Call g) rest h = call_below f g rest (h.0 g refl) h.1
  row_below f at (stmt.Only m g) rest h = go (at.number == m)
    where
      go : (c : Bool)
          → Below f ((if c then item.Call g else item.Skip) ∷ (if c then call_items p g rest else rest))
      go true = call_below f g rest (h.0 g refl) h.1
      go false = h.1
  row_below f at (stmt.Repeat (suc n) g) rest h =
      call_below f g (item.Do (stmt.Repeat n g) ∷ rest) (h.0 g refl) (h.0, h.1)
  row_below f at s rest h = h.1

  drop_below : (f : ℕ) (x : Item) (xs : List Item) → may_drop x ≡ true → Below f (x ∷ xs) → Below f xs
  drop_below f item.Asks xs may h = h
  drop_below f (item.Tasks state) xs may h = h
  drop_below f item.OneTask xs may h = h
  drop_below f (item.Frees n) xs may h = h
  drop_below f x xs may h = absurd (false_true may)

  take_below : (f : ℕ) (at : Encounter) (e : Event) (xs : List Item) (y : Item) (ys : List Item)
      → take_item p at e xs ≡ Some (y, ys) → Below f xs → Below f (y ∷ ys)
  take_below f at = take_keeps p at (Below f) (drop_below f) (row_below f at)

  task_below : (f : ℕ) → Below f (task_items p f)
  task_below f = function_below f f (item.Finish ∷ []) (omega arith) tt

  last_below : (f n : ℕ) → Below f (last_of_member n ∷ [])
  last_below f n = go (n == 0)
    where
      go : (c : Bool) → Below f ((if c then item.Join else item.ImplicitEnd) ∷ [])
      go true = tt
      go false = tt

  member_below : (at : Encounter) (f : ℕ) → Below f (member_items p at f)
  member_below at f =
      working_below f at _
      (function_below f f _ (omega arith) (barrier_below f at _ (last_of_member at.number ∷ []) (last_below f at.number)))

  main_below : (at : Encounter) → Below p.main (main_items at (body_of p.funcs p.main))
  main_below at = function_below p.main p.main _ (omega arith) (barrier_below p.main at _ (item.Done ∷ []) tt)

stays_below : (f : ℕ) (at : Encounter) (e : Event) (y : Item) (ys : List Item) → Below f (y ∷ ys)
    → Below f (stays at e y ys)
stays_below f at e item.Asks ys h = h
stays_below f at e item.Serve ys h = shown_below f at _ 0 (item.Offer ∷ item.Serve ∷ ys) h
stays_below f at e (item.Tasks state) ys h = shown_below f at state 0 (item.Tasks state ∷ ys) h
stays_below f at (event.Seen j) (item.Defer seen g final) ys h = h
stays_below f at e (item.Do s) ys h = h.1
stays_below f at e (item.Defer seen g final) ys h = h.1
stays_below f at e (item.StartNow g final) ys h = h.1
stays_below f at e y ys h = h

start_below : (f : ℕ) (x : Item) (at : Encounter) (zs : List Item) → Below f zs → Below f (start_list x at zs)
start_below f (item.Tasks state) at zs h = working_below f at zs h
start_below f x at zs h = h

-- ---- tasks

-- an explicit task was made by a task with a larger function, which is live in this state
abbrev IsUnder : State → Task → Type 0
IsUnder s t =
    t.implicit ≡ false → (g : Tid) × (u : Task) × (t.generating ≡ Some g) × (task_of s g ≡ Some u) × (t.function < u.function)

-- and a task's list makes only tasks over smaller functions
abbrev Descends : State → Tid → Task → Type 0
Descends s k t = Below t.function t.list × IsUnder s t

module _ (p : Program) (events : List (ℕ × Event)) (s : State) (reached : Reached p events s) (i : ℕ)
    (e : Event) (next : State) (step : Step p s i e next) (all : EachTask (Descends s) s) where
  move : IsMove p s i e next
  move = move_of p s i e next step

  -- the item that the event takes from the list of the current task
  taken_below : (k : Tid) (t : Task) → IsCurrent s i k t → Below t.function (move.item ∷ move.behind)
  taken_below k t is =
      by_taken p (encounter s i) e t.frees t.list move.item move.behind (λ f y ys. Below t.function (y ∷ ys))
      (ap (take_item p (encounter s i) e) (sym (ahead_of_current s i k t is)) ∙ move.taken)
      (λ from. take_below p t.function (encounter s i) e t.list move.item move.behind from (all k t is.live).0)
      (λ task n. (all k t is.live).0)

  -- which is the current one once the list has moved on
  moved_below : (k : Tid) (t : Task) → IsCurrent (moved_on s i e move.item move.behind) i k t
      → Below t.function (move.item ∷ move.behind)
  moved_below k t is =
      let before = is_relisted s i (stays (encounter s i) e move.item move.behind) in
      let (v, xs, live, same) = before.tasks k t is.live in
      subst (λ (f : ℕ). Below f (move.item ∷ move.behind)) (sym (ap (λ (x : Task). x.function) same))
      (taken_below k v (record { name = sym (before.currents i) ∙ is.name; live = live }))

  still_under : (k : Tid) (t : Task) → task_of s k ≡ Some t → IsUnder s t → IsUnder next t
  still_under k t lives under ex =
      let (g, u, by, live, less) = under ex in
      let (v, later, same) =
      (stays_step p s i e next step).tasks g u live (needed_generating s k t lives g u by) in
      (g, v, by, later, (let one : v.function ≡ u.function = same.function in omega arith))

  -- a task that the current one makes
  made_under : (k : Tid) (t new : Task) → IsCurrent (moved_on s i e move.item move.behind) i k t
      → new.generating ≡ Some k → new.function < t.function → IsUnder next new
  made_under k t new is by less ex =
      let before = is_relisted s i (stays (encounter s i) e move.item move.behind) in
      let (u, xs, live, moved) = before.tasks k t is.live in
      let begun = (current_begun p events s reached i k u (sym (before.currents i) ∙ is.name) live).0 in
      let (v, later, same) =
      (stays_after p s i e next move).tasks k t is.live
      (needed_begun (moved_on s i e move.item move.behind) k t (ap (λ (x : Task). x.progress) moved ∙ begun)) in
      (k, v, by, later, (let one : v.function ≡ t.function = same.function in omega arith))

  made_below : (f : ℕ) (final : Bool) (k : Tid) (t : Task)
      → IsCurrent (moved_on s i e move.item move.behind) i k t
      → (move.item ≡ item.StartNow f final) ⊎ ((seen : ℕ) × (move.item ≡ item.Defer seen f final))
      → f < t.function
  made_below f final k t is (inl same) =
      (subst (λ (y : Item). Below t.function (y ∷ move.behind)) same (moved_below k t is)).0
  made_below f final k t is (inr (seen, same)) =
      (subst (λ (y : Item). Below t.function (y ∷ move.behind)) same (moved_below k t is)).0

  descend_law : EachTask (Descends next) (moved_on s i e move.item move.behind)
      → IsTaskLaw p (moved_on s i e move.item move.behind) i e move.item next (Descends next)
  descend_law middle = record {
    frees = λ k t free how h. h;
    shows = λ k t enter h. h;
    tools = λ k t x h. h;
    groups = λ k t n is how h. h;
    sets = λ k t icv value v is of h. h;
    begins = λ k t waiting mine of h. h;
    finishes = λ k t is over h. h;
    starts = λ k u j t x is live explicit deferred may same of h. (start_below u.function x (encounter (moved_on s i e move.item move.behind) i) u.list h.0, h.1);
    members = λ region team f k t r is found may made same of j m at. (member_below p (record { debug = p.env.debug; number = j; level = r.levels + 1; is_final = false }) f, λ ex. absurd (false_true (sym ex)));
    deferred = λ task f final seen k t is same fresh. (task_below p f, made_under k t (deferred_task p k t f final seen) is refl (made_below f final k t is (inr (seen, same))));
    made = λ task f final k t is same fresh of. (task_below p f, made_under k t (scheduled i k t (deferred_task p k t f final 0)) is refl (made_below f final k t is same));
  }

  descend_step : EachTask (Descends next) next
  descend_step = task_step_from p (Descends s) (Descends next) s i e next move
      (λ k t is taken h. (stays_below t.function (encounter s i) e move.item move.behind (taken_below k t is), still_under k t is.live h.1))
      (λ k t ne live h. (h.0, still_under k t live h.1)) descend_law all

descended : (p : Program) (events : List (ℕ × Event)) (s : State) → Reached p events s
    → EachTask (Descends s) s
descended p events s reached =
    over_reached p (λ z. EachTask (Descends z) z)
    (λ first z first_reached i e next step h. descend_step p first z first_reached i e next step h) []
    (opening p) refl events s reached
    (each_first_task p (Descends (opening p)) (main_below p (record { debug = p.env.debug; number = 0; level = 0; is_final = false }), λ ex. absurd (false_true (sym ex))))

-- the task that made an explicit task
pub made_by_larger : (p : Program) (events : List (ℕ × Event)) (s : State) → Reached p events s
    → (k : Tid) (t : Task) → task_of s k ≡ Some t → t.implicit ≡ false
    → (g : Tid) × (u : Task) × (t.generating ≡ Some g) × (task_of s g ≡ Some u) × (t.function < u.function)
made_by_larger p events s reached k t live ex = (descended p events s reached k t live).1 ex

pub tasks_descend : TasksDescend
tasks_descend = λ p events s reached k t live ex g u by found.
    let (h, v, of, there, less) = (descended p events s reached k t live).1 ex in
    let one_name : h ≡ g = some_same of by in
    let one : v ≡ u = some_same there (ap (task_of s) one_name ∙ found) in
    subst (λ (x : Task). t.function < x.function) one less

-- ---- regions

module _ (p : Program) (events : List (ℕ × Event)) (s : State) (reached : Reached p events s) where
  -- down the chain of the tasks that made a task, to the member of its region
  chain_below : (ks : List Tid) (k : Tid) (t : Task) (r : Region) → task_of s k ≡ Some t
      → region_of s t.region ≡ Some r → IsLineage s t.implicit t.region t.generating ks
      → t.function ≤ r.function
  chain_below [] k t r live found im =
      let same : r.function ≡ t.function = member_function p events s reached k t r live im found in omega (arith, same)
  chain_below (g ∷ gs) k t r live found (ex, u, by, maker, region, started, rest) =
      let less : t.function < u.function = tasks_descend p events s reached k t live ex g u by maker in
      let small : u.function ≤ r.function =
      chain_below gs g u r maker (ap (region_of s) region ∙ found) rest in
      omega (arith, less, small)

  -- an explicit task of a region runs a smaller function than the region's members
  pub below_members : (k : Tid) (t : Task) (r : Region) → task_of s k ≡ Some t → t.implicit ≡ false
      → region_of s t.region ≡ Some r → t.function < r.function
  below_members k t r live ex found = go lineage.tasks lineage.chain
    where
      lineage : HasLineage s t
      lineage = have_lineage p events s reached k t live

      go : (ks : List Tid) → IsLineage s t.implicit t.region t.generating ks → t.function < r.function
      go [] im = absurd (false_true (sym ex ∙ im))
      go (g ∷ gs) (not, u, by, maker, region, started, rest) =
          let less : t.function < u.function = tasks_descend p events s reached k t live ex g u by maker in
          let small : u.function ≤ r.function =
          chain_below gs g u r maker (ap (region_of s) region ∙ found) rest in
          omega (arith, less, small)

  -- and each explicit task runs a smaller one than any task of its chain, such as the owner of its group
  below_line : (ks : List Tid) (k : Tid) (t : Task) → task_of s k ≡ Some t
      → IsLineage s t.implicit t.region t.generating ks → (n : Tid) → Contains ks n → (u : Task) → task_of s n ≡ Some u
      → t.function < u.function
  below_line [] k t live line n (j, below, at) u there = absurd (omega (arith, below))
  below_line (g ∷ gs) k t live (ex, v, by, maker, region, started, rest) n (zero, below, at) u there =
      tasks_descend p events s reached k t live ex g u by (ap (task_of s) at ∙ there)
  below_line (g ∷ gs) k t live (ex, v, by, maker, region, started, rest) n (suc j, below, at) u there =
      let less : t.function < v.function = tasks_descend p events s reached k t live ex g v by maker in
      let under : v.function < u.function =
      below_line gs g v maker rest n (j, omega (arith, below), at) u there in
      omega (arith, less, under)

  pub below_owner : (k : Tid) (t : Task) → task_of s k ≡ Some t → (g : Group) → t.group ≡ Some g → (u : Task)
      → task_of s g.owner ≡ Some u → t.function < u.function
  below_owner k t live g of u there =
      let lineage : HasLineage s t = have_lineage p events s reached k t live in
      below_line lineage.tasks k t live lineage.chain g.owner (lineage.owner g of) u there

-- and stands in its region
pub descends_in_region : (p : Program) (events : List (ℕ × Event)) (s : State) → Reached p events s → DescendsInRegion s
descends_in_region p events s reached k g t u live ex by there =
    (home lineage.tasks lineage.chain, tasks_descend p events s reached k t live ex g u by there)
  where
    lineage : HasLineage s t
    lineage = have_lineage p events s reached k t live

    home : (ks : List Tid) → IsLineage s t.implicit t.region t.generating ks → t.region ≡ u.region
    home [] im = absurd (cc (sym ex, im))
    home (n ∷ ns) (explicit, v, made, found, same, begun, rest) =
        let one : n ≡ g = some_same made by in
        let other : v ≡ u = some_same (subst (λ (x : Tid). task_of s x ≡ Some v) one found) there in
        sym (ap (λ (x : Task). x.region) (sym other) ∙ same)
