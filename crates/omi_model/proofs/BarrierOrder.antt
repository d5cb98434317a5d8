-- Where a task stands in the barriers of its region, by its to-do list: each arrival is followed by its release and its pass, and a list has so many barriers ahead.
use Rattle.std.proofs.Common.{◌≡◌, ◌==◌, ℕ, zero, suc, ◌+◌, ◌-◌, ◌*◌, ◌<◌, ◌&&◌, ◌||◌, Bool, true, false, List, [], ◌∷◌, Some, if◌then◌else◌, refl, sym, ◌∙◌, subst, arith, eqb-true}
use Rattle.omi_script.specs.Bodies.{body_of}
use Rattle.omi_script.specs.declared.program.Program.{Program}
use Rattle.omi_script.specs.declared.statement.Stmt.{Stmt}
use Rattle.omi_script.specs.declared.statement.Stmt.TheVariants as stmt
use Rattle.omi_model.specs.declared.encounter.Encounter.{Encounter}
use Rattle.omi_model.specs.declared.event.Event.{Event}
use Rattle.omi_model.specs.declared.event.Event.TheVariants as event
use Rattle.omi_model.specs.declared.item.Item.{Item}
use Rattle.omi_model.specs.declared.item.Item.TheVariants as item
pub use Rattle.omi_model.specs.LawBarriersLeft.{stmt_barriers, body_barriers, item_barriers, left}
use Rattle.omi_model.specs.Lists.{fits, may_drop, stays, take_item}
use Rattle.omi_model.specs.Rows.{barrier_items, behind, body_items, call_items, end_of_group, end_of_member, first_of, function_items, last_of_member, main_items, member_items, task_items, shown, working}
use Rattle.omi_model.proofs.ListLaws.{take_keeps}
use Rattle.omi_model.proofs.Slots.{false_true}

-- outside a barrier, waiting in one, or past its release
pub data Phase : Type 0 where
  Outside : Phase
  Waiting : Phase
  Released : Phase
  Wrong : Phase

abbrev pub is_outside : Phase → Bool
is_outside Outside = true
is_outside _ = false

-- where member n is behind an item
abbrev pub next : ℕ → Item → Phase → Phase
next n item.Arrive Outside = Waiting
next n item.Arrive Waiting = Wrong
next n item.Arrive Released = Wrong
next n item.Arrive Wrong = Wrong
next n item.Release Outside = Wrong
next n item.Release Waiting = if n == 0 then Released else Wrong
next n item.Release Released = Wrong
next n item.Release Wrong = Wrong
next n item.Pass Outside = Wrong
next n item.Pass Waiting = if n == 0 then Wrong else Outside
next n item.Pass Released = Outside
next n item.Pass Wrong = Wrong
next n (item.Do s) Outside = Outside
next n (item.Do s) Waiting = Wrong
next n (item.Do s) Released = Wrong
next n x ph = ph

-- a list in which each arrival is followed by its release and its pass
abbrev pub order : ℕ → Phase → List Item → Bool
order n ph [] = is_outside ph
order n ph (x ∷ xs) = order n (next n x ph) xs

-- a statement that some members alone make, that makes a task or that begins a group meets no barrier
abbrev pub fair_stmt : (ℕ → ℕ) → Stmt → Bool
fair_stmt b (stmt.Only m f) = b f == 0
fair_stmt b (stmt.Critical k f) = b f == 0
fair_stmt b (stmt.Taskgroup f) = b f == 0
fair_stmt b (stmt.Task f undeferred final) = b f == 0
fair_stmt b _ = true

abbrev pub fair_body : (ℕ → ℕ) → List Stmt → Bool
fair_body b [] = true
fair_body b (s ∷ ss) = fair_stmt b s && fair_body b ss

abbrev pub fair_item : (ℕ → ℕ) → Item → Bool
fair_item b (item.Do s) = fair_stmt b s
fair_item b (item.Defer seen f final) = b f == 0
fair_item b (item.StartNow f final) = b f == 0
fair_item b _ = true

abbrev pub fair : (ℕ → ℕ) → List Item → Bool
fair b [] = true
fair b (x ∷ xs) = fair_item b x && fair b xs

-- b gives the barriers of each function
pub record IsCounted (p : Program) (b : ℕ → ℕ) : Type 0 where
  pub bodies : (f : ℕ) → body_barriers b (body_of p.funcs f) ≡ b f
  pub fair : (f : ℕ) → fair_body b (body_of p.funcs f) ≡ true

-- a list of member n that is in this phase, and has so many barriers ahead
pub record IsReady (b : ℕ → ℕ) (n : ℕ) (ph : Phase) (w : ℕ) (xs : List Item) : Type 0 where
  pub in_order : order n ph xs ≡ true
  pub barriers : left b xs ≡ w
  pub is_fair : fair b xs ≡ true

pub and_left : (x y : Bool) → (x && y) ≡ true → x ≡ true
and_left true y e = refl
and_left false y e = e

pub and_right : (x y : Bool) → (x && y) ≡ true → y ≡ true
and_right true y e = e
and_right false y e = absurd (false_true e)

pub both : (x y : Bool) → x ≡ true → y ≡ true → (x && y) ≡ true
both true y e f = f
both false y e f = e

pub wrong : (n : ℕ) (xs : List Item) → order n Wrong xs ≡ true → ⊥
wrong n [] e = false_true e
wrong n (item.Arrive ∷ xs) e = wrong n xs e
wrong n (item.Release ∷ xs) e = wrong n xs e
wrong n (item.Pass ∷ xs) e = wrong n xs e
wrong n (x ∷ xs) e = wrong n xs e

body_order : (n : ℕ) (ss : List Stmt) (rest : List Item)
    → order n Outside (body_items ss rest) ≡ order n Outside rest
body_order n [] rest = refl
body_order n (s ∷ ss) rest = body_order n ss rest

pub body_left : (b : ℕ → ℕ) (ss : List Stmt) (rest : List Item)
    → left b (body_items ss rest) ≡ body_barriers b ss + left b rest
body_left b [] rest = omega arith
body_left b (s ∷ ss) rest = omega (arith, body_left b ss rest)

body_fair : (b : ℕ → ℕ) (ss : List Stmt) (rest : List Item) → fair_body b ss ≡ true → fair b rest ≡ true
    → fair b (body_items ss rest) ≡ true
body_fair b [] rest e f = f
body_fair b (s ∷ ss) rest e f =
    both (fair_stmt b s) (fair b (body_items ss rest)) (and_left (fair_stmt b s) (fair_body b ss) e)
    (body_fair b ss rest (and_right (fair_stmt b s) (fair_body b ss) e) f)

-- a function in front of a list
pub function_ready : (p : Program) (b : ℕ → ℕ) → IsCounted p b → (n f w : ℕ) (rest : List Item)
    → IsReady b n Outside w rest → IsReady b n Outside (b f + w) (function_items p f rest)
function_ready p b ok n f w rest r = record {
  in_order = body_order n (body_of p.funcs f) rest ∙ r.in_order;
  barriers = omega (arith, body_left b (body_of p.funcs f) rest, ok.bodies f, r.barriers);
  is_fair = body_fair b (body_of p.funcs f) rest (ok.fair f) r.is_fair;
}

-- an item that says nothing of barriers
abbrev pub is_quiet : Item → Bool
is_quiet item.Arrive = false
is_quiet item.Release = false
is_quiet item.Pass = false
is_quiet (item.Do s) = false
is_quiet (item.Defer seen f final) = false
is_quiet (item.StartNow f final) = false
is_quiet x = true

pub quiet_off : (b : ℕ → ℕ) (n : ℕ) (ph : Phase) (w : ℕ) (x : Item) (xs : List Item) → is_quiet x ≡ true
    → IsReady b n ph w (x ∷ xs) → IsReady b n ph w xs
quiet_off b n ph w item.Arrive xs q r = absurd (false_true q)
quiet_off b n ph w item.Release xs q r = absurd (false_true q)
quiet_off b n ph w item.Pass xs q r = absurd (false_true q)
quiet_off b n ph w (item.Do s) xs q r = absurd (false_true q)
quiet_off b n ph w (item.Defer seen f final) xs q r = absurd (false_true q)
quiet_off b n ph w (item.StartNow f final) xs q r = absurd (false_true q)
quiet_off b n ph w x xs q r = record { in_order = r.in_order; barriers = omega (arith, r.barriers); is_fair = r.is_fair }

pub quiet_on : (b : ℕ → ℕ) (n : ℕ) (ph : Phase) (w : ℕ) (x : Item) (xs : List Item) → is_quiet x ≡ true
    → IsReady b n ph w xs → IsReady b n ph w (x ∷ xs)
quiet_on b n ph w item.Arrive xs q r = absurd (false_true q)
quiet_on b n ph w item.Release xs q r = absurd (false_true q)
quiet_on b n ph w item.Pass xs q r = absurd (false_true q)
quiet_on b n ph w (item.Do s) xs q r = absurd (false_true q)
quiet_on b n ph w (item.Defer seen f final) xs q r = absurd (false_true q)
quiet_on b n ph w (item.StartNow f final) xs q r = absurd (false_true q)
quiet_on b n ph w x xs q r = record { in_order = r.in_order; barriers = omega (arith, r.barriers); is_fair = r.is_fair }

-- a state item may stand in front
pub shown_ready : (b : ℕ → ℕ) (at : Encounter) (n : ℕ) (ph : Phase) (w state wait : ℕ) (xs : List Item)
    → IsReady b n ph w xs → IsReady b n ph w (shown at state wait xs)
shown_ready b at n ph w state wait xs r = go at.debug
  where
    go : (d : Bool) → IsReady b n ph w (if d then item.State state wait ∷ xs else xs)
    go true = quiet_on b n ph w (item.State state wait) xs refl r
    go false = r

-- a statement stands outside barriers alone
do_outside : (n : ℕ) (ph : Phase) (s : Stmt) (rest : List Item) → order n ph (item.Do s ∷ rest) ≡ true
    → ph ≡ Outside
do_outside n Outside s rest e = refl
do_outside n Waiting s rest e = absurd (wrong n rest e)
do_outside n Released s rest e = absurd (wrong n rest e)
do_outside n Wrong s rest e = absurd (wrong n rest e)

-- the row of a statement in place of the statement
module _ (p : Program) (b : ℕ → ℕ) (ok : IsCounted p b) where
  pub barrier_ready : (at : Encounter) (n w state : ℕ) (rest : List Item) → at.number ≡ n
      → IsReady b n Outside w rest → IsReady b n Outside (1 + w) (barrier_items at state rest)
  barrier_ready at n w state rest same r =
      shown_ready b at n Outside (1 + w) state 0 _
      (subst (λ m. IsReady b n Outside (1 + w) (item.Arrive ∷ item.Tasks state ∷ (if m == 0 then item.Release ∷ item.Pass ∷ rest else item.Pass ∷ rest))) (sym same) (go (n == 0) refl))
    where
      go : (test : Bool) → n == 0 ≡ test
          → IsReady b n Outside (1 + w) (item.Arrive ∷ item.Tasks state ∷ (if test then item.Release ∷ item.Pass ∷ rest else item.Pass ∷ rest))
      go true e = record { in_order = subst (λ t. order n (if t then Released else Wrong) (item.Pass ∷ rest) ≡ true) (sym e) r.in_order; barriers = omega (arith, r.barriers); is_fair = r.is_fair }
      go false e = record { in_order = subst (λ t. order n (if t then Wrong else Outside) rest ≡ true) (sym e) r.in_order; barriers = omega (arith, r.barriers); is_fair = r.is_fair }

  call_row : (n f w : ℕ) (rest : List Item) → IsReady b n Outside w rest
      → IsReady b n Outside (b f + w) (item.Call f ∷ call_items p f rest)
  call_row n f w rest r =
      quiet_on b n Outside (b f + w) (item.Call f) (call_items p f rest) refl
      (function_ready p b ok n f w (item.Ret ∷ rest) (quiet_on b n Outside w item.Ret rest refl r))

  quiet_call : (n f w : ℕ) (rest : List Item) → b f == 0 ≡ true → IsReady b n Outside w rest
      → IsReady b n Outside w (item.Call f ∷ call_items p f rest)
  quiet_call n f w rest none r =
      let zero_barriers = eqb-true (b f) 0 none in subst (λ k. IsReady b n Outside k (item.Call f ∷ call_items p f rest)) (omega arith) (call_row n f w rest r)

  none_more : {n w : ℕ} (xs : List Item) → IsReady b n Outside w xs → IsReady b n Outside (0 + w) xs
  none_more xs r = record { in_order = r.in_order; barriers = omega (arith, r.barriers); is_fair = r.is_fair }

  module _ (at : Encounter) where
    -- items that say nothing, one by one
    on : {w : ℕ} (x : Item) (xs : List Item) → is_quiet x ≡ true → IsReady b at.number Outside w xs
        → IsReady b at.number Outside w (x ∷ xs)
    on {w} x xs q r = quiet_on b at.number Outside w x xs q r

    working_on : {w : ℕ} (xs : List Item) → IsReady b at.number Outside w xs
        → IsReady b at.number Outside w (working at xs)
    working_on {w} xs r = shown_ready b at at.number Outside w _ 0 xs r

    row_ready : (w : ℕ) (s : Stmt) (rest : List Item) → fair_stmt b s ≡ true
        → IsReady b at.number Outside w rest
        → IsReady b at.number Outside (stmt_barriers b s + w) (first_of at s ∷ behind p at s rest)
    row_ready w (stmt.Parallel f num) rest is r =
        none_more _
        (on item.Enter _ refl (shown_ready b at at.number Outside w _ 0 _ (on (item.Want num) _ refl (on item.Asks _ refl (on (item.Fork f) _ refl (working_on _ (on item.Leave rest refl r)))))))
    row_ready w (stmt.Task f undeferred final) rest is r = go (undeferred || at.is_final)
      where
        go : (c : Bool)
            → IsReady b at.number Outside (0 + w) (item.Enter ∷ (if c then item.StartNow f (final || at.is_final) else item.Defer 0 f (final || at.is_final)) ∷ item.Leave ∷ rest)
        go true = record { in_order = r.in_order; barriers = omega (arith, r.barriers); is_fair = both (b f == 0) (fair b rest) is r.is_fair }
        go false = record { in_order = r.in_order; barriers = omega (arith, r.barriers); is_fair = both (b f == 0) (fair b rest) is r.is_fair }
    row_ready w stmt.Taskwait rest is r =
        none_more _
        (on item.Enter _ refl (shown_ready b at at.number Outside w _ 0 _ (on (item.Tasks _) _ refl (on item.WaitDone _ refl (working_on _ (on item.Leave rest refl r))))))
    row_ready w stmt.Taskyield rest is r =
        none_more _
        (on item.Enter _ refl (on item.OneTask _ refl (on item.Yield _ refl (on item.Leave rest refl r))))
    row_ready w stmt.Barrier rest is r =
        on item.Enter _ refl
        (barrier_ready at at.number w _ _ refl (working_on _ (on item.Leave rest refl r)))
    row_ready w (stmt.Critical k f) rest is r =
        none_more _
        (on item.Enter _ refl (shown_ready b at at.number Outside w _ (k + 1) _ (on (item.Lock k) _ refl (working_on _ (on item.Leave _ refl (quiet_call at.number f w (item.Unlock k ∷ rest) is (on (item.Unlock k) rest refl r)))))))
    row_ready w (stmt.Taskgroup f) rest is r =
        none_more _
        (on item.GroupBegin _ refl (quiet_call at.number f w (end_of_group at rest) is
        (on item.Enter _ refl (shown_ready b at at.number Outside w _ 0 _ (on (item.Tasks _) _ refl (on item.GroupEnd _ refl (working_on _ (on item.Leave rest refl r))))))))
    row_ready w (stmt.Call f) rest is r = call_row at.number f w rest r
    row_ready w (stmt.Only m f) rest is r = go (at.number == m)
      where
        go : (c : Bool)
            → IsReady b at.number Outside (0 + w) ((if c then item.Call f else item.Skip) ∷ (if c then call_items p f rest else rest))
        go true = none_more _ (quiet_call at.number f w rest is r)
        go false = none_more _ (quiet_on b at.number Outside w item.Skip rest refl r)
    row_ready w (stmt.Repeat zero f) rest is r =
        subst (λ k. IsReady b at.number Outside k (item.Skip ∷ rest)) (grind arith) (on item.Skip rest refl r)
    row_ready w (stmt.Repeat (suc n) f) rest is r =
        let again : IsReady b at.number Outside (n * b f + w) (item.Do (stmt.Repeat n f) ∷ rest) = record { in_order = r.in_order; barriers = omega (arith, r.barriers); is_fair = r.is_fair } in
        subst
        (λ k. IsReady b at.number Outside k (item.Call f ∷ call_items p f (item.Do (stmt.Repeat n f) ∷ rest)))
        (grind arith) (call_row at.number f (n * b f + w) (item.Do (stmt.Repeat n f) ∷ rest) again)
    row_ready w s rest is r = none_more _ (on (first_of at s) rest refl r)

    -- a list is as ready when its first item is opened
    open_do : (ph : Phase) (w : ℕ) (s : Stmt) (xs : List Item) → IsReady b at.number ph w (item.Do s ∷ xs)
        → IsReady b at.number ph w (first_of at s ∷ behind p at s xs)
    open_do ph w s xs r =
        let is = do_outside at.number ph s xs r.in_order in
        let here : IsReady b at.number Outside (left b xs) xs = record { in_order = subst (λ (q : Phase). order at.number q (item.Do s ∷ xs) ≡ true) is r.in_order; barriers = refl; is_fair = and_right (fair_stmt b s) (fair b xs) r.is_fair } in
        subst (λ (q : Phase). IsReady b at.number q w (first_of at s ∷ behind p at s xs)) (sym is)
        (subst (λ k. IsReady b at.number Outside k (first_of at s ∷ behind p at s xs)) r.barriers (row_ready (left b xs) s xs (and_left (fair_stmt b s) (fair b xs) r.is_fair) here))

    drop_quiet : (x : Item) → may_drop x ≡ true → is_quiet x ≡ true
    drop_quiet item.Asks e = refl
    drop_quiet (item.Tasks state) e = refl
    drop_quiet item.OneTask e = refl
    drop_quiet (item.Frees n) e = refl
    drop_quiet x e = absurd (false_true e)

    -- what an event takes off a ready list is as ready
    pub take_ready : (e : Event) (ph : Phase) (w : ℕ) (xs : List Item) (y : Item) (ys : List Item)
        → take_item p at e xs ≡ Some (y, ys) → IsReady b at.number ph w xs → IsReady b at.number ph w (y ∷ ys)
    take_ready e ph w =
        take_keeps p at (IsReady b at.number ph w)
        (λ x xs may. quiet_off b at.number ph w x xs (drop_quiet x may)) (open_do ph w) e

  -- ---- first lists

  -- the list of an explicit task is ready for each number
  pub any_number : (n m : ℕ) (xs : List Item) → IsReady b n Outside 0 xs → IsReady b m Outside 0 xs
  any_number n m [] r = record { in_order = r.in_order; barriers = r.barriers; is_fair = r.is_fair }
  any_number n m (item.Arrive ∷ xs) r = let e = r.barriers in absurd (omega arith)
  any_number n m (item.Release ∷ xs) r = absurd (wrong n xs r.in_order)
  any_number n m (item.Pass ∷ xs) r = absurd (wrong n xs r.in_order)
  any_number n m (x ∷ xs) r =
      let rest =
      any_number n m xs
      (record { in_order = r.in_order; barriers = omega (arith, r.barriers); is_fair = and_right (fair_item b x) (fair b xs) r.is_fair }) in
      record { in_order = rest.in_order; barriers = r.barriers; is_fair = r.is_fair }

  pub task_ready : (n f : ℕ) → b f == 0 ≡ true → IsReady b n Outside 0 (task_items p f)
  task_ready n f none =
      let zero_barriers = eqb-true (b f) 0 none in
      subst (λ w. IsReady b n Outside w (task_items p f)) (omega arith)
      (function_ready p b ok n f 0 (item.Finish ∷ []) (record { in_order = refl; barriers = omega arith; is_fair = refl }))

  last_ready : (n m : ℕ) → IsReady b n Outside 0 (last_of_member m ∷ [])
  last_ready n m = go (m == 0)
    where
      go : (test : Bool) → IsReady b n Outside 0 ((if test then item.Join else item.ImplicitEnd) ∷ [])
      go true = record { in_order = refl; barriers = omega arith; is_fair = refl }
      go false = record { in_order = refl; barriers = omega arith; is_fair = refl }

  pub member_ready : (at : Encounter) (f : ℕ) → IsReady b at.number Outside (b f + 1) (member_items p at f)
  member_ready at f =
      working_on at _
      (function_ready p b ok at.number f 1 _ (subst (λ w. IsReady b at.number Outside w (end_of_member at (last_of_member at.number ∷ []))) (omega arith) (barrier_ready at at.number 0 _ _ refl (last_ready at.number at.number))))

  pub main_ready : (at : Encounter) (f : ℕ)
      → IsReady b at.number Outside (b f + 1) (main_items at (body_of p.funcs f))
  main_ready at f =
      function_ready p b ok at.number f 1 _
      (subst (λ w. IsReady b at.number Outside w (end_of_member at (item.Done ∷ []))) (omega arith) (barrier_ready at at.number 0 _ _ refl (record { in_order = refl; barriers = omega arith; is_fair = refl })))

-- ---- the three events

-- an arrival: the member was outside, and waits
pub arrive_ready : (b : ℕ → ℕ) (n : ℕ) (ph : Phase) (w : ℕ) (ys : List Item)
    → IsReady b n ph w (item.Arrive ∷ ys) → (ph ≡ Outside) × (0 < w) × IsReady b n Waiting (w - 1) ys
arrive_ready b n Outside w ys r =
    let e = r.barriers in (refl, omega arith, record { in_order = r.in_order; barriers = omega arith; is_fair = r.is_fair })
arrive_ready b n Waiting w ys r = absurd (wrong n ys r.in_order)
arrive_ready b n Released w ys r = absurd (wrong n ys r.in_order)
arrive_ready b n Wrong w ys r = absurd (wrong n ys r.in_order)

-- a release: member 0 waited
pub release_ready : (b : ℕ → ℕ) (n : ℕ) (ph : Phase) (w : ℕ) (ys : List Item) → n ≡ 0
    → IsReady b n ph w (item.Release ∷ ys) → (ph ≡ Waiting) × IsReady b n Released w ys
release_ready b n Outside w ys first r = absurd (wrong n ys r.in_order)
release_ready b n Waiting w ys first r =
    (refl, record { in_order = subst (λ m. order n (if m == 0 then Released else Wrong) ys ≡ true) first r.in_order; barriers = omega (arith, r.barriers); is_fair = r.is_fair })
release_ready b n Released w ys first r = absurd (wrong n ys r.in_order)
release_ready b n Wrong w ys first r = absurd (wrong n ys r.in_order)

-- a pass: member 0 was past its release, and another member waited or was past it
pub pass_ready : (b : ℕ → ℕ) (n : ℕ) (ph : Phase) (w : ℕ) (ys : List Item) → IsReady b n ph w (item.Pass ∷ ys)
    → (ph ≡ Outside → ⊥) × IsReady b n Outside w ys
pass_ready b n Outside w ys r = absurd (wrong n ys r.in_order)
pass_ready b n Waiting w ys r = go (n == 0) r.in_order
  where
    go : (t : Bool) → order n (if t then Wrong else Outside) ys ≡ true
        → (Waiting ≡ Outside → ⊥) × IsReady b n Outside w ys
    go true e = absurd (wrong n ys e)
    go false e =
        ((λ h. cc), record { in_order = e; barriers = omega (arith, r.barriers); is_fair = r.is_fair })
pass_ready b n Released w ys r =
    ((λ h. cc), record { in_order = r.in_order; barriers = omega (arith, r.barriers); is_fair = r.is_fair })
pass_ready b n Wrong w ys r = absurd (wrong n ys r.in_order)

-- ---- all other events

abbrev pub is_barrier_event : Event → Bool
is_barrier_event event.Arrive = true
is_barrier_event event.Release = true
is_barrier_event event.Pass = true
is_barrier_event e = false

pub no_do : (e : Event) (s : Stmt) → fits e (item.Do s) ≡ true → ⊥
no_do event.Begin s f = false_true f
no_do e s f = false_true f

arrive_only : (e : Event) → fits e item.Arrive ≡ true → is_barrier_event e ≡ false → ⊥
arrive_only event.Arrive f other = false_true (sym other)
arrive_only e f other = false_true f

release_only : (e : Event) → fits e item.Release ≡ true → is_barrier_event e ≡ false → ⊥
release_only event.Release f other = false_true (sym other)
release_only e f other = false_true f

pass_only : (e : Event) → fits e item.Pass ≡ true → is_barrier_event e ≡ false → ⊥
pass_only event.Pass f other = false_true (sym other)
pass_only e f other = false_true f

-- what stands in the place of an item of another event is as ready
pub stays_ready : (b : ℕ → ℕ) (at : Encounter) (n : ℕ) (ph : Phase) (w : ℕ) (e : Event) (y : Item) (ys : List Item)
    → fits e y ≡ true → is_barrier_event e ≡ false → IsReady b n ph w (y ∷ ys)
    → IsReady b n ph w (stays at e y ys)
stays_ready b at n ph w e item.Arrive ys f other r = absurd (arrive_only e f other)
stays_ready b at n ph w e item.Release ys f other r = absurd (release_only e f other)
stays_ready b at n ph w e item.Pass ys f other r = absurd (pass_only e f other)
stays_ready b at n ph w e (item.Do s) ys f other r = absurd (no_do e s f)
stays_ready b at n ph w e item.Asks ys f other r = r
stays_ready b at n ph w e item.Serve ys f other r =
    shown_ready b at n ph w _ 0 _ (quiet_on b n ph w item.Offer (item.Serve ∷ ys) refl r)
stays_ready b at n ph w e (item.Tasks state) ys f other r = shown_ready b at n ph w state 0 _ r
stays_ready b at n ph w (event.Seen j) (item.Defer seen g final) ys f other r = record { in_order = r.in_order; barriers = omega (arith, r.barriers); is_fair = r.is_fair }
stays_ready b at n ph w e (item.Defer seen g final) ys f other r = record { in_order = r.in_order; barriers = omega (arith, r.barriers); is_fair = and_right (b g == 0) (fair b ys) r.is_fair }
stays_ready b at n ph w e (item.StartNow g final) ys f other r = record { in_order = r.in_order; barriers = omega (arith, r.barriers); is_fair = and_right (b g == 0) (fair b ys) r.is_fair }
stays_ready b at n ph w e y ys f other r = quiet_off b n ph w y ys refl r
