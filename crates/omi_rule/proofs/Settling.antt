-- What is ahead of a task stays ahead of it in the moves between statements.
use Rattle.std.proofs.Common.{◌≡◌, ◌+◌, ◌==◌, ℕ, zero, suc, inl, inr, Bool, true, false, List, [], ◌∷◌, length, drop, slice_get, Option, Some, None, refl, sym, ap, ◌∙◌, subst, arith, if◌then◌else◌}
use Rattle.std.proofs.Common.{add-one}
use Rattle.omi_script.specs.declared.program.Program.{Program}
use Rattle.omi_script.specs.declared.statement.Stmt.{Stmt}
use Rattle.omi_script.specs.declared.statement.Stmt.TheVariants as stmt
use Rattle.omi_model.specs.declared.encounter.Encounter.{Encounter}
use Rattle.omi_model.specs.declared.item.Item.{Item}
use Rattle.omi_model.specs.declared.item.Item.TheVariants as item
use Rattle.omi_model.specs.Rows.{body_items}
use Rattle.omi_numbers.specs.declared.states.TheConstants.{WAIT_BARRIER_IMPLICIT_PARALLEL}
use Rattle.omi_model.specs.Rows as Rows
use Rattle.omi_pc.specs.declared.actor.Actor.{Actor}
use Rattle.omi_pc.specs.declared.counter.PlainCounter.TheVariants as plain
use Rattle.omi_pc.specs.declared.frame.Frame.{Frame}
use Rattle.omi_pc.specs.declared.frame.Opened.{Opened}
use Rattle.omi_pc.specs.declared.frame.Opened.TheVariants as opened
use Rattle.omi_pc.specs.Frames.{advanced, body_in, next_statement, statement_of}
use Rattle.omi_pc.specs.Moves.{returned, returned_by, returned_in, worked, worked_at, worked_in, back_to_work}
use Rattle.omi_pc.specs.OpenBodies.{IsCalled, StandsOn}
use Rattle.omi_pc.specs.Settle.{statement_begun, calling, ended, ending_member, goes_to, settled, settled_by, settled_in, skipping}
use Rattle.omi_pc.proofs.NamedBelow.{stands_before}
use Rattle.omi_rule.specs.Ahead as Ahead
use Rattle.omi_rule.specs.Ahead.{IsAhead, ahead, behind_body, by_statement, in_work}

-- the next statement of a body, and the end of one
next_from : (body : List Stmt) (n : ℕ) (s : Stmt) (rest : List Item) → slice_get body n ≡ Some s
    → body_items (drop n body) rest ≡ item.Do s ∷ body_items (drop (suc n) body) rest
next_from [] n s rest e = absurd (cc)
next_from (x ∷ xs) zero s rest e =
    let same : x ≡ s = cc e in ap (λ (y : Stmt). item.Do y ∷ body_items xs rest) same
next_from (x ∷ xs) (suc n) s rest e = next_from xs n s rest e

pub next_item : (body : List Stmt) (n : ℕ) (s : Stmt) (rest : List Item) → slice_get body n ≡ Some s
    → body_items (drop n body) rest ≡ item.Do s ∷ body_items (drop (n + 1) body) rest
next_item body n s rest e =
    subst (λ k. body_items (drop n body) rest ≡ item.Do s ∷ body_items (drop k body) rest) (sym (add-one n))
    (next_from body n s rest e)

pub last_item : (body : List Stmt) (n : ℕ) (rest : List Item) → slice_get body n ≡ None
    → body_items (drop n body) rest ≡ rest
last_item [] zero rest e = refl
last_item [] (suc n) rest e = refl
last_item (x ∷ xs) zero rest e = absurd (cc e)
last_item (x ∷ xs) (suc n) rest e = last_item xs n rest e

-- behind the last statement there is none
pub none_behind : (body : List Stmt) (n : ℕ) → n ≡ length body → slice_get body n ≡ None
none_behind [] zero e = refl
none_behind [] (suc n) e = refl
none_behind (x ∷ xs) zero e = absurd (cc e)
none_behind (x ∷ xs) (suc n) e = none_behind xs n (let same : n ≡ length xs = omega (arith, e) in same)

-- by the statement in work
pub in_work_is : (p : Program) (fs : List Frame) (s : Stmt) (row : Stmt → List Item)
    → statement_of p fs ≡ Some s → in_work p fs row ≡ row s
in_work_is p fs s row is = ap (λ o. by_statement o row) is

module _ (p : Program) (at : Encounter) (debug : at.debug ≡ p.env.debug) where
  -- ---- a statement begins

  begun_ahead : (b : Actor) (s : Stmt) → statement_of p b.stack ≡ Some s
      → IsAhead p at (statement_begun s b).stack (statement_begun s b).counter (item.Do s ∷ ahead p at b.stack)
  begun_ahead b (stmt.Only m f) is = go (b.context.number == m) refl
    where
      go : (x : Bool) → b.context.number == m ≡ x
          → IsAhead p at (statement_begun (stmt.Only m f) b).stack (statement_begun (stmt.Only m f) b).counter (item.Do (stmt.Only m f) ∷ ahead p at b.stack)
      go true e =
          subst (λ (c : Actor). IsAhead p at c.stack c.counter (item.Do (stmt.Only m f) ∷ ahead p at b.stack))
          (ap (λ (x : Bool). if x then calling f opened.Call b else skipping b) (sym e))
          (sym (in_work_is p b.stack _ _ is))
      go false e =
          subst (λ (c : Actor). IsAhead p at c.stack c.counter (item.Do (stmt.Only m f) ∷ ahead p at b.stack))
          (ap (λ (x : Bool). if x then calling f opened.Call b else skipping b) (sym e))
          (sym (in_work_is p b.stack _ _ is))
  begun_ahead b (stmt.Repeat (suc n) f) is = refl
  begun_ahead b s is = sym (in_work_is p b.stack _ _ is)

  -- ---- a body ends

  -- the barrier at the end of a member, with its state where states are kept
  member_ends : (a : Actor) (f : Frame) (fs : List Frame) (last : List Item) → a.stack ≡ f ∷ fs
      → Ahead.last_of a.stack ≡ last
      → IsAhead p at (ending_member p.env.debug a).stack (ending_member p.env.debug a).counter
      (Rows.end_of_member at last)
  member_ends a f fs last stack is = go p.env.debug debug
    where
      waits : List Item → List Item
      waits l =
          item.Tasks WAIT_BARRIER_IMPLICIT_PARALLEL ∷ (if at.number == 0 then item.Release ∷ item.Pass ∷ l else item.Pass ∷ l)

      go : (d : Bool) → at.debug ≡ d
          → IsAhead p at (ending_member d a).stack (ending_member d a).counter (Rows.end_of_member at last)
      go true e =
          ap
          (λ (b : Bool). if b then item.State WAIT_BARRIER_IMPLICIT_PARALLEL 0 ∷ item.Arrive ∷ waits last else item.Arrive ∷ waits last) e
          ∙ ap (λ l. item.State WAIT_BARRIER_IMPLICIT_PARALLEL 0 ∷ item.Arrive ∷ waits l) (sym is)
      go false e =
          ap
          (λ (b : Bool). if b then item.State WAIT_BARRIER_IMPLICIT_PARALLEL 0 ∷ item.Arrive ∷ waits last else item.Arrive ∷ waits last) e
          ∙ ap (λ l. item.Arrive ∷ waits l) (sym is)

  ended_ahead : (a : Actor) (f : Frame) (fs : List Frame) → a.stack ≡ f ∷ fs
      → ahead p at a.stack ≡ behind_body at f.opened f.function (ahead p at fs)
      → IsAhead p at (ended p.env.debug f.opened a).stack (ended p.env.debug f.opened a).counter
      (behind_body at f.opened f.function (ahead p at fs))
  ended_ahead a f fs stack is = go f.opened refl
    where
      last_is : (o : Opened) → f.opened ≡ o → Ahead.last_of a.stack ≡ Ahead.last_by o
      last_is o e = ap (λ (x : List Frame). Ahead.last_of x) stack ∙ ap Ahead.last_by e

      back : (o : Opened) → f.opened ≡ o → behind_body at o f.function (ahead p at fs) ≡ ahead p at a.stack
      back o e = ap (λ x. behind_body at x f.function (ahead p at fs)) (sym e) ∙ sym is

      go : (o : Opened) → f.opened ≡ o
          → IsAhead p at (ended p.env.debug o a).stack (ended p.env.debug o a).counter (behind_body at o f.function (ahead p at fs))
      go opened.Main e = member_ends a f fs _ stack (last_is opened.Main e)
      go opened.Worker e = member_ends a f fs _ stack (last_is opened.Worker e)
      go (opened.Master saved) e = member_ends a f fs _ stack (last_is (opened.Master saved) e)
      go (opened.Task w saved) e = back (opened.Task w saved) e
      go opened.Call e = back opened.Call e
      go (opened.Repeat left) e = back (opened.Repeat left) e
      go (opened.Critical k) e = back (opened.Critical k) e
      go opened.Taskgroup e = back opened.Taskgroup e

  -- ---- the move between statements

  pub settled_ahead : (a : Actor) (f : Frame) (fs : List Frame) → a.stack ≡ f ∷ fs
      → IsAhead p at (settled p a).stack (settled p a).counter (ahead p at a.stack)
  settled_ahead a f fs stack =
      subst
      (λ (x : List Frame). IsAhead p at (settled_in p a x).stack (settled_in p a x).counter (ahead p at a.stack))
      (sym stack)
      (subst (λ (x : List Frame). IsAhead p at (settled_in p a (f ∷ fs)).stack (settled_in p a (f ∷ fs)).counter (ahead p at x)) (sym stack) (go (next_statement p f) refl))
    where
      go : (o : Option Stmt) → next_statement p f ≡ o
          → IsAhead p at (settled_by p a f fs o).stack (settled_by p a f fs o).counter (ahead p at (f ∷ fs))
      go (Some s) e =
          subst
          (IsAhead p at (statement_begun s (record a { stack = advanced f ∷ fs })).stack (statement_begun s (record a { stack = advanced f ∷ fs })).counter)
          (sym (next_item (body_in p f) f.next s (behind_body at f.opened f.function (ahead p at fs)) e))
          (begun_ahead (record a { stack = advanced f ∷ fs }) s (stands_before (body_in p f) f.next s e))
      go None e =
          let is : ahead p at (f ∷ fs) ≡ behind_body at f.opened f.function (ahead p at fs) =
          last_item (body_in p f) f.next _ e in
          subst (IsAhead p at (ended p.env.debug f.opened a).stack (ended p.env.debug f.opened a).counter)
          (sym is)
          (ended_ahead a f fs stack (ap (ahead p at) stack ∙ is))

  -- ---- back to work

  pub worked_ahead : (a : Actor) (f : Frame) (fs : List Frame) → a.stack ≡ f ∷ fs
      → IsAhead p at (worked p a).stack (worked p a).counter (Ahead.worked p at a.stack)
  worked_ahead a f fs stack =
      subst
      (λ (x : List Frame). IsAhead p at (worked_in p x a).stack (worked_in p x a).counter (Ahead.worked p at x))
      (sym stack) (go f.next)
    where
      go : (n : ℕ)
          → IsAhead p at (worked_at p n a).stack (worked_at p n a).counter (Ahead.working_at p at n (f ∷ fs))
      go zero =
          subst
          (λ (x : List Frame). IsAhead p at (settled p a).stack (settled p a).counter (ahead p at x)) stack
          (settled_ahead a f fs stack)
      go (suc n) = ap (Ahead.leaving p at) (sym stack)

  pub working_ahead : (a : Actor) (f : Frame) (fs : List Frame) → a.stack ≡ f ∷ fs
      → IsAhead p at (back_to_work p a).stack (back_to_work p a).counter (Rows.working at (Ahead.worked p at a.stack))
  working_ahead a f fs stack = go p.env.debug debug
    where
      go : (d : Bool) → at.debug ≡ d
          → IsAhead p at (if d then goes_to plain.WorkState a else worked p a).stack
          (if d then goes_to plain.WorkState a else worked p a).counter
          (Rows.working at (Ahead.worked p at a.stack))
      go true e =
          ap
          (λ (b : Bool). if b then item.State (Rows.work_state at.level) 0 ∷ Ahead.worked p at a.stack else Ahead.worked p at a.stack) e
      go false e =
          subst (IsAhead p at (worked p a).stack (worked p a).counter)
          (ap (λ (b : Bool). if b then item.State (Rows.work_state at.level) 0 ∷ Ahead.worked p at a.stack else Ahead.worked p at a.stack) (sym e))
          (worked_ahead a f fs stack)

  -- ---- a function returns

  -- behind the return of a function that a statement called
  abbrev pub behind_return : Opened → ℕ → List Frame → List Item
  behind_return (opened.Repeat (suc left)) g fs = item.Do (stmt.Repeat left g) ∷ ahead p at fs
  behind_return (opened.Critical k) g fs = item.Unlock k ∷ ahead p at fs
  behind_return opened.Taskgroup g fs = Rows.end_of_group at (ahead p at fs)
  behind_return o g fs = ahead p at fs

  pub returns : (a : Actor) (f : Frame) (fs : List Frame) → IsCalled f.opened → f.next ≡ length (body_in p f)
      → ahead p at (f ∷ fs) ≡ item.Ret ∷ behind_return f.opened f.function fs
  returns a f fs called end =
      last_item (body_in p f) f.next _ (none_behind (body_in p f) f.next end) ∙ go f.opened called
    where
      go : (o : Opened) → IsCalled o
          → behind_body at o f.function (ahead p at fs) ≡ item.Ret ∷ behind_return o f.function fs
      go opened.Main c = absurd (cc c)
      go opened.Worker c = absurd (cc c)
      go (opened.Master saved) c = absurd (cc c)
      go (opened.Task w saved) c = absurd (cc c)
      go opened.Call c = refl
      go (opened.Repeat zero) c = refl
      go (opened.Repeat (suc left)) c = refl
      go (opened.Critical k) c = refl
      go opened.Taskgroup c = refl

  -- a statement is in work in some body
  nonempty : (fs : List Frame) (s : Stmt) → statement_of p fs ≡ Some s
      → (g : Frame) × (gs : List Frame) × (fs ≡ g ∷ gs)
  nonempty [] s e = absurd (cc e)
  nonempty (g ∷ gs) s e = (g, gs, refl)

  pub returned_ahead : (a : Actor) (f : Frame) (fs : List Frame) → a.stack ≡ f ∷ fs → IsCalled f.opened
      → StandsOn p a.context f.function fs f.opened
      → IsAhead p at (returned p a).stack (returned p a).counter (behind_return f.opened f.function fs)
  returned_ahead a f fs stack called stands =
      subst
      (λ (x : List Frame). IsAhead p at (returned_in p x a).stack (returned_in p x a).counter (behind_return f.opened f.function fs))
      (sym stack) (go f.opened called stands)
    where
      b : Actor
      b = record a { stack = fs }

      under : (s : Stmt) → statement_of p fs ≡ Some s
          → IsAhead p at (settled p b).stack (settled p b).counter (ahead p at fs)
      under s is = let (g, gs, e) = nonempty fs s is in settled_ahead b g gs e

      go : (o : Opened) → IsCalled o → StandsOn p a.context f.function fs o
          → IsAhead p at (returned_by p o f fs a).stack (returned_by p o f fs a).counter
          (behind_return o f.function fs)
      go opened.Main c on = absurd (cc c)
      go opened.Worker c on = absurd (cc c)
      go (opened.Master saved) c on = absurd (cc c)
      go (opened.Task w saved) c on = absurd (cc c)
      go opened.Call c (inl is) = under (stmt.Call f.function) is
      go opened.Call c (inr is) = under (stmt.Only a.context.number f.function) is
      go (opened.Repeat zero) c (n, is, some, few) = absurd (omega (arith, some))
      go (opened.Repeat (suc zero)) c (n, is, some, few) =
          sym (in_work_is p fs (stmt.Repeat n f.function) _ is)
      go (opened.Repeat (suc (suc left))) c (n, is, some, few) = refl
      go (opened.Critical k) c is = sym (in_work_is p fs (stmt.Critical k f.function) _ is)
      go opened.Taskgroup c is = sym (in_work_is p fs (stmt.Taskgroup f.function) _ is)
