-- An actor that is placed in a layout is placed behind a plain step.
use Rattle.std.proofs.Common.{◌≡◌, ◌==◌, ◌||◌, ℕ, zero, suc, Bool, true, false, cond, List, [], ◌∷◌, Option, Some, None, refl, sym, ap, subst, ◌∙◌, ◌+◌}
use Rattle.omi_script.specs.declared.program.Program.{Program}
use Rattle.omi_script.specs.declared.statement.Stmt.{Stmt}
use Rattle.omi_script.specs.declared.statement.Stmt.TheVariants as stmt
use Rattle.omi_pc.specs.declared.actor.Actor.{Actor}
use Rattle.omi_pc.specs.declared.context.Context.{Context}
use Rattle.omi_pc.specs.declared.counter.Counter.{Counter}
use Rattle.omi_pc.specs.declared.counter.Counter.TheVariants as counter
use Rattle.omi_pc.specs.declared.counter.PlainCounter.{PlainCounter}
use Rattle.omi_pc.specs.declared.counter.PlainCounter.TheVariants as plain
use Rattle.omi_pc.specs.declared.frame.Frame.{Frame}
use Rattle.omi_pc.specs.declared.frame.Opened.{Opened}
use Rattle.omi_pc.specs.declared.frame.Opened.TheVariants as opened
use Rattle.omi_pc.specs.Frames.{advanced, at_start, next_statement, statement_of}
use Rattle.omi_pc.specs.Moves.{context_under, next_round, returned_by, returned_in, worked, worked_at, worked_in, back_to_work}
use Rattle.omi_pc.specs.Settle.{statement_begun, calling, ended, ending_member, goes_to, repeating, settled, settled_by, settled_in, skipping}
use Rattle.omi_pc.specs.FitLaws.{grouped}
use Rattle.omi_plain.specs.PlainSteps.{behind_enter, left_behind, plain_moved, task_counter, group_begun}
use Rattle.omi_plain.specs.StepLaws.{PlainStepsStayPlaced}
use Rattle.omi_step_words.specs.Placed.{AreContextsPlaced, IsPlaced, IsPlacedCounter}
use Rattle.omi_step_words.proofs.Grouped.{contexts_grouped}

module _ (p : Program) (w : List ℕ) where
  -- ---- a statement begins

  module _ (a : Actor) (f : Frame) (fs : List Frame) (all : AreContextsPlaced w a.context (f ∷ fs)) where
    abbrev there : Actor
    there = record a { stack = f ∷ fs }

    only_placed : (g : ℕ) (b : Bool) → IsPlaced w (cond b (calling g opened.Call there) (skipping there))
    only_placed g true = record { bodies = (all.0, all); counter = tt }
    only_placed g false = record { bodies = all; counter = tt }

    repeat_placed : (n g : ℕ) → IsPlaced w (repeating n g there)
    repeat_placed zero g = record { bodies = all; counter = tt }
    repeat_placed (suc n) g = record { bodies = (all.0, all); counter = tt }

    begun_placed : (s : Stmt) → IsPlaced w (statement_begun s there)
    begun_placed (stmt.Call g) = record { bodies = (all.0, all); counter = tt }
    begun_placed (stmt.Only m g) = only_placed g (a.context.number == m)
    begun_placed (stmt.Repeat n g) = repeat_placed n g
    begun_placed s = record { bodies = all; counter = tt }

  -- ---- a body ends

  module _ (a : Actor) (all : AreContextsPlaced w a.context a.stack) where
    member_placed : (debug : Bool) → IsPlaced w (ending_member debug a)
    member_placed true = record { bodies = all; counter = tt }
    member_placed false = record { bodies = all; counter = tt }

    ended_placed : (debug : Bool) (o : Opened) → IsPlaced w (ended debug o a)
    ended_placed debug opened.Main = member_placed debug
    ended_placed debug opened.Worker = member_placed debug
    ended_placed debug (opened.Master saved) = member_placed debug
    ended_placed debug (opened.Task at saved) = record { bodies = all; counter = tt }
    ended_placed debug opened.Call = record { bodies = all; counter = tt }
    ended_placed debug (opened.Repeat left) = record { bodies = all; counter = tt }
    ended_placed debug (opened.Critical k) = record { bodies = all; counter = tt }
    ended_placed debug opened.Taskgroup = record { bodies = all; counter = tt }

  settles_by : (a : Actor) (f : Frame) (fs : List Frame) (o : Option Stmt) → a.stack ≡ f ∷ fs
      → AreContextsPlaced w a.context (f ∷ fs)
      → IsPlaced w (settled_by p a f fs o)
  settles_by a f fs (Some s) is all = begun_placed a (advanced f) fs all s
  settles_by a f fs None is all =
      ended_placed a
      (subst (λ (gs : List Frame). AreContextsPlaced w a.context gs) (sym is) all) p.env.debug f.opened

  -- a plain counter names no record
  plainly : (a : Actor) (c : PlainCounter) → a.counter ≡ counter.Plain c
      → AreContextsPlaced w a.context a.stack → IsPlaced w a
  plainly a c is all = record { bodies = all; counter = subst (λ (d : Counter). IsPlacedCounter w a d) (sym is) tt }

  settles_in : (a : Actor) (fs : List Frame) → a.stack ≡ fs → AreContextsPlaced w a.context fs → IsPlaced w a
      → IsPlaced w (settled_in p a fs)
  settles_in a [] is all at = at
  settles_in a (f ∷ fs) is all at = settles_by a f fs (next_statement p f) is all

  pub settled_placed : (a : Actor) → IsPlaced w a → IsPlaced w (settled p a)
  settled_placed a at = settles_in a a.stack refl at.bodies at

  -- ---- a function has returned

  module _ (a : Actor) (c : PlainCounter) (is : a.counter ≡ counter.Plain c) (at : IsPlaced w a) where
    module _ (f : Frame) (fs : List Frame) (all : AreContextsPlaced w a.context (f ∷ fs)) where
      under : (o : Opened) → f.opened ≡ o → context_under a.context o ≡ a.context
          → AreContextsPlaced w a.context fs
      under o how same =
          subst (λ (d : Context). AreContextsPlaced w d fs) (ap (context_under a.context) how ∙ same) all.1

      round_placed : (left : ℕ) → AreContextsPlaced w a.context fs → IsPlaced w (next_round left f fs a)
      round_placed zero rest = record { bodies = rest; counter = tt }
      round_placed (suc zero) rest = record { bodies = rest; counter = tt }
      round_placed (suc (suc left)) rest = record { bodies = (all.0, rest); counter = tt }

      returns_by : (o : Opened) → f.opened ≡ o → IsPlaced w (returned_by p o f fs a)
      returns_by opened.Main how = at
      returns_by opened.Worker how = at
      returns_by (opened.Master saved) how = at
      returns_by (opened.Task wait saved) how = at
      returns_by opened.Call how =
          settled_placed (record a { stack = fs })
          (plainly (record a { stack = fs }) c is (under opened.Call how refl))
      returns_by (opened.Repeat left) how = round_placed left (under (opened.Repeat left) how refl)
      returns_by (opened.Critical k) how = record { bodies = under (opened.Critical k) how refl; counter = tt }
      returns_by opened.Taskgroup how = record { bodies = under opened.Taskgroup how refl; counter = tt }

    returns_in : (fs : List Frame) → AreContextsPlaced w a.context fs → IsPlaced w (returned_in p fs a)
    returns_in [] all = at
    returns_in (f ∷ fs) all = returns_by f fs all f.opened refl

    -- ---- the thread goes on

    works_at : (n : ℕ) → IsPlaced w (worked_at p n a)
    works_at zero = settled_placed a at
    works_at (suc n) = record { bodies = at.bodies; counter = tt }

    works_in : (fs : List Frame) → IsPlaced w (worked_in p fs a)
    works_in [] = at
    works_in (f ∷ fs) = works_at f.next

    works_by : (debug : Bool) → IsPlaced w (cond debug (goes_to plain.WorkState a) (worked p a))
    works_by true = record { bodies = at.bodies; counter = tt }
    works_by false = works_in a.stack

    locks_by : (free : Bool) → IsPlaced w (cond free (back_to_work p a) a)
    locks_by true = works_by p.env.debug
    locks_by false = at

    -- ---- enter and leave

    task_placed : (at_once : Bool) → IsPlaced w (record a { counter = task_counter at_once })
    task_placed true = record { bodies = at.bodies; counter = tt }
    task_placed false = record { bodies = at.bodies; counter = tt }

    enters_by : (debug final : Bool) (o : Option Stmt)
        → IsPlaced w (record a { counter = behind_enter debug final o })
    enters_by true final (Some (stmt.Parallel f num)) = record { bodies = at.bodies; counter = tt }
    enters_by false final (Some (stmt.Parallel f num)) = record { bodies = at.bodies; counter = tt }
    enters_by debug final (Some (stmt.Task f undeferred given)) = task_placed (undeferred || final)
    enters_by true final (Some stmt.Taskwait) = record { bodies = at.bodies; counter = tt }
    enters_by false final (Some stmt.Taskwait) = record { bodies = at.bodies; counter = tt }
    enters_by true final (Some stmt.Barrier) = record { bodies = at.bodies; counter = tt }
    enters_by false final (Some stmt.Barrier) = record { bodies = at.bodies; counter = tt }
    enters_by true final (Some (stmt.Critical k f)) = record { bodies = at.bodies; counter = tt }
    enters_by false final (Some (stmt.Critical k f)) = record { bodies = at.bodies; counter = tt }
    enters_by true final (Some (stmt.Taskgroup f)) = record { bodies = at.bodies; counter = tt }
    enters_by false final (Some (stmt.Taskgroup f)) = record { bodies = at.bodies; counter = tt }
    enters_by debug final o = record { bodies = at.bodies; counter = tt }

    -- a body under a lock, which begins where a statement is in work
    calls_in : (fs : List Frame) (k f : ℕ) → statement_of p fs ≡ Some (stmt.Critical k f)
        → AreContextsPlaced w a.context fs
        → AreContextsPlaced w a.context (at_start f (opened.Critical k) ∷ fs)
    calls_in [] k f is all = absurd (cc)
    calls_in (g ∷ gs) k f is all = (all.0, all)

    leaves_by : (o : Option Stmt) → statement_of p a.stack ≡ o → IsPlaced w (left_behind p o a)
    leaves_by (Some (stmt.Critical k f)) is = record { bodies = calls_in a.stack k f is at.bodies; counter = tt }
    leaves_by o is = settled_placed a at

    -- ---- a group begins

    groups_in : (fs : List Frame) (n f : ℕ) → statement_of p fs ≡ Some (stmt.Taskgroup f)
        → AreContextsPlaced w a.context fs
        → AreContextsPlaced w (grouped n a.context) (at_start f opened.Taskgroup ∷ fs)
    groups_in [] n f is all = absurd (cc)
    groups_in (g ∷ gs) n f is all = let there = contexts_grouped w n a.context (g ∷ gs) all in (there.0, there)

    groups_by : (o : Option Stmt) → statement_of p a.stack ≡ o → IsPlaced w (group_begun o a)
    groups_by (Some (stmt.Taskgroup f)) is =
        record { bodies = groups_in a.stack (a.context.open_groups + 1) f is at.bodies; counter = tt }
    groups_by o is = at

    -- ---- all counters

    placed_behind : (b : PlainCounter) (old : ℕ) → IsPlaced w (plain_moved p a b old)
    placed_behind plain.Work old = settled_placed a at
    placed_behind plain.Call old = settled_placed a at
    placed_behind plain.Skip old = settled_placed a at
    placed_behind plain.Return old = returns_in a.stack at.bodies
    placed_behind plain.Set old = settled_placed a at
    placed_behind plain.Tool old = settled_placed a at
    placed_behind plain.Enter old = enters_by p.env.debug a.context.is_final (statement_of p a.stack)
    placed_behind plain.Leave old = leaves_by (statement_of p a.stack) refl
    placed_behind plain.WorkState old = works_in a.stack
    placed_behind plain.LockState old = record { bodies = at.bodies; counter = tt }
    placed_behind plain.Lock old = locks_by (old == 0)
    placed_behind plain.Unlock old = settled_placed a at
    placed_behind plain.GroupBegin old = groups_by (statement_of p a.stack) refl
    placed_behind plain.Done old = record { bodies = at.bodies; counter = tt }
    placed_behind plain.Ended old = at

pub steps_stay_placed : PlainStepsStayPlaced
steps_stay_placed p w a c old at is = placed_behind p w a c is at c old
