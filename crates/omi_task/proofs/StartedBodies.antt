-- The bodies of a thread that starts an explicit task: there is room for one more, and that of the task stands on the wait.
use Rattle.std.proofs.Common.{◌≡◌, ℕ, ◌<◌, Bool, true, false, cond, List, [], ◌∷◌, length, Some, None, refl, ap, arith}
use Rattle.omi_script.specs.declared.program.Program.{Program}
use Rattle.omi_script.specs.declared.statement.Stmt.{Stmt}
use Rattle.omi_script.specs.declared.statement.Stmt.TheVariants as stmt
use Rattle.omi_model.specs.declared.id.Tid.{Tid}
use Rattle.omi_pc.specs.declared.actor.Actor.{Actor}
use Rattle.omi_pc.specs.declared.context.Context.{Context}
use Rattle.omi_pc.specs.declared.frame.Barrier.TheVariants.{Explicit, Implicit}
use Rattle.omi_pc.specs.declared.frame.Frame.{Frame}
use Rattle.omi_pc.specs.declared.frame.Opened.TheVariants.{Task}
use Rattle.omi_pc.specs.declared.frame.Wait.{Wait}
use Rattle.omi_pc.specs.declared.frame.Wait.TheVariants as wait
use Rattle.omi_pc.specs.FitLaws.{OpenedBodyStands}
use Rattle.omi_pc.specs.Fits.{Fits, IsTask, IsTaskGot}
use Rattle.omi_pc.specs.Frames.{at_start}
use Rattle.omi_pc.specs.Moves.{context_under}
use Rattle.omi_pc.specs.OpenBodies.{AreOpen, IsAt, IsContext, IsWaiting}
use Rattle.omi_pc.specs.Stacks.{opens_task, task_function}
use Rattle.omi_pc.proofs.Settled.{named_there}
use Rattle.omi_task.specs.MakingSteps.{explicit_function, made_function, makes_final}
use Rattle.omi_task.specs.Starts.{task_context}

-- a body is open where a task waits
pub some_body : (p : Program) (c : Context) (fs : List Frame) (v : Wait) → IsWaiting p c fs v → 0 < length fs
some_body p c [] (wait.Barrier Explicit) waits = let at = waits.0 in absurd (cc)
some_body p c [] (wait.Barrier Implicit) waits = absurd waits.0
some_body p c [] wait.Taskwait waits = absurd (cc)
some_body p c [] wait.Taskyield waits = absurd (cc)
some_body p c [] wait.Taskgroup waits = let at = waits.1 in absurd (cc)
some_body p c (f ∷ fs) v waits = omega arith

-- the context of the innermost body
pub context_there : (p : Program) (c : Context) (fs : List Frame) → AreOpen p c fs → 0 < length fs
    → IsContext p c
context_there p c [] bodies some = absurd (omega (arith, some))
context_there p c (f ∷ fs) bodies some = bodies.0.context

-- a function below that of the innermost task is there
below_some : (b : Bool) (f g task many : ℕ) → g < many → (f < task → f < many) → f < cond b g task → f < many
below_some true f g task many there rest below = omega (arith, there, below)
below_some false f g task many there rest below = rest below

pub function_there : (p : Program) (c : Context) (fs : List Frame) (f : ℕ) → AreOpen p c fs
    → f < task_function fs → f < length p.funcs
function_there p c [] f bodies below = absurd (omega (arith, below))
function_there p c (g ∷ gs) f bodies below =
    below_some (opens_task g.opened) f g.function (task_function gs) (length p.funcs) bodies.0.frame.function
    (function_there p (context_under c g.opened) gs f bodies.1) below

-- the bodies once an explicit task is current
pub start_opens : (p : Program) (a : Actor) (v : Wait) (t : Tid) (f : ℕ) (final : Bool) → OpenedBodyStands
    → Fits p a
    → IsWaiting p a.context a.stack v → t.0.creator < p.threads → f < task_function a.stack
    → AreOpen p (task_context a t final) (at_start f (Task (Some v) a.context) ∷ a.stack)
start_opens p a v t f final stands fits waits maker below =
    let c = context_there p a.context a.stack fits.bodies (some_body p a.context a.stack v waits) in
    stands p (task_context a t final) f (Task (Some v) a.context) a.stack
    (function_there p a.context a.stack f fits.bodies below)
    (record {
      size = c.size;
      number = c.number;
      arrivals = c.arrivals;
      groups = omega arith;
      task = maker;
      region = c.region;
      row = c.row;
      implicit = λ so. absurd (cc);
    })
    ((below, waits), record { implicit = refl; region = refl; row = refl; number = refl; size = refl; arrivals = refl; depth = refl })
    fits.bodies

-- a body is open where a statement is in work
pub some_at : (p : Program) (fs : List Frame) (s : Stmt) → IsAt p fs s → 0 < length fs
some_at p [] s at = absurd (cc)
some_at p (f ∷ fs) s at = omega arith

-- the bodies once a task is current that starts at once
module _ (p : Program) (a : Actor) (t : Tid) (stands : OpenedBodyStands) (fits : Fits p a)
    (maker : t.0.creator ≡ a.thread) where
  opens : (s : Stmt) → IsAt p a.stack s → IsTask s
      → AreOpen p (task_context a t (makes_final p a))
      (at_start (made_function p a) (Task None a.context) ∷ a.stack)
  opens (stmt.Task f undeferred final) at is =
      let c = context_there p a.context a.stack fits.bodies (some_at p a.stack (stmt.Task f undeferred final) at) in
      let function : made_function p a ≡ f = ap explicit_function at in
      rw function
      (stands p (task_context a t (makes_final p a)) f (Task None a.context) a.stack (named_there p a.context a.stack (stmt.Task f undeferred final) f fits.bodies at refl)
      (record {
        size = c.size;
        number = c.number;
        arrivals = c.arrivals;
        groups = omega arith;
        task = (let own = fits.thread in omega (arith, maker, own));
        region = c.region;
        row = c.row;
        implicit = λ so. absurd (cc);
      })
      ((undeferred, final, at), record { implicit = refl; region = refl; row = refl; number = refl; size = refl; arrivals = refl; depth = refl })
      fits.bodies)
  opens _ at never = absurd never

pub start_now_opens : (p : Program) (a : Actor) (t : Tid) → OpenedBodyStands → Fits p a → IsTaskGot p a None t
    → AreOpen p (task_context a t (makes_final p a))
    (at_start (made_function p a) (Task None a.context) ∷ a.stack)
start_now_opens p a t stands fits (((s, at, is), own), maker) = opens p a t stands fits maker s at is
