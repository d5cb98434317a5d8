-- Actors that have made a move which several steps have in common.
use Rattle.std.proofs.Common.{◌≡◌, ℕ, zero, suc, ◌<◌, Bool, true, false, cond, List, [], ◌∷◌, length, refl, ⊎_elim, sym, ap, subst, ◌∙◌, arith}
use Rattle.omi_script.specs.declared.program.Program.{Program}
use Rattle.omi_script.specs.declared.statement.Stmt.{Stmt}
use Rattle.omi_script.specs.declared.statement.Stmt.TheVariants as stmt
use Rattle.omi_pc.specs.declared.actor.Actor.{Actor}
use Rattle.omi_pc.specs.declared.context.Context.{Context}
use Rattle.omi_pc.specs.declared.counter.Counter.TheVariants as counter
use Rattle.omi_pc.specs.declared.counter.PlainCounter.TheVariants as plain
use Rattle.omi_pc.specs.declared.frame.Frame.{Frame}
use Rattle.omi_pc.specs.declared.frame.Opened.{Opened}
use Rattle.omi_pc.specs.declared.frame.Opened.TheVariants as opened
use Rattle.omi_pc.specs.Frames.{at_start}
use Rattle.omi_pc.specs.Fits.{Enters, Fits, FitsPlain, HasTask, HasVariables, StoresState}
use Rattle.omi_pc.specs.Moves.{closed, closed_in, context_under, next_round, returned, returned_by, returned_in, worked, worked_at, worked_in, back_to_work}
use Rattle.omi_pc.specs.OpenBodies.{AreOpen, IsAt, IsAtEnd, IsAtStart, IsCalled, IsContext, StandsOn, StartsWorking}
use Rattle.omi_pc.specs.Settle.{goes_to}
use Rattle.omi_pc.specs.Stacks.{opens_task}
use Rattle.omi_pc.proofs.Settled.{settled_fits, settled_open}

-- ---- a body is opened or closed

pub body_opens : (p : Program) (c : Context) (f : ℕ) (o : Opened) (fs : List Frame) → f < length p.funcs
    → IsContext p c → StandsOn p c f fs o → AreOpen p (context_under c o) fs
    → AreOpen p c (at_start f o ∷ fs)
body_opens p c f o fs there context stands below = (record { frame = record { function = there; next = omega arith }; context = context; stands = stands }, below)

closes_in : (p : Program) (a : Actor) (fs : List Frame) → a.stack ≡ fs → AreOpen p a.context fs
    → AreOpen p (closed_in a fs).context (closed_in a fs).stack
closes_in p a [] is bodies = subst (λ (gs : List Frame). AreOpen p a.context gs) (sym is) bodies
closes_in p a (f ∷ fs) is bodies = bodies.1

pub closed_open : (p : Program) (a : Actor) → AreOpen p a.context a.stack
    → AreOpen p (closed a).context (closed a).stack
closed_open p a bodies = closes_in p a a.stack refl bodies

-- ---- a function has returned

module _ (p : Program) (a : Actor) (f : Frame) (fs : List Frame) where
  -- what is under a body with which no task begins, in the same task
  under : (o : Opened) → f.opened ≡ o → context_under a.context o ≡ a.context → AreOpen p a.context (f ∷ fs)
      → AreOpen p a.context fs
  under o how same bodies =
      subst (λ (c : Context). AreOpen p c fs) (ap (context_under a.context) how ∙ same) bodies.1

  -- there is some body under one that stands on a statement
  some_under : (gs : List Frame) (s : Stmt) → IsAt p gs s → 0 < length gs
  some_under [] s at = absurd (cc)
  some_under (g ∷ gs) s at = omega arith

  some_called : (g : ℕ) → StandsOn p a.context g fs opened.Call → 0 < length fs
  some_called g stands =
      ⊎_elim (λ at. some_under fs (stmt.Call g) at)
      (λ at. some_under fs (stmt.Only a.context.number g) at) stands

  -- a round of a `repeat` that is the last one, and one that is not
  round_open : (left : ℕ) → f.opened ≡ opened.Repeat left → AreOpen p a.context (f ∷ fs)
      → StandsOn p a.context f.function fs (opened.Repeat left)
      → AreOpen p (next_round left f fs a).context (next_round left f fs a).stack
  round_open zero how bodies stands = under (opened.Repeat zero) how refl bodies
  round_open (suc zero) how bodies stands = under (opened.Repeat (suc zero)) how refl bodies
  round_open (suc (suc left)) how bodies stands = (
    record {
      frame = record { function = bodies.0.frame.function; next = omega arith };
      context = bodies.0.context;
      stands = (stands.0, stands.1, omega arith, let most = stands.3 in omega (arith, most));
    },
    under (opened.Repeat (suc (suc left))) how refl bodies,
  )

  round_fits : (left : ℕ) → a.thread < p.threads → HasVariables a → f.opened ≡ opened.Repeat left
      → AreOpen p a.context (f ∷ fs) → StandsOn p a.context f.function fs (opened.Repeat left)
      → Fits p (next_round left f fs a)
  round_fits zero thread variables how bodies stands = absurd (let least = stands.2 in omega (arith, least))
  round_fits (suc zero) thread variables how bodies stands =
      record { thread = thread; variables = variables; bodies = round_open (suc zero) how bodies stands; counter = (stmt.Repeat stands.0 f.function, stands.1, tt) }
  round_fits (suc (suc left)) thread variables how bodies stands =
      record { thread = thread; variables = variables; bodies = round_open (suc (suc left)) how bodies stands; counter = (refl, refl) }

  returns_by : (o : Opened) → opens_task o ≡ false → a.thread < p.threads → HasVariables a → f.opened ≡ o
      → AreOpen p a.context (f ∷ fs) → StandsOn p a.context f.function fs o
      → Fits p (returned_by p o f fs a)
  returns_by opened.Main called thread variables how bodies stands = absurd (cc)
  returns_by opened.Worker called thread variables how bodies stands = absurd (cc)
  returns_by (opened.Master saved) called thread variables how bodies stands = absurd (cc)
  returns_by (opened.Task w saved) called thread variables how bodies stands = absurd (cc)
  returns_by opened.Call called thread variables how bodies stands =
      settled_fits p (record a { stack = fs })
      (record { thread = thread; variables = variables; bodies = under opened.Call how refl bodies; some = some_called f.function stands })
  returns_by (opened.Repeat left) called thread variables how bodies stands =
      round_fits left thread variables how bodies stands
  returns_by (opened.Critical k) called thread variables how bodies stands =
      record { thread = thread; variables = variables; bodies = under (opened.Critical k) how refl bodies; counter = (stmt.Critical k f.function, stands, tt) }
  returns_by opened.Taskgroup called thread variables how bodies stands =
      record { thread = thread; variables = variables; bodies = under opened.Taskgroup how refl bodies; counter = (stmt.Taskgroup f.function, stands, tt) }

  return_opens : (o : Opened) → a.stack ≡ f ∷ fs → f.opened ≡ o → AreOpen p a.context (f ∷ fs)
      → StandsOn p a.context f.function fs o
      → AreOpen p (returned_by p o f fs a).context (returned_by p o f fs a).stack
  return_opens opened.Main is how bodies stands =
      subst (λ (gs : List Frame). AreOpen p a.context gs) (sym is) bodies
  return_opens opened.Worker is how bodies stands =
      subst (λ (gs : List Frame). AreOpen p a.context gs) (sym is) bodies
  return_opens (opened.Master saved) is how bodies stands =
      subst (λ (gs : List Frame). AreOpen p a.context gs) (sym is) bodies
  return_opens (opened.Task w saved) is how bodies stands =
      subst (λ (gs : List Frame). AreOpen p a.context gs) (sym is) bodies
  return_opens opened.Call is how bodies stands =
      settled_open p (record a { stack = fs }) (under opened.Call how refl bodies)
  return_opens (opened.Repeat left) is how bodies stands = round_open left how bodies stands
  return_opens (opened.Critical k) is how bodies stands = under (opened.Critical k) how refl bodies
  return_opens opened.Taskgroup is how bodies stands = under opened.Taskgroup how refl bodies

return_opens_in : (p : Program) (a : Actor) (fs : List Frame) → a.stack ≡ fs → AreOpen p a.context fs
    → AreOpen p (returned_in p fs a).context (returned_in p fs a).stack
return_opens_in p a [] is bodies = subst (λ (gs : List Frame). AreOpen p a.context gs) (sym is) bodies
return_opens_in p a (f ∷ fs) is bodies = return_opens p a f fs f.opened is refl bodies bodies.0.stands

pub returned_open : (p : Program) (a : Actor) → AreOpen p a.context a.stack
    → AreOpen p (returned p a).context (returned p a).stack
returned_open p a bodies = return_opens_in p a a.stack refl bodies

returns_in : (p : Program) (a : Actor) (fs : List Frame) → a.thread < p.threads → HasVariables a
    → AreOpen p a.context fs → IsAtEnd p IsCalled fs → Fits p (returned_in p fs a)
returns_in p a [] thread variables bodies end = absurd end
returns_in p a (f ∷ fs) thread variables bodies end =
    returns_by p a f fs f.opened end.1 thread variables refl bodies bodies.0.stands

pub returned_fits : (p : Program) (a : Actor) → HasTask p a → FitsPlain p a plain.Return
    → Fits p (returned p a)
returned_fits p a task end = returns_in p a a.stack task.thread task.variables task.bodies end

-- ---- the thread goes on

-- statements that store a working state enter the runtime
enters : (s : Stmt) → StoresState s → Enters s
enters (stmt.Parallel f num) is = tt
enters stmt.Taskwait is = tt
enters stmt.Barrier is = tt
enters (stmt.Critical k f) is = tt
enters (stmt.Taskgroup f) is = tt
enters s is = absurd is

module _ (p : Program) (a : Actor) (task : HasTask p a) where
  -- in a body that has not begun, or with a statement in work
  goes_at : (f : Frame) (fs : List Frame) (n : ℕ) → f.next ≡ n → a.stack ≡ f ∷ fs
      → FitsPlain p a plain.WorkState → Fits p (worked_at p n a)
  goes_at f fs zero next is fits = settled_fits p a task
  goes_at f fs (suc n) next is fits =
      ⊎_elim
      (λ (start : IsAtStart StartsWorking a.stack).
      let first = subst (λ (gs : List Frame). IsAtStart StartsWorking gs) is start in
      let begins : f.next ≡ 0 = first.0 in
      absurd (omega arith))
      (λ (at : (s : Stmt) × IsAt p a.stack s × StoresState s).
      record { thread = task.thread; variables = task.variables; bodies = task.bodies; counter = (at.0, at.1, enters at.0 at.2) })
      fits

  goes_in : (fs : List Frame) → a.stack ≡ fs → FitsPlain p a plain.WorkState → Fits p (worked_in p fs a)
  goes_in [] is fits =
      let some : 0 < length a.stack = task.some in let none : length a.stack ≡ 0 = ap (λ (gs : List Frame). length gs) is in absurd (omega arith)
  goes_in (f ∷ fs) is fits = goes_at f fs f.next refl is fits

pub worked_fits : (p : Program) (a : Actor) → HasTask p a → FitsPlain p a plain.WorkState
    → Fits p (worked p a)
worked_fits p a task fits = goes_in p a task a.stack refl fits

works_by : (p : Program) (a : Actor) → HasTask p a → FitsPlain p a plain.WorkState → (debug : Bool)
    → Fits p (cond debug (record a { counter = counter.Plain plain.WorkState }) (worked p a))
works_by p a task fits true = record { thread = task.thread; variables = task.variables; bodies = task.bodies; counter = fits }
works_by p a task fits false = worked_fits p a task fits

pub working_fits : (p : Program) (a : Actor) → HasTask p a → FitsPlain p a plain.WorkState
    → Fits p (back_to_work p a)
working_fits p a task fits = works_by p a task fits p.env.debug

-- ---- bodies alone

module _ (p : Program) (a : Actor) (bodies : AreOpen p a.context a.stack) where
  goes_open : (n : ℕ) → AreOpen p (worked_at p n a).context (worked_at p n a).stack
  goes_open zero = settled_open p a bodies
  goes_open (suc n) = bodies

  going_open : (fs : List Frame) → AreOpen p (worked_in p fs a).context (worked_in p fs a).stack
  going_open [] = bodies
  going_open (f ∷ fs) = goes_open f.next

  pub worked_open : AreOpen p (worked p a).context (worked p a).stack
  worked_open = going_open a.stack

  works_open : (debug : Bool)
      → AreOpen p (cond debug (goes_to plain.WorkState a) (worked p a)).context (cond debug (goes_to plain.WorkState a) (worked p a)).stack
  works_open true = bodies
  works_open false = worked_open

  pub working_open : AreOpen p (back_to_work p a).context (back_to_work p a).stack
  working_open = works_open p.env.debug
