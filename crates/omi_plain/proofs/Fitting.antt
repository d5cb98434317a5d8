-- An actor that fits its program fits it behind a plain step.
use Rattle.std.proofs.Common.{◌==◌, ◌||◌, ℕ, ◌*◌, ◌<◌, Bool, true, false, cond, List, [], ◌∷◌, length, Option, Some, None, refl, inr, ⊎_elim, sym, subst, arith, ◌+◌}
use Rattle.omi_script.specs.declared.program.Program.{Program}
use Rattle.omi_script.specs.declared.statement.Stmt.{Stmt}
use Rattle.omi_script.specs.declared.statement.Stmt.TheVariants as stmt
use Rattle.omi_pc.specs.declared.actor.Actor.{Actor}
use Rattle.omi_pc.specs.declared.context.Context.{Context}
use Rattle.omi_pc.specs.declared.counter.Counter.{Counter}
use Rattle.omi_pc.specs.declared.counter.Counter.TheVariants as counter
use Rattle.omi_pc.specs.declared.counter.PlainCounter.{PlainCounter}
use Rattle.omi_pc.specs.declared.counter.PlainCounter.TheVariants as plain
use Rattle.omi_pc.specs.declared.frame.Barrier.TheVariants.{Explicit}
use Rattle.omi_pc.specs.declared.frame.Frame.{Frame}
use Rattle.omi_pc.specs.declared.frame.Opened.{Opened}
use Rattle.omi_pc.specs.declared.frame.Opened.TheVariants as opened
use Rattle.omi_pc.specs.declared.frame.Wait.TheVariants as wait
use Rattle.omi_numbers.specs.declared.limits.TheConstants.{OWN_SLOTS, OPEN_GROUPS}
use Rattle.omi_pc.specs.declared.task_counter.LookCounter.TheVariants as look
use Rattle.omi_pc.specs.declared.task_counter.TaskCounter.TheVariants as task
use Rattle.omi_pc.specs.declared.team_counter.BarrierCounter.TheVariants as barrier
use Rattle.omi_pc.specs.declared.team_counter.TeamCounter.TheVariants as team
use Rattle.omi_pc.specs.Fits.{Enters, Fits, FitsCounter, FitsPlain, HasTask, IsAtSome, IsCritical, StoresState, IsTaskgroup}
use Rattle.omi_pc.specs.Moves.{back_to_work}
use Rattle.omi_pc.specs.OpenBodies.{AreOpen, IsAt, IsAtEnd, IsAtStart, StartsWorking}
use Rattle.omi_pc.specs.Settle.{settled}
use Rattle.omi_pc.proofs.Moved.{returned_fits, worked_fits, working_fits}
use Rattle.omi_pc.proofs.Settled.{call_opens, settled_fits}
use Rattle.omi_pc.specs.FitLaws.{grouped}
use Rattle.omi_pc.proofs.Grouped.{grouped_open}
use Rattle.omi_plain.specs.PlainSteps.{behind_enter, left_behind, plain_moved, task_counter, group_begun}
use Rattle.omi_plain.specs.StepLaws.{IsImplicitAtBarrier, PlainStepsFit, MayBeginGroup}

-- ---- some body is open

some_at : (p : Program) (fs : List Frame) (s : Stmt) → IsAt p fs s → 0 < length fs
some_at p [] s at = absurd (cc)
some_at p (f ∷ fs) s at = omega arith

some_at_start : (P : Opened → Type 0) (fs : List Frame) → IsAtStart P fs → 0 < length fs
some_at_start P [] at = absurd at
some_at_start P (f ∷ fs) at = omega arith

some_at_end : (p : Program) (P : Opened → Type 0) (fs : List Frame) → IsAtEnd p P fs → 0 < length fs
some_at_end p P [] at = absurd at
some_at_end p P (f ∷ fs) at = omega arith

-- and its context has a size
some_member : (p : Program) (c : Context) (fs : List Frame) → AreOpen p c fs → 0 < length fs
    → 0 < OWN_SLOTS * c.size
some_member p c [] bodies some = absurd (omega arith)
some_member p c (f ∷ fs) bodies some = let least = bodies.0.context.size.0 in omega (arith, least)

critical_stores : (s : Stmt) → IsCritical s → StoresState s
critical_stores (stmt.Critical k f) is = tt
critical_stores _ is = absurd is

module _ (p : Program) (a : Actor) (fits : Fits p a) where
  has_task : 0 < length a.stack → HasTask p a
  has_task some = record { thread = fits.thread; variables = fits.variables; bodies = fits.bodies; some = some }

  settles : (s : Stmt) → IsAt p a.stack s → Fits p (settled p a)
  settles s at = settled_fits p a (has_task (some_at p a.stack s at))

  -- at another counter
  there : (c : Counter) → FitsCounter p (record a { counter = c }) c → Fits p (record a { counter = c })
  there c at = record { thread = fits.thread; variables = fits.variables; bodies = fits.bodies; counter = at }

  -- ---- a task enters the runtime

  task_fits : (f : ℕ) (undeferred given b : Bool) → IsAt p a.stack (stmt.Task f undeferred given)
      → Fits p (record a { counter = task_counter b })
  task_fits f undeferred given true at =
      there (counter.Task (task.LoadVariable None 0))
      (((stmt.Task f undeferred given, at, tt), tt), omega arith)
  task_fits f undeferred given false at =
      there (counter.Task (task.LoadSlot 0)) ((stmt.Task f undeferred given, at, tt), omega arith)

  enters_by : (debug final : Bool) (s : Stmt) → Enters s → IsAt p a.stack s → IsImplicitAtBarrier p a
      → Fits p (record a { counter = behind_enter debug final (Some s) })
  enters_by true final (stmt.Parallel f num) enters at may =
      there (counter.Team team.OverheadState) (stmt.Parallel f num, at, tt)
  enters_by false final (stmt.Parallel f num) enters at may =
      there (counter.Team team.LoadLevels) (stmt.Parallel f num, at, tt)
  enters_by debug final (stmt.Task f undeferred given) enters at may =
      task_fits f undeferred given (undeferred || final) at
  enters_by true final stmt.Taskwait enters at may = there (counter.Look (look.State wait.Taskwait)) (at, tt)
  enters_by false final stmt.Taskwait enters at may =
      there (counter.Look (look.LoadRow wait.Taskwait 0))
      ((at, some_member p a.context a.stack fits.bodies (some_at p a.stack stmt.Taskwait at)), refl)
  enters_by debug final stmt.Taskyield enters at may =
      there (counter.Look (look.LoadRow wait.Taskyield 0))
      ((at, some_member p a.context a.stack fits.bodies (some_at p a.stack stmt.Taskyield at)), refl)
  enters_by true final stmt.Barrier enters at may =
      there (counter.Barrier (barrier.State Explicit)) (at, may at)
  enters_by false final stmt.Barrier enters at may =
      there (counter.Barrier (barrier.Arrive Explicit)) (at, may at)
  enters_by true final (stmt.Critical k f) enters at may =
      there (counter.Plain plain.LockState) (stmt.Critical k f, at, tt)
  enters_by false final (stmt.Critical k f) enters at may =
      there (counter.Plain plain.Lock) (stmt.Critical k f, at, tt)
  enters_by true final (stmt.Taskgroup f) enters at may =
      there (counter.Look (look.State wait.Taskgroup)) ((f, at), tt)
  enters_by false final (stmt.Taskgroup f) enters at may =
      there (counter.Look (look.LoadRow wait.Taskgroup 0))
      (((f, at), some_member p a.context a.stack fits.bodies (some_at p a.stack (stmt.Taskgroup f) at)), refl)
  enters_by debug final _ enters at may = absurd enters

  -- ---- and leaves it

  leaves_by : (s : Stmt) → IsAt p a.stack s → Fits p (left_behind p (Some s) a)
  leaves_by (stmt.Critical k f) at =
      record {
        thread = fits.thread;
        variables = fits.variables;
        bodies = call_opens p a.context a.stack (stmt.Critical k f) f (opened.Critical k) fits.bodies at refl at refl;
        counter = (refl, refl);
      }
  leaves_by s at = settles s at

  -- ---- a group begins

  groups_by : (s : Stmt) → IsTaskgroup s → IsAt p a.stack s → a.context.open_groups < OPEN_GROUPS
      → Fits p (group_begun (Some s) a)
  groups_by (stmt.Taskgroup f) is at few =
      record {
        thread = fits.thread;
        variables = fits.variables;
        bodies =
            call_opens p (grouped (a.context.open_groups + 1) a.context) a.stack (stmt.Taskgroup f) f opened.Taskgroup
            (grouped_open p a.context (a.context.open_groups + 1) (omega (arith, few)) a.stack fits.bodies) at refl at refl;
        counter = (refl, refl);
      }
  groups_by _ is at few = absurd is

  -- ---- all counters

  locks_by : (b : Bool) → IsAtSome p a IsCritical → Fits p (cond b (back_to_work p a) a)
  locks_by true at =
      working_fits p a (has_task (some_at p a.stack at.0 at.1)) (inr (at.0, at.1, critical_stores at.0 at.2))
  locks_by false at = fits

  some_working : FitsPlain p a plain.WorkState → 0 < length a.stack
  some_working at =
      ⊎_elim (λ start. some_at_start StartsWorking a.stack start)
      (λ (in_work : (s : Stmt) × IsAt p a.stack s × StoresState s). some_at p a.stack in_work.0 in_work.1) at

  pub fits_behind : (c : PlainCounter) (old : ℕ) → FitsPlain p a c → IsImplicitAtBarrier p a
      → MayBeginGroup a c → Fits p (plain_moved p a c old)
  fits_behind plain.Work old at may few = settles stmt.Work at
  fits_behind plain.Call old at may few = settled_fits p a (has_task (some_at_start _ a.stack at))
  fits_behind plain.Skip old at may few = settles at.0 at.1
  fits_behind plain.Return old at may few = returned_fits p a (has_task (some_at_end p _ a.stack at)) at
  fits_behind plain.Set old at may few = settles at.0 at.1
  fits_behind plain.Tool old at may few = settles (stmt.Tool at.0) at.1
  fits_behind plain.Enter old at may few =
      subst
      (λ (o : Option Stmt). Fits p (record a { counter = behind_enter p.env.debug a.context.is_final o }))
      (sym at.1)
      (enters_by p.env.debug a.context.is_final at.0 at.2 at.1 may)
  fits_behind plain.Leave old at may few =
      subst (λ (o : Option Stmt). Fits p (left_behind p o a)) (sym at.1) (leaves_by at.0 at.1)
  fits_behind plain.WorkState old at may few = worked_fits p a (has_task (some_working at)) at
  fits_behind plain.LockState old at may few = there (counter.Plain plain.Lock) at
  fits_behind plain.Lock old at may few = locks_by (old == 0) at
  fits_behind plain.Unlock old at may few = settles at.0 at.1
  fits_behind plain.GroupBegin old at may few =
      subst (λ (o : Option Stmt). Fits p (group_begun o a)) (sym at.1) (groups_by at.0 at.2 at.1 few)
  fits_behind plain.Done old at may few = there (counter.Plain plain.Ended) at
  fits_behind plain.Ended old at may few = fits

pub steps_fit : PlainStepsFit
steps_fit p a c old fits is may few = fits_behind p a fits c old (subst (FitsCounter p a) is fits.counter) may few
