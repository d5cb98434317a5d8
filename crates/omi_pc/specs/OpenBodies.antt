-- How the open bodies of a thread stand on one another, and what their contexts say. It speaks of no state.
use Rattle.std.specs.Prelude.{◌≡◌, ◌≢◌, ◌⊎◌, ℕ, ◌+◌, ◌<◌, ◌≤◌, Bool, true, false, List, [], ◌∷◌, length, Option, Some, None}
use Rattle.omi_model.specs.declared.limits.TheConstants.{MOST_EVENTS}
use Rattle.omi_numbers.specs.declared.limits.TheConstants.{OPEN_GROUPS}
use Rattle.omi_script.specs.declared.program.Program.{Program}
use Rattle.omi_script.specs.declared.statement.Stmt.{Stmt}
use Rattle.omi_script.specs.declared.statement.Stmt.TheVariants as stmt
use Rattle.omi_pc.specs.declared.context.Context.{Context}
use Rattle.omi_pc.specs.declared.frame.Barrier.{Barrier}
use Rattle.omi_pc.specs.declared.frame.Barrier.TheVariants.{Explicit, Implicit}
use Rattle.omi_pc.specs.declared.frame.Frame.{Frame}
use Rattle.omi_pc.specs.declared.frame.Opened.{Opened}
use Rattle.omi_pc.specs.declared.frame.Opened.TheVariants as opened
use Rattle.omi_pc.specs.declared.frame.Wait.{Wait}
use Rattle.omi_pc.specs.declared.frame.Wait.TheVariants as wait
use Rattle.omi_pc.specs.Frames.{body_in, statement_of}
use Rattle.omi_pc.specs.Moves.{context_under}
use Rattle.omi_pc.specs.Stacks.{opens_task, task_function}

-- ---- contexts

-- the numbers of a context are in their ranges
pub record IsContext (p : Program) (c : Context) : Type 0 where
  pub size : (1 ≤ c.size) × (c.size ≤ p.threads)
  pub number : c.number < c.size
  pub arrivals : c.arrivals < MOST_EVENTS
  pub groups : c.open_groups ≤ OPEN_GROUPS
  pub task : c.task.0.creator < p.threads
  pub region : c.region.0.creator < p.threads
  pub row : c.row.0.creator < p.threads
  pub implicit : c.implicit ≡ true → c.task ≡ c.row

-- the context of an implicit task that is at the end of the chain of scheduling tasks
pub record IsFirstTask (c : Context) : Type 0 where
  pub implicit : c.implicit ≡ true
  pub depth : c.depth ≡ 1

-- the context of member 0, which runs on top of the encountering task
pub record IsMasterOf (saved c : Context) : Type 0 where
  pub implicit : c.implicit ≡ true
  pub number : c.number ≡ 0
  pub depth : c.depth ≡ saved.depth + 1

-- the context of an explicit task, which runs on top of the task that it is scheduled from
pub record IsExplicitOf (saved c : Context) : Type 0 where
  pub implicit : c.implicit ≡ false
  pub region : c.region ≡ saved.region
  pub row : c.row ≡ saved.row
  pub number : c.number ≡ saved.number
  pub size : c.size ≡ saved.size
  pub arrivals : c.arrivals ≡ saved.arrivals
  pub depth : c.depth ≡ saved.depth + 1

-- ---- bodies

-- this statement is in work in the innermost body
abbrev pub IsAt : Program → List Frame → Stmt → Type 0
IsAt p fs s = statement_of p fs ≡ Some s

-- the innermost body has not begun, and was opened in such a way
abbrev pub IsAtStart : (Opened → Type 0) → List Frame → Type 0
IsAtStart P [] = ⊥
IsAtStart P (f ∷ fs) = (f.next ≡ 0) × P f.opened

-- the innermost body is at its end, and was opened in such a way
abbrev pub IsAtEnd : Program → (Opened → Type 0) → List Frame → Type 0
IsAtEnd p P [] = ⊥
IsAtEnd p P (f ∷ fs) = (f.next ≡ length (body_in p f)) × P f.opened

-- ways in which a body is opened
abbrev pub IsMain : Opened → Type 0
IsMain opened.Main = Unit {0}
IsMain _ = ⊥

abbrev pub IsWorker : Opened → Type 0
IsWorker opened.Worker = Unit {0}
IsWorker _ = ⊥

abbrev pub IsMaster : Opened → Type 0
IsMaster (opened.Master saved) = Unit {0}
IsMaster _ = ⊥

-- the implicit task of a member
abbrev pub IsMember : Opened → Type 0
IsMember opened.Main = Unit {0}
IsMember opened.Worker = Unit {0}
IsMember (opened.Master saved) = Unit {0}
IsMember _ = ⊥

abbrev pub IsExplicit : Opened → Type 0
IsExplicit (opened.Task w saved) = Unit {0}
IsExplicit _ = ⊥

-- a task that stores a working state before its body
abbrev pub StartsWorking : Opened → Type 0
StartsWorking opened.Worker = Unit {0}
StartsWorking (opened.Master saved) = Unit {0}
StartsWorking (opened.Task w saved) = Unit {0}
StartsWorking _ = ⊥

-- a function that a statement calls
abbrev pub IsCalled : Opened → Type 0
IsCalled o = opens_task o ≡ false

-- a member is at a barrier: at its statement, or at the end of its body
abbrev pub IsAtBarrier : Program → List Frame → Barrier → Type 0
IsAtBarrier p fs Explicit = IsAt p fs stmt.Barrier
IsAtBarrier p fs Implicit = IsAtEnd p IsMember fs

-- the task with this context waits there. Only implicit tasks wait at barriers
abbrev pub IsWaiting : Program → Context → List Frame → Wait → Type 0
IsWaiting p c fs (wait.Barrier b) = IsAtBarrier p fs b × (c.implicit ≡ true)
IsWaiting p c fs wait.Taskwait = IsAt p fs stmt.Taskwait
IsWaiting p c fs wait.Taskyield = IsAt p fs stmt.Taskyield
IsWaiting p c fs wait.Taskgroup = (f : ℕ) × IsAt p fs (stmt.Taskgroup f)

-- a task over this function starts there: at its own statement, or taken from a slot in a wait. Any such task was made by a
-- body inside the waiting one or by another member's, so its function is smaller than that of the task below
abbrev pub StartsAt : Program → Context → ℕ → List Frame → Option Wait → Type 0
StartsAt p saved f fs None =
    (undeferred : Bool) × (final : Bool) × IsAt p fs (stmt.Task f undeferred final)
StartsAt p saved f fs (Some w) = (f < task_function fs) × IsWaiting p saved fs w

-- the body of a function stands on the statement that opened it, in a task with this context
abbrev pub StandsOn : Program → Context → ℕ → List Frame → Opened → Type 0
StandsOn p c f fs opened.Main = (fs ≡ []) × IsFirstTask c × (c.number ≡ 0)
StandsOn p c f fs opened.Worker = (fs ≡ []) × IsFirstTask c × (c.number ≢ 0)
StandsOn p c f fs (opened.Master saved) =
    (num : Option ℕ) × IsAt p fs (stmt.Parallel f num) × IsMasterOf saved c
StandsOn p c f fs (opened.Task w saved) = StartsAt p saved f fs w × IsExplicitOf saved c
StandsOn p c f fs opened.Call = IsAt p fs (stmt.Call f) ⊎ IsAt p fs (stmt.Only c.number f)
StandsOn p c f fs (opened.Repeat left) =
    (n : ℕ) × IsAt p fs (stmt.Repeat n f) × (1 ≤ left) × (left ≤ n)
StandsOn p c f fs (opened.Critical k) = IsAt p fs (stmt.Critical k f)
StandsOn p c f fs opened.Taskgroup = IsAt p fs (stmt.Taskgroup f)

-- a frame of a program: its function is there, and its position within the body
pub record IsFrame (p : Program) (f : Frame) : Type 0 where
  pub function : f.function < length p.funcs
  pub next : f.next ≤ length (body_in p f)

-- a frame, with the frames outside it, in a task with this context
pub record IsOpen (p : Program) (c : Context) (f : Frame) (fs : List Frame) : Type 0 where
  pub frame : IsFrame p f
  pub context : IsContext p c
  pub stands : StandsOn p c f.function fs f.opened

-- the bodies of a stack, where the innermost one is of a task with this context
abbrev pub AreOpen : Program → Context → List Frame → Type 0
AreOpen p c [] = Unit {0}
AreOpen p c (f ∷ fs) = IsOpen p c f fs × AreOpen p (context_under c f.opened) fs
