-- The law of room: of an accepted program no stack has more than 2,080 bodies.
use Rattle.std.specs.Prelude.{◌≡◌, ℕ, ◌<◌, ◌≤◌, List, length, Some}
use Rattle.omi_script.specs.Bodies.{named_by}
use Rattle.omi_script.specs.declared.program.Program.{Program}
use Rattle.omi_script.specs.declared.statement.Stmt.{Stmt}
use Rattle.omi_script.specs.declared.limits.TheConstants.{MAX_FUNCTIONS}
use Rattle.omi_pc.specs.declared.context.Context.{Context}
use Rattle.omi_pc.specs.declared.frame.Frame.{Frame}
use Rattle.omi_pc.specs.declared.limits.TheConstants.{MOST_BODIES}
use Rattle.omi_pc.specs.OpenBodies.{AreOpen, IsAt}
use Rattle.omi_pc.specs.Stacks.{BeginsBelow, GoDown, function_of, tasks_in}

-- a statement of a body names only functions smaller than the body's
abbrev pub NamedAreSmaller : Type 0
NamedAreSmaller =
    (p : Program) (fs : List Frame) (s : Stmt) (f : ℕ) → IsAt p fs s → named_by s ≡ Some f
    → f < function_of fs

-- a body that a program's statement opens is of a smaller function, and so is a task that stands on another
abbrev pub BodiesGoDown : Type 0
BodiesGoDown = (p : Program) (c : Context) (fs : List Frame) → AreOpen p c fs → GoDown fs

-- a stack whose functions go down from one below the most functions
abbrev pub FewGoDown : Type 0
FewGoDown = (fs : List Frame) → GoDown fs → BeginsBelow MAX_FUNCTIONS fs → length fs ≤ MOST_BODIES

-- the bodies of a program's thread
abbrev pub StacksHaveRoom : Type 0
StacksHaveRoom =
    (p : Program) (c : Context) (fs : List Frame) → AreOpen p c fs → length fs ≤ MOST_BODIES

-- a context's depth is the number of tasks that are open
abbrev pub DepthsCountTasks : Type 0
DepthsCountTasks =
    (p : Program) (c : Context) (fs : List Frame) → AreOpen p c fs → 0 < length fs
    → (c.depth ≡ tasks_in fs) × (c.depth ≤ length fs)
