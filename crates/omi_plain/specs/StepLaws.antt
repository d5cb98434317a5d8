-- The laws of steps: they leave an actor that fits the program and is placed in the layout.
use Rattle.std.specs.Prelude.{◌≡◌, ◌<◌, ℕ, true, List}
use Rattle.omi_numbers.specs.declared.limits.TheConstants.{OPEN_GROUPS}
use Rattle.omi_script.specs.declared.program.Program.{Program}
use Rattle.omi_script.specs.declared.statement.Stmt.TheVariants as stmt
use Rattle.omi_pc.specs.declared.actor.Actor.{Actor}
use Rattle.omi_pc.specs.declared.counter.Counter.TheVariants as counter
use Rattle.omi_pc.specs.declared.counter.PlainCounter.{PlainCounter}
use Rattle.omi_pc.specs.declared.counter.PlainCounter.TheVariants as plain
use Rattle.omi_pc.specs.Fits.{Fits}
use Rattle.omi_pc.specs.OpenBodies.{IsAt}
use Rattle.omi_plain.specs.PlainSteps.{plain_moved}
use Rattle.omi_step_words.specs.Placed.{IsPlaced}

-- the current task is an implicit one where it is at a `barrier`. No body of an explicit task reaches one
abbrev pub IsImplicitAtBarrier : Program → Actor → Type 0
IsImplicitAtBarrier p a = IsAt p a.stack stmt.Barrier → a.context.implicit ≡ true

-- the current task may begin one more group where it is at a `taskgroup` whose region has not begun
abbrev pub MayBeginGroup : Actor → PlainCounter → Type 0
MayBeginGroup a plain.GroupBegin = a.context.open_groups < OPEN_GROUPS
MayBeginGroup a c = Unit {0}

abbrev pub PlainStepsFit : Type 0
PlainStepsFit =
    (p : Program) (a : Actor) (c : PlainCounter) (old : ℕ) → Fits p a
    → a.counter ≡ counter.Plain c → IsImplicitAtBarrier p a → MayBeginGroup a c
    → Fits p (plain_moved p a c old)

abbrev pub PlainStepsStayPlaced : Type 0
PlainStepsStayPlaced =
    (p : Program) (w : List ℕ) (a : Actor) (c : PlainCounter) (old : ℕ) → IsPlaced w a
    → a.counter ≡ counter.Plain c → IsPlaced w (plain_moved p a c old)
