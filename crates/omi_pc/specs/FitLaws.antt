-- Which actors fit: those with which a program starts, and those that have made a move between statements.
use Rattle.std.specs.Prelude.{◌≡◌, ℕ, ◌<◌, ◌≤◌, true, List, ◌∷◌, length}
use Rattle.omi_model.specs.declared.limits.TheConstants.{MOST_EVENTS}
use Rattle.omi_numbers.specs.declared.limits.TheConstants.{OPEN_GROUPS}
use Rattle.omi_script.specs.declared.program.Program.{Program}
use Rattle.omi_pc.specs.declared.actor.Actor.{Actor}
use Rattle.omi_pc.specs.declared.counter.PlainCounter.TheVariants as plain
use Rattle.omi_pc.specs.declared.context.Context.{Context}
use Rattle.omi_pc.specs.declared.frame.Frame.{Frame}
use Rattle.omi_pc.specs.declared.frame.Opened.{Opened}
use Rattle.omi_pc.specs.Frames.{at_start}
use Rattle.omi_pc.specs.Fits.{Fits, FitsPlain, HasTask}
use Rattle.omi_pc.specs.Moves.{closed, context_under, returned, worked, back_to_work}
use Rattle.omi_pc.specs.OpenBodies.{AreOpen, IsContext, StandsOn}
use Rattle.omi_pc.specs.Opening.{opening_actor}
use Rattle.omi_pc.specs.Settle.{settled}

-- two actors differ in their counters and their bodies alone
pub record DifferInBodies (a b : Actor) : Type 0 where
  pub thread : b.thread ≡ a.thread
  pub context : b.context ≡ a.context
  pub gathered : b.gathered ≡ a.gathered

-- a move between statements changes nothing else
abbrev pub MovesChangeBodies : Type 0
MovesChangeBodies =
    (p : Program) (a : Actor)
    → DifferInBodies a (settled p a)
    × DifferInBodies a (returned p a)
    × DifferInBodies a (worked p a)
    × DifferInBodies a (back_to_work p a)

abbrev pub OpeningFits : Type 0
OpeningFits = (p : Program) (thread : ℕ) → thread < p.threads → Fits p (opening_actor p thread)

-- whatever counter the actor had
abbrev pub SettlingFits : Type 0
SettlingFits = (p : Program) (a : Actor) → HasTask p a → Fits p (settled p a)

-- where a function may return
abbrev pub ReturningFits : Type 0
ReturningFits =
    (p : Program) (a : Actor) → HasTask p a → FitsPlain p a plain.Return → Fits p (returned p a)

-- where a working state may be stored
abbrev pub WorkingFits : Type 0
WorkingFits =
    (p : Program) (a : Actor) → HasTask p a → FitsPlain p a plain.WorkState → Fits p (back_to_work p a)

-- and behind its store
abbrev pub GoingOnFits : Type 0
GoingOnFits =
    (p : Program) (a : Actor) → HasTask p a → FitsPlain p a plain.WorkState → Fits p (worked p a)

-- the bodies under one that is closed
abbrev pub ClosingKeepsBodies : Type 0
ClosingKeepsBodies =
    (p : Program) (a : Actor) → AreOpen p a.context a.stack
    → AreOpen p (closed a).context (closed a).stack

-- the body of a function that is there, on what it stands on, in a task with a context of its own or with that of the task
-- below
abbrev pub OpenedBodyStands : Type 0
OpenedBodyStands =
    (p : Program) (c : Context) (f : ℕ) (o : Opened) (fs : List Frame) → f < length p.funcs
    → IsContext p c → StandsOn p c f fs o → AreOpen p (context_under c o) fs
    → AreOpen p c (at_start f o ∷ fs)

-- a context after so many arrivals
abbrev pub arrived : ℕ → Context → Context
arrived n c = record c { arrivals = n }

-- a context with so many open groups
abbrev pub grouped : ℕ → Context → Context
grouped n c = record c { open_groups = n }

-- the bodies of a task that begins or ends a group
abbrev pub GroupingKeepsBodies : Type 0
GroupingKeepsBodies =
    (p : Program) (c : Context) (n : ℕ) (fs : List Frame) → n ≤ OPEN_GROUPS
    → AreOpen p c fs → AreOpen p (grouped n c) fs

-- the bodies of a member that arrives at a barrier
abbrev pub ArrivingKeepsBodies : Type 0
ArrivingKeepsBodies =
    (p : Program) (c : Context) (n : ℕ) (fs : List Frame) → c.implicit ≡ true → n < MOST_EVENTS
    → AreOpen p c fs → AreOpen p (arrived n c) fs
