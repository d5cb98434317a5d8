-- The bodies of a program's thread go down, so there are few.
use Rattle.std.proofs.Common.{◌≡◌, ℕ, ◌<◌, ◌≤◌, Bool, true, false, cond, List, [], ◌∷◌, length, Option, Some, None, refl, ⊎_elim, arith}
use Rattle.omi_script.specs.declared.limits.TheConstants.{MAX_FUNCTIONS}
use Rattle.omi_script.specs.declared.program.Program.{Program}
use Rattle.omi_script.specs.declared.statement.Stmt.TheVariants as stmt
use Rattle.omi_script.proofs.RuleLemmas.{Rules-from_accepted}
use Rattle.omi_pc.specs.declared.context.Context.{Context}
use Rattle.omi_pc.specs.declared.frame.Frame.{Frame}
use Rattle.omi_pc.specs.declared.frame.Opened.{Opened}
use Rattle.omi_pc.specs.declared.frame.Opened.TheVariants as opened
use Rattle.omi_pc.specs.declared.frame.Wait.{Wait}
use Rattle.omi_pc.specs.declared.limits.TheConstants.{MOST_BODIES}
use Rattle.omi_pc.specs.Moves.{context_under}
use Rattle.omi_pc.specs.OpenBodies.{AreOpen, StandsOn, StartsAt}
use Rattle.omi_pc.specs.Stacks.{BeginsBelow, GoDown, opens_task, task_function}
use Rattle.omi_pc.proofs.NamedBelow.{named_below}
use Rattle.omi_pc.proofs.Triangles.{few_go_down}

-- a body with which no task begins is of a smaller function than the body outside it
called_below : (p : Program) (c : Context) (f : ℕ) (g : Frame) (gs : List Frame) (o : Opened)
    → opens_task o ≡ false → StandsOn p c f (g ∷ gs) o → f < g.function
called_below p c f g gs opened.Main called stands = absurd (cc)
called_below p c f g gs opened.Worker called stands = absurd (cc)
called_below p c f g gs (opened.Master saved) called stands = absurd (cc)
called_below p c f g gs (opened.Task w saved) called stands = absurd (cc)
called_below p c f g gs opened.Call called stands =
    ⊎_elim (λ is. named_below p g gs (stmt.Call f) f is refl)
    (λ is. named_below p g gs (stmt.Only c.number f) f is refl) stands
called_below p c f g gs (opened.Repeat left) called stands =
    named_below p g gs (stmt.Repeat stands.0 f) f stands.1 refl
called_below p c f g gs (opened.Critical k) called stands =
    named_below p g gs (stmt.Critical k f) f stands refl
called_below p c f g gs opened.Taskgroup called stands =
    named_below p g gs (stmt.Taskgroup f) f stands refl

-- a task's body that stands on nothing, if a called one stood there
called_somewhere : (p : Program) (c : Context) (f : ℕ) (o : Opened) → StandsOn p c f [] o
    → opens_task o ≡ true
called_somewhere p c f opened.Main stands = refl
called_somewhere p c f opened.Worker stands = refl
called_somewhere p c f (opened.Master saved) stands = refl
called_somewhere p c f (opened.Task w saved) stands = refl
called_somewhere p c f opened.Call stands = ⊎_elim (λ is. absurd (cc)) (λ is. absurd (cc)) stands
called_somewhere p c f (opened.Repeat left) stands = let is = stands.1 in absurd (cc)
called_somewhere p c f (opened.Critical k) stands = absurd (cc)
called_somewhere p c f opened.Taskgroup stands = absurd (cc)

-- a task's function is that of its body, and at least those of the bodies inside it
task_within : (f outer task : ℕ) (b : Bool) → (b ≡ false → f < outer) → outer ≤ task → f ≤ cond b f task
task_within f outer task true below within = omega arith
task_within f outer task false below within = let less = below refl in omega arith

-- no body is of a greater function than that of its task
pub within_task : (p : Program) (c : Context) (f : Frame) (fs : List Frame) → AreOpen p c (f ∷ fs)
    → f.function ≤ task_function (f ∷ fs)
within_task p c f [] bodies =
    go (opens_task f.opened) (called_somewhere p c f.function f.opened bodies.0.stands)
  where
    go : (b : Bool) → b ≡ true → f.function ≤ cond b f.function 0
    go true is = omega arith
    go false is = absurd (cc)
within_task p c f (g ∷ gs) bodies =
    task_within f.function g.function (task_function (g ∷ gs)) (opens_task f.opened)
    (λ is. called_below p c f.function g gs f.opened is bodies.0.stands)
    (within_task p (context_under c f.opened) g gs bodies.1)

-- a task starts with a smaller function than that of the task below
started_below : (p : Program) (saved : Context) (f : ℕ) (g : Frame) (gs : List Frame) (w : Option Wait)
    → g.function ≤ task_function (g ∷ gs) → StartsAt p saved f (g ∷ gs) w → f < task_function (g ∷ gs)
started_below p saved f g gs None within starts =
    let below = named_below p g gs (stmt.Task f starts.0 starts.1) f starts.2 refl in omega (arith, within)
started_below p saved f g gs (Some w) within starts = starts.0

-- a body is of a smaller function than what is under it
goes_down : (p : Program) (c : Context) (f : ℕ) (g : Frame) (gs : List Frame) (o : Opened)
    → g.function ≤ task_function (g ∷ gs) → StandsOn p c f (g ∷ gs) o
    → f < cond (opens_task o) (task_function (g ∷ gs)) g.function
goes_down p c f g gs opened.Main within stands = let nothing = stands.0 in absurd (cc)
goes_down p c f g gs opened.Worker within stands = let nothing = stands.0 in absurd (cc)
goes_down p c f g gs (opened.Master saved) within stands =
    let below = named_below p g gs (stmt.Parallel f stands.0) f stands.1 refl in omega (arith, within)
goes_down p c f g gs (opened.Task w saved) within stands = started_below p saved f g gs w within stands.0
goes_down p c f g gs opened.Call within stands = called_below p c f g gs opened.Call refl stands
goes_down p c f g gs (opened.Repeat left) within stands =
    called_below p c f g gs (opened.Repeat left) refl stands
goes_down p c f g gs (opened.Critical k) within stands =
    called_below p c f g gs (opened.Critical k) refl stands
goes_down p c f g gs opened.Taskgroup within stands = called_below p c f g gs opened.Taskgroup refl stands

pub bodies_go_down : (p : Program) (c : Context) (fs : List Frame) → AreOpen p c fs → GoDown fs
bodies_go_down p c [] bodies = tt
bodies_go_down p c (f ∷ []) bodies = tt
bodies_go_down p c (f ∷ g ∷ gs) bodies = (
  goes_down p c f.function g gs f.opened (within_task p (context_under c f.opened) g gs bodies.1) bodies.0.stands,
  bodies_go_down p (context_under c f.opened) (g ∷ gs) bodies.1,
)

begins_below : (p : Program) (c : Context) (fs : List Frame) → AreOpen p c fs → BeginsBelow MAX_FUNCTIONS fs
begins_below p c [] bodies = tt
begins_below p c (f ∷ []) bodies =
    let few = (Rules-from_accepted p).functions in let there = bodies.0.frame.function in omega (arith, few, there)
begins_below p c (f ∷ g ∷ gs) bodies = begins_below p (context_under c f.opened) (g ∷ gs) bodies.1

-- a stack whose functions go down from one below the most functions has few bodies
pub few_bodies : (fs : List Frame) → GoDown fs → BeginsBelow MAX_FUNCTIONS fs → length fs ≤ MOST_BODIES
few_bodies fs down begins = let few = few_go_down MAX_FUNCTIONS fs down begins in omega (arith, few)

-- the bodies of a program's thread have room
pub bodies_have_room : (p : Program) (c : Context) (fs : List Frame) → AreOpen p c fs
    → length fs ≤ MOST_BODIES
bodies_have_room p c fs bodies = few_bodies fs (bodies_go_down p c fs bodies) (begins_below p c fs bodies)
