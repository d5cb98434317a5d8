-- A context's depth is the number of tasks whose bodies are open.
use Rattle.std.proofs.Common.{◌≡◌, ℕ, ◌<◌, ◌≤◌, ◌+◌, Bool, true, false, cond, List, [], ◌∷◌, length, Option, Some, None, ⊎_elim, arith}
use Rattle.omi_script.specs.declared.program.Program.{Program}
use Rattle.omi_pc.specs.declared.context.Context.{Context}
use Rattle.omi_pc.specs.declared.frame.Barrier.TheVariants.{Explicit, Implicit}
use Rattle.omi_pc.specs.declared.frame.Frame.{Frame}
use Rattle.omi_pc.specs.declared.frame.Opened.{Opened}
use Rattle.omi_pc.specs.declared.frame.Opened.TheVariants as opened
use Rattle.omi_pc.specs.declared.frame.Wait.{Wait}
use Rattle.omi_pc.specs.declared.frame.Wait.TheVariants as wait
use Rattle.omi_pc.specs.Moves.{context_under}
use Rattle.omi_pc.specs.OpenBodies.{AreOpen, IsWaiting, StandsOn, StartsAt}
use Rattle.omi_pc.specs.Stacks.{opens_task, tasks_in}

-- no task waits where no body is open
waits_nowhere : {A : Type 0} (p : Program) (c : Context) (w : Wait) → IsWaiting p c [] w → A
waits_nowhere p c (wait.Barrier Explicit) waits = let at = waits.0 in absurd (cc)
waits_nowhere p c (wait.Barrier Implicit) waits = absurd waits.0
waits_nowhere p c wait.Taskwait waits = absurd (cc)
waits_nowhere p c wait.Taskyield waits = absurd (cc)
waits_nowhere p c wait.Taskgroup waits = let at = waits.1 in absurd (cc)

starts_nowhere : {A : Type 0} (p : Program) (c : Context) (f : ℕ) (w : Option Wait) → StartsAt p c f [] w → A
starts_nowhere p c f None starts = let at = starts.2 in absurd (cc)
starts_nowhere p c f (Some w) starts = waits_nowhere p c w starts.1

-- the depth in the outermost body
alone : (p : Program) (c : Context) (f : ℕ) (o : Opened) → StandsOn p c f [] o
    → c.depth ≡ cond (opens_task o) 1 0
alone p c f opened.Main stands = stands.1.depth
alone p c f opened.Worker stands = stands.1.depth
alone p c f (opened.Master saved) stands = let at = stands.1 in absurd (cc)
alone p c f (opened.Task w saved) stands = starts_nowhere p saved f w stands.0
alone p c f opened.Call stands = ⊎_elim (λ at. absurd (cc)) (λ at. absurd (cc)) stands
alone p c f (opened.Repeat left) stands = let at = stands.1 in absurd (cc)
alone p c f (opened.Critical k) stands = absurd (cc)
alone p c f opened.Taskgroup stands = absurd (cc)

-- the depth in a body inside others
above : (p : Program) (c : Context) (f n : ℕ) (g : Frame) (gs : List Frame) (o : Opened)
    → StandsOn p c f (g ∷ gs) o → (context_under c o).depth ≡ n → c.depth ≡ cond (opens_task o) (n + 1) n
above p c f n g gs opened.Main stands below = let none = stands.0 in absurd (cc)
above p c f n g gs opened.Worker stands below = let none = stands.0 in absurd (cc)
above p c f n g gs (opened.Master saved) stands below = let more = stands.2.depth in omega (arith, more)
above p c f n g gs (opened.Task w saved) stands below = let more = stands.1.depth in omega (arith, more)
above p c f n g gs opened.Call stands below = below
above p c f n g gs (opened.Repeat left) stands below = below
above p c f n g gs (opened.Critical k) stands below = below
above p c f n g gs opened.Taskgroup stands below = below

depth_counts : (p : Program) (c : Context) (fs : List Frame) → AreOpen p c fs → 0 < length fs
    → c.depth ≡ tasks_in fs
depth_counts p c [] bodies some = absurd (omega arith)
depth_counts p c (f ∷ []) bodies some = alone p c f.function f.opened bodies.0.stands
depth_counts p c (f ∷ g ∷ gs) bodies some =
    above p c f.function (tasks_in (g ∷ gs)) g gs f.opened bodies.0.stands
    (depth_counts p (context_under c f.opened) (g ∷ gs) bodies.1 (omega arith))

one_within : (b : Bool) (n m : ℕ) → n ≤ m → cond b (n + 1) n ≤ m + 1
one_within true n m within = omega arith
one_within false n m within = omega arith

tasks_within : (fs : List Frame) → tasks_in fs ≤ length fs
tasks_within [] = omega arith
tasks_within (f ∷ fs) =
    let more = one_within (opens_task f.opened) (tasks_in fs) (length fs) (tasks_within fs) in omega arith

pub depths_count_tasks : (p : Program) (c : Context) (fs : List Frame) → AreOpen p c fs → 0 < length fs
    → (c.depth ≡ tasks_in fs) × (c.depth ≤ length fs)
depths_count_tasks p c fs bodies some =
    let counts = depth_counts p c fs bodies some in let within = tasks_within fs in (counts, omega (arith, counts, within))
