-- The room of a control stack: how functions go down from a body to the ones inside it.
use Rattle.std.specs.Prelude.{ℕ, ◌+◌, ◌<◌, Bool, true, false, List, [], ◌∷◌, if◌then◌else◌}
use Rattle.omi_pc.specs.declared.frame.Frame.{Frame}
use Rattle.omi_pc.specs.declared.frame.Opened.{Opened}
use Rattle.omi_pc.specs.declared.frame.Opened.TheVariants as opened

-- a task begins with a body that was opened in this way
abbrev pub opens_task : Opened → Bool
opens_task opened.Main = true
opens_task opened.Worker = true
opens_task (opened.Master saved) = true
opens_task (opened.Task wait saved) = true
opens_task opened.Call = false
opens_task (opened.Repeat left) = false
opens_task (opened.Critical k) = false
opens_task opened.Taskgroup = false

-- the tasks whose bodies are open
abbrev pub tasks_in : List Frame → ℕ
tasks_in [] = 0
tasks_in (f ∷ fs) = if opens_task f.opened then tasks_in fs + 1 else tasks_in fs

-- the function of the innermost task
abbrev pub task_function : List Frame → ℕ
task_function [] = 0
task_function (f ∷ fs) = if opens_task f.opened then f.function else task_function fs

-- the function of the innermost body
abbrev pub function_of : List Frame → ℕ
function_of [] = 0
function_of (f ∷ fs) = f.function

-- the body of a task is of a smaller function than the task below it, and any other body of a smaller function than the
-- body outside it
abbrev pub GoesDown : Frame → List Frame → Type 0
GoesDown f fs = f.function < (if opens_task f.opened then task_function fs else function_of fs)

-- each body but the outermost one is of a smaller function
abbrev pub GoDown : List Frame → Type 0
GoDown [] = Unit {0}
GoDown (f ∷ []) = Unit {0}
GoDown (f ∷ g ∷ gs) = GoesDown f (g ∷ gs) × GoDown (g ∷ gs)

-- the function of the outermost body is below a number
abbrev pub BeginsBelow : ℕ → List Frame → Type 0
BeginsBelow n [] = Unit {0}
BeginsBelow n (f ∷ []) = f.function < n
BeginsBelow n (f ∷ g ∷ gs) = BeginsBelow n (g ∷ gs)
