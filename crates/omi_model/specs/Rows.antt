-- Rows: the events of each statement in their order, as items of a to-do list. A list holds statements and items; a statement at its head is replaced by its row once an event of the row comes.
use Rattle.std.specs.Prelude.{ℕ, zero, suc, ◌==◌, ◌||◌, List, [], ◌∷◌, if◌then◌else◌}
use Rattle.omi_numbers.specs.Holders.{lock_wait}
use Rattle.omi_script.specs.Bodies.{body_of}
use Rattle.omi_script.specs.declared.program.Program.{Program}
use Rattle.omi_script.specs.declared.statement.Stmt.{Stmt}
use Rattle.omi_script.specs.declared.statement.Stmt.TheVariants as stmt
use Rattle.omi_model.specs.declared.encounter.Encounter.{Encounter}
use Rattle.omi_model.specs.declared.item.Item.{Item}
use Rattle.omi_model.specs.declared.item.Item.TheVariants as item
use Rattle.omi_numbers.specs.declared.states.TheConstants.{WORK_SERIAL, WORK_PARALLEL, WAIT_BARRIER_IMPLICIT_PARALLEL, WAIT_BARRIER_EXPLICIT, WAIT_TASKWAIT, WAIT_TASKGROUP, WAIT_CRITICAL, OVERHEAD}
use Rattle.omi_model.specs.declared.shape.Shape.{Shape}
use Rattle.omi_model.specs.declared.shape.Shape.TheVariants as shape
use Rattle.omi_model.specs.Shapes.{shape_of}

-- ---- parts of rows, in front of a rest

-- a state item, which is there only where states are kept
abbrev pub shown : Encounter → ℕ → ℕ → List Item → List Item
shown at state wait rest = if at.debug then item.State state wait ∷ rest else rest

-- the state of a thread that works: work_serial at level 0, work_parallel at any other
abbrev pub work_state : ℕ → ℕ
work_state level = if level == 0 then WORK_SERIAL else WORK_PARALLEL

abbrev pub working : Encounter → List Item → List Item
working at rest = shown at (work_state at.level) 0 rest

-- the statements of a body
abbrev pub body_items : List Stmt → List Item → List Item
body_items [] rest = rest
body_items (s ∷ ss) rest = item.Do s ∷ body_items ss rest

-- the statements of a function
abbrev pub function_items : Program → ℕ → List Item → List Item
function_items p f rest = body_items (body_of p.funcs f) rest

-- a barrier that waits in this state: the member arrives, runs deferred tasks, and passes; member 0 releases it before
abbrev pub barrier_items : Encounter → ℕ → List Item → List Item
barrier_items at state rest =
    shown at state 0
    (item.Arrive ∷ item.Tasks state
    ∷ (if at.number == 0 then item.Release ∷ item.Pass ∷ rest else item.Pass ∷ rest))

-- the end of a member: it waits at the implicit barrier
abbrev pub end_of_member : Encounter → List Item → List Item
end_of_member at rest = barrier_items at WAIT_BARRIER_IMPLICIT_PARALLEL rest

-- a call of a function
abbrev pub call_items : Program → ℕ → List Item → List Item
call_items p f rest = function_items p f (item.Ret ∷ rest)

-- the end of a taskgroup region: the task waits for the members of its group
abbrev pub end_of_group : Encounter → List Item → List Item
end_of_group at rest =
    item.Enter ∷ shown at WAIT_TASKGROUP 0
    (item.Tasks WAIT_TASKGROUP ∷ item.GroupEnd ∷ working at (item.Leave ∷ rest))

-- ---- rows

-- the first item of a row, by the shape of the statement
abbrev pub first_item : Encounter → Shape → Item
first_item at (shape.Parallel f num) = item.Enter
first_item at (shape.Task f undeferred final) = item.Enter
first_item at shape.Taskwait = item.Enter
first_item at shape.Taskyield = item.Enter
first_item at shape.Barrier = item.Enter
first_item at (shape.Critical k f) = item.Enter
first_item at (shape.Taskgroup f) = item.GroupBegin
first_item at (shape.Call f) = item.Call f
first_item at (shape.Only m f) = if at.number == m then item.Call f else item.Skip
first_item at (shape.Repeat zero f) = item.Skip
first_item at (shape.Repeat (suc n) f) = item.Call f
first_item at (shape.Sets variable word) = item.Set variable word
first_item at (shape.Tool x) = item.SetTool x
first_item at shape.Work = item.Work

-- what stands behind it
abbrev pub items_behind : Program → Encounter → Shape → List Item → List Item
items_behind p at (shape.Parallel f num) rest =
    shown at OVERHEAD 0 (item.Want num ∷ item.Asks ∷ item.Fork f ∷ working at (item.Leave ∷ rest))
items_behind p at (shape.Task f undeferred final) rest =
    (if undeferred || at.is_final then item.StartNow f (final || at.is_final)
    else item.Defer 0 f (final || at.is_final)) ∷ item.Leave ∷ rest
items_behind p at shape.Taskwait rest =
    shown at WAIT_TASKWAIT 0
    (item.Tasks WAIT_TASKWAIT ∷ item.WaitDone ∷ working at (item.Leave ∷ rest))
items_behind p at shape.Taskyield rest = item.OneTask ∷ item.Yield ∷ item.Leave ∷ rest
items_behind p at shape.Barrier rest =
    barrier_items at WAIT_BARRIER_EXPLICIT (working at (item.Leave ∷ rest))
items_behind p at (shape.Critical k f) rest =
    shown at WAIT_CRITICAL (lock_wait k)
    (item.Lock k
    ∷ working at (item.Leave ∷ item.Call f ∷ call_items p f (item.Unlock k ∷ rest)))
items_behind p at (shape.Taskgroup f) rest = item.Call f ∷ call_items p f (end_of_group at rest)
items_behind p at (shape.Call f) rest = call_items p f rest
items_behind p at (shape.Only m f) rest = if at.number == m then call_items p f rest else rest
items_behind p at (shape.Repeat zero f) rest = rest
items_behind p at (shape.Repeat (suc n) f) rest = call_items p f (item.Do (stmt.Repeat n f) ∷ rest)
items_behind p at (shape.Sets variable word) rest = rest
items_behind p at (shape.Tool x) rest = rest
items_behind p at shape.Work rest = rest

-- the same for a statement
abbrev pub first_of : Encounter → Stmt → Item
first_of at s = first_item at (shape_of s)

abbrev pub behind : Program → Encounter → Stmt → List Item → List Item
behind p at s rest = items_behind p at (shape_of s) rest

-- ---- first lists

-- the initial task: `main`, the end of member 0, and the end of the program
abbrev pub main_items : Encounter → List Stmt → List Item
main_items at body = body_items body (end_of_member at (item.Done ∷ []))

-- a worker that has not begun
abbrev pub worker_items : List Item
worker_items = item.Begin ∷ item.Offer ∷ item.Serve ∷ []

-- the last event of a member: member 0 joins the others, and another one ends
abbrev pub last_of_member : ℕ → Item
last_of_member number = if number == 0 then item.Join else item.ImplicitEnd

-- a member of the team of a parallel region over a function
abbrev pub member_items : Program → Encounter → ℕ → List Item
member_items p at f =
    working at (function_items p f (end_of_member at (last_of_member at.number ∷ [])))

-- an explicit task over a function
abbrev pub task_items : Program → ℕ → List Item
task_items p f = function_items p f (item.Finish ∷ [])
