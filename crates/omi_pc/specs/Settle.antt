-- The pure move between statements: which counter a statement begins with, and what follows the end of a body.
use Rattle.std.specs.Prelude.{ℕ, zero, suc, ◌==◌, Bool, List, [], ◌∷◌, Option, Some, None, if◌then◌else◌}
use Rattle.omi_script.specs.declared.program.Program.{Program}
use Rattle.omi_script.specs.declared.statement.Stmt.{Stmt}
use Rattle.omi_model.specs.declared.shape.Shape.{Shape}
use Rattle.omi_model.specs.declared.shape.Shape.TheVariants as shape
use Rattle.omi_model.specs.Shapes.{shape_of}
use Rattle.omi_pc.specs.declared.actor.Actor.{Actor}
use Rattle.omi_pc.specs.declared.counter.Counter.TheVariants as counter
use Rattle.omi_pc.specs.declared.counter.PlainCounter.{PlainCounter}
use Rattle.omi_pc.specs.declared.counter.PlainCounter.TheVariants as plain
use Rattle.omi_pc.specs.declared.frame.Barrier.TheVariants.{Implicit}
use Rattle.omi_pc.specs.declared.frame.Frame.{Frame}
use Rattle.omi_pc.specs.declared.frame.Opened.{Opened}
use Rattle.omi_pc.specs.declared.frame.Opened.TheVariants as opened
use Rattle.omi_pc.specs.declared.task_counter.FinishCounter.TheVariants.{Finish}
use Rattle.omi_pc.specs.declared.team_counter.BarrierCounter.TheVariants as barrier
use Rattle.omi_pc.specs.Frames.{at_start, advanced, next_statement}

-- ---- the first counter of a statement

-- a counter of the plain family comes next
abbrev pub goes_to : PlainCounter → Actor → Actor
goes_to c a = record a { counter = counter.Plain c }

-- `parallel`, `task`, `taskwait`, `taskyield`, `barrier` and `critical`: the current task enters the runtime
abbrev pub entering : Actor → Actor
entering a = goes_to plain.Enter a

-- a function is called: its body is open from now on
abbrev pub calling : ℕ → Opened → Actor → Actor
calling f opened a = record (goes_to plain.Call a) { stack = at_start f opened ∷ a.stack }

-- a statement that does nothing
abbrev pub skipping : Actor → Actor
skipping a = goes_to plain.Skip a

-- `only M F`: a call by the thread with number M in its team
abbrev pub calling_only : ℕ → ℕ → Actor → Actor
calling_only m f a = if a.context.number == m then calling f opened.Call a else skipping a

-- `repeat N F`: so many rounds, if there are any
abbrev pub repeating : ℕ → ℕ → Actor → Actor
repeating zero f a = skipping a
repeating (suc n) f a = calling f (opened.Repeat (suc n)) a

-- a statement of a shape begins
abbrev pub begun_by : Shape → Actor → Actor
begun_by (shape.Parallel f num) a = entering a
begun_by (shape.Task f undeferred final) a = entering a
begun_by shape.Taskwait a = entering a
begun_by shape.Taskyield a = entering a
begun_by shape.Barrier a = entering a
begun_by (shape.Critical k f) a = entering a
begun_by (shape.Call f) a = calling f opened.Call a
begun_by (shape.Only m f) a = calling_only m f a
begun_by (shape.Repeat n f) a = repeating n f a
begun_by (shape.Taskgroup f) a = goes_to plain.GroupBegin a
begun_by (shape.Sets variable word) a = goes_to plain.Set a
begun_by (shape.Tool x) a = goes_to plain.Tool a
begun_by shape.Work a = goes_to plain.Work a

abbrev pub statement_begun : Stmt → Actor → Actor
statement_begun s a = begun_by (shape_of s) a

-- ---- the end of a body

-- a member arrives at the barrier at the end of its region. Its state is stored first where states are kept
abbrev pub ending_member : Bool → Actor → Actor
ending_member debug a =
    record a {
      counter = counter.Barrier (if debug then barrier.State Implicit else barrier.Arrive Implicit);
    }

-- an explicit task finishes
abbrev pub finishing : Actor → Actor
finishing a = record a { counter = counter.Finish Finish }

-- a body that was opened in this way has ended
abbrev pub ended : Bool → Opened → Actor → Actor
ended debug opened.Main a = ending_member debug a
ended debug opened.Worker a = ending_member debug a
ended debug (opened.Master saved) a = ending_member debug a
ended debug (opened.Task wait saved) a = finishing a
ended debug opened.Call a = goes_to plain.Return a
ended debug (opened.Repeat left) a = goes_to plain.Return a
ended debug (opened.Critical k) a = goes_to plain.Return a
ended debug opened.Taskgroup a = goes_to plain.Return a

-- ---- the move

-- in the body of a frame, with these frames outside it
abbrev pub settled_by : Program → Actor → Frame → List Frame → Option Stmt → Actor
settled_by p a f fs (Some s) = statement_begun s (record a { stack = advanced f ∷ fs })
settled_by p a f fs None = ended p.env.debug f.opened a

abbrev pub settled_in : Program → Actor → List Frame → Actor
settled_in p a [] = a
settled_in p a (f ∷ fs) = settled_by p a f fs (next_statement p f)

-- the next statement of the innermost body is in work, or the body has ended
abbrev pub settled : Program → Actor → Actor
settled p a = settled_in p a a.stack
