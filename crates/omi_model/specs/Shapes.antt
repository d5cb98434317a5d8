-- Shapes of statements: what a statement does. The statements that set an internal control variable have one shape, with the variable's number and the word of its value.
use Rattle.omi_numbers.specs.declared.variables.TheConstants.{DEFAULT_DEVICE_VAR, DYN_VAR, MAX_ACTIVE_LEVELS_VAR, NTHREADS_VAR, RUN_SCHED_VAR}
use Rattle.omi_numbers.specs.Words.{flag}
use Rattle.omi_script.specs.declared.statement.Stmt.{Stmt}
use Rattle.omi_script.specs.declared.statement.Stmt.TheVariants as stmt
use Rattle.omi_script.specs.Schedules.{schedule_word}
use Rattle.omi_model.specs.declared.shape.Shape.{Shape}
use Rattle.omi_model.specs.declared.shape.Shape.TheVariants as shape

-- the shape of a statement. A flag is stored as 0 or 1, and a schedule as its chunk times 8 plus its kind.
abbrev pub shape_of : Stmt → Shape
shape_of (stmt.Parallel f num) = shape.Parallel f num
shape_of (stmt.Task f undeferred final) = shape.Task f undeferred final
shape_of stmt.Taskwait = shape.Taskwait
shape_of stmt.Taskyield = shape.Taskyield
shape_of stmt.Barrier = shape.Barrier
shape_of (stmt.Critical k f) = shape.Critical k f
shape_of (stmt.Taskgroup f) = shape.Taskgroup f
shape_of (stmt.Call f) = shape.Call f
shape_of (stmt.Only m f) = shape.Only m f
shape_of (stmt.Repeat n f) = shape.Repeat n f
shape_of (stmt.SetNumThreads n) = shape.Sets NTHREADS_VAR n
shape_of (stmt.SetDynamic b) = shape.Sets DYN_VAR (flag b)
shape_of (stmt.SetMaxActive m) = shape.Sets MAX_ACTIVE_LEVELS_VAR m
shape_of (stmt.SetSchedule s) = shape.Sets RUN_SCHED_VAR (schedule_word s)
shape_of (stmt.SetDevice d) = shape.Sets DEFAULT_DEVICE_VAR d
shape_of (stmt.Tool x) = shape.Tool x
shape_of stmt.Work = shape.Work
