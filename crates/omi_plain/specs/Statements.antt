-- What the statement in work says: the variable that it sets, the word of a tool, the lock of a critical region.
use Rattle.std.specs.Prelude.{◌==◌, ℕ, List, Option, Some, None, if◌then◌else◌}
use Rattle.omi_script.specs.declared.program.Program.{Program}
use Rattle.omi_script.specs.declared.statement.Stmt.{Stmt}
use Rattle.omi_script.specs.declared.statement.Stmt.TheVariants as stmt
use Rattle.omi_numbers.specs.declared.variables.TheConstants.{DYN_VAR, NTHREADS_VAR, RUN_SCHED_VAR, DEFAULT_DEVICE_VAR, MAX_ACTIVE_LEVELS_VAR}
use Rattle.omi_numbers.specs.Words.{flag}
use Rattle.omi_script.specs.Schedules.{schedule_word}
use Rattle.omi_model.specs.declared.shape.Shape.{Shape}
use Rattle.omi_model.specs.declared.shape.Shape.TheVariants as shape
use Rattle.omi_model.specs.Shapes.{shape_of}
use Rattle.omi_layout.specs.declared.field.Field.TheVariants.{RuntimeMaxActive, TaskDynamic, TaskSchedule, TaskDevice, TaskNthreads}
use Rattle.omi_pc.specs.declared.actor.Actor.{Actor}
use Rattle.omi_pc.specs.Frames.{statement_of}
use Rattle.omi_step_words.specs.Words.{of_runtime, of_task}

-- the statement in work
abbrev pub in_work : Program → Actor → Option Stmt
in_work p a = statement_of p a.stack

-- ---- internal control variables. A statement that sets none has 0

-- the number of the variable that is set
abbrev pub variable_of : Shape → ℕ
variable_of (shape.Sets variable word) = variable
variable_of _ = 0

abbrev pub set_number : Option Stmt → ℕ
set_number (Some s) = variable_of (shape_of s)
set_number None = 0

-- the word of its value
abbrev pub word_to_set : Shape → ℕ
word_to_set (shape.Sets variable word) = word
word_to_set _ = 0

abbrev pub set_word : Option Stmt → ℕ
set_word (Some s) = word_to_set (shape_of s)
set_word None = 0

-- the address of its one word: max-active-levels-var is the program's, and the others are the current task's. nthreads-var is set
-- by its first element
abbrev pub variable_address : List ℕ → Actor → ℕ → ℕ
variable_address w a variable =
    if variable == NTHREADS_VAR then of_task w a.context.task TaskNthreads
    else (if variable == DYN_VAR then of_task w a.context.task TaskDynamic
    else (if variable == MAX_ACTIVE_LEVELS_VAR then of_runtime w RuntimeMaxActive
    else (if variable == RUN_SCHED_VAR then of_task w a.context.task TaskSchedule
    else (if variable == DEFAULT_DEVICE_VAR then of_task w a.context.task TaskDevice else 0))))

abbrev pub set_address : List ℕ → Actor → Option Stmt → ℕ
set_address w a s = variable_address w a (set_number s)

-- ---- the tool word, and critical regions. Any other statement has 0

abbrev pub tool_in : Option Stmt → ℕ
tool_in (Some (stmt.Tool x)) = x
tool_in _ = 0

abbrev pub lock_in : Option Stmt → ℕ
lock_in (Some (stmt.Critical k f)) = k
lock_in _ = 0
