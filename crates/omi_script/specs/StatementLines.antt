-- Statements: what each line says, row by row as in docs/WORKLOAD.md, by the words behind the
-- first.
use Rattle.std.specs.Prelude.{ℕ, ◌&&◌, ◌==◌, List, [], ◌∷◌, Option, Some, None, option_map, option_and_then, if◌then◌else◌, bytes_eq, codes}
use Rattle.omi_script.specs.Numbers.{number_of}
use Rattle.omi_numbers.specs.Schedules.{schedule_kind_of}
use Rattle.omi_script.specs.declared.line.SourceLine.{SourceLine}
use Rattle.omi_script.specs.declared.line.SourceLine.TheVariants as line
use Rattle.omi_script.specs.declared.statement.Construct.{Construct}
use Rattle.omi_script.specs.declared.statement.Construct.TheVariants as construct
use Rattle.omi_script.specs.declared.statement.Stmt.{Stmt}
use Rattle.omi_script.specs.declared.statement.Stmt.TheVariants.{Taskwait, Taskyield, Barrier, SetNumThreads, SetDynamic, SetMaxActive, SetSchedule, SetDevice, Tool, Work}
use Rattle.omi_script.specs.declared.limits.TheConstants.{MAX_SIZE, MAX_LOCK, MAX_MEMBER, MAX_REPEATS, MAX_LEVELS, MAX_CHUNK, MAX_DEVICE}

-- a construct with a number, over the function with a name
abbrev pub numbered : List ℕ → (ℕ → Construct) → Option ℕ → SourceLine
numbered f make n = line.Construct f (option_map make n)

-- a stand-alone statement with a number
abbrev pub stand_alone : (ℕ → Stmt) → Option ℕ → SourceLine
stand_alone make n = line.StandAlone (option_map make n)

-- `parallel F` or `parallel F num N`, N 1 to 64
abbrev pub parallel_line : List (List ℕ) → Option SourceLine
parallel_line (f ∷ []) = Some (line.Construct f (Some (construct.Parallel None)))
parallel_line (f ∷ word ∷ n ∷ []) =
    if bytes_eq word (codes "num")
    then Some (numbered f (λ m. construct.Parallel (Some m)) (number_of 1 MAX_SIZE n))
    else None
parallel_line _ = None

-- a task over a function, with what stands behind `if` and behind `final`, 0 or 1
abbrev pub task_construct : List ℕ → Option ℕ → Option ℕ → SourceLine
task_construct f deferred last =
    line.Construct f
    (option_and_then (λ d. option_map (λ l. construct.Task (d == 0) (l == 1)) last) deferred)

-- `task F`, then `if B` or nothing, then `final B` or nothing, B 0 or 1
abbrev pub task_construct_line : List (List ℕ) → Option SourceLine
task_construct_line (f ∷ []) = Some (task_construct f (Some 1) (Some 0))
task_construct_line (f ∷ word ∷ b ∷ []) =
    if bytes_eq word (codes "if") then Some (task_construct f (number_of 0 1 b) (Some 0))
    else (if bytes_eq word (codes "final") then Some (task_construct f (Some 1) (number_of 0 1 b))
    else None)
task_construct_line (f ∷ word ∷ b ∷ other ∷ c ∷ []) =
    if bytes_eq word (codes "if") && bytes_eq other (codes "final")
    then Some (task_construct f (number_of 0 1 b) (number_of 0 1 c))
    else None
task_construct_line _ = None

-- `taskwait`, `taskyield`, `barrier` or `work`, and no other word
abbrev pub bare_line : Stmt → List (List ℕ) → Option SourceLine
bare_line s [] = Some (line.StandAlone (Some s))
bare_line s _ = None

-- `critical K F`, K 0 to 7
abbrev pub critical_line : List (List ℕ) → Option SourceLine
critical_line (k ∷ f ∷ []) = Some (numbered f construct.Critical (number_of 0 MAX_LOCK k))
critical_line _ = None

-- `taskgroup F`
abbrev pub group_line : List (List ℕ) → Option SourceLine
group_line (f ∷ []) = Some (line.Construct f (Some construct.Taskgroup))
group_line _ = None

-- `call F`
abbrev pub call_line : List (List ℕ) → Option SourceLine
call_line (f ∷ []) = Some (line.Construct f (Some construct.Call))
call_line _ = None

-- `only M F`, M 0 to 63
abbrev pub only_line : List (List ℕ) → Option SourceLine
only_line (m ∷ f ∷ []) = Some (numbered f construct.Only (number_of 0 MAX_MEMBER m))
only_line _ = None

-- `repeat N F`, N 0 to 1000
abbrev pub repeat_line : List (List ℕ) → Option SourceLine
repeat_line (n ∷ f ∷ []) = Some (numbered f construct.Repeat (number_of 0 MAX_REPEATS n))
repeat_line _ = None

-- `set_num_threads N`, N 1 to 64
abbrev pub set_num_threads_line : List (List ℕ) → Option SourceLine
set_num_threads_line (n ∷ []) = Some (stand_alone SetNumThreads (number_of 1 MAX_SIZE n))
set_num_threads_line _ = None

-- `set_dynamic B`, B 0 or 1
abbrev pub set_dynamic_line : List (List ℕ) → Option SourceLine
set_dynamic_line (b ∷ []) = Some (stand_alone (λ n. SetDynamic (n == 1)) (number_of 0 1 b))
set_dynamic_line _ = None

-- `set_max_active_levels N`, N 0 to 255
abbrev pub set_max_active_line : List (List ℕ) → Option SourceLine
set_max_active_line (n ∷ []) = Some (stand_alone SetMaxActive (number_of 0 MAX_LEVELS n))
set_max_active_line _ = None

-- `set_schedule KIND CHUNK`, CHUNK 0 to 65535
abbrev pub set_schedule_line : List (List ℕ) → Option SourceLine
set_schedule_line (kind ∷ chunk ∷ []) =
    option_map
    (λ k. stand_alone (λ n. SetSchedule (record { kind = k; chunk = n })) (number_of 0 MAX_CHUNK chunk))
    (schedule_kind_of kind)
set_schedule_line _ = None

-- `set_default_device N`, N 0 to 255
abbrev pub set_device_line : List (List ℕ) → Option SourceLine
set_device_line (n ∷ []) = Some (stand_alone SetDevice (number_of 0 MAX_DEVICE n))
set_device_line _ = None

-- `tool X`, X any word
abbrev pub tool_line : List (List ℕ) → Option SourceLine
tool_line (x ∷ []) = Some (stand_alone Tool (number_of 0 18446744073709551615 x))
tool_line _ = None

-- a statement that sets an internal control variable or a task's word, by its first word
abbrev pub set_line : List ℕ → List (List ℕ) → Option SourceLine
set_line first rest =
    if bytes_eq first (codes "set_num_threads") then set_num_threads_line rest
    else (if bytes_eq first (codes "set_dynamic") then set_dynamic_line rest
    else (if bytes_eq first (codes "set_max_active_levels") then set_max_active_line rest
    else (if bytes_eq first (codes "set_schedule") then set_schedule_line rest
    else (if bytes_eq first (codes "set_default_device") then set_device_line rest
    else (if bytes_eq first (codes "tool") then tool_line rest
    else None)))))

-- a statement, by its first word
abbrev pub statement_line : List ℕ → List (List ℕ) → Option SourceLine
statement_line first rest =
    if bytes_eq first (codes "parallel") then parallel_line rest
    else (if bytes_eq first (codes "task") then task_construct_line rest
    else (if bytes_eq first (codes "taskwait") then bare_line Taskwait rest
    else (if bytes_eq first (codes "taskyield") then bare_line Taskyield rest
    else (if bytes_eq first (codes "barrier") then bare_line Barrier rest
    else (if bytes_eq first (codes "work") then bare_line Work rest
    else (if bytes_eq first (codes "critical") then critical_line rest
    else (if bytes_eq first (codes "taskgroup") then group_line rest
    else (if bytes_eq first (codes "call") then call_line rest
    else (if bytes_eq first (codes "only") then only_line rest
    else (if bytes_eq first (codes "repeat") then repeat_line rest
    else set_line first rest))))))))))
