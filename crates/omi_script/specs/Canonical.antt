-- The one canonical text of a program: all eight head lines, then each function, with one space
-- between words.
use Rattle.std.specs.Prelude.{ℕ, Bool, true, false, List, [], ◌∷◌, ◌++◌, flat_map, Some, None, unwrap_or, codes}
use Rattle.std.specs.List.{join_with_byte}
use Rattle.std.specs.Fmt.{decimal}
use Rattle.omi_script.specs.Names.{text_of}
use Rattle.omi_script.specs.Bodies.{name_at}
use Rattle.omi_numbers.specs.Names.{name_in}
use Rattle.omi_numbers.specs.Schedules.{schedule_kinds}
use Rattle.omi_script.specs.declared.env.Env.{Env}
use Rattle.omi_script.specs.declared.function.Func.{Func}
use Rattle.omi_script.specs.declared.program.Program.{Program}
use Rattle.omi_script.specs.declared.statement.Sched.{Sched}
use Rattle.omi_script.specs.declared.statement.Stmt.{Stmt}
use Rattle.omi_script.specs.declared.statement.Stmt.TheVariants.{Parallel, Task, Taskwait, Taskyield, Barrier, Critical, Call, Only, Repeat, Taskgroup, SetNumThreads, SetDynamic, SetMaxActive, SetSchedule, SetDevice, Tool, Work}

-- a schedule's kind as a word
abbrev pub kind_text : ℕ → List ℕ
kind_text kind = unwrap_or (name_in schedule_kinds kind) []

-- the value of `env dynamic`
abbrev pub truth_word : Bool → List ℕ
truth_word true = codes "true"
truth_word false = codes "false"

-- the value of `env debug`
abbrev pub debug_word : Bool → List ℕ
debug_word true = codes "enabled"
debug_word false = codes "disabled"

-- 1 for true, 0 for false
abbrev pub flag_word : Bool → List ℕ
flag_word true = codes "1"
flag_word false = codes "0"

-- numbers behind the first, each behind a comma
abbrev pub listed_behind : List ℕ → List ℕ
listed_behind ns = flat_map (λ n. 44 ∷ decimal n) ns

-- numbers, joined by commas
abbrev pub list_text : List ℕ → List ℕ
list_text [] = []
list_text (n ∷ ns) = decimal n ++ listed_behind ns

-- a schedule as one word
abbrev pub schedule_text : Sched → List ℕ
schedule_text s = kind_text s.kind ++ 44 ∷ decimal s.chunk

-- the words of a statement that names no function
abbrev pub setting_words : Stmt → List (List ℕ)
setting_words Taskwait = codes "taskwait" ∷ []
setting_words Taskyield = codes "taskyield" ∷ []
setting_words Barrier = codes "barrier" ∷ []
setting_words (SetNumThreads n) = codes "set_num_threads" ∷ decimal n ∷ []
setting_words (SetDynamic b) = codes "set_dynamic" ∷ flag_word b ∷ []
setting_words (SetMaxActive n) = codes "set_max_active_levels" ∷ decimal n ∷ []
setting_words (SetSchedule s) = codes "set_schedule" ∷ kind_text s.kind ∷ decimal s.chunk ∷ []
setting_words (SetDevice n) = codes "set_default_device" ∷ decimal n ∷ []
setting_words (Tool x) = codes "tool" ∷ decimal x ∷ []
setting_words Work = codes "work" ∷ []
setting_words _ = []

-- the words of a task. `if 0` and `final 1` stand where they hold
abbrev pub task_words : List ℕ → Bool → Bool → List (List ℕ)
task_words name false false = codes "task" ∷ name ∷ []
task_words name true false = codes "task" ∷ name ∷ codes "if" ∷ codes "0" ∷ []
task_words name false true = codes "task" ∷ name ∷ codes "final" ∷ codes "1" ∷ []
task_words name true true =
    codes "task" ∷ name ∷ codes "if" ∷ codes "0" ∷ codes "final" ∷ codes "1" ∷ []

-- the words of a statement. `num` stands where it was given
abbrev pub statement_words : List Func → Stmt → List (List ℕ)
statement_words funcs (Parallel f None) = codes "parallel" ∷ name_at funcs f ∷ []
statement_words funcs (Parallel f (Some n)) =
    codes "parallel" ∷ name_at funcs f ∷ codes "num" ∷ decimal n ∷ []
statement_words funcs (Task f undeferred is_final) =
    task_words (name_at funcs f) undeferred is_final
statement_words funcs (Critical k f) = codes "critical" ∷ decimal k ∷ name_at funcs f ∷ []
statement_words funcs (Taskgroup f) = codes "taskgroup" ∷ name_at funcs f ∷ []
statement_words funcs (Call f) = codes "call" ∷ name_at funcs f ∷ []
statement_words funcs (Only m f) = codes "only" ∷ decimal m ∷ name_at funcs f ∷ []
statement_words funcs (Repeat n f) = codes "repeat" ∷ decimal n ∷ name_at funcs f ∷ []
statement_words funcs s = setting_words s

-- a line of words, one space between them
unfoldable pub line_text : List (List ℕ) → List ℕ
line_text words = join_with_byte 32 words ++ 10 ∷ []

-- a head line `env NAME VALUE`
abbrev pub env_words : List ℕ → List ℕ → List (List ℕ)
env_words name value = codes "env" ∷ name ∷ value ∷ []

-- the words of the last four head lines
abbrev pub last_head_words : Env → List (List (List ℕ))
last_head_words e =
    env_words (codes "schedule") (schedule_text e.sched)
    ∷ env_words (codes "device") (decimal e.device)
    ∷ env_words (codes "debug") (debug_word e.debug)
    ∷ env_words (codes "procs") (decimal e.procs)
    ∷ []

-- the words of the head lines
abbrev pub head_words : ℕ → Env → List (List (List ℕ))
head_words threads e =
    (codes "threads" ∷ decimal threads ∷ [])
    ∷ env_words (codes "num_threads") (list_text e.nthreads)
    ∷ env_words (codes "dynamic") (truth_word e.dynamic)
    ∷ env_words (codes "max_active_levels") (decimal e.max_active)
    ∷ last_head_words e

-- a statement's line, indented by two spaces
abbrev pub statement_text : List Func → Stmt → List ℕ
statement_text funcs s = codes "  " ++ line_text (statement_words funcs s)

-- a function: its name, its statements and its end
abbrev pub function_text : List Func → Func → List ℕ
function_text funcs f =
    line_text (codes "func" ∷ text_of f.name ∷ [])
    ++ (flat_map (statement_text funcs) f.body ++ line_text (codes "end" ∷ []))

-- the canonical text
abbrev pub canonical : Program → List ℕ
canonical p =
    flat_map line_text (head_words p.threads p.env)
    ++ flat_map (function_text p.funcs) p.funcs
