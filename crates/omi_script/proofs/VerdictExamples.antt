-- The workload language at texts that were worked by hand: each fault at its first line, each
-- limit at its last good and first bad value.
use Rattle.std.proofs.Common.{◌≡◌, ℕ, true, false, List, [], ◌∷◌, ◌++◌, length, replicate, Some, None, refl, ap, if◌then◌else◌}
use Rattle.std.specs.Prelude.{codes, nat_le}
use Rattle.omi_script.specs.Grammar.{env_of}
use Rattle.omi_script.specs.LineFaults.{has_fault, least}
use Rattle.omi_script.specs.Lines.{lines}
use Rattle.omi_script.specs.Names.{name_of}
use Rattle.omi_script.specs.ParserState.{first_state, no_head}
use Rattle.omi_script.specs.Verdict.{Accepts, Refuses, Verdict, judge, verdict}
use Rattle.omi_script.specs.declared.fault.Why.{Why}
use Rattle.omi_script.specs.declared.function.Func.{Func}
use Rattle.omi_script.specs.declared.head.Head.{Head}
use Rattle.omi_script.specs.declared.limits.TheConstants.{MAX_BYTES}
use Rattle.omi_script.specs.declared.parser.ParserState.{ParserState}
use Rattle.omi_script.specs.declared.statement.Stmt.{Stmt}
use Rattle.omi_script.specs.declared.fault.Why.TheVariants.{NotText, UnknownWord, BadNumber, UnknownName, Repeated, BarrierInTask, BarrierNested, OverLimit, NoMain, Unclosed}
use Rattle.omi_script.specs.declared.statement.Stmt.TheVariants.{Parallel, Task, Taskwait, Barrier, Repeat, SetSchedule, Work}

-- the verdict: this line has this fault
refuses : ℕ → Why → Verdict
refuses n why = Refuses (record { line = n; why = why })

-- a function
func : List ℕ → List Stmt → Func
func name body = record { name = name_of name; body = body }

-- the verdict: a program of these head lines and functions
accepts : Head → List Func → Verdict
accepts head funcs = Accepts (record { head = head; closed = funcs; opened = None })

-- no head lines
no_head_lines : Head
no_head_lines = no_head

empty : verdict [] ≡ refuses 1 NoMain
unfolding refuses
empty = refl

-- NotText, also in a comment; a carriage return is text
zero_byte : verdict (codes "func main\n" ++ 0 ∷ codes "\nend\n") ≡ refuses 2 NotText
unfolding refuses
zero_byte = refl

comment_byte : verdict (35 ∷ 127 ∷ []) ≡ refuses 1 NotText
unfolding refuses
comment_byte = refl

carriage_return : verdict (codes "func main\r\n\twork\r\nend\r\n") ≡ accepts no_head_lines (func (codes "main") (Work ∷ []) ∷ [])
unfolding accepts no_head_lines func
carriage_return = refl

-- NoMain, at the line past the last
no_main_behind_comments : verdict (codes "# x\n\n") ≡ refuses 3 NoMain
unfolding refuses
no_main_behind_comments = refl

no_main_other : verdict (codes "func a\nend\n") ≡ refuses 3 NoMain
unfolding refuses
no_main_other = refl

-- a text that ends inside its only function: both faults stand on one line
no_main_open : verdict (codes "func f\nwork\n") ≡ refuses 3 NoMain
unfolding refuses
no_main_open = refl

-- Unclosed
unclosed : verdict (codes "func main\nwork\n") ≡ refuses 3 Unclosed
unfolding refuses
unclosed = refl

-- UnknownWord: no shape that is allowed at its state
head_behind_function : verdict (codes "func main\nend\nthreads 1\n") ≡ refuses 3 UnknownWord
unfolding refuses
head_behind_function = refl

statement_outside : verdict (codes "work\n") ≡ refuses 1 UnknownWord
unfolding refuses
statement_outside = refl

end_outside : verdict (codes "end\n") ≡ refuses 1 UnknownWord
unfolding refuses
end_outside = refl

function_inside : verdict (codes "func main\nfunc a\n") ≡ refuses 2 UnknownWord
unfolding refuses
function_inside = refl

word_behind : verdict (codes "func main\ntaskwait 1\nend\n") ≡ refuses 2 UnknownWord
unfolding refuses
word_behind = refl

capital : verdict (codes "func main\nWORK\nend\n") ≡ refuses 2 UnknownWord
unfolding refuses
capital = refl

list_gap : verdict (codes "env num_threads 4,,2\n") ≡ refuses 1 UnknownWord
unfolding refuses
list_gap = refl

list_open : verdict (codes "env num_threads 4,\n") ≡ refuses 1 UnknownWord
unfolding refuses
list_open = refl

schedule_three : verdict (codes "env schedule static,1,2\n") ≡ refuses 1 UnknownWord
unfolding refuses
schedule_three = refl

schedule_one : verdict (codes "env schedule static\n") ≡ refuses 1 UnknownWord
unfolding refuses
schedule_one = refl

schedule_kind : verdict (codes "env schedule odd,x\n") ≡ refuses 1 UnknownWord
unfolding refuses
schedule_kind = refl

truth_number : verdict (codes "env dynamic 1\n") ≡ refuses 1 UnknownWord
unfolding refuses
truth_number = refl

final_first : verdict (codes "func a\nend\nfunc main\ntask a final 1 if 0\nend\n") ≡ refuses 4 UnknownWord
unfolding refuses
final_first = refl

-- BadNumber
threads_none : verdict (codes "threads 0\n") ≡ refuses 1 BadNumber
unfolding refuses
threads_none = refl

threads_65 : verdict (codes "threads 65\n") ≡ refuses 1 BadNumber
unfolding refuses
threads_65 = refl

threads_leading_zero : verdict (codes "threads 01\n") ≡ refuses 1 BadNumber
unfolding refuses
threads_leading_zero = refl

sizes_five : verdict (codes "env num_threads 1,2,3,4,5\n") ≡ refuses 1 BadNumber
unfolding refuses
sizes_five = refl

sizes_semicolon : verdict (codes "env num_threads 4;2\n") ≡ refuses 1 BadNumber
unfolding refuses
sizes_semicolon = refl

schedule_chunk : verdict (codes "env schedule auto,MAX_BYTES\n") ≡ refuses 1 BadNumber
unfolding refuses
schedule_chunk = refl

procs_none : verdict (codes "env procs 0\n") ≡ refuses 1 BadNumber
unfolding refuses
procs_none = refl

size_65 : verdict (codes "func main\nset_num_threads 65\nend\n") ≡ refuses 2 BadNumber
unfolding refuses
size_65 = refl

repeat_1001 : verdict (codes "func a\nend\nfunc main\nrepeat 1001 a\nend\n") ≡ refuses 4 BadNumber
unfolding refuses
repeat_1001 = refl

tool_too_large : verdict (codes "func main\ntool 18446744073709551616\nend\n") ≡ refuses 2 BadNumber
unfolding refuses
tool_too_large = refl

-- UnknownName
name_digit : verdict (codes "func 9a\n") ≡ refuses 1 UnknownName
unfolding refuses
name_digit = refl

name_nowhere : verdict (codes "func main\ntask g\nend\n") ≡ refuses 2 UnknownName
unfolding refuses
name_nowhere = refl

name_itself : verdict (codes "func main\ncall main\nend\n") ≡ refuses 2 UnknownName
unfolding refuses
name_itself = refl

name_below : verdict (codes "func main\ncall a\nend\nfunc a\nend\n") ≡ refuses 2 UnknownName
unfolding refuses
name_below = refl

-- Repeated
threads_twice : verdict (codes "threads 1\n\nthreads 1\n") ≡ refuses 3 Repeated
unfolding refuses
threads_twice = refl

debug_twice : verdict (codes "env debug enabled\nenv debug disabled\n") ≡ refuses 2 Repeated
unfolding refuses
debug_twice = refl

name_twice : verdict (codes "func a\nend\nfunc a\nend\n") ≡ refuses 3 Repeated
unfolding refuses
name_twice = refl

-- BarrierInTask and BarrierNested, also where the barrier is reached through other functions
barrier_in_task : verdict (codes "func b\nbarrier\nend\nfunc main\ntask b\nend\n") ≡ refuses 5 BarrierInTask
unfolding refuses
barrier_in_task = refl

barrier_in_task_far : verdict (codes "func b\nbarrier\nend\nfunc c\nrepeat 0 b\nend\nfunc d\ncall c\nend\nfunc main\ntask d\nend\n") ≡ refuses 11 BarrierInTask
unfolding refuses
barrier_in_task_far = refl

barrier_nested : verdict (codes "func b\nbarrier\nend\nfunc main\nonly 0 b\nend\n") ≡ refuses 5 BarrierNested
unfolding refuses
barrier_nested = refl

barrier_in_critical : verdict (codes "func b\nbarrier\nend\nfunc main\ncritical 7 b\nend\n") ≡ refuses 5 BarrierNested
unfolding refuses
barrier_in_critical = refl

-- the text of a function with one region over another function
over : List ℕ → List ℕ → List ℕ
over name under = codes "func " ++ name ++ codes "\nparallel " ++ under ++ codes "\nend\n"

-- the texts of the functions a to p, each with a region over the one before it
tower : List ℕ
tower =
    codes "func a\nwork\nend\n"
    ++ over (codes "b") (codes "a")
    ++ over (codes "c") (codes "b")
    ++ over (codes "d") (codes "c")
    ++ over (codes "e") (codes "d")
    ++ over (codes "f") (codes "e")
    ++ over (codes "g") (codes "f")
    ++ over (codes "h") (codes "g")
    ++ over (codes "i") (codes "h")
    ++ over (codes "j") (codes "i")
    ++ over (codes "k") (codes "j")
    ++ over (codes "l") (codes "k")
    ++ over (codes "m") (codes "l")
    ++ over (codes "n") (codes "m")
    ++ over (codes "o") (codes "n")
    ++ over (codes "p") (codes "o")

-- the functions a to p
tower_functions : List Func
tower_functions =
    func (codes "a") (Work ∷ [])
    ∷ func (codes "b") (Parallel 0 None ∷ [])
    ∷ func (codes "c") (Parallel 1 None ∷ [])
    ∷ func (codes "d") (Parallel 2 None ∷ [])
    ∷ func (codes "e") (Parallel 3 None ∷ [])
    ∷ func (codes "f") (Parallel 4 None ∷ [])
    ∷ func (codes "g") (Parallel 5 None ∷ [])
    ∷ func (codes "h") (Parallel 6 None ∷ [])
    ∷ func (codes "i") (Parallel 7 None ∷ [])
    ∷ func (codes "j") (Parallel 8 None ∷ [])
    ∷ func (codes "k") (Parallel 9 None ∷ [])
    ∷ func (codes "l") (Parallel 10 None ∷ [])
    ∷ func (codes "m") (Parallel 11 None ∷ [])
    ∷ func (codes "n") (Parallel 12 None ∷ [])
    ∷ func (codes "o") (Parallel 13 None ∷ [])
    ∷ func (codes "p") (Parallel 14 None ∷ [])
    ∷ []

-- OverLimit: a region over a function of depth 15
depth_16 : verdict (tower ++ codes "func main\nparallel p\nend\n") ≡ refuses 50 OverLimit
unfolding refuses tower over
depth_16 = refl

-- two faults on one line, and on two lines
two_on_a_line : verdict (codes "func main\ncritical 8 g\nend\n") ≡ refuses 2 BadNumber
unfolding refuses
two_on_a_line = refl

two_on_a_line_of_a_task : verdict (codes "func b\nbarrier\nend\nfunc main\ntask b if 2\nend\n") ≡ refuses 5 BadNumber
unfolding refuses
two_on_a_line_of_a_task = refl

name_bad_twice : verdict (codes "func a\nend\nfunc A\nend\n") ≡ refuses 3 UnknownName
unfolding refuses
name_bad_twice = refl

two_lines : verdict (codes "threads 0\nwork\n") ≡ refuses 1 BadNumber
unfolding refuses
two_lines = refl

-- the depth 15 is good
depth_15 : verdict (tower ++ codes "func main\nparallel o\nend\n")
    ≡ accepts no_head_lines (tower_functions ++ func (codes "main") (Parallel 14 None ∷ []) ∷ [])
unfolding accepts no_head_lines func tower tower_functions over
depth_15 = refl

-- more than 65,536 bytes
too_long : (bytes : List ℕ) → nat_le (length bytes) MAX_BYTES ≡ false → verdict bytes ≡ refuses 1 OverLimit
unfolding refuses
too_long bytes h =
    ap
    (λ b. if b then judge 1 first_state (lines bytes) else Refuses (record { line = 1; why = OverLimit })) h

-- a state after so many functions, and inside one after so many statements
behind_functions : ℕ → ParserState
behind_functions n = record { head = no_head; closed = replicate n (record { name = name_of (codes "a"); body = [] }); opened = None }

behind_statements : ℕ → ParserState
behind_statements n = record { head = no_head; closed = []; opened = Some (record { name = name_of (codes "a"); body = replicate n Work }) }

function_64 : least (has_fault (behind_functions 63) (codes "func b")) ≡ None
unfolding behind_functions
function_64 = refl

function_65 : least (has_fault (behind_functions 64) (codes "func b")) ≡ Some OverLimit
unfolding behind_functions
function_65 = refl

-- the 65th function with a bad name
function_65_name : least (has_fault (behind_functions 64) (codes "func 9")) ≡ Some UnknownName
unfolding behind_functions
function_65_name = refl

statement_4096 : least (has_fault (behind_statements 4095) (codes "work")) ≡ None
unfolding behind_statements
statement_4096 = refl

statement_4097 : least (has_fault (behind_statements 4096) (codes "work")) ≡ Some OverLimit
unfolding behind_statements
statement_4097 = refl

-- the names of two functions in one statement list, with all that may stand after a task
tasks : verdict
    (codes "func a\nend\nfunc main\ntask a if 1\ntask a if 0\ntask a final 1\ntask a final 0\n"
    ++ codes "task a if 0 final 1\nparallel a num 64\nset_schedule guided 9\nend")
    ≡ accepts no_head_lines
    (func (codes "a") []
    ∷ func (codes "main")
    (Task 0 false false ∷ Task 0 true false ∷ Task 0 false true ∷ Task 0 false false ∷ Task 0 true true
    ∷ Parallel 0 (Some 64) ∷ SetSchedule (record { kind = 3; chunk = 9 }) ∷ [])
    ∷ [])
unfolding accepts no_head_lines func
tasks = refl

-- a barrier after a parallel region does not count
barrier_behind_region : verdict
    (codes "func b\nbarrier\nend\nfunc p\nparallel b\nend\nfunc main\ntask p\nend\n")
    ≡ accepts no_head_lines
    (func (codes "b") (Barrier ∷ [])
    ∷ func (codes "p") (Parallel 0 None ∷ [])
    ∷ func (codes "main") (Task 1 false false ∷ [])
    ∷ [])
unfolding accepts no_head_lines func
barrier_behind_region = refl

-- the text of `make 2`
made_text : verdict
    (codes "threads 4\nfunc leaf\n  work\nend\nfunc node\n  task leaf\n  task leaf\n  taskwait\nend\n"
    ++ codes "func team\n  repeat 2 node\nend\nfunc main\n  parallel team num 4\nend\n")
    ≡ accepts (record no_head { threads = Some 4 })
    (func (codes "leaf") (Work ∷ [])
    ∷ func (codes "node") (Task 0 false false ∷ Task 0 false false ∷ Taskwait ∷ [])
    ∷ func (codes "team") (Repeat 2 1 ∷ [])
    ∷ func (codes "main") (Parallel 2 (Some 4) ∷ [])
    ∷ [])
unfolding accepts func
made_text = refl

-- the defaults: nthreads-var has the number of threads
defaults : env_of (record no_head { threads = Some 4 }) ≡ record { nthreads = 4 ∷ []; dynamic = false; max_active = 8; sched = record { kind = 1; chunk = 0 }; device = 0; debug = true; procs = 4 }
defaults = refl

-- all head lines, in another order than the canonical text's
all_heads : verdict
    (codes "env procs 65535\nenv debug disabled\nenv device 255\nenv schedule auto,65535\n"
    ++ codes "env max_active_levels 0\nenv dynamic true\nenv num_threads 64,1,2,3\nthreads 16\n"
    ++ codes "func main\nend\n")
    ≡ accepts (record {
      threads = Some 16;
      nthreads = Some (64 ∷ 1 ∷ 2 ∷ 3 ∷ []);
      dynamic = Some true;
      max_active = Some 0;
      sched = Some (record { kind = 4; chunk = 65535 });
      device = Some 255;
      debug = Some false;
      procs = Some 65535;
    }) (func (codes "main") [] ∷ [])
unfolding accepts func
all_heads = refl
