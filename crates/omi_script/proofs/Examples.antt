-- The definitions at examples that were worked by hand.
use Rattle.std.proofs.Common.{◌≡◌, ℕ, true, false, List, [], ◌∷◌, ◌++◌, map, replicate, Some, None, refl}
use Rattle.std.specs.Prelude.{codes}
use Rattle.omi_script.specs.Canonical.{line_text, statement_words}
use Rattle.omi_script.specs.Lines.{lines, words}
use Rattle.omi_script.specs.Names.{are_distinct, is_name, is_name_text}
use Rattle.omi_script.specs.Numbers.{number_of, sizes_of}
use Rattle.omi_script.specs.Program.{is_program}
use Rattle.omi_script.specs.Ranges.{is_env, is_in_range}
use Rattle.omi_script.specs.Reach.{are_allowed}
use Rattle.omi_script.specs.declared.env.Env.{Env}
use Rattle.omi_script.specs.declared.function.Func.{Func}
use Rattle.omi_script.specs.declared.name.Name.{Name}
use Rattle.omi_script.specs.declared.statement.Stmt.{Stmt}
use Rattle.omi_script.specs.declared.statement.Stmt.TheVariants.{Parallel, Task, Taskwait, Barrier, Critical, Call, Only, Repeat, SetSchedule, Work}
use Rattle.std.specs.Fmt.{decimal}

-- lines and words
lines_two : lines (codes "a\n\nb\n") ≡ codes "a" ∷ [] ∷ codes "b" ∷ []
lines_two = refl

lines_open : lines (codes "a\nb") ≡ codes "a" ∷ codes "b" ∷ []
lines_open = refl

lines_none : lines [] ≡ []
lines_none = refl

words_three : words (codes " a\tbc  d\r") ≡ codes "a" ∷ codes "bc" ∷ codes "d" ∷ []
words_three = refl

-- numbers
number_zero : number_of 0 1 (codes "0") ≡ Some 0
number_zero = refl

number_leading_zero : number_of 0 9 (codes "01") ≡ None
number_leading_zero = refl

number_above : number_of 1 64 (codes "65") ≡ None
number_above = refl

sizes_two : sizes_of (codes "64,3") ≡ Some (64 ∷ 3 ∷ [])
sizes_two = refl

sizes_gap : sizes_of (codes "4,,2") ≡ None
sizes_gap = refl

sizes_five : sizes_of (codes "1,2,3,4,5") ≡ None
sizes_five = refl

-- names
name_good : is_name_text (codes "_a9") ≡ true
name_good = refl

name_digit : is_name_text (codes "9a") ≡ false
name_digit = refl

name_capital : is_name_text (codes "aB") ≡ false
name_capital = refl

name_32 : is_name_text (replicate 32 97) ≡ true
name_32 = refl

name_33 : is_name_text (replicate 33 97) ≡ false
name_33 = refl

names_twice : are_distinct (codes "a" ∷ codes "b" ∷ codes "a" ∷ []) ≡ false
names_twice = refl

-- a barrier is reached through a call that is repeated no times, and not through a parallel region
task_of_barrier : are_allowed [] ((Barrier ∷ []) ∷ (Task 0 false false ∷ []) ∷ []) ≡ false
task_of_barrier = refl

task_of_repeated_barrier : are_allowed [] ((Barrier ∷ []) ∷ (Repeat 0 0 ∷ []) ∷ (Task 1 false false ∷ []) ∷ []) ≡ false
task_of_repeated_barrier = refl

task_of_parallel_barrier : are_allowed [] ((Barrier ∷ []) ∷ (Parallel 0 None ∷ []) ∷ (Task 1 false false ∷ []) ∷ []) ≡ true
task_of_parallel_barrier = refl

only_of_barrier : are_allowed [] ((Barrier ∷ []) ∷ (Call 0 ∷ []) ∷ (Only 0 1 ∷ []) ∷ []) ≡ false
only_of_barrier = refl

critical_of_barrier : are_allowed [] ((Barrier ∷ []) ∷ (Critical 0 0 ∷ []) ∷ []) ≡ false
critical_of_barrier = refl

-- a function is named once it is closed
call_of_itself : are_allowed [] ((Call 0 ∷ []) ∷ []) ≡ false
call_of_itself = refl

-- function k of a chain is a parallel region over function k - 1, so it has the depth k
chain : List ℕ → List (List Stmt)
chain ks = (Work ∷ []) ∷ map (λ k. Parallel k None ∷ []) ks

depth_15 : are_allowed [] (chain (0 ∷ 1 ∷ 2 ∷ 3 ∷ 4 ∷ 5 ∷ 6 ∷ 7 ∷ 8 ∷ 9 ∷ 10 ∷ 11 ∷ 12 ∷ 13 ∷ 14 ∷ [])) ≡ true
unfolding chain
depth_15 = refl

depth_16 : are_allowed [] (chain (0 ∷ 1 ∷ 2 ∷ 3 ∷ 4 ∷ 5 ∷ 6 ∷ 7 ∷ 8 ∷ 9 ∷ 10 ∷ 11 ∷ 12 ∷ 13 ∷ 14 ∷ 15 ∷ [])) ≡ false
unfolding chain
depth_16 = refl

-- the program that `make 2` runs
name : ℕ → List ℕ → Name
name n bytes = record { len = n; bytes = bytes ++ replicate 28 0 }

-- each of its names has four bytes
made : List Func
made =
    record { name = name 4 (codes "leaf"); body = Work ∷ [] }
    ∷ record { name = name 4 (codes "node"); body = Task 0 false false ∷ Task 0 false false ∷ Taskwait ∷ [] }
    ∷ record { name = name 4 (codes "team"); body = Repeat 2 1 ∷ [] }
    ∷ record { name = name 4 (codes "main"); body = Parallel 2 (Some 4) ∷ [] }
    ∷ []

made_env : Env
made_env = record { nthreads = 4 ∷ []; dynamic = false; max_active = 8; sched = record { kind = 1; chunk = 0 }; device = 0; debug = true; procs = 4 }

made_is_program : is_program 4 made_env made 3 ≡ true
unfolding made made_env name
made_is_program = refl

made_main_elsewhere : is_program 4 made_env made 2 ≡ false
unfolding made made_env name
made_main_elsewhere = refl

made_with_65_threads : is_program 65 made_env made 3 ≡ false
unfolding made made_env name
made_with_65_threads = refl

-- numbers out of their ranges, whatever type a field may have
chunk_70000 : is_env (record made_env { sched = record { kind = 1; chunk = 70000 } }) ≡ false
unfolding made_env
chunk_70000 = refl

device_256 : is_env (record made_env { device = 256 }) ≡ false
unfolding made_env
device_256 = refl

levels_256 : is_env (record made_env { max_active = 256 }) ≡ false
unfolding made_env
levels_256 = refl

procs_65536 : is_env (record made_env { procs = 65536 }) ≡ false
unfolding made_env
procs_65536 = refl

set_chunk_70000 : is_in_range (SetSchedule (record { kind = 1; chunk = 70000 })) ≡ false
set_chunk_70000 = refl

-- a name of 33 bytes
name_33_bytes : is_name (record { len = 4; bytes = codes "leaf" ++ replicate 29 0 }) ≡ false
name_33_bytes = refl

-- words of statements in the canonical text
print_task : statement_words made (Task 0 true false) ≡ codes "task" ∷ codes "leaf" ∷ codes "if" ∷ codes "0" ∷ []
unfolding made name
print_task = refl

print_final_task : statement_words made (Task 1 false true) ≡ codes "task" ∷ codes "node" ∷ codes "final" ∷ codes "1" ∷ []
unfolding made name
print_final_task = refl

print_parallel : statement_words made (Parallel 2 (Some 4)) ≡ codes "parallel" ∷ codes "team" ∷ codes "num" ∷ decimal 4 ∷ []
unfolding made name
print_parallel = refl

print_line : line_text (codes "critical" ∷ codes "7" ∷ codes "leaf" ∷ []) ≡ codes "critical 7 leaf\n"
unfolding line_text
print_line = refl
