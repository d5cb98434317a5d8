-- The ranges of the numbers in a program.
use Rattle.std.specs.Prelude.{ℕ, Bool, true, ◌&&◌, nat_le, ◌^◌, ◌-◌, List, length, Option, Some, None}
use Rattle.std.specs.List.{list_all}
use Rattle.omi_numbers.specs.declared.schedules.TheConstants.{STATIC, AUTO}
use Rattle.omi_script.specs.Names.{is_within}
use Rattle.omi_script.specs.declared.env.Env.{Env}
use Rattle.omi_script.specs.declared.statement.Sched.{Sched}
use Rattle.omi_script.specs.declared.statement.Stmt.{Stmt}
use Rattle.omi_script.specs.declared.limits.TheConstants.{MAX_SIZE, MAX_SIZES, MAX_LEVELS, MAX_DEVICE, MAX_CHUNK, MAX_PROCS, MAX_LOCK, MAX_MEMBER, MAX_REPEATS}
use Rattle.omi_script.specs.declared.statement.Stmt.TheVariants.{Parallel, Task, Taskwait, Taskyield, Barrier, Critical, Call, Only, Repeat, Taskgroup, SetNumThreads, SetDynamic, SetMaxActive, SetSchedule, SetDevice, Tool, Work}

-- a team's size, as it is asked for
abbrev pub is_size : ℕ → Bool
is_size n = is_within 1 MAX_SIZE n

-- a number of nested active parallel regions
abbrev pub is_level_count : ℕ → Bool
is_level_count n = nat_le n MAX_LEVELS

-- a device's number
abbrev pub is_device : ℕ → Bool
is_device n = nat_le n MAX_DEVICE

-- the kind is one of static, dynamic, guided and auto, and the chunk not too large
abbrev pub is_schedule : Sched → Bool
is_schedule s = is_within STATIC AUTO s.kind && nat_le s.chunk MAX_CHUNK

-- the element list of nthreads-var
abbrev pub are_sizes : List ℕ → Bool
are_sizes ns = is_within 1 MAX_SIZES (length ns) && list_all is_size ns

-- a number of processors
abbrev pub is_processor_count : ℕ → Bool
is_processor_count n = is_within 1 MAX_PROCS n

-- the head of a program
abbrev pub is_env : Env → Bool
is_env e =
    are_sizes e.nthreads
    && is_level_count e.max_active
    && is_schedule e.sched
    && is_device e.device
    && is_processor_count e.procs

-- the size after `num`, if one is given
abbrev pub is_given_size : Option ℕ → Bool
is_given_size None = true
is_given_size (Some n) = is_size n

-- each number of a statement is in its range
abbrev pub is_in_range : Stmt → Bool
is_in_range (Parallel f num) = is_given_size num
is_in_range (Task f undeferred is_final) = true
is_in_range Taskwait = true
is_in_range Taskyield = true
is_in_range Barrier = true
is_in_range (Critical k f) = nat_le k MAX_LOCK
is_in_range (Taskgroup f) = true
is_in_range (Call f) = true
is_in_range (Only m f) = nat_le m MAX_MEMBER
is_in_range (Repeat n f) = nat_le n MAX_REPEATS
is_in_range (SetNumThreads n) = is_size n
is_in_range (SetDynamic b) = true
is_in_range (SetMaxActive n) = is_level_count n
is_in_range (SetSchedule s) = is_schedule s
is_in_range (SetDevice n) = is_device n
is_in_range (Tool x) = nat_le x (2 ^ 64 - 1)
is_in_range Work = true
