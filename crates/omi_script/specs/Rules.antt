-- The rules of the language as plain facts of a program. Only the size of a text is no matter of
-- a program.
use Rattle.std.specs.Prelude.{◌≡◌, ℕ, List, ◌<◌, ◌≤◌, ◌^◌, ◌-◌, Bool, false, IsTrue, [], length, drop, replicate, slice_get, slice_index, sum_by, Option, Some, codes}
use Rattle.omi_numbers.specs.declared.limits.TheConstants.{OPEN_GROUPS}
use Rattle.omi_numbers.specs.declared.schedules.TheConstants.{STATIC, AUTO}
use Rattle.omi_script.specs.Names.{text_of, is_name_text}
use Rattle.omi_script.specs.Bodies.{name_at, body_of, HasStatement, named_by}
use Rattle.omi_script.specs.Reach.{reach_of, reaches, reach_in}
use Rattle.omi_script.specs.declared.function.Func.{Func}
use Rattle.omi_script.specs.declared.limits.TheConstants.{MAX_THREADS, MAX_SIZE, MAX_SIZES, MAX_LEVELS, MAX_DEVICE, MAX_CHUNK, MAX_PROCS, MAX_NAME, MAX_FUNCTIONS, MAX_STATEMENTS, MAX_DEPTH, MAX_LOCK, MAX_MEMBER, MAX_REPEATS}
use Rattle.omi_script.specs.declared.name.Name.{Name}
use Rattle.omi_script.specs.declared.program.Program.{Program}
use Rattle.omi_script.specs.declared.statement.Sched.{Sched}
use Rattle.omi_script.specs.declared.statement.Stmt.{Stmt}
use Rattle.omi_script.specs.declared.statement.Stmt.TheVariants.{Parallel, Task, Critical, Only, Repeat, Taskgroup, SetNumThreads, SetMaxActive, SetSchedule, SetDevice, Tool}

-- a team's size, as it is asked for
abbrev pub IsSize : ℕ → Type 0
IsSize n = (1 ≤ n) × (n ≤ MAX_SIZE)

-- a schedule's kind (1 static, 2 dynamic, 3 guided, 4 auto), and its chunk
abbrev pub IsSchedule : Sched → Type 0
IsSchedule s = (STATIC ≤ s.kind) × (s.kind ≤ AUTO) × (s.chunk ≤ MAX_CHUNK)

-- the numbers of a statement lie in their ranges
abbrev pub IsInRange : Stmt → Type 0
IsInRange (Parallel f (Some n)) = IsSize n
IsInRange (Critical k f) = k ≤ MAX_LOCK
IsInRange (Only m f) = m ≤ MAX_MEMBER
IsInRange (Repeat n f) = n ≤ MAX_REPEATS
IsInRange (SetNumThreads n) = IsSize n
IsInRange (SetMaxActive n) = n ≤ MAX_LEVELS
IsInRange (SetSchedule s) = IsSchedule s
IsInRange (SetDevice n) = n ≤ MAX_DEVICE
IsInRange (Tool x) = x ≤ 2 ^ 64 - 1
IsInRange _ = Unit {0}

-- a name's bytes have the form of one, and zeros stand behind them
pub record IsName (n : Name) : Type 0 where
  pub form : IsTrue (is_name_text (text_of n))
  pub size : (1 ≤ n.len) × (n.len ≤ MAX_NAME)
  pub width : length n.bytes ≡ MAX_NAME
  pub zeros : drop n.len n.bytes ≡ replicate (MAX_NAME - n.len) 0

-- the function with this number reaches no barrier
abbrev pub HasNoBarrier : List Func → ℕ → Type 0
HasNoBarrier funcs f = (reach_in funcs f).barrier ≡ false

-- what holds of every program
pub record Rules (p : Program) : Type 0 where
  -- the head
  pub threads : (1 ≤ p.threads) × (p.threads ≤ MAX_THREADS)
  pub count : (1 ≤ length p.env.nthreads) × (length p.env.nthreads ≤ MAX_SIZES)
  pub sizes : (k : ℕ) → k < length p.env.nthreads → IsSize (slice_index p.env.nthreads k)
  pub max_active : p.env.max_active ≤ MAX_LEVELS
  pub schedule : IsSchedule p.env.sched
  pub device : p.env.device ≤ MAX_DEVICE
  pub procs : (1 ≤ p.env.procs) × (p.env.procs ≤ MAX_PROCS)
  -- the functions: their counts, their names, and the one called `main`
  pub functions : length p.funcs ≤ MAX_FUNCTIONS
  pub statements : sum_by (λ f. length f.body) p.funcs ≤ MAX_STATEMENTS
  pub names : (f : ℕ) (g : Func) → slice_get p.funcs f ≡ Some g → IsName g.name
  pub distinct : (f g : ℕ) → f < length p.funcs → g < length p.funcs
      → name_at p.funcs f ≡ name_at p.funcs g → f ≡ g
  pub main : p.main < length p.funcs
  pub called : name_at p.funcs p.main ≡ codes "main"
  -- each statement of a function f: its numbers, and the function g above f that it names
  pub ranges : (f : ℕ) (s : Stmt) → HasStatement p.funcs f s → IsInRange s
  pub above : (f g : ℕ) (s : Stmt) → HasStatement p.funcs f s → named_by s ≡ Some g → g < f
  -- what a function reaches is what its statements reach
  pub reach : (f : ℕ) → f < length p.funcs
      → reach_in p.funcs f ≡ reach_of (reaches [] p.funcs) (body_of p.funcs f)
  -- no barrier is reached through `task`, `only`, `critical` and `taskgroup`, and no parallel or
  -- taskgroup region is nested too deep
  pub no_barrier_in_task : (f g : ℕ) (undeferred is_final : Bool)
      → HasStatement p.funcs f (Task g undeferred is_final) → HasNoBarrier p.funcs g
  pub no_barrier_in_only : (f m g : ℕ)
      → HasStatement p.funcs f (Only m g) → HasNoBarrier p.funcs g
  pub no_barrier_in_critical : (f k g : ℕ)
      → HasStatement p.funcs f (Critical k g) → HasNoBarrier p.funcs g
  pub no_barrier_in_group : (f g : ℕ)
      → HasStatement p.funcs f (Taskgroup g) → HasNoBarrier p.funcs g
  pub depth : (f g : ℕ) (num : Option ℕ)
      → HasStatement p.funcs f (Parallel g num) → (reach_in p.funcs g).depth < MAX_DEPTH
  pub group_depth : (f g : ℕ)
      → HasStatement p.funcs f (Taskgroup g) → (reach_in p.funcs g).groups < OPEN_GROUPS
