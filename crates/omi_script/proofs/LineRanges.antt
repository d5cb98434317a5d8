-- What a line says keeps the rules that need no other line: its numbers are in their ranges, and
-- a stand-alone statement names no function.
use Rattle.std.proofs.Common.{◌≡◌, ℕ, Bool, true, false, not, ◌&&◌, List, [], ◌∷◌, length, Option, Some, None, refl, if◌then◌else◌, ◌==◌}
use Rattle.std.specs.Prelude.{bytes_eq, codes, nat_le, is_some}
use Rattle.std.specs.List.{slice_split}
use Rattle.std.specs.Option.{option_map}
use Rattle.omi_script.specs.declared.line.HeadLine.TheVariants.{Threads, NumThreads, Dynamic, MaxActive, Schedule, Device, Debug, Procs}
use Rattle.omi_script.specs.declared.line.SourceLine.TheVariants as line
use Rattle.omi_script.specs.declared.statement.Construct.TheVariants as construct
use Rattle.omi_script.specs.declared.statement.Stmt.TheVariants.{Taskwait, Taskyield, Barrier, SetNumThreads, SetDynamic, SetMaxActive, SetSchedule, SetDevice, Tool, Work}
use Rattle.omi_script.specs.Bodies.{named_by}
use Rattle.omi_script.specs.Constructs.{over}
use Rattle.omi_script.specs.HeadLines.{device_line, env_line, has_empty_piece, head_after, is_first_of, kind_and_chunk, max_active_line, procs_line, setting_line, threads_line}
use Rattle.omi_script.specs.Line.{begins_comment, closing_line, function_line, line_by, line_of}
use Rattle.omi_script.specs.Names.{is_within}
use Rattle.omi_script.specs.Numbers.{is_comma, number_of, sizes_of}
use Rattle.omi_script.specs.Ranges.{are_sizes, is_device, is_in_range, is_level_count, is_processor_count, is_schedule}
use Rattle.omi_numbers.specs.Schedules.{schedule_kind_of}
use Rattle.omi_script.specs.StatementLines.{bare_line, call_line, critical_line, group_line, only_line, parallel_line, repeat_line, set_device_line, set_dynamic_line, set_max_active_line, set_num_threads_line, set_schedule_line, statement_line, task_construct_line, task_construct, tool_line}
use Rattle.omi_script.specs.declared.head.Head.{Head}
use Rattle.omi_script.specs.declared.limits.TheConstants.{MAX_CHUNK, MAX_DEVICE, MAX_LEVELS, MAX_LOCK, MAX_MEMBER, MAX_PROCS, MAX_REPEATS, MAX_SIZE, MAX_THREADS}
use Rattle.omi_script.specs.declared.line.HeadLine.{HeadLine}
use Rattle.omi_script.specs.declared.line.SourceLine.{SourceLine}
use Rattle.omi_script.specs.declared.statement.Construct.{Construct}
use Rattle.omi_script.specs.declared.statement.Stmt.{Stmt}
use Rattle.omi_script.proofs.Conjunctions.{and_true}
use Rattle.omi_script.proofs.RangeLemmas.{passes, number_within, number_up_to, sizes_sound}

-- a head whose numbers are in their ranges
pub record AreInRange (h : Head) : Type 0 where
  pub threads : passes (is_within 1 MAX_THREADS) h.threads ≡ true
  pub sizes : passes are_sizes h.nthreads ≡ true
  pub levels : passes is_level_count h.max_active ≡ true
  pub schedule : passes is_schedule h.sched ≡ true
  pub device : passes is_device h.device ≡ true
  pub procs : passes is_processor_count h.procs ≡ true

-- the number of a head line is in its range, if it has one
abbrev pub is_head_in_range : HeadLine → Bool
is_head_in_range (Threads n) = passes (is_within 1 MAX_THREADS) n
is_head_in_range (NumThreads ns) = passes are_sizes ns
is_head_in_range (Dynamic b) = true
is_head_in_range (MaxActive n) = passes is_level_count n
is_head_in_range (Schedule s) = passes is_schedule s
is_head_in_range (Device n) = passes is_device n
is_head_in_range (Debug b) = true
is_head_in_range (Procs n) = passes is_processor_count n

-- one more head line keeps the ranges
pub head_kept : (h : Head) (l : HeadLine) → is_head_in_range l ≡ true → AreInRange h
    → AreInRange (head_after h l)
head_kept h (Threads None) e k = k
head_kept h (Threads (Some n)) e k = record { threads = e; sizes = k.sizes; levels = k.levels; schedule = k.schedule; device = k.device; procs = k.procs }
head_kept h (NumThreads None) e k = k
head_kept h (NumThreads (Some ns)) e k = record { threads = k.threads; sizes = e; levels = k.levels; schedule = k.schedule; device = k.device; procs = k.procs }
head_kept h (Dynamic b) e k = record { threads = k.threads; sizes = k.sizes; levels = k.levels; schedule = k.schedule; device = k.device; procs = k.procs }
head_kept h (MaxActive None) e k = k
head_kept h (MaxActive (Some n)) e k = record { threads = k.threads; sizes = k.sizes; levels = e; schedule = k.schedule; device = k.device; procs = k.procs }
head_kept h (Schedule None) e k = k
head_kept h (Schedule (Some s)) e k = record { threads = k.threads; sizes = k.sizes; levels = k.levels; schedule = e; device = k.device; procs = k.procs }
head_kept h (Device None) e k = k
head_kept h (Device (Some n)) e k = record { threads = k.threads; sizes = k.sizes; levels = k.levels; schedule = k.schedule; device = e; procs = k.procs }
head_kept h (Debug b) e k = record { threads = k.threads; sizes = k.sizes; levels = k.levels; schedule = k.schedule; device = k.device; procs = k.procs }
head_kept h (Procs None) e k = k
head_kept h (Procs (Some n)) e k = record { threads = k.threads; sizes = k.sizes; levels = k.levels; schedule = k.schedule; device = k.device; procs = e }

-- a statement in range that names no function
abbrev pub is_alone_in_range : Stmt → Bool
is_alone_in_range s = is_in_range s && not (is_some (named_by s))

-- a construct in range, over whatever function
abbrev pub is_construct_in_range : Construct → Bool
is_construct_in_range c = is_in_range (over c 0)

-- a line whose numbers are in their ranges
abbrev pub is_line_in_range : SourceLine → Bool
is_line_in_range line.Blank = true
is_line_in_range (line.Head h) = is_head_in_range h
is_line_in_range (line.Function name) = true
is_line_in_range (line.Construct name c) = passes is_construct_in_range c
is_line_in_range (line.StandAlone s) = passes is_alone_in_range s
is_line_in_range line.End = true

abbrev pub is_good : Option SourceLine → Bool
is_good o = passes is_line_in_range o

chosen : (b : Bool) (x y : Option SourceLine) → is_good x ≡ true → is_good y ≡ true
    → is_good (if b then x else y) ≡ true
chosen true x y h k = h
chosen false x y h k = k

mapped : {A B : Type 0} (f : A → B) (p : A → Bool) (q : B → Bool) (o : Option A)
    → ((x : A) → p x ≡ true → q (f x) ≡ true) → passes p o ≡ true → passes q (option_map f o) ≡ true
mapped f p q None h e = refl
mapped f p q (Some x) h e = h x e

-- the number of a kind
abbrev pub is_kind : Option ℕ → Bool
is_kind o = passes (is_within 1 4) o

kind_chosen : (b : Bool) (x y : Option ℕ) → is_kind x ≡ true → is_kind y ≡ true
    → is_kind (if b then x else y) ≡ true
kind_chosen true x y h k = h
kind_chosen false x y h k = k

kind_within : (word : List ℕ) → is_kind (schedule_kind_of word) ≡ true
kind_within word =
    kind_chosen (bytes_eq word (codes "static")) _ _ refl
    (kind_chosen (bytes_eq word (codes "dynamic")) _ _ refl
    (kind_chosen (bytes_eq word (codes "guided")) _ _ refl
    (kind_chosen (bytes_eq word (codes "auto")) _ _ refl refl)))

-- a head line
abbrev is_good_head : Option HeadLine → Bool
is_good_head o = passes is_head_in_range o

head_chosen : (b : Bool) (x y : Option HeadLine) → is_good_head x ≡ true → is_good_head y ≡ true
    → is_good_head (if b then x else y) ≡ true
head_chosen true x y h k = h
head_chosen false x y h k = k

threads_good : (ws : List (List ℕ)) → is_good_head (threads_line ws) ≡ true
threads_good [] = refl
threads_good (n ∷ []) = number_within 1 MAX_THREADS n
threads_good (n ∷ m ∷ ws) = refl

-- a kind and a chunk in range
with_chunk : (k : ℕ) (chunk : List ℕ) → is_within 1 4 k ≡ true
    → passes is_schedule (option_map (λ n. record { kind = k; chunk = n }) (number_of 0 MAX_CHUNK chunk)) ≡ true
with_chunk k chunk e =
    mapped (λ (n : ℕ). record { kind = k; chunk = n }) (λ n. nat_le n MAX_CHUNK) is_schedule
    (number_of 0 MAX_CHUNK chunk) (λ n l. and_true (is_within 1 4 k) (nat_le n MAX_CHUNK) e l)
    (number_up_to MAX_CHUNK chunk)

with_kind : (o : Option ℕ) (chunk : List ℕ) → is_kind o ≡ true
    → is_good_head (option_map (λ k. Schedule (option_map (λ n. record { kind = k; chunk = n }) (number_of 0 MAX_CHUNK chunk))) o) ≡ true
with_kind None chunk e = refl
with_kind (Some k) chunk e = with_chunk k chunk e

schedule_good : (pieces : List (List ℕ)) → is_good_head (kind_and_chunk pieces) ≡ true
schedule_good [] = refl
schedule_good (kind ∷ []) = refl
schedule_good (kind ∷ chunk ∷ []) =
    head_chosen (length chunk == 0) None _ refl (with_kind (schedule_kind_of kind) chunk (kind_within kind))
schedule_good (kind ∷ chunk ∷ more ∷ pieces) = refl

dynamic_good : (o : Option Bool) → is_good_head (option_map Dynamic o) ≡ true
dynamic_good None = refl
dynamic_good (Some b) = refl

debug_good : (o : Option Bool) → is_good_head (option_map Debug o) ≡ true
debug_good None = refl
debug_good (Some b) = refl

setting_good : (name value : List ℕ) → is_good_head (setting_line name value) ≡ true
setting_good name value =
    head_chosen (bytes_eq name (codes "num_threads")) _ _
    (head_chosen (has_empty_piece value) None (Some (NumThreads (sizes_of value))) refl (sizes_sound value))
    (head_chosen (bytes_eq name (codes "dynamic")) _ _ (dynamic_good (is_first_of (codes "true") (codes "false") value))
    (head_chosen (bytes_eq name (codes "max_active_levels")) (max_active_line value) _ (number_up_to MAX_LEVELS value)
    (head_chosen (bytes_eq name (codes "schedule")) _ _ (schedule_good (slice_split is_comma value))
    (head_chosen (bytes_eq name (codes "device")) (device_line value) _ (number_up_to MAX_DEVICE value)
    (head_chosen (bytes_eq name (codes "debug")) _ _ (debug_good (is_first_of (codes "enabled") (codes "disabled") value))
    (head_chosen (bytes_eq name (codes "procs")) (procs_line value) None (number_within 1 MAX_PROCS value) refl))))))

env_good : (ws : List (List ℕ)) → is_good_head (env_line ws) ≡ true
env_good [] = refl
env_good (name ∷ []) = refl
env_good (name ∷ value ∷ []) = setting_good name value
env_good (name ∷ value ∷ more ∷ ws) = refl

as_line : (o : Option HeadLine) → is_good_head o ≡ true → is_good (option_map line.Head o) ≡ true
as_line None e = refl
as_line (Some h) e = e

-- a construct with a number
numbered : (p : ℕ → Bool) (make : ℕ → Construct) (name : List ℕ) (o : Option ℕ)
    → ((n : ℕ) → p n ≡ true → is_construct_in_range (make n) ≡ true) → passes p o ≡ true
    → is_good (Some (line.Construct name (option_map make o))) ≡ true
numbered p make name o h e = mapped make p is_construct_in_range o h e

parallel_good : (ws : List (List ℕ)) → is_good (parallel_line ws) ≡ true
parallel_good [] = refl
parallel_good (f ∷ []) = refl
parallel_good (f ∷ word ∷ []) = refl
parallel_good (f ∷ word ∷ n ∷ []) =
    chosen (bytes_eq word (codes "num")) _ None
    (numbered (is_within 1 MAX_SIZE) (λ m. construct.Parallel (Some m)) f (number_of 1 MAX_SIZE n) (λ m e. e) (number_within 1 MAX_SIZE n)) refl
parallel_good (f ∷ word ∷ n ∷ more ∷ ws) = refl

task_of_good : (f : List ℕ) (deferred last : Option ℕ)
    → is_good (Some (task_construct f deferred last)) ≡ true
task_of_good f None last = refl
task_of_good f (Some d) None = refl
task_of_good f (Some d) (Some l) = refl

task_good : (ws : List (List ℕ)) → is_good (task_construct_line ws) ≡ true
task_good [] = refl
task_good (f ∷ []) = refl
task_good (f ∷ word ∷ []) = refl
task_good (f ∷ word ∷ b ∷ []) =
    chosen (bytes_eq word (codes "if")) _ _ (task_of_good f (number_of 0 1 b) (Some 0))
    (chosen (bytes_eq word (codes "final")) _ None (task_of_good f (Some 1) (number_of 0 1 b)) refl)
task_good (f ∷ word ∷ b ∷ other ∷ []) = refl
task_good (f ∷ word ∷ b ∷ other ∷ c ∷ []) =
    chosen (bytes_eq word (codes "if") && bytes_eq other (codes "final")) _ None
    (task_of_good f (number_of 0 1 b) (number_of 0 1 c)) refl
task_good (f ∷ word ∷ b ∷ other ∷ c ∷ more ∷ ws) = refl

bare_good : (s : Stmt) (ws : List (List ℕ)) → is_alone_in_range s ≡ true → is_good (bare_line s ws) ≡ true
bare_good s [] e = e
bare_good s (more ∷ ws) e = refl

critical_good : (ws : List (List ℕ)) → is_good (critical_line ws) ≡ true
critical_good [] = refl
critical_good (k ∷ []) = refl
critical_good (k ∷ f ∷ []) =
    numbered (λ n. nat_le n MAX_LOCK) construct.Critical f (number_of 0 MAX_LOCK k) (λ n e. e)
    (number_up_to MAX_LOCK k)
critical_good (k ∷ f ∷ more ∷ ws) = refl

group_good : (ws : List (List ℕ)) → is_good (group_line ws) ≡ true
group_good [] = refl
group_good (f ∷ []) = refl
group_good (f ∷ more ∷ ws) = refl

call_good : (ws : List (List ℕ)) → is_good (call_line ws) ≡ true
call_good [] = refl
call_good (f ∷ []) = refl
call_good (f ∷ more ∷ ws) = refl

only_good : (ws : List (List ℕ)) → is_good (only_line ws) ≡ true
only_good [] = refl
only_good (m ∷ []) = refl
only_good (m ∷ f ∷ []) =
    numbered (λ n. nat_le n MAX_MEMBER) construct.Only f (number_of 0 MAX_MEMBER m) (λ n e. e)
    (number_up_to MAX_MEMBER m)
only_good (m ∷ f ∷ more ∷ ws) = refl

repeat_good : (ws : List (List ℕ)) → is_good (repeat_line ws) ≡ true
repeat_good [] = refl
repeat_good (n ∷ []) = refl
repeat_good (n ∷ f ∷ []) =
    numbered (λ m. nat_le m MAX_REPEATS) construct.Repeat f (number_of 0 MAX_REPEATS n) (λ m e. e)
    (number_up_to MAX_REPEATS n)
repeat_good (n ∷ f ∷ more ∷ ws) = refl

-- a stand-alone statement with a number
set_good : (p : ℕ → Bool) (make : ℕ → Stmt) (o : Option ℕ)
    → ((n : ℕ) → p n ≡ true → is_alone_in_range (make n) ≡ true) → passes p o ≡ true
    → is_good (Some (line.StandAlone (option_map make o))) ≡ true
set_good p make o h e = mapped make p is_alone_in_range o h e

set_num_threads_good : (ws : List (List ℕ)) → is_good (set_num_threads_line ws) ≡ true
set_num_threads_good [] = refl
set_num_threads_good (n ∷ []) =
    set_good (is_within 1 MAX_SIZE) SetNumThreads (number_of 1 MAX_SIZE n)
    (λ m e. and_true (is_within 1 MAX_SIZE m) true e refl) (number_within 1 MAX_SIZE n)
set_num_threads_good (n ∷ more ∷ ws) = refl

set_dynamic_good : (ws : List (List ℕ)) → is_good (set_dynamic_line ws) ≡ true
set_dynamic_good [] = refl
set_dynamic_good (b ∷ []) =
    set_good (is_within 0 1) (λ n. SetDynamic (n == 1)) (number_of 0 1 b) (λ m e. refl) (number_within 0 1 b)
set_dynamic_good (b ∷ more ∷ ws) = refl

set_max_active_good : (ws : List (List ℕ)) → is_good (set_max_active_line ws) ≡ true
set_max_active_good [] = refl
set_max_active_good (n ∷ []) =
    set_good is_level_count SetMaxActive (number_of 0 MAX_LEVELS n)
    (λ m e. and_true (is_level_count m) true e refl) (number_up_to MAX_LEVELS n)
set_max_active_good (n ∷ more ∷ ws) = refl

set_schedule_kind : (o : Option ℕ) (chunk : List ℕ) → is_kind o ≡ true
    → is_good (option_map (λ k. line.StandAlone (option_map (λ n. SetSchedule (record { kind = k; chunk = n })) (number_of 0 MAX_CHUNK chunk))) o) ≡ true
set_schedule_kind None chunk e = refl
set_schedule_kind (Some k) chunk e =
    set_good (λ n. nat_le n MAX_CHUNK) (λ n. SetSchedule (record { kind = k; chunk = n }))
    (number_of 0 MAX_CHUNK chunk)
    (λ n l. and_true (is_within 1 4 k && nat_le n MAX_CHUNK) true (and_true (is_within 1 4 k) (nat_le n MAX_CHUNK) e l) refl)
    (number_up_to MAX_CHUNK chunk)

set_schedule_good : (ws : List (List ℕ)) → is_good (set_schedule_line ws) ≡ true
set_schedule_good [] = refl
set_schedule_good (kind ∷ []) = refl
set_schedule_good (kind ∷ chunk ∷ []) = set_schedule_kind (schedule_kind_of kind) chunk (kind_within kind)
set_schedule_good (kind ∷ chunk ∷ more ∷ ws) = refl

set_device_good : (ws : List (List ℕ)) → is_good (set_device_line ws) ≡ true
set_device_good [] = refl
set_device_good (n ∷ []) =
    set_good is_device SetDevice (number_of 0 MAX_DEVICE n) (λ m e. and_true (is_device m) true e refl)
    (number_up_to MAX_DEVICE n)
set_device_good (n ∷ more ∷ ws) = refl

tool_good : (ws : List (List ℕ)) → is_good (tool_line ws) ≡ true
tool_good [] = refl
tool_good (x ∷ []) =
    set_good (λ n. nat_le n 18446744073709551615) Tool (number_of 0 18446744073709551615 x)
    (λ m e. and_true (nat_le m 18446744073709551615) true e refl) (number_up_to 18446744073709551615 x)
tool_good (x ∷ more ∷ ws) = refl

statement_good : (first : List ℕ) (ws : List (List ℕ)) → is_good (statement_line first ws) ≡ true
statement_good first ws =
    chosen (bytes_eq first (codes "parallel")) _ _ (parallel_good ws)
    (chosen (bytes_eq first (codes "task")) _ _ (task_good ws)
    (chosen (bytes_eq first (codes "taskwait")) _ _ (bare_good Taskwait ws refl)
    (chosen (bytes_eq first (codes "taskyield")) _ _ (bare_good Taskyield ws refl)
    (chosen (bytes_eq first (codes "barrier")) _ _ (bare_good Barrier ws refl)
    (chosen (bytes_eq first (codes "work")) _ _ (bare_good Work ws refl)
    (chosen (bytes_eq first (codes "critical")) _ _ (critical_good ws)
    (chosen (bytes_eq first (codes "taskgroup")) _ _ (group_good ws)
    (chosen (bytes_eq first (codes "call")) _ _ (call_good ws)
    (chosen (bytes_eq first (codes "only")) _ _ (only_good ws)
    (chosen (bytes_eq first (codes "repeat")) _ _ (repeat_good ws)
    (chosen (bytes_eq first (codes "set_num_threads")) _ _ (set_num_threads_good ws)
    (chosen (bytes_eq first (codes "set_dynamic")) _ _ (set_dynamic_good ws)
    (chosen (bytes_eq first (codes "set_max_active_levels")) _ _ (set_max_active_good ws)
    (chosen (bytes_eq first (codes "set_schedule")) _ _ (set_schedule_good ws)
    (chosen (bytes_eq first (codes "set_default_device")) _ _ (set_device_good ws)
    (chosen (bytes_eq first (codes "tool")) _ None (tool_good ws) refl))))))))))))))))

function_good : (ws : List (List ℕ)) → is_good (function_line ws) ≡ true
function_good [] = refl
function_good (name ∷ []) = refl
function_good (name ∷ more ∷ ws) = refl

end_good : (ws : List (List ℕ)) → is_good (closing_line ws) ≡ true
end_good [] = refl
end_good (more ∷ ws) = refl

-- the numbers of any line are in their ranges
pub line_good : (ws : List (List ℕ)) → is_good (line_of ws) ≡ true
line_good [] = refl
line_good (first ∷ rest) =
    chosen (begins_comment first) (Some line.Blank) (line_by first rest) refl
    (chosen (bytes_eq first (codes "threads")) _ _ (as_line (threads_line rest) (threads_good rest))
    (chosen (bytes_eq first (codes "env")) _ _ (as_line (env_line rest) (env_good rest))
    (chosen (bytes_eq first (codes "func")) _ _ (function_good rest)
    (chosen (bytes_eq first (codes "end")) _ _ (end_good rest) (statement_good first rest)))))

-- a construct is in range over each function or over none, and names that function
pub range_over : (c : Construct) (f : ℕ) → is_in_range (over c f) ≡ is_construct_in_range c
range_over (construct.Parallel num) f = refl
range_over (construct.Task undeferred is_final) f = refl
range_over (construct.Critical k) f = refl
range_over construct.Taskgroup f = refl
range_over construct.Call f = refl
range_over (construct.Only m) f = refl
range_over (construct.Repeat n) f = refl

pub named_over : (c : Construct) (f : ℕ) → named_by (over c f) ≡ Some f
named_over (construct.Parallel num) f = refl
named_over (construct.Task undeferred is_final) f = refl
named_over (construct.Critical k) f = refl
named_over construct.Taskgroup f = refl
named_over construct.Call f = refl
named_over (construct.Only m) f = refl
named_over (construct.Repeat n) f = refl
