-- Head lines: what each sets, row by row as in docs/WORKLOAD.md, by the words behind the first.
use Rattle.std.specs.Prelude.{ℕ, Bool, true, false, ◌==◌, List, [], ◌∷◌, length, Option, Some, None, option_map, is_some, if◌then◌else◌, bytes_eq, codes}
use Rattle.std.specs.List.{list_any, slice_split}
use Rattle.omi_script.specs.Numbers.{is_comma, number_of, sizes_of}
use Rattle.omi_numbers.specs.Schedules.{schedule_kind_of}
use Rattle.omi_script.specs.declared.head.Head.{Head}
use Rattle.omi_script.specs.declared.line.HeadLine.{HeadLine}
use Rattle.omi_script.specs.declared.line.HeadLine.TheVariants.{Threads, NumThreads, Dynamic, MaxActive, Schedule, Device, Debug, Procs}
use Rattle.omi_script.specs.declared.limits.TheConstants.{MAX_THREADS, MAX_LEVELS, MAX_CHUNK, MAX_DEVICE, MAX_PROCS}

-- `threads N`, N 1 to `MAX_THREADS`
abbrev pub threads_line : List (List ℕ) → Option HeadLine
threads_line (n ∷ []) = Some (Threads (number_of 1 MAX_THREADS n))
threads_line _ = None

-- a piece between commas is empty
abbrev pub has_empty_piece : List ℕ → Bool
has_empty_piece word = list_any (λ piece. length piece == 0) (slice_split is_comma word)

-- `env num_threads A,B,..`, 1 to `MAX_SIZES` numbers, each 1 to `MAX_SIZE`
abbrev pub num_threads_line : List ℕ → Option HeadLine
num_threads_line value = if has_empty_piece value then None else Some (NumThreads (sizes_of value))

-- whether a word is the first of two, where it is one of them
abbrev pub is_first_of : List ℕ → List ℕ → List ℕ → Option Bool
is_first_of on off word =
    if bytes_eq word on then Some true
    else (if bytes_eq word off then Some false
    else None)

-- `env dynamic true` or `env dynamic false`
abbrev pub dynamic_line : List ℕ → Option HeadLine
dynamic_line value = option_map Dynamic (is_first_of (codes "true") (codes "false") value)

-- `env max_active_levels N`, N 0 to `MAX_LEVELS`
abbrev pub max_active_line : List ℕ → Option HeadLine
max_active_line value = Some (MaxActive (number_of 0 MAX_LEVELS value))

-- a schedule of a kind, whose chunk is this word
abbrev pub schedule_of : List ℕ → ℕ → HeadLine
schedule_of chunk kind =
    Schedule (option_map (λ n. record { kind = kind; chunk = n }) (number_of 0 MAX_CHUNK chunk))

-- KIND,CHUNK, by the pieces between commas
abbrev pub kind_and_chunk : List (List ℕ) → Option HeadLine
kind_and_chunk (kind ∷ chunk ∷ []) =
    if length chunk == 0 then None else option_map (schedule_of chunk) (schedule_kind_of kind)
kind_and_chunk _ = None

-- `env schedule KIND,CHUNK`, CHUNK 0 to `MAX_CHUNK`
abbrev pub schedule_line : List ℕ → Option HeadLine
schedule_line value = kind_and_chunk (slice_split is_comma value)

-- `env device N`, N 0 to `MAX_DEVICE`
abbrev pub device_line : List ℕ → Option HeadLine
device_line value = Some (Device (number_of 0 MAX_DEVICE value))

-- `env debug enabled` or `env debug disabled`
abbrev pub debug_line : List ℕ → Option HeadLine
debug_line value = option_map Debug (is_first_of (codes "enabled") (codes "disabled") value)

-- `env procs N`, N 1 to `MAX_PROCS`
abbrev pub procs_line : List ℕ → Option HeadLine
procs_line value = Some (Procs (number_of 1 MAX_PROCS value))

-- `env NAME VALUE`, by the name
abbrev pub setting_line : List ℕ → List ℕ → Option HeadLine
setting_line name value =
    if bytes_eq name (codes "num_threads") then num_threads_line value
    else (if bytes_eq name (codes "dynamic") then dynamic_line value
    else (if bytes_eq name (codes "max_active_levels") then max_active_line value
    else (if bytes_eq name (codes "schedule") then schedule_line value
    else (if bytes_eq name (codes "device") then device_line value
    else (if bytes_eq name (codes "debug") then debug_line value
    else (if bytes_eq name (codes "procs") then procs_line value
    else None))))))

-- `env NAME VALUE`, by the words behind `env`
abbrev pub env_line : List (List ℕ) → Option HeadLine
env_line (name ∷ value ∷ []) = setting_line name value
env_line _ = None

-- the number of a head line is one, in its range
abbrev pub has_number : HeadLine → Bool
has_number (Threads n) = is_some n
has_number (NumThreads ns) = is_some ns
has_number (Dynamic b) = true
has_number (MaxActive n) = is_some n
has_number (Schedule s) = is_some s
has_number (Device n) = is_some n
has_number (Debug b) = true
has_number (Procs n) = is_some n

-- a head line of the same kind stands above
abbrev pub stands_above : Head → HeadLine → Bool
stands_above h (Threads n) = is_some h.threads
stands_above h (NumThreads ns) = is_some h.nthreads
stands_above h (Dynamic b) = is_some h.dynamic
stands_above h (MaxActive n) = is_some h.max_active
stands_above h (Schedule s) = is_some h.sched
stands_above h (Device n) = is_some h.device
stands_above h (Debug b) = is_some h.debug
stands_above h (Procs n) = is_some h.procs

-- the head with one more line. A number out of its range sets nothing
abbrev pub head_after : Head → HeadLine → Head
head_after h (Threads (Some n)) = record h { threads = Some n }
head_after h (NumThreads (Some ns)) = record h { nthreads = Some ns }
head_after h (Dynamic b) = record h { dynamic = Some b }
head_after h (MaxActive (Some n)) = record h { max_active = Some n }
head_after h (Schedule (Some s)) = record h { sched = Some s }
head_after h (Device (Some n)) = record h { device = Some n }
head_after h (Debug b) = record h { debug = Some b }
head_after h (Procs (Some n)) = record h { procs = Some n }
head_after h _ = h
