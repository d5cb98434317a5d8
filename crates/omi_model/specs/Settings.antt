-- States, frames, control variables, the tool word and locks.
use Rattle.std.specs.Prelude.{◌==◌, ℕ, not, List, [], ◌∷◌, Option, Some, None, if◌then◌else◌}
use Rattle.std.specs.Option.{option_and_then, option_map}
use Rattle.omi_script.specs.Schedules.{kind_in, chunk_in}
use Rattle.omi_numbers.specs.Addresses.{enter_frame}
use Rattle.omi_model.specs.Changes.{on_thread, on_task}
use Rattle.omi_numbers.specs.declared.variables.TheConstants.{DYN_VAR, NTHREADS_VAR, RUN_SCHED_VAR, DEFAULT_DEVICE_VAR, MAX_ACTIVE_LEVELS_VAR}
use Rattle.omi_model.specs.Put.{put}
use Rattle.omi_model.specs.State.{State, task_of}
use Rattle.omi_model.specs.declared.task.Task.{Task}
use Rattle.omi_model.specs.declared.task.Variables.{Variables}
use Rattle.omi_model.specs.declared.id.Tid.{Tid}

-- the thread shows a state and a wait id
abbrev pub with_state : State → ℕ → ℕ → ℕ → State
with_state s i state wait = on_thread s i (λ h. record h { state = state; wait = wait })

-- the enter frame of a task whose code is in the runtime, which lies below its exit frame; none is 0
abbrev pub entered : State → Tid → Task → State
entered s k t = on_task s k (λ u. record u { enter = enter_frame t.exit })

abbrev pub left : State → Tid → Task → State
left s k t = on_task s k (λ u. record u { enter = 0 })

-- a list with another head
abbrev pub with_head : ℕ → List ℕ → List ℕ
with_head x [] = []
with_head x (y ∷ ys) = x ∷ ys

-- the data environment in which the variable of this number has this word. Other numbers are none of a data environment.
abbrev pub with_variable : ℕ → ℕ → Variables → Option Variables
with_variable icv value v =
    if icv == DYN_VAR then Some (record v { dynamic = not (value == 0) })
    else (if icv == NTHREADS_VAR then Some (record v { nthreads = with_head value v.nthreads })
    else (if icv == RUN_SCHED_VAR
    then Some (record v { schedule = record { kind = kind_in value; chunk = chunk_in value } })
    else (if icv == DEFAULT_DEVICE_VAR then Some (record v { device = value }) else None)))

-- a variable of a task's data environment is set
abbrev pub with_variable_of : State → ℕ → ℕ → Tid → Task → Option State
with_variable_of s icv value k t =
    option_map (λ v. on_task s k (λ u. record u { variables = v }))
    (with_variable icv value t.variables)

-- the current task sets a variable of its data environment
abbrev pub with_task_variable : State → ℕ → ℕ → ℕ → Option State
with_task_variable s i icv value =
    option_and_then (λ k. option_and_then (with_variable_of s icv value k) (task_of s k))
    (s.threads i).current

-- max-active-levels-var is one for the whole program; every other variable that is set is the current task's
abbrev pub with_set : State → ℕ → ℕ → ℕ → Option State
with_set s i icv value =
    if icv == MAX_ACTIVE_LEVELS_VAR then Some (record s { max_active = value })
    else with_task_variable s i icv value

abbrev pub with_tool : State → ℕ → Tid → State
with_tool s x k = on_task s k (λ u. record u { tool = x })

-- a lock of a critical name is taken where nobody holds it, and given back by its holder
abbrev pub with_lock : State → ℕ → Option ℕ → State
with_lock s k holder = record s { locks = put s.locks k holder }
