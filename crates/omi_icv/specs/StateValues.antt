-- What a state answers about control variables, states of threads and tool words.
use Rattle.std.specs.Prelude.{ℕ, ◌==◌, Bool, List, [], ◌∷◌, ◌++◌, length, codes, Result, Ok, Err, if◌then◌else◌}
use Rattle.std.specs.Fmt.{decimal}
use Rattle.std.specs.Option.{option_map, ok_or}
use Rattle.omi_script.specs.declared.statement.Sched.{Sched}
use Rattle.omi_model.specs.declared.region.Region.{Region}
use Rattle.omi_model.specs.declared.task.Task.{Task}
use Rattle.omi_numbers.specs.Words.{flag}
use Rattle.omi_numbers.specs.declared.variables.TheConstants.{DYN_VAR, NTHREADS_VAR, RUN_SCHED_VAR, DEFAULT_DEVICE_VAR, MAX_ACTIVE_LEVELS_VAR, FINAL_TASK_VAR, IMPLICIT_TASK_VAR, DEBUG_VAR, NUM_PROCS_VAR, LEVELS_VAR, ACTIVE_LEVELS_VAR, TEAM_SIZE_VAR, THREAD_NUM_VAR}
use Rattle.omi_script.specs.Schedules.{schedule_word}
use Rattle.omi_numbers.specs.Variables.{name_of}
use Rattle.omi_model.specs.State.{State, current_task}
use Rattle.omi_session.specs.declared.rc.Rc.{Rc}
use Rattle.omi_session.specs.declared.rc.Rc.TheVariants.{Unavailable, Unsupported, NeedsStateTracking, Incomplete}
use Rattle.omi_text.specs.Lines.{named_value}
use Rattle.omi_text.specs.Names.{kind_text}
use Rattle.omi_text.specs.Numbers.{decimals}
use Rattle.omi_icv.specs.Subjects.{Subject}
use Rattle.omi_icv.specs.Subjects as subject

-- the value of a variable: its numbers, and its text
pub record Content : Type 0 where
  pub numbers : List ℕ
  pub text : List ℕ

abbrev pub of_number : ℕ → Content
of_number n = record { numbers = n ∷ []; text = decimal n }

abbrev pub of_list : List ℕ → Content
of_list ns = record { numbers = ns; text = decimals ns }

-- a schedule by its kind and its chunk
abbrev pub of_schedule : Sched → Content
of_schedule s = record {
  numbers = schedule_word s ∷ [];
  text = kind_text s.kind ++ 44 ∷ decimal s.chunk;
}

abbrev pub of_switch : Bool → Content
of_switch on = record {
  numbers = flag on ∷ [];
  text = if on then codes "enabled" else codes "disabled";
}

-- the variables of the address space, of a region and of a task, by number
abbrev pub space_values : State → List (ℕ × Result Content Rc)
space_values s =
    (MAX_ACTIVE_LEVELS_VAR, Ok (of_number s.max_active))
    ∷ (DEBUG_VAR, Ok (of_switch s.environment.debug))
    ∷ (NUM_PROCS_VAR, Ok (of_number s.environment.procs))
    ∷ []

abbrev pub region_values : Region → List (ℕ × Result Content Rc)
region_values r =
    (LEVELS_VAR, Ok (of_number r.levels))
    ∷ (ACTIVE_LEVELS_VAR, Ok (of_number r.active))
    ∷ (TEAM_SIZE_VAR, Ok (of_number (length r.team)))
    ∷ []

abbrev pub task_values : Task → List (ℕ × Result Content Rc)
task_values t =
    (DYN_VAR, Ok (of_number (flag t.variables.dynamic)))
    ∷ (NTHREADS_VAR, Ok (of_list t.variables.nthreads))
    ∷ (RUN_SCHED_VAR, Ok (of_schedule t.variables.schedule))
    ∷ (DEFAULT_DEVICE_VAR, Ok (of_number t.variables.device))
    ∷ (FINAL_TASK_VAR, Ok (of_number (flag t.is_final)))
    ∷ (IMPLICIT_TASK_VAR, Ok (of_number (flag t.implicit)))
    ∷ []

-- that of a thread, which is its current task's
abbrev pub thread_values : State → ℕ → List (ℕ × Result Content Rc)
thread_values s i =
    (THREAD_NUM_VAR, ok_or (option_map (λ t. of_number t.number) (current_task s i)) Unavailable)
    ∷ []

abbrev pub values_of : State → Subject → List (ℕ × Result Content Rc)
values_of s subject.Space = space_values s
values_of s (subject.Thread i) = thread_values s i
values_of s (subject.Parallel r) = region_values r
values_of s (subject.Task t) = task_values t

-- the value of a number in a list. Unsupported where it isn't there
abbrev pub value_in : List (ℕ × Result Content Rc) → ℕ → Result Content Rc
value_in [] icv = Err Unsupported
value_in (row ∷ rows) icv = if icv == row.0 then row.1 else value_in rows icv

-- one number: that of a list that has no other, and else Incomplete, with the first. Each list of a state has one
abbrev pub only_of : List ℕ → Result ℕ Rc
only_of [] = Err Unavailable
only_of (n ∷ []) = Ok n
only_of (n ∷ next ∷ more) = Err (Incomplete n)

abbrev pub as_number : Result Content Rc → Result ℕ Rc
as_number (Ok value) = only_of value.numbers
as_number (Err rc) = Err rc

abbrev pub as_text : Result Content Rc → Result (List ℕ) Rc
as_text (Ok value) = Ok value.text
as_text (Err rc) = Err rc

-- a variable as one number, and as a text
abbrev pub number_of : State → Subject → ℕ → Result ℕ Rc
number_of s of icv = as_number (value_in (values_of s of) icv)

abbrev pub text_of : State → Subject → ℕ → Result (List ℕ) Rc
text_of s of icv = as_text (value_in (values_of s of) icv)

-- the state of a thread and its wait id, where states are kept
abbrev pub state_of_thread : State → ℕ → Result (ℕ × ℕ) Rc
state_of_thread s i =
    if s.environment.debug then Ok ((s.threads i).state, (s.threads i).wait)
    else Err NeedsStateTracking

-- the tool word of a task, which nothing else has
abbrev pub tool_of : Subject → Result ℕ Rc
tool_of subject.Space = Err Unsupported
tool_of (subject.Thread i) = Err Unsupported
tool_of (subject.Parallel r) = Err Unsupported
tool_of (subject.Task t) = Ok t.tool

-- the variables of the address space by name and value
abbrev pub display_of : State → List (List ℕ)
display_of s =
    named_value (name_of DEBUG_VAR) (of_switch s.environment.debug).text
    ∷ named_value (name_of NUM_PROCS_VAR) (decimal s.environment.procs)
    ∷ named_value (name_of MAX_ACTIVE_LEVELS_VAR) (decimal s.max_active)
    ∷ []
