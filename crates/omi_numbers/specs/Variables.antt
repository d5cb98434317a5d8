-- The internal control variables of this profile, by the names of OpenMP 5.0.
use Rattle.std.specs.Prelude.{ℕ, List, [], ◌∷◌, codes, unwrap_or}
use Rattle.omi_numbers.specs.declared.variables.TheConstants.{DYN_VAR, NTHREADS_VAR, RUN_SCHED_VAR, DEFAULT_DEVICE_VAR, FINAL_TASK_VAR, IMPLICIT_TASK_VAR, MAX_ACTIVE_LEVELS_VAR, DEBUG_VAR, NUM_PROCS_VAR, LEVELS_VAR, ACTIVE_LEVELS_VAR, TEAM_SIZE_VAR, THREAD_NUM_VAR}
use Rattle.omi_numbers.specs.Names.{name_in}

-- each variable's number and name, in the order of enumeration
abbrev pub variables : List (ℕ × List ℕ)
variables =
    (DYN_VAR, codes "dyn-var")
    ∷ (NTHREADS_VAR, codes "nthreads-var")
    ∷ (RUN_SCHED_VAR, codes "run-sched-var")
    ∷ (DEFAULT_DEVICE_VAR, codes "default-device-var")
    ∷ (FINAL_TASK_VAR, codes "final-task-var")
    ∷ (IMPLICIT_TASK_VAR, codes "implicit-task-var")
    ∷ (MAX_ACTIVE_LEVELS_VAR, codes "max-active-levels-var")
    ∷ (DEBUG_VAR, codes "debug-var")
    ∷ (NUM_PROCS_VAR, codes "num-procs-var")
    ∷ (LEVELS_VAR, codes "levels-var")
    ∷ (ACTIVE_LEVELS_VAR, codes "active-levels-var")
    ∷ (TEAM_SIZE_VAR, codes "team-size-var")
    ∷ (THREAD_NUM_VAR, codes "thread-num-var")
    ∷ []

-- the name of a variable of the table
abbrev pub name_of : ℕ → List ℕ
name_of icv = unwrap_or (name_in variables icv) []
