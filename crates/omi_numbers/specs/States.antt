-- The states of a thread, by OpenMP 5.0.
use Rattle.std.specs.Prelude.{ℕ, List, [], ◌∷◌, codes, map}
use Rattle.omi_numbers.specs.declared.states.TheConstants.{WORK_SERIAL, WORK_PARALLEL, WAIT_BARRIER_IMPLICIT_PARALLEL, WAIT_BARRIER_EXPLICIT, WAIT_TASKWAIT, WAIT_TASKGROUP, WAIT_CRITICAL, IDLE, OVERHEAD}

-- each state's number and name, in the order of enumeration
abbrev pub states : List (ℕ × List ℕ)
states =
    (WORK_SERIAL, codes "work_serial")
    ∷ (WORK_PARALLEL, codes "work_parallel")
    ∷ (WAIT_BARRIER_IMPLICIT_PARALLEL, codes "wait_barrier_implicit_parallel")
    ∷ (WAIT_BARRIER_EXPLICIT, codes "wait_barrier_explicit")
    ∷ (WAIT_TASKWAIT, codes "wait_taskwait")
    ∷ (WAIT_TASKGROUP, codes "wait_taskgroup")
    ∷ (WAIT_CRITICAL, codes "wait_critical")
    ∷ (IDLE, codes "idle")
    ∷ (OVERHEAD, codes "overhead")
    ∷ []

-- the numbers alone
abbrev pub state_numbers : List ℕ
state_numbers = map (λ row. row.0) states
