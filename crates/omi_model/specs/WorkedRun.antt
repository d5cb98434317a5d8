-- A run of two threads: thread 0 forks a team of two, member 0 defers a task, which member 1 starts at the barrier and gives back, the members end, member 0 joins, the region is given back behind its members' tasks, and the program is done.
use Rattle.std.specs.Prelude.{ℕ, true, false, List, [], ◌∷◌, ◌++◌, None, codes, refl}
use Rattle.omi_script.specs.Names.{name_of}
use Rattle.omi_script.specs.declared.env.Env.{Env}
use Rattle.omi_script.specs.declared.function.Func.{Func}
use Rattle.omi_script.specs.declared.program.Program.{Program}
use Rattle.omi_script.specs.declared.statement.Stmt.TheVariants as stmt
use Rattle.omi_model.specs.declared.event.Event.{Event}
use Rattle.omi_model.specs.declared.event.Event.TheVariants as event
use Rattle.omi_model.specs.declared.id.Id.{Id}
use Rattle.omi_model.specs.declared.id.Rid.{Rid}
use Rattle.omi_model.specs.declared.id.Tid.{Tid}
use Rattle.omi_numbers.specs.declared.states.TheConstants.{IDLE, OVERHEAD, WAIT_BARRIER_IMPLICIT_PARALLEL, WORK_PARALLEL, WORK_SERIAL}

-- `main` forks a team over `team`, whose member 0 calls `make`, which makes a task over `leaf`
abbrev pub run_functions : List Func
run_functions =
    record { name = name_of (codes "leaf"); body = stmt.Work ∷ [] }
    ∷ record { name = name_of (codes "make"); body = stmt.Task 0 false false ∷ [] }
    ∷ record { name = name_of (codes "team"); body = stmt.Only 0 1 ∷ [] }
    ∷ record { name = name_of (codes "main"); body = stmt.Parallel 2 None ∷ [] } ∷ []

abbrev pub run_environment : Env
run_environment =
    record {
      nthreads = 2 ∷ [];
      dynamic = false;
      max_active = 1;
      sched = record { kind = 1; chunk = 0 };
      device = 0;
      debug = true;
      procs = 2;
    }

abbrev pub run_program : Program
run_program =
    record {
      threads = 2;
      env = run_environment;
      funcs = run_functions;
      main = 3;
      accepted = refl;
    }

-- the first object of a slot of thread 0
abbrev pub slot_of_0 : ℕ → Id
slot_of_0 k = record { creator = 0; slot = k; generation = 0 }

abbrev pub run_region : Rid
run_region = record { 0 = slot_of_0 1 }

-- the tasks of members 0 and 1, and the deferred task
abbrev pub master : Tid
master = record { 0 = slot_of_0 1 }

abbrev pub worker : Tid
worker = record { 0 = slot_of_0 2 }

abbrev pub leaf : Tid
leaf = record { 0 = slot_of_0 3 }

abbrev at0 : Event → ℕ × Event
at0 e = (0, e)

abbrev at1 : Event → ℕ × Event
at1 e = (1, e)

-- up to the finish of the deferred task
abbrev pub run_to_finish : List (ℕ × Event)
run_to_finish =
    at1 event.Begin ∷ at1 event.Offer
    ∷ at0 event.Enter ∷ at0 (event.State OVERHEAD 0) ∷ at0 (event.Want 2)
    ∷ at0 (event.Ask 1 true)
    ∷ at0 (event.Fork run_region ((master, 0) ∷ (worker, 1) ∷ []))
    ∷ at1 (event.ImplicitBegin worker) ∷ at1 (event.State WORK_PARALLEL 0) ∷ at1 event.Skip
    ∷ at0 (event.State WORK_PARALLEL 0) ∷ at0 (event.Call 1)
    ∷ at0 event.Enter ∷ at0 (event.Defer leaf) ∷ at0 event.Leave ∷ at0 event.Ret
    ∷ at0 (event.State WAIT_BARRIER_IMPLICIT_PARALLEL 0) ∷ at0 event.Arrive
    ∷ at1 (event.State WAIT_BARRIER_IMPLICIT_PARALLEL 0) ∷ at1 event.Arrive
    ∷ at1 (event.Start leaf) ∷ at1 (event.State WORK_PARALLEL 0) ∷ at1 event.Work
    ∷ at1 (event.Finish leaf) ∷ []

-- it is given back, and on to the first release
abbrev pub run_to_release : List (ℕ × Event)
run_to_release =
    at1 (event.FreeTask leaf) ∷ at1 (event.State WAIT_BARRIER_IMPLICIT_PARALLEL 0) ∷ []

-- the release, and the end of the region
abbrev pub run_to_join : List (ℕ × Event)
run_to_join =
    at0 event.Release ∷ at0 event.Pass ∷ at1 event.Pass
    ∷ at1 (event.ImplicitEnd worker) ∷ at1 (event.State IDLE 0) ∷ at1 event.Offer
    ∷ at0 (event.Join run_region) ∷ []

-- the tasks of its members are given back, the region behind them, and on to the last release
abbrev pub run_to_last_release : List (ℕ × Event)
run_to_last_release =
    at0 (event.FreeTask master) ∷ at0 (event.FreeTask worker) ∷ at0 (event.FreeRegion run_region)
    ∷ at0 (event.State WORK_SERIAL 0) ∷ at0 event.Leave
    ∷ at0 (event.State WAIT_BARRIER_IMPLICIT_PARALLEL 0) ∷ at0 event.Arrive ∷ []

abbrev pub run_to_done : List (ℕ × Event)
run_to_done = at0 event.Release ∷ at0 event.Pass ∷ at0 event.Done ∷ []

abbrev pub run_events : List (ℕ × Event)
run_events =
    run_to_finish
    ++ (run_to_release ++ (run_to_join ++ (run_to_last_release ++ run_to_done)))
