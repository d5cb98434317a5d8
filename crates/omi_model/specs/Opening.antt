-- The state in which a program starts: thread 0 runs the initial task, member 0 of the initial region, and the other threads have not begun.
use Rattle.std.specs.Prelude.{◌==◌, true, false, [], ◌∷◌, Some, None, if◌then◌else◌}
use Rattle.omi_numbers.specs.Addresses.{exit_frame}
use Rattle.omi_script.specs.Bodies.{body_of}
use Rattle.omi_script.specs.declared.env.Env.{Env}
use Rattle.omi_script.specs.declared.program.Program.{Program}
use Rattle.omi_model.specs.declared.id.Tid.{Tid}
use Rattle.omi_model.specs.declared.id.Rid.{Rid}
use Rattle.omi_numbers.specs.declared.states.TheConstants.{WORK_SERIAL, IDLE}
use Rattle.omi_model.specs.declared.claim.Claim.TheVariants.{Own}
use Rattle.omi_model.specs.declared.progress.Progress.TheVariants.{Begun}
use Rattle.omi_model.specs.Rows.{main_items, worker_items}
use Rattle.omi_model.specs.Put.{first_alone}
use Rattle.omi_model.specs.State.{State}
use Rattle.omi_model.specs.declared.thread.Thread.{Thread}
use Rattle.omi_model.specs.declared.region.Region.{Region}
use Rattle.omi_model.specs.declared.task.Task.{Task}
use Rattle.omi_model.specs.declared.task.Variables.{Variables}

-- the initial task and the initial region
abbrev pub initial_task : Tid
initial_task = record { 0 = record { creator = 0; slot = 0; generation = 0 } }

abbrev pub initial_region : Rid
initial_region = record { 0 = record { creator = 0; slot = 0; generation = 0 } }

-- the variables of the environment
abbrev pub variables_of : Env → Variables
variables_of env =
    record {
      dynamic = env.dynamic;
      nthreads = env.nthreads;
      schedule = env.sched;
      device = env.device;
    }

-- thread 0
abbrev pub initial_thread : Thread
initial_thread =
    record {
      begun = true;
      current = Some initial_task;
      state = WORK_SERIAL;
      wait = 0;
      claim = Own;
      wanted = 0;
      asks = [];
      list = [];
    }

-- a worker that has not begun
abbrev pub waiting_worker : Thread
waiting_worker =
    record {
      begun = false;
      current = None;
      state = IDLE;
      wait = 0;
      claim = Own;
      wanted = 0;
      asks = [];
      list = worker_items;
    }

abbrev pub opening_region : Program → Region
opening_region p = record {
  enclosing = None;
  encountering = None;
  team = (initial_task, 0) ∷ [];
  function = p.main;
  levels = 0;
  active = 0;
  arrivals = 0 ∷ [];
  released = 0;
  ended = false ∷ [];
  joined = false;
}

abbrev pub opening_task : Program → Task
opening_task p = record {
  implicit = true;
  region = initial_region;
  thread = 0;
  number = 0;
  generating = None;
  scheduling = None;
  function = p.main;
  exit = exit_frame 0 1;
  enter = 0;
  variables = variables_of p.env;
  is_final = false;
  tool = 0;
  progress = Begun;
  place = 0;
  group = None;
  open_groups = 0;
  frees = None;
  list = main_items (record { debug = p.env.debug; number = 0; level = 0; is_final = false })
      (body_of p.funcs p.main);
}

-- the opening state
abbrev pub opening : Program → State
opening p = record {
  environment = p.env;
  count = p.threads;
  max_active = p.env.max_active;
  locks = λ k. None;
  threads = λ i. if i == 0 then initial_thread else waiting_worker;
  regions = first_alone (opening_region p);
  tasks = first_alone (opening_task p);
}
