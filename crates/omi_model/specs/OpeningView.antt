-- What a report says of the opening state, where the one context is thread 0's: one thread, the initial region and its one member, and the initial task.
use Rattle.std.specs.Prelude.{[], ◌∷◌, Some, None, if◌then◌else◌}
use Rattle.omi_script.specs.Schedules.{schedule_word}
use Rattle.omi_numbers.specs.declared.states.TheConstants.{WORK_SERIAL}
use Rattle.omi_numbers.specs.declared.words.TheConstants.{OPENMP_VERSION}
use Rattle.omi_numbers.specs.Addresses.{entry_address, exit_frame}
use Rattle.omi_script.specs.declared.program.Program.{Program}
use Rattle.omi_model.specs.declared.view.View.{View}
use Rattle.omi_numbers.specs.Words.{flag, native_id}
use Rattle.omi_model.specs.Opening.{initial_task, initial_region}

abbrev pub opening_view : Program → View
opening_view p = record {
  head = record {
    version = OPENMP_VERSION;
    threads = p.threads;
    debug = flag p.env.debug;
    procs = p.env.procs;
    max_active = p.env.max_active;
  };
  threads = record {
    native = native_id 0;
    found = Some (record {
      thread = 0;
      state = if p.env.debug then Some (WORK_SERIAL, 0) else None;
      number = Some 0;
      current = Some initial_task;
    });
  } ∷ [];
  regions = record {
    region = initial_region;
    func = entry_address p.main;
    levels = 0;
    active = 0;
    size = 1;
    enclosing = None;
    members = record { thread = 0; task = initial_task } ∷ [];
  } ∷ [];
  tasks = record {
    task = initial_task;
    thread = 0;
    implicit = 1;
    region = initial_region;
    func = entry_address p.main;
    generating = None;
    scheduling = None;
    exit = exit_frame 0 1;
    enter = 0;
    tool = 0;
    dyn_var = flag p.env.dynamic;
    nthreads = p.env.nthreads;
    sched = schedule_word p.env.sched;
    device = p.env.device;
    final_task = 0;
  } ∷ [];
}
