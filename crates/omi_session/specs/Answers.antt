-- What a state answers about its threads, regions and tasks, in the machine's words: a part of the state, Unavailable where the part is none, BadInput where a region has no such member, and Unsupported of native ids of another kind than 0.
use Rattle.std.specs.Prelude.{◌==◌, ℕ, slice_get, Result, Ok, Err, if◌then◌else◌}
use Rattle.std.specs.Option.{option_map, ok_or}
use Rattle.omi_numbers.specs.Addresses.{entry_address}
use Rattle.omi_numbers.specs.Words.{native_id}
use Rattle.omi_model.specs.declared.id.Rid.{Rid}
use Rattle.omi_model.specs.declared.id.Tid.{Tid}
use Rattle.omi_model.specs.declared.region.Region.{Region}
use Rattle.omi_model.specs.declared.task.Task.{Task}
use Rattle.omi_model.specs.State.{State, current_task}
use Rattle.omi_model.specs.Views as view
use Rattle.omi_session.specs.declared.rc.Rc.{Rc}
use Rattle.omi_session.specs.declared.rc.Rc.TheVariants.{Unavailable, BadInput, Unsupported}

-- the thread with a native id of a kind, which has to have begun
abbrev pub thread_with : State → ℕ → ℕ → Result ℕ Rc
thread_with s kind native =
    if kind == 0 then ok_or (view.thread_with s native) Unavailable else Err Unsupported

-- the native id of a thread
abbrev pub id_of_thread : ℕ → ℕ → Result ℕ Rc
id_of_thread kind i = if kind == 0 then Ok (native_id i) else Err Unsupported

-- the current task of a thread, and the region of this task
abbrev pub task_of_thread : State → ℕ → Result Tid Rc
task_of_thread s i = ok_or (s.threads i).current Unavailable

abbrev pub region_of_thread : State → ℕ → Result Rid Rc
region_of_thread s i = ok_or (option_map (λ t. t.region) (current_task s i)) Unavailable

-- the task and the thread of a member of a region
abbrev pub task_of_member : Region → ℕ → Result Tid Rc
task_of_member r num = ok_or (option_map (λ m. m.0) (slice_get r.team num)) BadInput

abbrev pub thread_of_member : Region → ℕ → Result ℕ Rc
thread_of_member r num = ok_or (option_map (λ m. m.1) (slice_get r.team num)) BadInput

-- the region that encloses a region
abbrev pub enclosing_region : Region → Result Rid Rc
enclosing_region r = ok_or r.enclosing Unavailable

-- the region of a task
abbrev pub region_of_task : Task → Result Rid Rc
region_of_task t = Ok t.region

-- the task that made a task, and the one that it was scheduled from
abbrev pub generating_task : Task → Result Tid Rc
generating_task t = ok_or t.generating Unavailable

abbrev pub scheduling_task : Task → Result Tid Rc
scheduling_task t = ok_or t.scheduling Unavailable

-- the entry address of a task's function
abbrev pub function_of_task : Task → Result ℕ Rc
function_of_task t = Ok (entry_address t.function)
