-- The addresses of functions and of the frames of tasks.
use Rattle.std.specs.Prelude.{ℕ, ◌+◌, ◌-◌, ◌*◌, ◌/◌, ◌%◌}
use Rattle.omi_numbers.specs.declared.addresses.TheConstants.{FIRST_FUNCTION, FUNCTION_SIZE, FIRST_STACK, STACK_SIZE, FRAME_SIZE, ENTER_BELOW_EXIT}

-- the entry address of a function, by its number
abbrev pub entry_address : ℕ → ℕ
entry_address f = FIRST_FUNCTION + FUNCTION_SIZE * f

-- the function with an entry address
abbrev pub function_at : ℕ → ℕ
function_at address = (address - FIRST_FUNCTION) / FUNCTION_SIZE % 256

-- the exit frame of a thread's task, where so many tasks are on the thread's chain, this one included
abbrev pub exit_frame : ℕ → ℕ → ℕ
exit_frame thread depth = FIRST_STACK + STACK_SIZE * (thread + 1) - FRAME_SIZE * depth

-- the exit frame of a task that is scheduled from a task with this exit frame
abbrev pub exit_below : ℕ → ℕ
exit_below exit = exit - FRAME_SIZE

-- the enter frame of a task with this exit frame
abbrev pub enter_frame : ℕ → ℕ
enter_frame exit = exit - ENTER_BELOW_EXIT
