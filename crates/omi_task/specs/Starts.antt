-- The start of an explicit task: what its record says of its place on a thread, and what the thread knows of it.
use Rattle.std.specs.Prelude.{ℕ, ◌+◌, Bool, false, List, [], ◌∷◌, slice_index_or}
use Rattle.omi_model.specs.declared.id.Tid.{Tid}
use Rattle.omi_layout.specs.declared.field.Field.TheVariants.{TaskThread, TaskNumber, TaskScheduling, TaskExit, TaskEnter}
use Rattle.omi_numbers.specs.Addresses.{exit_frame}
use Rattle.omi_rep.specs.Records.{task_address, thread_address}
use Rattle.omi_pc.specs.declared.actor.Actor.{Actor}
use Rattle.omi_pc.specs.declared.context.Context.{Context}
use Rattle.omi_step_words.specs.declared.plan.Planned.{Planned}
use Rattle.omi_step_words.specs.Plan.{filled, zero_in}

-- an explicit task runs on top of the task that it is scheduled from
abbrev pub task_depth : Actor → ℕ
task_depth a = a.context.depth + 1

-- the words that a task has from its start on, in the order of their stores: its place on a thread
abbrev pub start_words : List ℕ → Actor → List Planned
start_words w a =
    filled TaskThread 0 (thread_address w a.thread)
    ∷ filled TaskNumber 0 a.context.number
    ∷ filled TaskScheduling 0 (task_address w a.context.task)
    ∷ filled TaskExit 0 (exit_frame a.thread (task_depth a))
    ∷ zero_in TaskEnter 0
    ∷ []

abbrev pub start_plan : List ℕ → Actor → ℕ → Planned
start_plan w a word = slice_index_or (start_words w a) word (zero_in TaskEnter 0)

-- what the thread knows of a task that it starts
abbrev pub task_context : Actor → Tid → Bool → Context
task_context a t final =
    record a.context {
      task = t;
      implicit = false;
      is_final = final;
      depth = task_depth a;
      open_groups = 0;
    }
