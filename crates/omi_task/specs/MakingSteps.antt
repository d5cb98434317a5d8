-- The steps of a `task` construct: it looks for an own slot that is empty, makes the record of the new task, raises the counts of
-- unfinished tasks, and defers the task into the slot or starts it at once.
use Rattle.std.specs.Prelude.{ℕ, ◌==◌, ◌+◌, ◌||◌, nat_lt, Bool, false, List, Option, Some, None, if◌then◌else◌}
use Rattle.omi_word.specs.declared.op.Op.{Op}
use Rattle.omi_word.specs.declared.op.Op.TheVariants as op
use Rattle.omi_script.specs.declared.program.Program.{Program}
use Rattle.omi_script.specs.declared.statement.Stmt.{Stmt}
use Rattle.omi_script.specs.declared.statement.Stmt.TheVariants as stmt
use Rattle.omi_model.specs.declared.event.Event.TheVariants as event
use Rattle.omi_model.specs.declared.id.Tid.{Tid}
use Rattle.omi_layout.specs.declared.field.Field.TheVariants.{ThreadCurrent, RegionPending, TaskLife, TaskChildren, TaskReferences, TaskSlots}
use Rattle.omi_numbers.specs.Addresses.{exit_frame}
use Rattle.omi_layout.specs.declared.limits.TheConstants.{GROUP_PLACE}
use Rattle.omi_layout.specs.Field.{tasks}
use Rattle.omi_layout.specs.Memory.{word_address}
use Rattle.omi_layout.specs.Named.{number}
use Rattle.omi_rep.specs.declared.outcome.Outcome.{Outcome}
use Rattle.omi_rep.specs.declared.outcome.Outcome.TheVariants as outcome
use Rattle.omi_rep.specs.Records.{task_address, slot_word}
use Rattle.omi_pc.specs.declared.actor.Actor.{Actor}
use Rattle.omi_pc.specs.declared.counter.PlainCounter.TheVariants.{Leave}
use Rattle.omi_numbers.specs.declared.limits.TheConstants.{OWN_SLOTS}
use Rattle.omi_pc.specs.declared.limits.TheConstants.{TASK_WORDS, VARIABLE_WORDS}
use Rattle.omi_pc.specs.declared.task_counter.TaskCounter.{TaskCounter}
use Rattle.omi_pc.specs.declared.task_counter.TaskCounter.TheVariants as task
use Rattle.omi_pc.specs.Frames.{statement_of}
use Rattle.omi_pc.specs.Moves.{begun_explicit}
use Rattle.omi_pc.specs.Settle.{goes_to, settled}
use Rattle.omi_step_words.specs.declared.plan.NewTask.{NewTask}
use Rattle.omi_step_words.specs.Moving.{to_task, with_loaded_group, with_loaded_variable}
use Rattle.omi_step_words.specs.Plan.{filling, of_variable, task_plan}
use Rattle.omi_step_words.specs.Searches.{next_slot, own_place, search_outcome}
use Rattle.omi_step_words.specs.Words.{is_free, object_in, of_group_count, of_groups, of_place, of_region, of_task, of_thread, used_word}
use Rattle.omi_task.specs.Groups.{new_group}
use Rattle.omi_task.specs.Starts.{task_context, task_depth}

-- ---- the statement

-- the function of a `task` construct, and whether its clause makes the task final
abbrev pub explicit_function : Option Stmt → ℕ
explicit_function (Some (stmt.Task f undeferred final)) = f
explicit_function _ = 0

abbrev pub final_in : Option Stmt → Bool
final_in (Some (stmt.Task f undeferred final)) = final
final_in _ = false

-- those of the construct in work. A task is final where its clause says so or the task that makes it is
abbrev pub made_function : Program → Actor → ℕ
made_function p a = explicit_function (statement_of p a.stack)

abbrev pub makes_final : Program → Actor → Bool
makes_final p a = final_in (statement_of p a.stack) || a.context.is_final

-- ---- the record

-- The new task, as if it started now on this thread: where it is deferred, the thread that starts it stores its own place. It has
-- the data environment of the task that makes it
abbrev pub new_task : Program → List ℕ → Actor → NewTask
new_task p w a =
    record {
      implicit = false;
      region = a.context.region;
      thread = a.thread;
      number = a.context.number;
      generating = a.context.task;
      scheduling = Some a.context.task;
      function = made_function p a;
      exit = exit_frame a.thread (task_depth a);
      is_final = makes_final p a;
      references = 1;
      group = new_group w a;
      variables = a.gathered.variables;
    }

-- ---- operations

-- an own slot: the slots of a member are in the record of its implicit task
abbrev pub of_own_slot : List ℕ → Actor → ℕ → ℕ
of_own_slot w a place =
    word_address w a.context.row.0.creator a.context.row.0.slot (number TaskSlots) place

abbrev pub making_next : Program → List ℕ → Actor → TaskCounter → Op
making_next p w a (task.LoadSlot place) = op.Load (of_own_slot w a place)
making_next p w a (task.LoadVariable place word) = op.Load (of_variable w a.context.task.0 word)
making_next p w a (task.LoadGroup place) = op.Load (of_groups w a.context.task GROUP_PLACE)
making_next p w a (task.LoadLife place slot) = op.Load (of_place w (own_place a slot) TaskLife)
making_next p w a (task.Take place t) = op.Store (of_task w t TaskLife) (used_word t.0)
making_next p w a (task.Fill place t word) = filling w t.0 (task_plan w (new_task p w a) word)
making_next p w a (task.AddPending place t) = op.Add (of_region w a.context.region RegionPending) 1
making_next p w a (task.AddChildren place t) = op.Add (of_task w a.context.task TaskChildren) 1
making_next p w a (task.AddReferences place t) = op.Add (of_task w a.context.task TaskReferences) 1
making_next p w a (task.AddCount place t) = op.Add (of_group_count w (new_group w a)) 1
making_next p w a (task.Defer place t) = op.Store (of_own_slot w a place) (slot_word w t)
making_next p w a (task.StartNow t) =
    op.Store (of_thread w a.thread ThreadCurrent) (task_address w t)

-- ---- moves

-- an own slot was looked at: it is empty, or the next one is looked at, and behind the last one the task starts at once
abbrev pub behind_slot : ℕ → ℕ → TaskCounter
behind_slot place old =
    if old == 0 then task.LoadVariable (Some place) 0
    else (if nat_lt (place + 1) OWN_SLOTS then task.LoadSlot (place + 1)
    else task.LoadVariable None 0)

-- the data environment is loaded. The group of a task that has none open is loaded behind it
abbrev pub behind_variables : ℕ → Option ℕ → TaskCounter
behind_variables groups place = if groups == 0 then task.LoadGroup place else task.LoadLife place 0

abbrev pub behind_task_variable : ℕ → Option ℕ → ℕ → TaskCounter
behind_task_variable groups place word =
    if nat_lt (word + 1) VARIABLE_WORDS then task.LoadVariable place (word + 1)
    else behind_variables groups place

-- the life word of an own record was looked at
abbrev pub behind_life : List ℕ → Actor → Option ℕ → ℕ → ℕ → TaskCounter
behind_life w a place slot old =
    if is_free old then task.Take place (record { 0 = object_in (own_place a slot) old })
    else task.LoadLife place (next_slot w tasks slot)

abbrev pub behind_word : Option ℕ → Tid → ℕ → TaskCounter
behind_word place t word =
    if nat_lt (word + 1) TASK_WORDS then task.Fill place t (word + 1) else task.AddPending place t

-- all counts are raised
abbrev pub behind_raises : Option ℕ → Tid → TaskCounter
behind_raises None t = task.StartNow t
behind_raises (Some place) t = task.Defer place t

-- but for the count of the new task's group, where it has one
abbrev pub behind_reference : List ℕ → Actor → Option ℕ → Tid → TaskCounter
behind_reference w a place t =
    if new_group w a == 0 then behind_raises place t else task.AddCount place t

-- the new task is current, on top of the task that made it
abbrev pub past_start_now : Program → Tid → Actor → Actor
past_start_now p t a =
    settled p (begun_explicit (made_function p a) None (task_context a t (makes_final p a)) a)

-- where the step found the word `old`
abbrev pub making_moved : Program → List ℕ → Actor → TaskCounter → ℕ → Actor
making_moved p w a (task.LoadSlot place) old = to_task (behind_slot place old) a
making_moved p w a (task.LoadVariable place word) old =
    to_task (behind_task_variable a.context.open_groups place word) (with_loaded_variable word old a)
making_moved p w a (task.LoadGroup place) old = to_task (task.LoadLife place 0) (with_loaded_group old a)
making_moved p w a (task.LoadLife place slot) old = to_task (behind_life w a place slot old) a
making_moved p w a (task.Take place t) old = to_task (task.Fill place t 0) a
making_moved p w a (task.Fill place t word) old = to_task (behind_word place t word) a
making_moved p w a (task.AddPending place t) old = to_task (task.AddChildren place t) a
making_moved p w a (task.AddChildren place t) old = to_task (task.AddReferences place t) a
making_moved p w a (task.AddReferences place t) old = to_task (behind_reference w a place t) a
making_moved p w a (task.AddCount place t) old = to_task (behind_raises place t) a
making_moved p w a (task.Defer place t) old = goes_to Leave a
making_moved p w a (task.StartNow t) old = past_start_now p t a

-- ---- outcomes

abbrev pub making_outcome : List ℕ → Actor → TaskCounter → ℕ → Outcome
making_outcome w a (task.LoadSlot place) old =
    if old == 0 then outcome.Quiet else outcome.Event (event.Seen place)
making_outcome w a (task.LoadLife place slot) old = search_outcome w a TaskLife slot old
making_outcome w a (task.Defer place t) old = outcome.Event (event.Defer t)
making_outcome w a (task.StartNow t) old = outcome.Event (event.StartNow t)
making_outcome w a c old = outcome.Quiet
