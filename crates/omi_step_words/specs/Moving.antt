-- How a step leaves an actor: at another counter of a family, with another thing gathered, with another task current.
use Rattle.std.specs.Prelude.{ℕ, slice_set}
use Rattle.std.specs.Prelude.{ℕ, List}
use Rattle.omi_word.specs.declared.op.Op.{Op}
use Rattle.omi_word.specs.declared.op.Op.TheVariants as op
use Rattle.omi_model.specs.declared.id.Tid.{Tid}
use Rattle.omi_layout.specs.declared.field.Field.TheVariants.{ThreadCurrent}
use Rattle.omi_rep.specs.Records.{task_address}
use Rattle.omi_pc.specs.declared.actor.Actor.{Actor}
use Rattle.omi_pc.specs.declared.counter.Counter.TheVariants as counter
use Rattle.omi_pc.specs.declared.gathered.Gathered.{Gathered}
use Rattle.omi_pc.specs.declared.task_counter.FinishCounter.{FinishCounter}
use Rattle.omi_pc.specs.declared.task_counter.LookCounter.{LookCounter}
use Rattle.omi_pc.specs.declared.task_counter.TaskCounter.{TaskCounter}
use Rattle.omi_pc.specs.declared.team_counter.BarrierCounter.{BarrierCounter}
use Rattle.omi_pc.specs.declared.team_counter.JoinCounter.{JoinCounter}
use Rattle.omi_pc.specs.declared.team_counter.TeamCounter.{TeamCounter}
use Rattle.omi_pc.specs.declared.team_counter.WorkerCounter.{WorkerCounter}
use Rattle.omi_pc.specs.Moves.{closed}
use Rattle.omi_step_words.specs.Words.{of_thread}

-- a counter of a family comes next. For the plain family this is `goes_to` of omi_pc
abbrev pub to_worker : WorkerCounter → Actor → Actor
to_worker c a = record a { counter = counter.Worker c }

abbrev pub to_team : TeamCounter → Actor → Actor
to_team c a = record a { counter = counter.Team c }

abbrev pub to_barrier : BarrierCounter → Actor → Actor
to_barrier c a = record a { counter = counter.Barrier c }

abbrev pub to_join : JoinCounter → Actor → Actor
to_join c a = record a { counter = counter.Join c }

abbrev pub to_task : TaskCounter → Actor → Actor
to_task c a = record a { counter = counter.Task c }

abbrev pub to_look : LookCounter → Actor → Actor
to_look c a = record a { counter = counter.Look c }

abbrev pub to_finish : FinishCounter → Actor → Actor
to_finish c a = record a { counter = counter.Finish c }

-- this is gathered
abbrev pub gathering : Gathered → Actor → Actor
gathering g a = record a { gathered = g }

-- a word of a data environment was loaded
abbrev pub with_loaded_variable : ℕ → ℕ → Actor → Actor
with_loaded_variable word old a =
    gathering (record a.gathered { variables = slice_set a.gathered.variables word old }) a

-- the current task's own group was loaded
abbrev pub with_loaded_group : ℕ → Actor → Actor
with_loaded_group old a = gathering (record a.gathered { group = old }) a

-- the task from which the current one is scheduled
abbrev pub task_under : Actor → Tid
task_under a = (closed a).context.task

-- the store of that task into the thread's current word
abbrev pub storing_under : List ℕ → Actor → Op
storing_under w a = op.Store (of_thread w a.thread ThreadCurrent) (task_address w (task_under a))
