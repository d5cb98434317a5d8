-- The steps of the end of an explicit task: the task from which it was scheduled is current again, and the counts of unfinished
-- tasks are lowered. And those that give records back.
use Rattle.std.specs.Prelude.{ℕ, ◌==◌, List, [], ◌∷◌, Option, Some, None, if◌then◌else◌}
use Rattle.omi_word.specs.declared.op.Op.{Op}
use Rattle.omi_word.specs.declared.op.Op.TheVariants as op
use Rattle.omi_script.specs.declared.program.Program.{Program}
use Rattle.omi_model.specs.declared.event.Event.TheVariants as event
use Rattle.omi_layout.specs.declared.field.Field.TheVariants.{RegionPending, TaskLife, TaskImplicit, TaskGenerating, TaskChildren, TaskReferences}
use Rattle.omi_layout.specs.declared.limits.TheConstants.{GROUP_PLACE}
use Rattle.omi_rep.specs.declared.outcome.Outcome.{Outcome}
use Rattle.omi_rep.specs.declared.outcome.Outcome.TheVariants as outcome
use Rattle.omi_model.specs.declared.id.Tid.{Tid}
use Rattle.omi_pc.specs.declared.actor.Actor.{Actor}
use Rattle.omi_pc.specs.declared.counter.Counter.{Counter}
use Rattle.omi_pc.specs.declared.counter.Counter.TheVariants as counter
use Rattle.omi_pc.specs.declared.counter.PlainCounter.TheVariants.{Leave}
use Rattle.omi_pc.specs.declared.frame.Frame.{Frame}
use Rattle.omi_pc.specs.declared.frame.Opened.{Opened}
use Rattle.omi_pc.specs.declared.frame.Opened.TheVariants as opened
use Rattle.omi_pc.specs.declared.frame.Wait.{Wait}
use Rattle.omi_pc.specs.declared.frame.Wait.TheVariants as wait
use Rattle.omi_pc.specs.declared.place.Place.{Place}
use Rattle.omi_pc.specs.declared.task_counter.Ancestor.{Ancestor}
use Rattle.omi_pc.specs.declared.task_counter.FinishCounter.{FinishCounter}
use Rattle.omi_pc.specs.declared.task_counter.FinishCounter.TheVariants as finish
use Rattle.omi_pc.specs.declared.task_counter.LookCounter.TheVariants as look
use Rattle.omi_pc.specs.Moves.{closed}
use Rattle.omi_step_words.specs.Moving.{storing_under, to_finish}
use Rattle.omi_step_words.specs.Words.{object_in, of_group_count, of_groups, of_place, of_region, of_task, task_place, unused_word}

-- ---- operations

abbrev pub finish_next : List ℕ → Actor → FinishCounter → Op
finish_next w a finish.Finish = storing_under w a
finish_next w a (finish.LoadGenerating v t) = op.Load (of_task w t TaskGenerating)
finish_next w a (finish.SubtractChildren v t generating) =
    op.Sub (of_place w generating TaskChildren) 1
finish_next w a (finish.LoadGroup v t generating) = op.Load (of_groups w t GROUP_PLACE)
finish_next w a (finish.SubtractCount v t generating group) = op.Sub (of_group_count w group) 1
finish_next w a (finish.SubtractReferences v t generating) = op.Sub (of_task w t TaskReferences) 1
finish_next w a (finish.Free v t generating) = op.Store (of_task w t TaskLife) (unused_word t.0)
finish_next w a (finish.LoadImplicit v generating) = op.Load (of_place w generating TaskImplicit)
finish_next w a (finish.LoadNext v generating) = op.Load (of_place w generating TaskGenerating)
finish_next w a (finish.LoadLife v generating next) = op.Load (of_place w generating TaskLife)
finish_next w a (finish.SubtractGenerating v generating explicit) =
    op.Sub (of_place w generating TaskReferences) 1
finish_next w a (finish.SubtractPending v) = op.Sub (of_region w a.context.region RegionPending) 1

-- ---- moves

-- where the task waits from which the current one was scheduled, none for a task that started at once
abbrev pub wait_by : Opened → Option Wait
wait_by (opened.Task v saved) = v
wait_by o = None

abbrev pub wait_in : List Frame → Option Wait
wait_in [] = None
wait_in (f ∷ fs) = wait_by f.opened

-- the task has finished, and the one below is current again
abbrev pub past_finish : Actor → Actor
past_finish a = to_finish (finish.LoadGenerating (wait_in a.stack) a.context.task) (closed a)

-- the group of the finished task was loaded: the count of this group is lowered next, where there is one
abbrev pub behind_group : Option Wait → Tid → Place → ℕ → FinishCounter
behind_group v t generating group =
    if group == 0 then finish.SubtractReferences v t generating
    else finish.SubtractCount v t generating group

-- an explicit task above, by the life word of its record and the word that names its generating task
abbrev pub ancestor_at : Place → ℕ → ℕ → Ancestor
ancestor_at at life generating =
    record { task = record { 0 = object_in at life }; generating = generating }

-- the last reference of a task's children was lowered: an explicit task is given back with it
abbrev pub behind_references : List ℕ → Option Wait → Option Ancestor → ℕ → FinishCounter
behind_references w v None old = finish.SubtractPending v
behind_references w v (Some x) old =
    if old == 1 then finish.Free v x.task (task_place w x.generating) else finish.SubtractPending v

-- all counts are lowered: the thread goes back to the wait, whose state it stores first where states are kept, or leaves the
-- construct of a task that started at once. One task was enough for `taskyield`
abbrev pub behind_finish : Program → Option Wait → Counter
behind_finish p None = counter.Plain Leave
behind_finish p (Some wait.Taskyield) = counter.Look (look.Yield 0)
behind_finish p (Some v) = counter.Look (if p.env.debug then look.State v else look.LoadRow v 0)

-- where the step found the word `old`
abbrev pub finish_moved : Program → List ℕ → Actor → FinishCounter → ℕ → Actor
finish_moved p w a finish.Finish old = past_finish a
finish_moved p w a (finish.LoadGenerating v t) old =
    to_finish (finish.SubtractChildren v t (task_place w old)) a
finish_moved p w a (finish.SubtractChildren v t generating) old =
    to_finish (finish.LoadGroup v t generating) a
finish_moved p w a (finish.LoadGroup v t generating) old =
    to_finish (behind_group v t generating old) a
finish_moved p w a (finish.SubtractCount v t generating group) old =
    to_finish (finish.SubtractReferences v t generating) a
finish_moved p w a (finish.SubtractReferences v t generating) old =
    to_finish (if old == 1 then finish.Free v t generating else finish.SubtractPending v) a
finish_moved p w a (finish.Free v t generating) old = to_finish (finish.LoadImplicit v generating) a
finish_moved p w a (finish.LoadImplicit v generating) old =
    to_finish
    (if old == 0 then finish.LoadNext v generating else finish.SubtractGenerating v generating None)
    a
finish_moved p w a (finish.LoadNext v generating) old =
    to_finish (finish.LoadLife v generating old) a
finish_moved p w a (finish.LoadLife v generating next) old =
    to_finish (finish.SubtractGenerating v generating (Some (ancestor_at generating old next))) a
finish_moved p w a (finish.SubtractGenerating v generating explicit) old =
    to_finish (behind_references w v explicit old) a
finish_moved p w a (finish.SubtractPending v) old = record a { counter = behind_finish p v }

-- ---- outcomes

abbrev pub finish_outcome : Actor → FinishCounter → Outcome
finish_outcome a finish.Finish = outcome.Event (event.Finish a.context.task)
finish_outcome a (finish.Free v t generating) = outcome.Event (event.FreeTask t)
finish_outcome a c = outcome.Quiet
