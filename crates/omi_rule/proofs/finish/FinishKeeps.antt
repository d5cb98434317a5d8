-- Each step of the end of an explicit task keeps the rule.
use Rattle.std.proofs.Common.{◌≡◌, ℕ, List}
use Rattle.omi_script.specs.declared.program.Program.{Program}
use Rattle.omi_model.specs.declared.event.Event.{Event}
use Rattle.omi_model.specs.State.{State}
use Rattle.omi_layout.specs.Memory.{Memory}
use Rattle.omi_pc.specs.declared.actor.Actor.{Actor}
use Rattle.omi_pc.specs.declared.counter.Counter.TheVariants as counter
use Rattle.omi_pc.specs.declared.task_counter.FinishCounter.{FinishCounter}
use Rattle.omi_pc.specs.declared.task_counter.FinishCounter.TheVariants as finish
use Rattle.omi_task.specs.FinishSteps.{finish_moved, finish_next, finish_outcome}
use Rattle.omi_rule.specs.Steps.{StepKeeps}
use Rattle.omi_rule.proofs.Assembly.{Before}
use Rattle.omi_rule.proofs.finish.FinishLoads.{load_generating_keeps}
use Rattle.omi_rule.proofs.finish.Finished.{finish_keeps}
use Rattle.omi_rule.proofs.finish.ChildrenLowered.{subtract_children_keeps}
use Rattle.omi_rule.proofs.finish.PendingLowered.{subtract_pending_keeps}
use Rattle.omi_rule.proofs.finish.GroupLoads.{load_group_keeps}
use Rattle.omi_rule.proofs.finish.CountLowered.{subtract_count_keeps}
use Rattle.omi_rule.proofs.finish.ReferencesLowered.{subtract_references_keeps}
use Rattle.omi_rule.proofs.finish.Freed.{free_keeps}
use Rattle.omi_rule.proofs.finish.AboveLoads.{load_implicit_keeps, load_life_keeps, load_next_keeps}
use Rattle.omi_rule.proofs.finish.AboveLowered.{subtract_generating_keeps}

pub finish_steps_keep : (p : Program) (w : List ℕ) (m : Memory) (events : List (ℕ × Event)) (s : State) (actors : ℕ → Actor) (i : ℕ)
    → Before p w m events s actors i → (c : FinishCounter)
    → (actors i).counter ≡ counter.Finish c
    → StepKeeps p w m events s actors i (finish_next w (actors i) c)
    (λ old. (finish_moved p w (actors i) c old, finish_outcome (actors i) c))
finish_steps_keep p w m events s actors i before finish.Finish at =
    finish_keeps p w m events s actors i before at
finish_steps_keep p w m events s actors i before (finish.LoadGenerating v t) at =
    load_generating_keeps p w m events s actors i before v t at
finish_steps_keep p w m events s actors i before (finish.SubtractChildren v t place) at =
    subtract_children_keeps p w m events s actors i before v t place at
finish_steps_keep p w m events s actors i before (finish.LoadGroup v t place) at =
    load_group_keeps p w m events s actors i before v t place at
finish_steps_keep p w m events s actors i before (finish.SubtractCount v t place word) at =
    subtract_count_keeps p w m events s actors i before v t place word at
finish_steps_keep p w m events s actors i before (finish.SubtractPending v) at =
    subtract_pending_keeps p w m events s actors i before v at
finish_steps_keep p w m events s actors i before (finish.SubtractReferences v t place) at =
    subtract_references_keeps p w m events s actors i before v t place at
finish_steps_keep p w m events s actors i before (finish.Free v t place) at =
    free_keeps p w m events s actors i before v t place at
finish_steps_keep p w m events s actors i before (finish.LoadImplicit v place) at =
    load_implicit_keeps p w m events s actors i before v place at
finish_steps_keep p w m events s actors i before (finish.LoadNext v place) at =
    load_next_keeps p w m events s actors i before v place at
finish_steps_keep p w m events s actors i before (finish.LoadLife v place next) at =
    load_life_keeps p w m events s actors i before v place next at
finish_steps_keep p w m events s actors i before (finish.SubtractGenerating v place explicit) at =
    subtract_generating_keeps p w m events s actors i before v place explicit at
