-- Each step of a `task` construct keeps the rule.
use Rattle.std.proofs.Common.{◌≡◌, ℕ, List}
use Rattle.omi_script.specs.declared.program.Program.{Program}
use Rattle.omi_model.specs.declared.event.Event.{Event}
use Rattle.omi_model.specs.State.{State}
use Rattle.omi_layout.specs.Memory.{Memory}
use Rattle.omi_pc.specs.declared.actor.Actor.{Actor}
use Rattle.omi_pc.specs.declared.counter.Counter.TheVariants as counter
use Rattle.omi_pc.specs.declared.task_counter.TaskCounter.{TaskCounter}
use Rattle.omi_pc.specs.declared.task_counter.TaskCounter.TheVariants as task
use Rattle.omi_task.specs.MakingSteps.{making_moved, making_next, making_outcome}
use Rattle.omi_rule.specs.Steps.{StepKeeps}
use Rattle.omi_rule.proofs.Assembly.{Before}
use Rattle.omi_rule.proofs.task.Counted.{count_keeps}
use Rattle.omi_rule.proofs.task.Defers.{defer_keeps}
use Rattle.omi_rule.proofs.task.Fills.{fill_keeps, take_keeps}
use Rattle.omi_rule.proofs.task.Loads.{group_keeps, variable_keeps}
use Rattle.omi_rule.proofs.task.Raises.{children_keeps, pending_keeps, references_keep}
use Rattle.omi_rule.proofs.task.Searches.{search_keeps}
use Rattle.omi_rule.proofs.task.Slots.{slot_keeps}
use Rattle.omi_rule.proofs.task.StartsNow.{start_now_keeps}

module _ (p : Program) (w : List ℕ) (m : Memory) (events : List (ℕ × Event)) (s : State) (actors : ℕ → Actor)
    (i : ℕ) (before : Before p w m events s actors i) where
  pub task_keeps : (c : TaskCounter) → (actors i).counter ≡ counter.Task c
      → StepKeeps p w m events s actors i (making_next p w (actors i) c) (λ old. (making_moved p w (actors i) c old, making_outcome w (actors i) c old))
  task_keeps (task.LoadSlot place) at = slot_keeps p w m events s actors i before place at
  task_keeps (task.LoadVariable place word) at =
      variable_keeps p w m events s actors i before place word at
  task_keeps (task.LoadGroup place) at = group_keeps p w m events s actors i before place at
  task_keeps (task.LoadLife place slot) at = search_keeps p w m events s actors i before place slot at
  task_keeps (task.Take place t) at = take_keeps p w m events s actors i before place t at
  task_keeps (task.Fill place t word) at = fill_keeps p w m events s actors i before place t word at
  task_keeps (task.AddPending place t) at = pending_keeps p w m events s actors i before place t at
  task_keeps (task.AddChildren place t) at = children_keeps p w m events s actors i before place t at
  task_keeps (task.AddReferences place t) at = references_keep p w m events s actors i before place t at
  task_keeps (task.AddCount place t) at = count_keeps p w m events s actors i before place t at
  task_keeps (task.Defer place t) at = defer_keeps p w m events s actors i before place t at
  task_keeps (task.StartNow t) at = start_now_keeps p w m events s actors i before t at
