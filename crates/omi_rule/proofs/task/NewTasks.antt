-- The record that a `task` construct filled is that of the new task: it has the data environment of the task that makes it, and the place of one that starts now.
use Rattle.std.proofs.Common.{◌≡◌, ◌<◌, ◌≤◌, ℕ, Bool, List, length, slice_index, Some, refl, sym, subst, ◌∙◌, arith}
use Rattle.omi_script.specs.declared.program.Program.{Program}
use Rattle.omi_model.specs.declared.task.Task.{Task}
use Rattle.omi_numbers.specs.Addresses.{exit_below, exit_frame}
use Rattle.omi_model.specs.Tasking.{deferred_task, scheduled}
use Rattle.omi_model.specs.Groups.{group_within}
use Rattle.omi_layout.specs.declared.field.Field.TheVariants.{TaskChildren, TaskReferences}
use Rattle.omi_layout.specs.Memory.{Rec}
use Rattle.omi_pc.specs.declared.actor.Actor.{Actor}
use Rattle.omi_pc.specs.declared.limits.TheConstants.{TASK_WORDS}
use Rattle.omi_rep.specs.Codes.{HasCodes, TaskWords, task_code, task_told}
use Rattle.omi_rep.specs.Records.{group_word}
use Rattle.omi_rule_words.specs.ExplicitKinds.{IsFilledFor}
use Rattle.omi_rule_words.specs.Objects.{KeepsEnvironment, KeepsPlace}
use Rattle.omi_step_words.specs.Plan.{planned_task, task_plan}
use Rattle.omi_task.specs.MakingSteps.{made_function, makes_final, new_task}
use Rattle.omi_task.specs.Starts.{task_depth}
use Rattle.omi_task.specs.Groups.{new_group}
use Rattle.omi_rule.specs.Rows.{IsFilled, IsVariable}
use Rattle.omi_rule.proofs.team.Inherits.{are_variables}
use Rattle.omi_rule.proofs.task.FilledTasks.{counts_stand, same_environment, planned_codes, planned_stands}

module _ (p : Program) (w : List ℕ) (a : Actor) (f : ℕ) (final : Bool) (place : ℕ) (t : Task) (r : Rec)
    (made_is : made_function p a ≡ f) (final_is : makes_final p a ≡ final)
    (region_is : t.region ≡ a.context.region)
    (group_is : new_group w a ≡ group_word w (group_within a.context.task t))
    (filled : IsFilled r (task_plan w (new_task p w a)) TASK_WORDS) (few : length t.variables.nthreads ≤ 4)
    (known : (j : ℕ) → j < 8 → IsVariable t.variables j (slice_index a.gathered.variables j)) where
  -- the record has the codes of the planned task
  planned : HasCodes (task_code w (planned_task (new_task p w a) t.variables (group_within a.context.task t))) r
  planned =
      planned_codes w (new_task p w a) r filled t.variables (group_within a.context.task t) group_is (are_variables t.variables a.gathered.variables few known) few

  pub record_is_filled : IsFilledFor w r (deferred_task p a.context.task t f final place)
  record_is_filled = record { environment = environment; children = planned_stands w (new_task p w a) r filled TaskChildren 0 0 refl; references = planned_stands w (new_task p w a) r filled TaskReferences 0 1 refl; groups = counts_stand w (new_task p w a) r filled }
    where
      same : planned_task (new_task p w a) t.variables (group_within a.context.task t)
          ≡ record (task_told (deferred_task p a.context.task t f final place)) { thread = a.thread; number = a.context.number; scheduling = Some a.context.task; exit = exit_frame a.thread (task_depth a) }
      same = λ i. record (planned_task (new_task p w a) t.variables (group_within a.context.task t)) {
        region = sym region_is i;
        function = made_is i;
        is_final = final_is i;
      }

      environment : KeepsEnvironment w r (deferred_task p a.context.task t f final place)
      environment g at x none told =
          let apart =
          same_environment w (task_told (deferred_task p a.context.task t f final place)) a.thread a.context.number
          (exit_frame a.thread (task_depth a)) (Some a.context.task) g at none in
          planned g at x (subst (λ (u : TaskWords). task_code w u g at ≡ Some x) (sym same) (sym apart ∙ told))

  pub place_is_filled : (i : ℕ) → a.thread ≡ i → t.number ≡ a.context.number
      → t.exit ≡ exit_frame i a.context.depth
      → KeepsPlace w r (scheduled i a.context.task t (deferred_task p a.context.task t f final place))
  place_is_filled i thread_is number_is exit_is g at x _ told =
      planned g at x (subst (λ (u : TaskWords). task_code w u g at ≡ Some x) (sym same) told)
    where
      frame : exit_frame a.thread (task_depth a) ≡ exit_below t.exit
      frame = omega (arith, thread_is, exit_is)

      same : planned_task (new_task p w a) t.variables (group_within a.context.task t)
          ≡ task_told (scheduled i a.context.task t (deferred_task p a.context.task t f final place))
      same = λ z. record (planned_task (new_task p w a) t.variables (group_within a.context.task t)) {
        region = sym region_is z;
        thread = thread_is z;
        number = sym number_is z;
        function = made_is z;
        exit = frame z;
        is_final = final_is z;
      }
