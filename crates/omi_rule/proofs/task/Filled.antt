-- What is filled of a new task's record stays so while its thread goes on.
use Rattle.std.proofs.Common.{◌≡◌, ◌<◌, ℕ, List, Option, sym, subst}
use Rattle.omi_script.specs.declared.program.Program.{Program}
use Rattle.omi_model.specs.declared.id.Tid.{Tid}
use Rattle.omi_model.specs.State.{State}
use Rattle.omi_layout.specs.Field.{tasks}
use Rattle.omi_layout.specs.Memory.{Memory, Rec}
use Rattle.omi_layout.specs.Named.{number}
use Rattle.omi_pc.specs.declared.actor.Actor.{Actor}
use Rattle.omi_pc.specs.declared.task_counter.TaskCounter.{TaskCounter}
use Rattle.omi_step_words.specs.Plan.{task_plan}
use Rattle.omi_task.specs.MakingSteps.{new_task}
use Rattle.omi_rule.specs.Rows.{HasFilledTask, HasPlace}
use Rattle.omi_rule.proofs.task.Searches.{loaded_goes}
use Rattle.omi_rule.proofs.task.Within.{going}

-- what is filled stays so where the thread goes on within its construct, and where another record has a word stored
pub filled_goes : (p : Program) (w : List ℕ) (m n : Memory) (s : State) (a : Actor) (d : TaskCounter) (place : Option ℕ) (t : Tid) (k : ℕ)
    → ((q : Option ℕ) → HasPlace p m a q → HasPlace p n a q)
    → n t.0.creator tasks t.0.slot ≡ m t.0.creator tasks t.0.slot
    → HasFilledTask p w m s a place t k → HasFilledTask p w n s (going d a.gathered a) place t k
filled_goes p w m n s a d place t k slots same (((o, variables), group), below, filled) =
    (loaded_goes p w n s a d place ((slots place o, variables), group), below, subst (λ (r : Rec). (j : ℕ) → j < k → r (number (task_plan w (new_task p w a) j).field) (task_plan w (new_task p w a) j).at ≡ (task_plan w (new_task p w a) j).value) (sym same) filled)
