-- Each step of a wait keeps the rule: the look at the slots, the start of a task, and the ends of `taskwait` and `taskyield`.
use Rattle.std.proofs.Common.{◌≡◌, ℕ, List}
use Rattle.omi_script.specs.declared.program.Program.{Program}
use Rattle.omi_model.specs.declared.event.Event.{Event}
use Rattle.omi_model.specs.State.{State}
use Rattle.omi_layout.specs.Memory.{Memory}
use Rattle.omi_pc.specs.declared.actor.Actor.{Actor}
use Rattle.omi_pc.specs.declared.counter.Counter.TheVariants as counter
use Rattle.omi_pc.specs.declared.task_counter.LookCounter.{LookCounter}
use Rattle.omi_pc.specs.declared.task_counter.LookCounter.TheVariants as look
use Rattle.omi_task.specs.LookSteps.{look_moved, look_next, look_outcome}
use Rattle.omi_rule.specs.Steps.{StepKeeps}
use Rattle.omi_rule.proofs.Assembly.{Before}
use Rattle.omi_rule.proofs.look.Fills.{fill_keeps}
use Rattle.omi_rule.proofs.look.GroupEnds.{group_end_keeps, load_count_keeps}
use Rattle.omi_rule.proofs.look.GroupTests.{load_group_keeps}
use Rattle.omi_rule.proofs.look.Hands.{load_final_keeps, load_function_keeps}
use Rattle.omi_rule.proofs.look.RowLoads.{load_row_keeps}
use Rattle.omi_rule.proofs.look.SlotLoads.{load_slot_keeps}
use Rattle.omi_rule.proofs.look.Starts.{start_keeps}
use Rattle.omi_rule.proofs.look.Takes.{take_keeps}
use Rattle.omi_rule.proofs.look.Tests.{load_maker_keeps}
use Rattle.omi_rule.proofs.look.WaitEnds.{load_children_keeps, yield_keeps}
use Rattle.omi_rule.proofs.look.WaitStates.{wait_state_keeps}

pub look_keeps : (p : Program) (w : List ℕ) (m : Memory) (events : List (ℕ × Event)) (s : State) (actors : ℕ → Actor) (i : ℕ)
    → Before p w m events s actors i → (c : LookCounter) → (actors i).counter ≡ counter.Look c
    → StepKeeps p w m events s actors i (look_next w (actors i) c)
    (λ old. (look_moved p w (actors i) c old, look_outcome w (actors i) c old))
look_keeps p w m events s actors i before (look.LoadRow v n) at =
    load_row_keeps p w m events s actors i before v n at
look_keeps p w m events s actors i before (look.LoadSlot v n row) at =
    load_slot_keeps p w m events s actors i before v n row at
look_keeps p w m events s actors i before (look.State v) at =
    wait_state_keeps p w m events s actors i before v at
look_keeps p w m events s actors i before look.LoadChildren at =
    load_children_keeps p w m events s actors i before at
look_keeps p w m events s actors i before (look.Yield n) at = yield_keeps p w m events s actors i before n at
look_keeps p w m events s actors i before (look.LoadGenerating v n row code) at =
    load_maker_keeps p w m events s actors i before v n row code at
look_keeps p w m events s actors i before (look.LoadGroup n row code) at =
    load_group_keeps p w m events s actors i before n row code at
look_keeps p w m events s actors i before look.LoadCount at = load_count_keeps p w m events s actors i before at
look_keeps p w m events s actors i before look.GroupEnd at = group_end_keeps p w m events s actors i before at
look_keeps p w m events s actors i before (look.Take v n row code) at =
    take_keeps p w m events s actors i before v n row code at
look_keeps p w m events s actors i before (look.LoadFunction v n code k) at =
    load_function_keeps p w m events s actors i before v n code k at
look_keeps p w m events s actors i before (look.LoadFinal v n code k f) at =
    load_final_keeps p w m events s actors i before v n code k f at
look_keeps p w m events s actors i before (look.Fill v n code k f final word) at =
    fill_keeps p w m events s actors i before v n code k f final word at
look_keeps p w m events s actors i before (look.Start v n code k f final) at =
    start_keeps p w m events s actors i before v n code k f final at
