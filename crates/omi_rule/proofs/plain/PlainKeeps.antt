-- Each step at a plain counter keeps the rule.
use Rattle.std.proofs.Common.{◌≡◌, ℕ, List}
use Rattle.omi_script.specs.declared.program.Program.{Program}
use Rattle.omi_model.specs.declared.event.Event.{Event}
use Rattle.omi_model.specs.State.{State}
use Rattle.omi_layout.specs.Memory.{Memory}
use Rattle.omi_pc.specs.declared.actor.Actor.{Actor}
use Rattle.omi_pc.specs.declared.counter.Counter.TheVariants as counter
use Rattle.omi_pc.specs.declared.counter.PlainCounter.{PlainCounter}
use Rattle.omi_pc.specs.declared.counter.PlainCounter.TheVariants as plain
use Rattle.omi_plain.specs.PlainSteps.{plain_moved, plain_next, plain_outcome}
use Rattle.omi_rule.specs.Steps.{StepKeeps}
use Rattle.omi_rule.proofs.Assembly.{Before}
use Rattle.omi_rule.proofs.plain.Calls.{call_keeps, return_keeps, skip_keeps}
use Rattle.omi_rule.proofs.plain.Ends.{done_keeps, ended_keeps}
use Rattle.omi_rule.proofs.plain.Enters.{enter_keeps}
use Rattle.omi_rule.proofs.plain.GroupBegins.{group_begin_keeps}
use Rattle.omi_rule.proofs.plain.Leaves.{leave_keeps, tool_keeps}
use Rattle.omi_rule.proofs.plain.Loads.{work_keeps}
use Rattle.omi_rule.proofs.plain.Locks.{lock_keeps, unlock_keeps}
use Rattle.omi_rule.proofs.plain.States.{lock_state_keeps, work_state_keeps}
use Rattle.omi_rule.proofs.plain.Variables.{set_keeps}

module _ (p : Program) (w : List ℕ) (m : Memory) (events : List (ℕ × Event)) (s : State) (actors : ℕ → Actor)
    (i : ℕ) (before : Before p w m events s actors i) where
  pub plain_keeps : (c : PlainCounter) → (actors i).counter ≡ counter.Plain c
      → StepKeeps p w m events s actors i (plain_next p w (actors i) c)
      (λ old. (plain_moved p (actors i) c old, plain_outcome p w (actors i) c old))
  plain_keeps plain.Work at = work_keeps p w m events s actors i before at
  plain_keeps plain.Call at = call_keeps p w m events s actors i before at
  plain_keeps plain.Skip at = skip_keeps p w m events s actors i before at
  plain_keeps plain.Return at = return_keeps p w m events s actors i before at
  plain_keeps plain.Set at = set_keeps p w m events s actors i before at
  plain_keeps plain.Tool at = tool_keeps p w m events s actors i before at
  plain_keeps plain.Enter at = enter_keeps p w m events s actors i before at
  plain_keeps plain.Leave at = leave_keeps p w m events s actors i before at
  plain_keeps plain.WorkState at = work_state_keeps p w m events s actors i before at
  plain_keeps plain.LockState at = lock_state_keeps p w m events s actors i before at
  plain_keeps plain.Lock at = lock_keeps p w m events s actors i before at
  plain_keeps plain.Unlock at = unlock_keeps p w m events s actors i before at
  plain_keeps plain.GroupBegin at = group_begin_keeps p w m events s actors i before at
  plain_keeps plain.Done at = done_keeps p w m events s actors i before at
  plain_keeps plain.Ended at = ended_keeps p w m events s actors i before at
