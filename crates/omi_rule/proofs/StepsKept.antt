-- Each step keeps the rule, by the family of its counter.
use Rattle.std.proofs.Common.{◌≡◌, ℕ, List, refl}
use Rattle.omi_script.specs.declared.program.Program.{Program}
use Rattle.omi_model.specs.declared.event.Event.{Event}
use Rattle.omi_model.specs.State.{State}
use Rattle.omi_layout.specs.Memory.{Memory}
use Rattle.omi_pc.specs.declared.actor.Actor.{Actor}
use Rattle.omi_pc.specs.declared.counter.Counter.{Counter}
use Rattle.omi_pc.specs.declared.counter.Counter.TheVariants as counter
use Rattle.omi_actor.specs.Steps.{next_at, resumed_at}
use Rattle.omi_rule.specs.Steps.{StepKeeps}
use Rattle.omi_rule.specs.StepsKeep.{StepsKeepRule}
use Rattle.omi_rule.proofs.Assembly.{Before}
use Rattle.omi_rule.proofs.barrier.Counters.{barrier_keeps}
use Rattle.omi_rule.proofs.barrier.RowsOfBarriers.{barrier_rows_stay}
use Rattle.omi_rule.proofs.finish.FinishKeeps.{finish_steps_keep}
use Rattle.omi_rule.proofs.join.JoinKeeps.{join_steps_keep}
use Rattle.omi_rule.proofs.look.LookKeeps.{look_keeps}
use Rattle.omi_rule.proofs.plain.PlainKeeps.{plain_keeps}
use Rattle.omi_rule.proofs.task.TaskKeeps.{task_keeps}
use Rattle.omi_rule.proofs.team.TeamKeeps.{team_keeps}
use Rattle.omi_rule.proofs.worker.WorkerKeeps.{worker_keeps}

module _ (p : Program) (w : List ℕ) (m : Memory) (events : List (ℕ × Event)) (s : State) (actors : ℕ → Actor)
    (i : ℕ) (before : Before p w m events s actors i) where
  by_family : (c : Counter) → (actors i).counter ≡ c
      → StepKeeps p w m events s actors i (next_at p w (actors i) c) (λ old. resumed_at p w (actors i) c old)
  by_family (counter.Worker c) at = worker_keeps p w m events s actors i before c at
  by_family (counter.Team c) at = team_keeps p w m events s actors i before c at
  by_family (counter.Barrier c) at = barrier_keeps p w m events s actors i before c at
  by_family (counter.Join c) at = join_steps_keep p w m events s actors i before c at
  by_family (counter.Task c) at = task_keeps p w m events s actors i before c at
  by_family (counter.Look c) at = look_keeps p w m events s actors i before c at
  by_family (counter.Finish c) at = finish_steps_keep p w m events s actors i before c at
  by_family (counter.Plain c) at = plain_keeps p w m events s actors i before c at

pub steps_keep : StepsKeepRule
steps_keep = λ p w m events s actors i valid suits rule known few.
    by_family p w m events s actors i
    (record { valid = valid; suits = suits; rule = rule; known = known; few = few; barriers = λ e u step j there other c at row. barrier_rows_stay p w m events s actors rule i known e u step j there other c at row })
    (actors i).counter refl
