-- Each step of a barrier keeps the rule.
use Rattle.std.proofs.Common.{◌≡◌, ℕ, List}
use Rattle.omi_script.specs.declared.program.Program.{Program}
use Rattle.omi_model.specs.declared.event.Event.{Event}
use Rattle.omi_model.specs.State.{State}
use Rattle.omi_layout.specs.Memory.{Memory}
use Rattle.omi_pc.specs.declared.actor.Actor.{Actor}
use Rattle.omi_pc.specs.declared.counter.Counter.TheVariants as counter
use Rattle.omi_pc.specs.declared.team_counter.BarrierCounter.{BarrierCounter}
use Rattle.omi_pc.specs.declared.team_counter.BarrierCounter.TheVariants as barrier
use Rattle.omi_fork.specs.BarrierSteps.{barrier_moved, barrier_next, barrier_outcome}
use Rattle.omi_rule.specs.Steps.{StepKeeps}
use Rattle.omi_rule.proofs.Assembly.{Before}
use Rattle.omi_rule.proofs.barrier.Arrives.{arrive_keeps}
use Rattle.omi_rule.proofs.barrier.Loads.{load_arrived_keeps, load_pending_keeps}
use Rattle.omi_rule.proofs.barrier.Passes.{load_released_keeps}
use Rattle.omi_rule.proofs.barrier.Releases.{release_keeps}
use Rattle.omi_rule.proofs.barrier.States.{state_keeps}

pub barrier_keeps : (p : Program) (w : List ℕ) (m : Memory) (events : List (ℕ × Event)) (s : State) (actors : ℕ → Actor) (i : ℕ)
    → Before p w m events s actors i → (c : BarrierCounter) → (actors i).counter ≡ counter.Barrier c
    → StepKeeps p w m events s actors i (barrier_next w (actors i) c)
    (λ old. (barrier_moved p (actors i) c old, barrier_outcome w (actors i) c old))
barrier_keeps p w m events s actors i before (barrier.State b) at =
    state_keeps p w m events s actors i before b at
barrier_keeps p w m events s actors i before (barrier.Arrive b) at =
    arrive_keeps p w m events s actors i before b at
barrier_keeps p w m events s actors i before (barrier.LoadArrived b) at =
    load_arrived_keeps p w m events s actors i before b at
barrier_keeps p w m events s actors i before (barrier.LoadPending b) at =
    load_pending_keeps p w m events s actors i before b at
barrier_keeps p w m events s actors i before (barrier.Release b) at =
    release_keeps p w m events s actors i before b at
barrier_keeps p w m events s actors i before (barrier.LoadReleased b) at =
    load_released_keeps p w m events s actors i before b at
