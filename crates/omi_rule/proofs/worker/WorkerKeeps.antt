-- Every step of a worker keeps the rule.
use Rattle.std.proofs.Common.{◌≡◌, ℕ, List}
use Rattle.omi_script.specs.declared.program.Program.{Program}
use Rattle.omi_model.specs.declared.event.Event.{Event}
use Rattle.omi_model.specs.State.{State}
use Rattle.omi_layout.specs.Memory.{Memory}
use Rattle.omi_pc.specs.declared.actor.Actor.{Actor}
use Rattle.omi_pc.specs.declared.counter.Counter.TheVariants as counter
use Rattle.omi_pc.specs.declared.team_counter.WorkerCounter.{WorkerCounter}
use Rattle.omi_pc.specs.declared.team_counter.WorkerCounter.TheVariants as worker
use Rattle.omi_fork.specs.WorkerSteps.{worker_moved, worker_next, worker_outcome}
use Rattle.omi_rule.specs.Steps.{StepKeeps}
use Rattle.omi_rule.proofs.Assembly.{Before}
use Rattle.omi_rule.proofs.worker.WorkerBegins.{begins_implicit}
use Rattle.omi_rule.proofs.worker.WorkerEnds.{ends_implicit, leaves}
use Rattle.omi_rule.proofs.worker.WorkerEvents.{begins, idles, offers}
use Rattle.omi_rule.proofs.worker.WorkerLoads.{clears_assign, loads_assign, loads_function, loads_life, loads_number, loads_region, loads_region_life, loads_size}

pub worker_keeps : (p : Program) (w : List ℕ) (m : Memory) (events : List (ℕ × Event)) (s : State) (actors : ℕ → Actor) (i : ℕ)
    → Before p w m events s actors i → (c : WorkerCounter) → (actors i).counter ≡ counter.Worker c
    → StepKeeps p w m events s actors i (worker_next w (actors i) c)
    (λ old. (worker_moved p w (actors i) c old, worker_outcome w (actors i) c old))
worker_keeps p w m events s actors i before worker.Begin at = begins p w m events s actors i before at
worker_keeps p w m events s actors i before worker.Offer at = offers p w m events s actors i before at
worker_keeps p w m events s actors i before worker.LoadAssign at =
    loads_assign p w m events s actors i before at
worker_keeps p w m events s actors i before (worker.ClearAssign t) at =
    clears_assign p w m events s actors i before t at
worker_keeps p w m events s actors i before (worker.LoadLife t) at =
    loads_life p w m events s actors i before t at
worker_keeps p w m events s actors i before (worker.LoadFunction k) at =
    loads_function p w m events s actors i before k at
worker_keeps p w m events s actors i before (worker.LoadRegion k f) at =
    loads_region p w m events s actors i before k f at
worker_keeps p w m events s actors i before (worker.LoadRegionLife k f t) at =
    loads_region_life p w m events s actors i before k f t at
worker_keeps p w m events s actors i before (worker.LoadSize k f q) at =
    loads_size p w m events s actors i before k f q at
worker_keeps p w m events s actors i before (worker.LoadNumber k f q size) at =
    loads_number p w m events s actors i before k f q size at
worker_keeps p w m events s actors i before (worker.ImplicitBegin k f q size n) at =
    begins_implicit p w m events s actors i before k f q size n at
worker_keeps p w m events s actors i before worker.ImplicitEnd at =
    ends_implicit p w m events s actors i before at
worker_keeps p w m events s actors i before (worker.AddLeft q) at = leaves p w m events s actors i before q at
worker_keeps p w m events s actors i before worker.IdleState at = idles p w m events s actors i before at
