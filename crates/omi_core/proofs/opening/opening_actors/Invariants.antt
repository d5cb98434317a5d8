use Rattle.std.proofs.Common.{◌≡◌, ◌<◌, ℕ, length}
use Rattle.omi_pc.specs.Opening.{opening_actor}
use Rattle.omi_core.specs.Runs.{actors_in}
use Rattle.omi_core.proofs.opening.opening_actors.Given as goal

-- each thread that was passed has its actor
abbrev pub invariant-loop-thread : goal.invariant-loop-thread
invariant-loop-thread l = record {
  count : length l.actors.items ≡ l.thread;
  each : (j : ℕ) → j < l.thread → actors_in l.actors.items j ≡ opening_actor l.p j;
}
