use Rattle.std.proofs.Common.{◌≡◌, ◌≤◌, ◌∷◌, ◌-◌, replicate}
use Rattle.omi_model.specs.Opening.{initial_thread, waiting_worker}
use Rattle.omi_machine.proofs.opening_state.threads.Given as goal

-- thread 0 and the workers so far
abbrev pub invariant-loop : goal.invariant-loop
invariant-loop l = record {
  some : 1 ≤ l.counter;
  so_far : l.list ≡ initial_thread ∷ replicate (l.counter - 1) waiting_worker;
}
