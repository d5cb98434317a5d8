use Rattle.std.proofs.Common.{◌≡◌}
use Rattle.omi_commands.specs.Cores.{thread_ids}
use Rattle.omi_commands.proofs.cores.contexts_of.Given as goal

-- the ids of the threads that were passed
abbrev pub invariant-loop-thread : goal.invariant-loop-thread
invariant-loop-thread l = l.ids ≡ thread_ids l.thread
