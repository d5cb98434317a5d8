use Rattle.std.proofs.Common.{length, ◌≤◌}
use Rattle.omi_outside.proofs.disk.read_open.Given as goal

abbrev pub invariant-loop : goal.invariant-loop
invariant-loop g l = l.count ≤ length l.to
