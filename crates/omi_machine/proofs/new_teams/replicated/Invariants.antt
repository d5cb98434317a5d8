use Rattle.std.proofs.Common.{◌≡◌, replicate}
use Rattle.omi_machine.proofs.new_teams.replicated.Given as goal

-- so many elements so far
abbrev pub invariant-loop : goal.invariant-loop
invariant-loop g l = l.list ≡ replicate l.counter l.x
