use Rattle.std.proofs.Common.{◌≡◌, drop, take}
use Rattle.omi_machine.proofs.new_teams.without_first.Given as goal

-- the elements so far but the first
abbrev pub invariant-loop-k : goal.invariant-loop-k
invariant-loop-k l = l.new ≡ drop 1 (take l.k l.list)
