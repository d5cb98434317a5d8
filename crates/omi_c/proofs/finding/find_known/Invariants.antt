use Rattle.std.proofs.Common.{◌≡◌, drop}
use Rattle.omi_c.specs.Known.{known_at}
use Rattle.omi_c.proofs.finding.find_known.Given as goal

abbrev pub invariant-loop-at : goal.invariant-loop-at
invariant-loop-at l = known_at l.known l.addr ≡ known_at (drop l.at l.known) l.addr
