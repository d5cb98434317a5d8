use Rattle.std.proofs.Common.{◌≡◌, map, take}
use Rattle.omi_machine_view.proofs.rows.members.Given as goal

abbrev pub invariant-loop-at : goal.invariant-loop-at
invariant-loop-at l = l.rows ≡ map (λ m. record { thread = m.1; task = m.0 }) (take l.at l.team)
