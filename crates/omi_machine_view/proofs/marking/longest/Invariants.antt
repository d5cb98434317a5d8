use Rattle.std.proofs.Common.{◌≤◌, ◌<◌, ℕ, length, get_or}
use Rattle.omi_machine_view.proofs.marking.longest.Given as goal

abbrev pub invariant-loop-own : goal.invariant-loop-own
invariant-loop-own g l = (k : ℕ) (d : _) → k < l.own-index → length (get_or l.own-items k d) ≤ l.most
