use Rattle.std.proofs.Common.{◌<◌, ℕ, map}
use Rattle.omi_model.specs.declared.id.Tid.{Tid}
use Rattle.omi_machine_legal.specs.Decided.{IsNewAt}
use Rattle.omi_machine_legal.proofs.fork_rules.are_new.Given as goal

abbrev pub invariant-loop-at : goal.invariant-loop-at
invariant-loop-at l = (k : ℕ) → k < l.at → IsNewAt (map (λ (m : Tid × ℕ). m.0) l.team) k
