use Rattle.std.proofs.Common.{◌≢◌, ◌<◌, ℕ, map}
use Rattle.std.specs.Prelude.{slice_get}
use Rattle.omi_model.specs.declared.id.Tid.{Tid}
use Rattle.omi_machine_legal.proofs.fork_rules.is_new_at.Given as goal

abbrev pub invariant-loop-j : goal.invariant-loop-j
invariant-loop-j l =
    (k : ℕ) → k < l.j → slice_get (map (λ (m : Tid × ℕ). m.0) l.team) k ≢ slice_get (map (λ (m : Tid × ℕ). m.0) l.team) l.at
