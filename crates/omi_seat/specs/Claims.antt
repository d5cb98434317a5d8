-- The claims of a thread: asks that were got and whose fork has not come (StepRoom of omi_run_lists).
use Rattle.std.specs.Prelude.{ℕ, List, [], ◌∷◌}
use Rattle.omi_run_lists.specs.StepRoom.{claims_after}
use Rattle.omi_rep.specs.declared.outcome.Outcome.{Outcome}
use Rattle.omi_rep.specs.declared.outcome.Outcome.TheVariants as outcome
use Rattle.omi_core.specs.declared.entry.Entry.{Entry}

-- behind a step, and behind several, of a thread that had so many before
abbrev pub claims_at : ℕ → Outcome → ℕ
claims_at claims (outcome.Event e) = claims_after claims e
claims_at claims o = claims

abbrev pub claims_from : ℕ → List Entry → ℕ
claims_from claims [] = claims
claims_from claims (e ∷ es) = claims_from (claims_at claims e.outcome) es
