use Rattle.std.proofs.Common.{ℕ, ◌<◌}
use Rattle.omi_layout.specs.Field.{IsField}
use Rattle.omi_layout.specs.Valid.{IsApart}
use Rattle.omi_layout.proofs.judging.judge_fields.Given as goal

abbrev pub invariant-loop-f : goal.invariant-loop-f
invariant-loop-f l = (g : ℕ) → IsField g → g < l.f → IsApart l.w g
