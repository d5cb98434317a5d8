use Rattle.std.proofs.Common.{◌≡◌, ℕ, ◌<◌, true}
use Rattle.omi_layout.specs.Field.{IsField}
use Rattle.omi_layout.specs.Valid.{is_inside}
use Rattle.omi_layout.proofs.judging.judge_ends.Given as goal

abbrev pub invariant-loop-f : goal.invariant-loop-f
invariant-loop-f l = (g : ℕ) → IsField g → g < l.f → is_inside l.w g ≡ true
