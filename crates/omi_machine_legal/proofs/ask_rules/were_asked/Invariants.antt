use Rattle.std.proofs.Common.{ℕ, ◌<◌, ◌≢◌}
use Rattle.omi_model.specs.Teams.{WasAsked}
use Rattle.omi_machine_legal.proofs.ask_rules.were_asked.Given as goal

-- each thread so far was asked, but the asker
abbrev pub invariant-loop-w : goal.invariant-loop-w
invariant-loop-w l = (w : ℕ) → w < l.w → w ≢ l.i → WasAsked l.h w
