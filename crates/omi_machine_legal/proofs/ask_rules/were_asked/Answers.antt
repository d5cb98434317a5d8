use Rattle.std.proofs.Common.{ℕ, ◌≢◌, below_more}
use Rattle.omi_model.specs.Teams.{WasAsked}
use Rattle.omi_machine_legal.proofs.ask_rules.were_asked.Goals as goal

pub loop-w-preserved : goal.loop-w-preserved
loop-w-preserved c =
    below_more (λ (w : ℕ). w ≢ c.args.i → WasAsked c.args.h.now w) _ c.loop-w.invariant
    (c.was_asked_unless.ensures.0 c.if-not-was_asked_unless.false)
