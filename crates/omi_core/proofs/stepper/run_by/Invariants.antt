use Rattle.omi_core.specs.Runs.{Run}
use Rattle.omi_core.proofs.Judging.{IsUnder}
use Rattle.omi_core.proofs.stepper.run_by.Given as goal

-- so many steps of the schedule were made, and the run goes on
abbrev pub invariant-loop-step : goal.invariant-loop-step
invariant-loop-step g l =
    (a : Run) → g.S.Stepper.stands l.fn.stepper a
    → IsUnder a l.how l.stop (g.S.Stepper.stands l.stepper) l.step l.met l.draw
