use Rattle.std.proofs.Common.{take}
use Rattle.omi_rewind.specs.Rewound.{IsLater}
use Rattle.omi_rewind_top.specs.Looked.{AreStepsLooked}
use Rattle.omi_rewind_top.proofs.at.text_of_steps.Given as goal

-- the run goes on, and what was printed is of the steps so far
abbrev pub invariant-loop-step : goal.invariant-loop-step
invariant-loop-step l = record {
  later : IsLater l.fn.rewind l.rewind;
  so_far : AreStepsLooked l.rewind (take l.step-index l.steps) l.text.items;
}
