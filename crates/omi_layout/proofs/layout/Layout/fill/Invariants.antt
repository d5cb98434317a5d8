use Rattle.std.proofs.Common.{take}
use Rattle.omi_layout.specs.Plan.{IsFilled}
use Rattle.omi_layout.proofs.layout.Layout.fill.Given as goal

-- the words so far are stored
abbrev pub invariant-loop-field : goal.invariant-loop-field
invariant-loop-field l = IsFilled l.self.table l.fn.image l.image l.creator l.kind (take l.field-index l.plan)
