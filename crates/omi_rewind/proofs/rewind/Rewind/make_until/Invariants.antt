use Rattle.std.proofs.Common.{◌-◌}
use Rattle.omi_rewind.specs.Rewound.{steps_in}
use Rattle.omi_rewind.proofs.Searched.{GoesUntil}
use Rattle.omi_rewind.proofs.rewind.Rewind.make_until.Given as goal

abbrev pub invariant-more : goal.invariant-more
invariant-more l = GoesUntil l.fn.self l.self l.step

abbrev pub decreases-more : goal.decreases-more
decreases-more l = l.step - steps_in l.self
