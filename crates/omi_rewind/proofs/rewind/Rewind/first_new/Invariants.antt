use Rattle.std.proofs.Common.{◌-◌, ◌+◌}
use Rattle.omi_rewind.specs.Answers.{HoldsNowhere}
use Rattle.omi_rewind.specs.Rewound.{steps_in}
use Rattle.omi_rewind.proofs.Searched.{GoesUntil}
use Rattle.omi_rewind.proofs.rewind.Rewind.first_new.Given as goal

abbrev pub invariant-more : goal.invariant-more
invariant-more g l =
    GoesUntil l.fn.self l.self l.last × HoldsNowhere l.self l.q.test l.q.table (steps_in l.self + 1)

abbrev pub decreases-more : goal.decreases-more
decreases-more g l = l.last - steps_in l.self
