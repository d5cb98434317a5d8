use Rattle.std.proofs.Common.{◌≡◌}
use Rattle.omi_rewind.specs.Answers.{HoldsNowhere}
use Rattle.omi_rewind.specs.Rewound.{words_at}
use Rattle.omi_rewind.proofs.rewind.Rewind.first_made.Given as goal

abbrev pub invariant-loop-step : goal.invariant-loop-step
invariant-loop-step g l =
    (l.image ≡ words_at l.self l.step) × HoldsNowhere l.self l.q.test l.q.table l.step
