use Rattle.std.proofs.Common.{◌≡◌}
use Rattle.omi_rewind.specs.Rewound.{words_at}
use Rattle.omi_rewind.proofs.rewind.Rewind.words_at.Given as goal

abbrev pub invariant-loop-made : goal.invariant-loop-made
invariant-loop-made l = l.image ≡ words_at l.self l.made
