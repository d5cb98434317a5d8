use Rattle.std.proofs.Common.{◌≡◌, take}
use Rattle.omi_seat.proofs.image.words_of.Given as goal

abbrev pub invariant-loop-at : goal.invariant-loop-at
invariant-loop-at g = g.words.items ≡ take g.at g.image
