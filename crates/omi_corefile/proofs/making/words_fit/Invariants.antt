use Rattle.std.proofs.Common.{take}
use Rattle.std.specs.Prelude.{IsTrue}
use Rattle.omi_corefile.specs.Limits.{are_words}
use Rattle.omi_corefile.proofs.making.words_fit.Given as goal

abbrev pub invariant-loop-at : goal.invariant-loop-at
invariant-loop-at l = IsTrue (are_words (take l.at l.image))
